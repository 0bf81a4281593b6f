-- Where parts of a text stand.
use Rattle.std.proofs.Common.{ℕ, ◌+◌, ◌-◌, List, [], ◌++◌, length, refl, ap, ◌∙◌, arith, append_assoc, length-append}
use Rattle.stimulus_reader.specs.code.LineReading.{HasFront, HasPart, StandsIn, NamesPartOf}
use Rattle.stimulus_reader.specs.declared.line.LineVerdict.{LineVerdict}
use Rattle.stimulus_reader.specs.declared.line.LineVerdict.TheVariants.{Skip, Step, Bad}

-- a part of a word stands in the text in which the word does
pub stands_in_word : (text left word rest part : List ℕ) (n : ℕ) → HasPart text [] left → HasPart left word rest → StandsIn word part n → StandsIn text part (n + length rest)
stands_in_word text left word rest part n passed cut s = record {
  before = passed.before ++ (cut.before ++ s.before);
  after = s.after ++ rest;
  is = passed.is ∙ ap (λ (xs : List ℕ). passed.before ++ xs) (cut.is ∙ ap (λ (xs : List ℕ). cut.before ++ (xs ++ rest)) s.is) ∙ simp append_assoc;
  behind_is = length-append s.after rest ∙ ap (λ m. m + length rest) s.behind_is;
}

-- what was passed, and a word more
pub passed_word : (text left word rest : List ℕ) → HasPart text [] left → HasPart left word rest → HasPart text [] rest
passed_word text left word rest passed cut = record {
  before = passed.before ++ (cut.before ++ word);
  is = passed.is ∙ ap (λ (xs : List ℕ). passed.before ++ xs) cut.is ∙ simp append_assoc;
}

pub passed_none : (text : List ℕ) → HasPart text [] text
passed_none text = record { before = []; is = refl }

pub stands_behind : (text word rest part : List ℕ) (n : ℕ) → HasPart text word rest → StandsIn rest part n → StandsIn text part n
stands_behind text word rest part n cut s = record {
  before = cut.before ++ (word ++ s.before);
  after = s.after;
  is = cut.is ∙ ap (λ (xs : List ℕ). cut.before ++ (word ++ xs)) s.is ∙ simp append_assoc;
  behind_is = s.behind_is;
}

pub stands_in_front : (text front part : List ℕ) (n : ℕ) → HasFront text front → StandsIn front part n → StandsIn text part (n + (length text - length front))
stands_in_front text front part n f s = record {
  before = s.before;
  after = s.after ++ f.behind;
  is = f.is ∙ ap (λ (xs : List ℕ). xs ++ f.behind) s.is ∙ simp append_assoc;
  behind_is =
      let whole = ap length f.is ∙ length-append front f.behind in
      let end = length-append s.after f.behind in
      let behind = s.behind_is in
      omega arith;
}

pub names_behind : (text word rest : List ℕ) (verdict : LineVerdict) → HasPart text word rest → NamesPartOf rest verdict → NamesPartOf text verdict
names_behind text word rest Skip cut names = tt
names_behind text word rest (Step kind) cut names = tt
names_behind text word rest (Bad bad) cut names = stands_behind text word rest bad.word.now bad.behind cut names
