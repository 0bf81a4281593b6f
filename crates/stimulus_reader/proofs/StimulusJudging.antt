-- What a line makes of the stimulus.
use Rattle.std.proofs.Common.{◌≡◌, ℕ, ◌+◌, ◌-◌, Bool, true, false, ◌==◌, List, [], ◌∷◌, ◌++◌, length, take, drop, Vec, Global, refl, sym, ap, subst, ◌∙◌, arith, length-append, Option, None, Some, IfErr, Result, Ok, Err, if◌then◌else◌}
use Rattle.std.specs.List.{list_any}
use Rattle.std.proofs.Math.Seq.{drop-append_seam, take-append_seam}
use Rattle.sv_base.specs.declared.face.Class.{Class}
use Rattle.sv_base.specs.declared.face.Class.TheVariants as class
use Rattle.sv_base.specs.declared.face.Port.{Port}
use Rattle.sv_base.specs.Steps.{Setting}
use Rattle.stimulus_reader.specs.declared.reason.Reason.{Reason}
use Rattle.stimulus_reader.specs.declared.reason.Reason.TheVariants.{SetTwice, NoClock}
use Rattle.stimulus_reader.specs.declared.step.StepKind.{StepKind}
use Rattle.stimulus_reader.specs.declared.step.StepKind.TheVariants as kind
use Rattle.stimulus_reader.specs.Stimulus.{BadLine, Fault, Line, LineVerdict, Stimulus, stopped, lines_of, span, limit_of, verdict_of_words, verdict_of_kind, verdict_of_settings, words_of, content_of, stimulus_from, stimulus_of_verdict, unless_limit, class_fault, unless_fault, unless_set, valued, value_in, set_input, input_from, setting_of_parts, setting_of, named_part, parts_of, with_setting, after_setting, settings_of, is_comment, kind_of}
use Rattle.stimulus_reader.specs.Stimulus as asked
use Rattle.stimulus_reader.specs.Reading.{Reading, passes_limit}
use Rattle.stimulus_reader.specs.code.Fields.{judged_of, kept_of, bad_of}
use Rattle.stimulus_reader.specs.code.LineReading.{StandsIn}
use Rattle.stimulus_reader.specs.code.LineSource.{IsFound}
use Rattle.stimulus_reader.specs.declared.found.Found.{Found}
use Rattle.stimulus_reader.specs.declared.found.Found.TheVariants as found
use Rattle.stimulus_reader.specs.code.Judging.{line_in, verdict_in, IsBehind}
use Rattle.stimulus_reader.specs.declared.judge.LineJudge.TheInside.{Inside}

-- ---- the line that is kept

-- a reader that has refused no line keeps what is in its buffer
none_bad : (bad : Option Reason) (last : ℕ) (line : List ℕ) → bad_of bad last line ≡ None → kept_of bad line ≡ line
none_bad None last line e = refl
none_bad (Some reason) last line e = absurd (cc)

pub kept_is : (a : Inside) (before : Reading) → judged_of a ≡ before → before.bad ≡ None → before.kept ≡ a.line.items
kept_is a before view good =
    sym (ap (λ (r : Reading). r.kept) view) ∙ none_bad a.bad a.last a.line.items (ap (λ (r : Reading). r.bad) view ∙ good)

-- whatever is in the buffer, no line was refused
pub still_good : (bad : Option Reason) (last next : ℕ) (line word : List ℕ) → bad_of bad last line ≡ None → bad_of bad next word ≡ None
still_good None last next line word e = refl
still_good (Some reason) last next line word e = absurd (cc)

kept_any : (bad : Option Reason) (last : ℕ) (line other : List ℕ) → bad_of bad last line ≡ None → kept_of bad other ≡ other
kept_any None last line other e = refl
kept_any (Some reason) last line other e = absurd (cc)

kept_none : (bad : Option Reason) → kept_of bad [] ≡ []
kept_none None = refl
kept_none (Some reason) = refl

-- what was found at the place of the reader is the line that it keeps then
pub found_kept : (a : Inside) (before : Reading) (line : List ℕ) (what : Found) (over : Bool) (x y : List ℕ) → judged_of a ≡ before → before.bad ≡ None → what ≡ found.Line over → IsFound a.at line what (a.line.items ++ x) y → IsFound before.at (kept_of a.bad line) (found.Line over) (before.kept ++ x) y
found_kept a before line what over x y view good is there =
    let none : bad_of a.bad a.last a.line.items ≡ None = ap (λ (r : Reading). r.bad) view ∙ good in
    let here : IsFound a.at line (found.Line over) (a.line.items ++ x) y = subst (λ (w : Found). IsFound a.at line w (a.line.items ++ x) y) is there in
    subst (λ (xs : List ℕ). IsFound before.at xs (found.Line over) (before.kept ++ x) y) (sym (kept_any a.bad a.last a.line.items line none))
    (subst (λ (xs : List ℕ). IsFound before.at line (found.Line over) (xs ++ x) y) (sym (kept_is a before view good))
    (subst (λ (n : ℕ). IsFound n line (found.Line over) (a.line.items ++ x) y) (ap (λ (r : Reading). r.at) view) here))

-- the same of a line that passes a limit
pub found_long : (a : Inside) (before : Reading) (line : List ℕ) (what : Found) (reason : Reason) (x y : List ℕ) → judged_of a ≡ before → before.bad ≡ None → what ≡ found.Long reason → IsFound a.at line what (a.line.items ++ x) y → IsFound before.at line (found.Long reason) (before.kept ++ x) y
found_long a before line what reason x y view good is there =
    let here : IsFound a.at line (found.Long reason) (a.line.items ++ x) y = subst (λ (w : Found). IsFound a.at line w (a.line.items ++ x) y) is there in
    subst (λ (xs : List ℕ). IsFound before.at line (found.Long reason) (xs ++ x) y) (sym (kept_is a before view good))
    (subst (λ (n : ℕ). IsFound n line (found.Long reason) (a.line.items ++ x) y) (ap (λ (r : Reading). r.at) view) here)

-- the reader stands behind the line that it kept
pub behind_line : (a b : Inside) (before : Reading) (over : Bool) (bytes : ℕ) → judged_of a ≡ before → before.bad ≡ None → b.ports ≡ a.ports → b.number ≡ a.number + 1 → b.at ≡ a.at + bytes → bytes ≡ length a.line.items + (if over then 1 else 0) → b.line.items ≡ [] → b.bad ≡ a.bad → IsBehind before (judged_of b) over
behind_line a b before over bytes view good ports number at bytes_are line bad =
    let buffer = kept_is a before view good in
    let none : bad_of a.bad a.last a.line.items ≡ None = ap (λ (r : Reading). r.bad) view ∙ good in
    record {
      ports = ap (λ (p : Vec Port Global). p.items) ports ∙ ap (λ (r : Reading). r.ports) view;
      number = number ∙ ap (λ (r : Reading). r.number + 1) view;
      at = at ∙ ap (λ n. a.at + n) (bytes_are ∙ ap (λ (xs : List ℕ). length xs + (if over then 1 else 0)) (sym buffer)) ∙ ap (λ (r : Reading). r.at + span (line_in before over)) view;
      kept = ap (kept_of b.bad) line ∙ kept_none b.bad;
      bad = rw bad (still_good a.bad a.last b.last a.line.items b.line.items none);
    }

-- what the line in the buffer asks for
pub verdict_is : (a : Inside) (before : Reading) (over : Bool) → judged_of a ≡ before → before.bad ≡ None → verdict_of_words a.ports.items (words_of (content_of (record { text = a.line.items; ended = over }))) ≡ verdict_in before over
verdict_is a before over view good =
    ap (λ (ports : List Port). verdict_of_words ports (words_of (content_of (record { text = a.line.items; ended = over })))) (ap (λ (r : Reading). r.ports) view)
    ∙ ap (λ (line : List ℕ). verdict_of_words before.ports (words_of (content_of (record { text = line; ended = over })))) (sym (kept_is a before view good))

-- what is left of a line is the word that stands there
pub word_kept : (line word : List ℕ) (n : ℕ) → StandsIn line word n → take (length word) (drop (length line - (length word + n)) line) ≡ word
word_kept line word n s =
    let whole = ap length s.is ∙ length-append s.before (word ++ s.after) in
    let end = length-append word s.after in
    let behind = s.behind_is in
    let place : length line - (length word + n) ≡ length s.before = omega arith in
    rw place (ap (λ (xs : List ℕ). take (length word) (drop (length s.before) xs)) s.is ∙ ap (take (length word)) (drop-append_seam s.before (word ++ s.after)) ∙ take-append_seam word s.after)

-- ---- a line's words pass no limit of bytes

NoLimit : Option Reason → Type 0
NoLimit None = Unit {0}
NoLimit (Some reason) = passes_limit reason ≡ false

NoLimitIn : {A : Type 0} → Result A Fault → Type 0
NoLimitIn r = IfErr r (λ fault. passes_limit fault.reason ≡ false)

idle_no_limit : (width : ℕ) → NoLimit (class_fault kind.Clocks class.Idle width)
unfolding NoLimit
idle_no_limit width = elim (width == 1) as (λ b. NoLimit (if b then None else Some NoClock)) [ true ↦ tt | false ↦ refl ]

class_no_limit : (of : StepKind) (c : Class) (width : ℕ) → NoLimit (class_fault of c width)
unfolding NoLimit
class_no_limit kind.Values class.Value width = tt
class_no_limit kind.Values class.Clock width = refl
class_no_limit kind.Values class.Idle width = tt
class_no_limit kind.Values class.Output width = tt
class_no_limit kind.Clocks class.Value width = refl
class_no_limit kind.Clocks class.Clock width = tt
class_no_limit kind.Clocks class.Idle width = idle_no_limit width
class_no_limit kind.Clocks class.Output width = tt

valued_no_limit : (port : ℕ) (text : List ℕ) (word : Option ℕ) → NoLimitIn (valued port text word)
unfolding NoLimitIn
valued_no_limit port text None = refl
valued_no_limit port text (Some word) = tt

set_no_limit : (set name : List ℕ) (port : ℕ) (go : Result Setting Fault) → NoLimitIn go → NoLimitIn (unless_set set name port go)
unfolding NoLimitIn
set_no_limit set name port go none =
    elim (list_any (λ other. other == port) set) as (λ b. NoLimitIn (if b then Err (record { reason = SetTwice; word = name }) else go)) [ true ↦ refl | false ↦ none ]

fault_no_limit : (name : List ℕ) (fault : Option Reason) (go : Result Setting Fault) → NoLimit fault → NoLimitIn go → NoLimitIn (unless_fault name fault go)
unfolding NoLimit NoLimitIn
fault_no_limit name None go fault none = none
fault_no_limit name (Some reason) go fault none = fault

input_no_limit : (of : StepKind) (set name text : List ℕ) (found : Option (ℕ × Port)) → NoLimitIn (set_input of set name text found)
unfolding NoLimitIn
input_no_limit of set name text None = refl
input_no_limit of set name text (Some found) =
    fault_no_limit name (class_fault of found.1.class found.1.width) _ (class_no_limit of found.1.class found.1.width)
    (set_no_limit set name found.0 _ (valued_no_limit found.0 text (value_in of found.1.width text)))

parts_no_limit : (ports : List Port) (of : StepKind) (set word : List ℕ) (parts : Option (List ℕ × List ℕ)) → NoLimitIn (setting_of_parts ports of set word parts)
unfolding NoLimitIn
parts_no_limit ports of set word None = refl
parts_no_limit ports of set word (Some parts) = input_no_limit of set parts.0 parts.1 (input_from 0 ports parts.0)

with_no_limit : (first : Setting) (rest : Result (List Setting) Fault) → NoLimitIn rest → NoLimitIn (with_setting first rest)
unfolding NoLimitIn
with_no_limit first (Ok rest) none = tt
with_no_limit first (Err fault) none = none

after_no_limit : (first : Result Setting Fault) (go : Setting → Result (List Setting) Fault) → NoLimitIn first → ((s : Setting) → NoLimitIn (go s)) → NoLimitIn (after_setting first go)
unfolding NoLimitIn
after_no_limit (Err fault) go none rest = none
after_no_limit (Ok first) go none rest = with_no_limit first (go first) (rest first)

settings_no_limit : (ports : List Port) (of : StepKind) (set : List ℕ) (words : List (List ℕ)) → NoLimitIn (settings_of ports of set words)
unfolding NoLimitIn
settings_no_limit ports of set [] = tt
settings_no_limit ports of set (word ∷ words) =
    after_no_limit (setting_of ports of set word) (λ first. settings_of ports of (first.port ∷ set) words) (parts_no_limit ports of set word (named_part (parts_of word)))
    (λ first. settings_no_limit ports of (first.port ∷ set) words)

NoLimitAsked : LineVerdict → Type 0
NoLimitAsked asked.Skip = Unit {0}
NoLimitAsked (asked.Step step) = Unit {0}
NoLimitAsked (asked.Bad fault) = passes_limit fault.reason ≡ false

asked_no_limit : (of : StepKind) (r : Result (List Setting) Fault) → NoLimitIn r → NoLimitAsked (verdict_of_settings of r)
unfolding NoLimitIn NoLimitAsked
asked_no_limit of (Ok settings) none = tt
asked_no_limit of (Err fault) none = none

kind_no_limit : (ports : List Port) (word : List ℕ) (of : Option StepKind) (words : List (List ℕ)) → NoLimitAsked (verdict_of_kind ports word of words)
unfolding NoLimitAsked
kind_no_limit ports word None words = refl
kind_no_limit ports word (Some of) words = asked_no_limit of (settings_of ports of [] words) (settings_no_limit ports of [] words)

words_no_limit : (ports : List Port) (words : List (List ℕ)) → NoLimitAsked (verdict_of_words ports words)
unfolding NoLimitAsked
words_no_limit ports [] = tt
words_no_limit ports (word ∷ words) =
    elim (is_comment word) as (λ b. NoLimitAsked (if b then asked.Skip else verdict_of_kind ports word (kind_of word) words)) [
      | true ↦ tt
      | false ↦ kind_no_limit ports word (kind_of word) words
    ]

-- no word of a line is refused for a limit of bytes
pub refused_no_limit : (ports : List Port) (words : List (List ℕ)) (fault : Fault) → verdict_of_words ports words ≡ asked.Bad fault → passes_limit fault.reason ≡ false
unfolding NoLimitAsked
refused_no_limit ports words fault is = subst NoLimitAsked is (words_no_limit ports words)
