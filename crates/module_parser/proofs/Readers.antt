-- Lemmas on the steps of reading.
use Rattle.std.proofs.Common.{◌≡◌, ◌∙◌, Bool, true, false, List, [], ◌∷◌, ◌++◌, Option, Some, None, Ok, refl, sym, ap, if◌then◌else◌}
use Rattle.sv_lexer.specs.declared.token.Token.{Token}
use Rattle.expr_parser.specs.Spelling.{is_mark}
use Rattle.expr_parser.specs.Grammar.{id_of}
use Rattle.expr_parser.specs.Outcome.{grammar_tokens}
use Rattle.expr_parser.specs.Input.{Input, past_marks, front_of, behind, next, ahead, after, take_id, id_from}
use Rattle.module_parser.specs.Rule.{Test, meets, IsOne}
use Rattle.module_parser.specs.Input.{comes}
use Rattle.module_parser.proofs.Rules.{first_of}

-- the next token of the grammar stands behind marks
pub record Marked (ts : List Token) (t : Token) : Type 0 where
  pub marks : List Token
  pub split : ts ≡ marks ++ t ∷ behind (past_marks ts)
  pub none : grammar_tokens marks ≡ []
  pub no_mark : is_mark t.kind ≡ false

marked_at : (c : Bool) (u : Token) (us : List Token) (t : Token) → is_mark u.kind ≡ c → (front_of (past_marks us) ≡ Some t → Marked us t)
    → front_of (if c then past_marks us else u ∷ us) ≡ Some t → (marks : List Token) × ((u ∷ us ≡ marks ++ t ∷ behind (if c then past_marks us else u ∷ us)) × (grammar_tokens marks ≡ []) × (is_mark t.kind ≡ false))
marked_at true u us t is later h =
    let m = later h in
    (u ∷ m.marks, (ap (λ ts. u ∷ ts) m.split, ap (λ (c : Bool). if c then grammar_tokens m.marks else u ∷ grammar_tokens m.marks) is ∙ m.none, m.no_mark))
marked_at false u us t is later h =
    let same : u ≡ t = cc in ([], (ap (λ k. k ∷ us) same, refl, ap (λ k. is_mark k.kind) (sym same) ∙ is))

pub marked_front : (ts : List Token) (t : Token) → first_of ts ≡ Some t → Marked ts t
marked_front [] t h = absurd cc
marked_front (u ∷ us) t h =
    let m = marked_at (is_mark u.kind) u us t refl (marked_front us t) h in
    record { marks = m.0; split = m.1.0; none = m.1.1; no_mark = m.1.2 }

-- a token of some sort that comes next
pub record Coming (test : Test) (i : Input) (t : Token) : Type 0 where
  pub marks : List Token
  pub are_marks : grammar_tokens marks ≡ []
  pub no_mark : is_mark t.kind ≡ false
  pub passes : test t ≡ true
  pub next_is : next i ≡ Some t
  pub rest_is : i.rest ≡ marks ++ t ∷ (after i).rest

pub comes_is : (test : Test) (i : Input) → comes test i ≡ meets test (first_of i.rest)
unfolding comes next ahead
comes_is test i = refl

met : (test : Test) (v : Option Token) → meets test v ≡ true → (t : Token) × ((v ≡ Some t) × (test t ≡ true))
met test None h = absurd cc
met test (Some t) h = (t, (refl, h))

coming : (test : Test) (i : Input) (t : Token) → first_of i.rest ≡ Some t → test t ≡ true → Coming test i t
unfolding next ahead after
coming test i t h passes =
    let m = marked_front i.rest t h in
    record { marks = m.marks; are_marks = m.none; no_mark = m.no_mark; passes = passes; next_is = h; rest_is = m.split }

pub comes-yes : (test : Test) (i : Input) → comes test i ≡ true → (t : Token) × Coming test i t
comes-yes test i h =
    let m = met test (first_of i.rest) (sym (comes_is test i) ∙ h) in
    (m.0, coming test i m.0 m.1.0 m.1.1)

pub take_id_is : (i : Input) (t : Token) → next i ≡ Some t → take_id i ≡ Ok (id_of t, after i)
unfolding take_id
take_id_is i t h = ap (λ v. id_from v i) h

-- that token, read
pub coming_one : (test : Test) (i : Input) (t : Token) (c : Coming test i t) → IsOne test t (record { marks = c.marks; token = t; depth = 0 } ∷ [])
coming_one test i t c = record { marks = c.marks; are_marks = c.are_marks; no_mark = c.no_mark; passes = c.passes; is = refl }
