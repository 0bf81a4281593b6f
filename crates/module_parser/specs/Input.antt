-- The steps that reading a file is made of, beside those of reading an expression.
use Rattle.std.specs.Prelude.{◌-◌, ℕ, zero, suc, Bool, if◌then◌else◌, List, [], ◌∷◌, ◌++◌, length, take, Ok}
use Rattle.std.specs.List.{list_any}
use Rattle.sv_lexer.specs.declared.token.Token.{Token}
use Rattle.sv_ast.specs.declared.expression.Id.{Id}
use Rattle.expr_parser.specs.Spelling.{is_mark}
use Rattle.expr_parser.specs.Input.{Input, Parser, ◌>>=◌, ◌>>◌, pure, refuse, next, after, take_id, rise, enter, leave, turns}
use Rattle.module_parser.specs.Rule.{Test, meets}

-- whether a token of this sort comes next
unfoldable pub comes : Test → Input → Bool
comes test i = meets test (next i)

-- takes a token of this sort
unfoldable pub take_one : Test → Parser Id
take_one test = λ i. if comes test i then take_id i else refuse i

-- passes over a token of this sort
unfoldable pub pass : Test → Parser (Unit {0})
pass test = λ i. if comes test i then Ok (tt, after i) else refuse i

-- takes a token of this sort, from which on one more is open
unfoldable pub take_open : Test → Parser Id
take_open test = λ i. if comes test i then (rise >> take_id) i else refuse i

abbrev pub when : {A : Type 0} → Test → Parser A → Parser A → Parser A
when test p q = λ i. if comes test i then p i else q i

-- more, as long as a token of this sort comes, behind those that were found
unfoldable pub many_from : {A : Type 0} → Test → (List A → Parser A) → ℕ → List A → Parser (List A)
many_from test f zero found = pure found
many_from test f (suc n) found = λ i. if comes test i then (f found >>= λ x. many_from test f n (found ++ x ∷ [])) i else Ok (found, i)

unfoldable pub many : {A : Type 0} → Test → (List A → Parser A) → Parser (List A)
many test f = λ i. many_from test f (turns i) [] i

-- what opens with a token of this sort
abbrev pub opened : {A : Type 0} → Test → (Id → Parser A) → Parser A
opened test f = do
  outer ← enter
  opens ← take_open test
  tree ← f opens
  leave outer
  pure tree

-- whether a mark stands between these two
unfoldable pub marked_between : Input → Input → Bool
marked_between i j = list_any (λ (t : Token). is_mark t.kind) (take (length i.rest - length j.rest) i.rest)

-- what is read, and whether a mark stands in it
abbrev pub watched_from : {A : Type 0} → Input → A → Parser (A × Bool)
watched_from i tree = λ j. Ok ((tree, marked_between i j), j)

abbrev pub watched : {A : Type 0} → Parser A → Parser (A × Bool)
watched p = λ i. (p >>= watched_from i) i
