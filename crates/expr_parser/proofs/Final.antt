-- What reading gives is what the definitions say.
use Rattle.std.proofs.Common.{◌≡◌, ◌≢◌, ◌∙◌, inl, inr, ℕ, ◌-◌, ◌≤◌, List, ◌++◌, length, take, drop, Ok, Err, ap, arith, length-append, length-drop}
use Rattle.std.proofs.lemmas.List.{take_rest}
use Rattle.sv_lexer.specs.declared.token.Token.{Token}
use Rattle.sv_base.specs.declared.refusal.Place.{Place}
use Rattle.sv_ast.specs.declared.expression.Expr.{Expr}
use Rattle.sv_base.specs.declared.fault.Fault.{Fault}
use Rattle.sv_base.specs.declared.fault.Fault.TheVariants.{Refused, NoMemory}
use Rattle.sv_base.specs.Faults.{IfRefused}
use Rattle.expr_parser.specs.Nesting.{greatest_nesting}
use Rattle.expr_parser.specs.Outcome.{IsRead, IsRefused, last_place}
use Rattle.expr_parser.specs.Input.{Input}
use Rattle.expr_parser.specs.Reading.{any}
use Rattle.expr_parser.specs.Steady.{input_at, ReadsFrom, RefusesAt}
use Rattle.expr_parser.proofs.Exact.{exact_reading_lem}

read_lem : (tokens : List Token) (at depth : ℕ) → at ≤ length tokens → (tree : Expr) (k : Input) → ReadsFrom (input_at tokens at depth) tree k
    → IsRead tokens at depth tree (length tokens - length k.rest)
read_lem tokens at depth le tree k r = record {
  front = r.front;
  rest = k.rest;
  stands = (r.rest_is, r.ends);
  place = let whole : length (drop at tokens) ≡ length (r.front ++ k.rest) = ap length r.rest_is in omega (arith, whole, length-append r.front k.rest, length-drop at tokens);
  phrase = r.phrase;
  in_grammar = r.in_grammar;
  tokens_are = r.tokens_are;
  tree_is = r.tree_is;
  longest = r.longest;
  shallow = r.shallow;
}

fault_lem : (tokens : List Token) (at depth : ℕ) (e : Fault) → RefusesAt (input_at tokens at depth) e → IfRefused (IsRefused tokens at depth) e
fault_lem tokens at depth (Refused r) (inl s) = inl (record {
  front = s.front;
  rest = s.rest;
  stands = (s.rest_is, s.ends);
  phrase = s.phrase;
  begins = s.begins;
  none = s.none;
  longest = s.longest;
  shallow = s.shallow;
  refused = s.refused;
})
fault_lem tokens at depth (Refused r) (inr s) = inr (record {
  front = s.front;
  deep = s.deep;
  rest = s.rest;
  split = s.rest_is;
  phrase = s.phrase;
  begins = s.begins;
  shallow = s.shallow;
  reached = s.reached;
  refused = s.refused;
})
fault_lem tokens at depth NoMemory h = tt

-- what is read
pub reads_right : (tokens : List Token) (at depth : ℕ) → at ≤ length tokens → depth ≤ greatest_nesting
    → (tree : Expr) (k : Input) → any (input_at tokens at depth) ≡ Ok (tree, k) → IsRead tokens at depth tree (length tokens - length k.rest)
reads_right tokens at depth le fine tree k is = read_lem tokens at depth le tree k ((exact_reading_lem (input_at tokens at depth) fine).0 tree k is)

-- what is refused
pub refuses_right : (tokens : List Token) (at depth : ℕ) → depth ≤ greatest_nesting
    → (e : Fault) → (e ≢ NoMemory → any (input_at tokens at depth) ≡ Err e) → IfRefused (IsRefused tokens at depth) e
refuses_right tokens at depth fine (Refused r) is =
    fault_lem tokens at depth (Refused r) ((exact_reading_lem (input_at tokens at depth) fine).1 (Refused r) (is (λ same. cc)))
refuses_right tokens at depth fine NoMemory is = tt

rest_same : (s : List Token) (at : ℕ) → take (length s - at) (drop at s) ≡ drop at s
rest_same s at = take_rest s at

-- the cursor that the parser makes
pub input_same : (s xs : List Token) (at depth : ℕ) (last : Place) → s ≡ xs → last ≡ last_place s
    → (i : Input) → i ≡ record { rest = take (length s - at) (drop at s); nested = depth; last = last } → i ≡ input_at xs at depth
input_same s xs at depth last same last_is i is =
    is ∙ ap (λ r. record { rest = r; nested = depth; last = last }) (rest_same s at) ∙ ap (λ p. record { rest = drop at s; nested = depth; last = p }) last_is
    ∙ ap (λ ts. input_at ts at depth) same
