-- The last token of a list.
use Rattle.std.proofs.Common.{◌≡◌, ◌∙◌, suc, ◌-◌, ◌≤◌, List, [], ◌∷◌, length, slice_index_or, refl, ap, arith}
use Rattle.sv_lexer.specs.declared.token.Token.{Token}
use Rattle.expr_parser.specs.Outcome.{last_place}

-- its place is that of the token at the greatest position
pub last_place-index : (ts : List Token) (other : Token) → 1 ≤ length ts → (slice_index_or ts (length ts - 1) other).place ≡ last_place ts
last_place-index [] other h = absurd (omega arith)
last_place-index (a ∷ []) other h = refl
last_place-index (a ∷ b ∷ ts) other h =
    let here : length (a ∷ b ∷ ts) - 1 ≡ suc (length ts) = omega arith in
    let behind : length ts ≡ length (b ∷ ts) - 1 = omega arith in
    ap (λ n. (slice_index_or (a ∷ b ∷ ts) n other).place) here ∙ ap (λ n. (slice_index_or (b ∷ ts) n other).place) behind
    ∙ last_place-index (b ∷ ts) other (omega arith)
