-- The size of a term depends on no valuation.
use Rattle.std.proofs.Common.{◌≡◌, ℕ, List, [], refl, sym, ◌∙◌, ap}
use Rattle.net_ir.specs.declared.term.Term.{Term}
use Rattle.net_ir.specs.declared.term.Term.TheOpen.{Term-F, Const, Read, Pick, Apply}
use Rattle.net_ir.specs.declared.term.Term.TheViews.{out-Term}
use Rattle.net_ir.specs.declared.term.Term.TheFolds.{map-Term, fold_out-Term}
use Rattle.net_ir.specs.Value.{operand_of_layer, operand_of, size}

-- the width of a term is its size, on every valuation
size_layer : (ws u : List ℕ) (x : Term-F Term) →
    (operand_of_layer ws u (map-Term Term (ℕ × ℕ) (operand_of ws u) x)).0 ≡ (operand_of_layer ws [] (map-Term Term (ℕ × ℕ) (operand_of ws []) x)).0
size_layer ws u (Const bits) = refl
size_layer ws u (Read var place) = refl
size_layer ws u (Pick base low at at_signed down width) = refl
size_layer ws u (Apply op width lo args) = refl

pub width_is_size : (ws u : List ℕ) (t : Term) → (operand_of ws u t).0 ≡ size ws t
width_is_size ws u t =
    ap (λ p. p.0) (fold_out-Term (ℕ × ℕ) (operand_of_layer ws u) t)
    ∙ size_layer ws u (out-Term t)
    ∙ sym (ap (λ p. p.0) (fold_out-Term (ℕ × ℕ) (operand_of_layer ws []) t))
