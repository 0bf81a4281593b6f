-- What is taken of a name stands for its select.
use Rattle.std.proofs.Common.{◌≡◌, ℕ, Bool, true, false, List, Result, Err, refl, ◌∙◌, ap, subst, ℤ, pos, if◌then◌else◌, min, ◌^◌, ◌-◌}
use Rattle.bit_ops.specs.declared.value.TheConstants.{MAX_WIDTH}
use Rattle.bit_ops.specs.Meaning.{signed_of}
use Rattle.sv_base.specs.declared.kind.Kind.TheVariants.{BadRange}
use Rattle.sv_base.specs.declared.refusal.Refusal.{Refusal}
use Rattle.sv_ast.specs.declared.expression.Id.{Id}
use Rattle.const_eval.specs.declared.env.Const as found
use Rattle.net_ir.specs.declared.term.Term.{Const}
use Rattle.net_ir.specs.Terms.{Has, has_const}
use Rattle.const_eval.specs.WholeNumbers.{whole_number_of, count_of}
use Rattle.const_eval.specs.Meaning.{Meaning, own, number}
use Rattle.const_eval.specs.Selects.{Named}
use Rattle.const_eval.specs.Expressions.{refused_at}
use Rattle.const_eval.proofs.Counts.{width_counted, width_capped}
use Rattle.width_rules.specs.declared.measured.Measured.{Measured}
use Rattle.net_ir.specs.declared.design.Var.{Var}
use Rattle.const_eval.specs.declared.env.Bound.{Bound}
use Rattle.width_rules.specs.Waiting.{own_term}
use Rattle.width_rules.specs.Selecting.{taken_width, taken, take}
use Rattle.width_rules.specs.code.Taking.{indexed}
use Rattle.width_rules.specs.code.Standing.{IsFound}

-- the whole number that a constant stands for
pub found_number : (c : found.Const) (m : Meaning) → IsFound c m → whole_number_of c ≡ number m
found_number c m h =
    ap (λ s. if s then signed_of c.value.width c.value.word else pos c.value.word) h.1
    ∙ ap (λ a. if m.signed then signed_of c.value.width a else pos a) h.2
    ∙ ap (λ w. if m.signed then signed_of w (own m) else pos (own m)) h.0

-- a width that was counted, and one that was counted as far as a word can say
pub counted_width : (z : ℤ) (n : Named) (name : Id) → taken_width (pos (count_of z)) n name ≡ taken_width z n name
counted_width z n name = ap (λ (r : Result ℕ Refusal). if n.ranged then r else Err (refused_at BadRange name)) (width_counted (refused_at BadRange name) name.place z)

pub capped_width : (z : ℤ) (k : ℕ) (n : Named) (name : Id) → k ≡ min (count_of z) (2 ^ MAX_WIDTH - 1) → taken_width (pos k) n name ≡ taken_width z n name
capped_width z k n name is = ap (λ (r : Result ℕ Refusal). if n.ranged then r else Err (refused_at BadRange name)) (width_capped (refused_at BadRange name) name.place z k is)

-- a constant that was found, as a term
pub found_has : (ws u : List ℕ) (c : found.Const) (m : Meaning) → IsFound c m → Has ws u (Const c.value) m.size (own m)
found_has ws u c m h =
    subst (λ n. Has ws u (Const c.value) n (own m)) h.0 (subst (λ a. Has ws u (Const c.value) c.value.width a) h.2 (has_const ws u c.value))

-- so many bits from a position up, or from it down
pub indexed_take : (vars : List Var) (name : Id) (bound : Bound) (down : Bool) (at : Measured) (width : found.Const) →
    take vars name bound (indexed down at width) ≡ taken (whole_number_of width) vars name bound (own_term at) at.signed down
indexed_take vars name bound true at width = refl
indexed_take vars name bound false at width = refl
