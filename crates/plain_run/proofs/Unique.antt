-- A plain design has at most one solution in a state.
use Rattle.std.proofs.Common.{◌≡◌, ℕ, ◌<◌, ◌≤◌, ◌^◌, ◌+◌, ◌-◌, get_or, List, length, refl, sym, ◌∙◌, ap, subst, arith, None, Some, inl, inr}
use Rattle.std.specs.Prelude.{slice_index, slice_get, ◌⊎◌}
use Rattle.std.specs.Int.{bit_at}
use Rattle.std.proofs.lemmas.Nat.Bits.{bit_at_above}
use Rattle.std.proofs.lemmas.List.{ext_get_or, get_or_past}
use Rattle.std.proofs.lemmas.Option.{slice_get_cases}
use Rattle.sv_base.specs.Meaning.{State}
use Rattle.net_ir.specs.declared.design.Role.{Role}
use Rattle.net_ir.specs.declared.design.Role.TheVariants.{Input, Output, Inner}
use Rattle.net_ir.specs.declared.design.Var.{Var}
use Rattle.net_ir.specs.declared.design.Spec.{Spec}
use Rattle.net_ir.specs.Value.{AreWordsOf, widths_of}
use Rattle.net_ir.specs.Drive.{NoneHolds}
use Rattle.net_ir.specs.Register.{registers_of}
use Rattle.net_ir.specs.Solution.{Solves, IsValuation}
use Rattle.plain_run.specs.Plain.{IsPlain}
use Rattle.net_values.proofs.Variables.{length-widths, width_is, element_at}
use Rattle.plain_run.proofs.Order.{AgreeBut, agree_all, none_writes}
use Rattle.net_values.proofs.Numbers.{within_or_past}
use Rattle.plain_run.proofs.Registers.{HasBit, register_or_none}

-- ---- words of variables

pub small_words : (vars : List Var) (u : List ℕ) → IsValuation vars u → AreWordsOf (widths_of vars) u
small_words vars u valuation x within =
    let found = element_at vars x (subst (λ n. x < n) (length-widths vars) within) in
    subst (λ n. slice_index u x < 2 ^ n) (sym (width_is vars x found.0 found.1)) (valuation.fits x found.0 found.1)

-- ---- one solution

pub input_or_not : (r : Role) → (r ≡ Input) ⊎ (r ≡ Input → ⊥)
input_or_not Input = inl refl
input_or_not Output = inr (λ e. cc)
input_or_not Inner = inr (λ e. cc)

-- two solutions agree in bits that no driver may give at all times
agree_undriven : (spec : Spec) (state : State) (u v : List ℕ) → Solves spec state u → Solves spec state v → AgreeBut spec.vars spec.drivers u v
agree_undriven spec state u v a b x k none = by_case (slice_get_cases spec.vars x).1 where
  by_holder : (w : Var) → slice_get spec.vars x ≡ Some w → (w.role ≡ Input → ⊥) → k < w.width →
      HasBit (registers_of spec) x k ⊎ NoneHolds spec.vars spec.drivers x k → bit_at (slice_index u x) k ≡ bit_at (slice_index v x) k
  by_holder w is inner within (inl has) =
      let low = has.from in
      let high = has.to in
      let j : ℕ = k - has.register.low in
      let below : j < has.register.width = omega arith in
      let bit : has.register.low + j ≡ k = omega arith in
      let same : bit_at (slice_index u has.register.var) (has.register.low + j) ≡ bit_at (slice_index v has.register.var) (has.register.low + j) =
      a.registered has.place has.register has.at j below ∙ sym (b.registered has.place has.register has.at j below) in
      subst (λ n. bit_at (slice_index u x) n ≡ bit_at (slice_index v x) n) bit
      (subst (λ y. bit_at (slice_index u y) (has.register.low + j) ≡ bit_at (slice_index v y) (has.register.low + j)) has.var same)
  by_holder w is inner within (inr clear) =
      let unwritten = none_writes spec.vars spec.drivers x k none clear in
      a.undriven x k w is inner within unwritten ∙ sym (b.undriven x k w is inner within unwritten)

  by_place : (w : Var) → slice_get spec.vars x ≡ Some w → (w.role ≡ Input → ⊥) → (k < w.width) ⊎ (w.width ≤ k) →
      bit_at (slice_index u x) k ≡ bit_at (slice_index v x) k
  by_place w is inner (inl within) = by_holder w is inner within (register_or_none spec x k w is within)
  by_place w is inner (inr past) =
      bit_at_above (slice_index u x) w.width k (a.valuation.fits x w is) past ∙ sym (bit_at_above (slice_index v x) w.width k (b.valuation.fits x w is) past)

  by_role : (w : Var) → slice_get spec.vars x ≡ Some w → (w.role ≡ Input) ⊎ (w.role ≡ Input → ⊥) → bit_at (slice_index u x) k ≡ bit_at (slice_index v x) k
  by_role w is (inl input) = ap (λ n. bit_at n k) (a.set x w is input ∙ sym (b.set x w is input))
  by_role w is (inr inner) = by_place w is inner (within_or_past k w.width)

  by_case : ((w : Var) × (x < length spec.vars) × (slice_get spec.vars x ≡ Some w) × (get_or spec.vars x w ≡ w)) ⊎ ((length spec.vars ≤ x) × (slice_get spec.vars x ≡ None)) →
      bit_at (slice_index u x) k ≡ bit_at (slice_index v x) k
  by_case (inl found) = by_role found.0 found.2 (input_or_not found.0.role)
  by_case (inr past) =
      ap (λ n. bit_at n k)
      (get_or_past u x 0 (subst (λ n. n ≤ x) (sym a.valuation.each) past.0) ∙ sym (get_or_past v x 0 (subst (λ n. n ≤ x) (sym b.valuation.each) past.0)))

pub one_solution : (spec : Spec) (state : State) (u v : List ℕ) → IsPlain spec → Solves spec state u → Solves spec state v → u ≡ v
one_solution spec state u v plain a b =
    ext_get_or 0 u v (a.valuation.each ∙ sym b.valuation.each) (λ x within.
    agree_all spec.vars spec.drivers u v plain.timely plain.ordered a.driven b.driven (agree_undriven spec state u v a b) x)
