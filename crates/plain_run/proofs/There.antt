-- A plain design has a solution in each state.
use Rattle.std.proofs.Common.{◌≡◌, ℕ, ◌<◌, ◌≤◌, ◌^◌, ◌+◌, ◌-◌, List, length, get_or, refl, sym, ◌∙◌, ap, subst, arith, None, Some, inl, inr}
use Rattle.std.specs.Prelude.{slice_index, slice_get, ◌⊎◌}
use Rattle.std.specs.List.{AllByRecursion}
use Rattle.std.specs.Int.{bit_at}
use Rattle.std.proofs.lemmas.List.{get_or_past}
use Rattle.std.proofs.lemmas.Nat.Bits.{bit_at-lt}
use Rattle.std.proofs.lemmas.Option.{slice_get_cases}
use Rattle.sv_base.specs.Meaning.{State}
use Rattle.net_ir.specs.declared.design.Role.{Role}
use Rattle.net_ir.specs.declared.design.Role.TheVariants.{Input, Output, Inner}
use Rattle.net_ir.specs.declared.design.Var.{Var}
use Rattle.net_ir.specs.declared.design.Spec.{Spec}
use Rattle.net_ir.specs.Value.{AreWordsOf, widths_of}
use Rattle.net_ir.specs.Register.{Register, registers_of}
use Rattle.net_ir.specs.Solution.{Solves, IsHeld}
use Rattle.net_ir.specs.Facts.{HasLevels, HasOneSolution}
use Rattle.plain_run.specs.Plain.{IsPlain, IsInput}
use Rattle.plain_run.specs.code.Pass.{run, KeepsInitial}
use Rattle.plain_run.proofs.WordsBy.{words_by, length-words_by, word_at}
use Rattle.plain_run.proofs.BitWords.{word_of, word_fits, word_bits}
use Rattle.plain_run.proofs.Registers.{IsHeldBy, register_bit, held_bit}
use Rattle.plain_run.proofs.Apart.{are_apart, bit_in, bit_below, bit_of_register, bit_not_held}
use Rattle.net_values.proofs.Variables.{length-widths, width_is, element_at}
use Rattle.plain_run.proofs.Unique.{input_or_not, one_solution}
use Rattle.plain_run.proofs.Solved.{pass_solves}

-- ---- what is held, and what stands before the drivers

-- bit k of variable x: its register's, else its initial one
abbrev held_bit_of : Spec → State → ℕ → Var → ℕ → ℕ
held_bit_of spec state x v k = bit_in (registers_of spec) state.registers x k (bit_at v.init.word k)

abbrev held_word : Spec → State → ℕ → Var → ℕ
held_word spec state x v = word_of (held_bit_of spec state x v) v.width

abbrev held_words : Spec → State → List ℕ
held_words spec state = words_by (held_word spec state) 0 spec.vars

-- the level of an input, else what is held
abbrev source_word : Role → ℕ → ℕ → ℕ
source_word Input level held = level
source_word Output level held = held
source_word Inner level held = held

abbrev first_word : Spec → State → ℕ → Var → ℕ
first_word spec state x v = source_word v.role (slice_index state.inputs x) (held_word spec state x v)

abbrev first_words : Spec → State → List ℕ
first_words spec state = words_by (first_word spec state) 0 spec.vars

bits_below : (spec : Spec) (state : State) (x : ℕ) (v : Var) (k : ℕ) → held_bit_of spec state x v k < 2
bits_below spec state x v k = bit_below (registers_of spec) state.registers x k (bit_at v.init.word k) (bit_at-lt v.init.word k)

source_held : (r : Role) (level held : ℕ) → (r ≡ Input → ⊥) → source_word r level held ≡ held
source_held Input level held inner = absurd (inner refl)
source_held Output level held inner = refl
source_held Inner level held inner = refl

source_level : (r : Role) (level held : ℕ) → r ≡ Input → source_word r level held ≡ level
source_level r level held is = ap (λ q. source_word q level held) is

-- a bit of what is held
held_at : (spec : Spec) (state : State) (x k : ℕ) (v : Var) → slice_get spec.vars x ≡ Some v → k < v.width →
    bit_at (slice_index (held_words spec state) x) k ≡ held_bit_of spec state x v k
held_at spec state x k v at within =
    ap (λ n. bit_at n k) (word_at (held_word spec state) spec.vars x v at) ∙ word_bits (held_bit_of spec state x v) v.width k (bits_below spec state x v) within

keeps_initial : (spec : Spec) (state : State) → KeepsInitial spec (held_words spec state)
keeps_initial spec state x k v at within none = held_at spec state x k v at within ∙ bit_not_held spec state.registers x k (bit_at v.init.word k) none

-- ---- the solution

first_small : (spec : Spec) (state : State) → HasLevels spec state → AreWordsOf (widths_of spec.vars) (first_words spec state)
first_small spec state levels x within =
    let found = element_at spec.vars x (subst (λ n. x < n) (length-widths spec.vars) within) in
    subst (λ n. slice_index (first_words spec state) x < 2 ^ n) (sym (width_is spec.vars x found.0 found.1))
    (subst (λ n. n < 2 ^ found.0.width) (sym (word_at (first_word spec state) spec.vars x found.0 found.1)) (by_role found.0 found.1 (input_or_not found.0.role))) where
      by_role : (v : Var) → slice_get spec.vars x ≡ Some v → (v.role ≡ Input) ⊎ (v.role ≡ Input → ⊥) → first_word spec state x v < 2 ^ v.width
      by_role v at (inl input) =
          subst (λ n. n < 2 ^ v.width) (sym (source_level v.role (slice_index state.inputs x) (held_word spec state x v) input)) (levels x v at input)
      by_role v at (inr inner) =
          subst (λ n. n < 2 ^ v.width) (sym (source_held v.role (slice_index state.inputs x) (held_word spec state x v) inner)) (word_fits (held_bit_of spec state x v) v.width (bits_below spec state x v))

first_inner : (spec : Spec) (state : State) (x : ℕ) → (IsInput spec.vars x → ⊥) → slice_index (first_words spec state) x ≡ slice_index (held_words spec state) x
first_inner spec state x inner = by_case (slice_get_cases spec.vars x).1 where
  by_case : ((v : Var) × (x < length spec.vars) × (slice_get spec.vars x ≡ Some v) × (get_or spec.vars x v ≡ v)) ⊎ ((length spec.vars ≤ x) × (slice_get spec.vars x ≡ None)) →
      slice_index (first_words spec state) x ≡ slice_index (held_words spec state) x
  by_case (inl found) =
      word_at (first_word spec state) spec.vars x found.0 found.2
      ∙ source_held found.0.role (slice_index state.inputs x) (held_word spec state x found.0) (λ input. inner (found.0, found.2, input))
      ∙ sym (word_at (held_word spec state) spec.vars x found.0 found.2)
  by_case (inr past) =
      get_or_past (first_words spec state) x 0 (subst (λ n. n ≤ x) (sym (length-words_by (first_word spec state) 0 spec.vars)) past.0)
      ∙ sym (get_or_past (held_words spec state) x 0 (subst (λ n. n ≤ x) (sym (length-words_by (held_word spec state) 0 spec.vars)) past.0))

registers_kept : (spec : Spec) (state : State) (u : List ℕ) → AllByRecursion (IsHeldBy spec.vars (held_words spec state) u) spec.drivers →
    (i : ℕ) (r : Register) → slice_get (registers_of spec) i ≡ Some r → IsHeld state.registers u i r
registers_kept spec state u each i r at k below =
    let bit = register_bit spec i r k at below in
    held_bit spec (held_words spec state) u i r k each at below
    ∙ held_at spec state r.var (r.low + k) bit.variable bit.at bit.within
    ∙ bit_of_register (registers_of spec) state.registers i r r.var (r.low + k) (bit_at bit.variable.init.word (r.low + k)) (are_apart spec) at (record { var = refl; from = omega arith; to = omega arith })
    ∙ ap (bit_at (slice_index state.registers i)) (let rest : r.low + k - r.low ≡ k = omega arith in rest)

has_solution : (spec : Spec) (state : State) → IsPlain spec → HasLevels spec state → Solves spec state (run spec.vars spec.drivers (first_words spec state))
has_solution spec state plain levels =
    pass_solves spec state (held_words spec state) (first_words spec state) plain (length-words_by (first_word spec state) 0 spec.vars)
    (first_small spec state levels)
    (λ x v at input. word_at (first_word spec state) spec.vars x v at ∙ source_level v.role (slice_index state.inputs x) (held_word spec state x v) input)
    (first_inner spec state) (keeps_initial spec state) (registers_kept spec state (run spec.vars spec.drivers (first_words spec state)))

pub plain_solution : (spec : Spec) → IsPlain spec → HasOneSolution spec
plain_solution spec plain = record {
  there = λ state levels. (run spec.vars spec.drivers (first_words spec state), has_solution spec state plain levels);
  only = λ state u v a b. one_solution spec state u v plain a b;
}
