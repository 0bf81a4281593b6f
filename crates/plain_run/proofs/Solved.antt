-- What a pass over a plain design's drivers leaves solves it.
use Rattle.std.proofs.Common.{◌≡◌, ℕ, zero, suc, ◌<◌, ◌≤◌, ◌^◌, List, [], ◌∷◌, length, get_or, refl, sym, ◌∙◌, ap, subst, arith, Some, None, Bool, true, false, inl, inr}
use Rattle.std.specs.Prelude.{slice_index, slice_get, ◌⊎◌}
use Rattle.std.specs.List.{AllByRecursion}
use Rattle.std.specs.Int.{bit_at}
use Rattle.std.proofs.lemmas.List.{length-map, get_or-map, get_or_past}
use Rattle.std.proofs.lemmas.Option.{slice_get_within, slice_get_cases, get_or_from_slice_get, same_Some}
use Rattle.bit_ops.specs.declared.value.Bits.{Bits}
use Rattle.net_ir.specs.declared.design.Role.{Role}
use Rattle.net_ir.specs.declared.design.Role.TheVariants.{Input, Output, Inner}
use Rattle.net_ir.specs.declared.design.Var.{Var}
use Rattle.net_ir.specs.declared.design.Driver.{Driver}
use Rattle.net_ir.specs.declared.design.Spec.{Spec}
use Rattle.bit_ops.specs.Lists.{words, widths}
use Rattle.net_ir.specs.Value.{AreWordsOf, widths_of}
use Rattle.net_ir.specs.Drive.{holds}
use Rattle.net_ir.specs.Face.{stands_in}
use Rattle.sv_base.specs.Meaning.{State}
use Rattle.net_ir.specs.Register.{Register, registers_of}
use Rattle.net_ir.specs.Solution.{Solves, IsValuation, IsHeld}
use Rattle.plain_run.specs.Plain.{IsPlain, IsInput, SparesInputs, written_by, NoneNames, NoneGives}
use Rattle.plain_run.specs.code.Pass.{run, source_at, source_of, sources_of, state_of, KeepsInitial}
use Rattle.net_values.proofs.Elements.{all_both}
use Rattle.plain_run.proofs.Order.{run_length, run_small, run_spares, run_leaves, drives_all, none_gives, none_given, none_holds, held_alone, held_named}
use Rattle.plain_run.proofs.Named.{all_standing}
use Rattle.plain_run.proofs.Registers.{IsHeldBy, held_registers}
use Rattle.net_values.proofs.Variables.{length-widths, width_is}
use Rattle.plain_run.proofs.Unique.{small_words}
use Rattle.plain_run.proofs.Passes.{length_from_widths, long_words, source_index, sources_widths}

-- a value at a number below their count
value_at : (values : List Bits) (x : ℕ) → x < length values → (b : Bits) × (b ≡ get_or values x b)
value_at [] x within = absurd (omega arith)
value_at (b ∷ values) zero within = (b, refl)
value_at (b ∷ values) (suc x) within = value_at values x (omega arith)

word_at : (values : List Bits) (x : ℕ) (b : Bits) → x < length values → b ≡ get_or values x b → slice_index (words values) x ≡ b.word
word_at values x b within is = get_or-map (λ (v : Bits). v.word) values x b 0 within ∙ ap (λ (v : Bits). v.word) (sym is)

-- values of the variables' widths are a valuation
pub are_valuation : (vars : List Var) (values : List Bits) → widths values ≡ widths_of vars → IsValuation vars (words values)
are_valuation vars values is = record {
  each = length-map values (λ b. b.word) ∙ length_from_widths values vars is;
  fits = λ x v at.
      let within : x < length values = subst (λ n. x < n) (sym (length_from_widths values vars is)) (slice_get_within vars x v at) in
      let found = value_at values x within in
      let same : found.0.width ≡ v.width =
      sym (get_or-map (λ (b : Bits). b.width) values x found.0 0 within ∙ ap (λ (b : Bits). b.width) (sym found.1))
      ∙ ap (λ ws. slice_index ws x) is ∙ width_is vars x v at in
      let fits : found.0.word < 2 ^ found.0.width = found.0.fits in
      subst (λ n. n < 2 ^ v.width) (sym (word_at values x found.0 within found.1)) (subst (λ w. found.0.word < 2 ^ w) same fits);
}

-- ---- what stands before the drivers

-- the word of an input is the level, and that of another variable what is held
source_input : (r : Role) (input held : Bits) → r ≡ Input → (source_at r input held).word ≡ input.word
source_input r input held is = ap (λ q. (source_at q input held).word) is

source_held : (r : Role) (input held : Bits) → (r ≡ Input → ⊥) → (source_at r input held).word ≡ held.word
source_held Input input held inner = absurd (inner refl)
source_held Output input held inner = refl
source_held Inner input held inner = refl

-- a value in each of the two lists, and what they give
record Sources (inputs held sources : List Bits) (x : ℕ) (v : Var) : Type 0 where
  input : Bits
  register : Bits
  level : slice_index (words inputs) x ≡ input.word
  kept : slice_index (words held) x ≡ register.word
  before : slice_index (words sources) x ≡ (source_of v input register).word

sources_at : (vars : List Var) (inputs held : List Bits) (x : ℕ) (v : Var) → widths inputs ≡ widths_of vars → widths held ≡ widths_of vars →
    slice_get vars x ≡ Some v → Sources inputs held (sources_of vars inputs held) x v
sources_at vars inputs held x v is_inputs is_held at =
    let here : x < length vars = slice_get_within vars x v at in
    let there : x < length inputs = subst (λ n. x < n) (sym (length_from_widths inputs vars is_inputs)) here in
    let near : x < length held = subst (λ n. x < n) (sym (length_from_widths held vars is_held)) here in
    let long : length (sources_of vars inputs held) ≡ length vars =
    length_from_widths (sources_of vars inputs held) vars (sources_widths vars inputs held is_inputs is_held) in
    let i = value_at inputs x there in
    let h = value_at held x near in
    let v_is : v ≡ get_or vars x v = sym (get_or_from_slice_get vars x v v at) in record {
      input = i.0;
      register = h.0;
      level = word_at inputs x i.0 there i.1;
      kept = word_at held x h.0 near h.1;
      before = word_at (sources_of vars inputs held) x (source_of v i.0 h.0) (subst (λ n. x < n) (sym long) here)
          (sym (source_index vars inputs held x v i.0 h.0 (source_of v i.0 h.0) here there near v_is i.1 h.1));
    }

before_input : (vars : List Var) (inputs held : List Bits) (x : ℕ) (v : Var) → widths inputs ≡ widths_of vars → widths held ≡ widths_of vars →
    slice_get vars x ≡ Some v → v.role ≡ Input → slice_index (words (sources_of vars inputs held)) x ≡ slice_index (words inputs) x
before_input vars inputs held x v is_inputs is_held at input =
    let s = sources_at vars inputs held x v is_inputs is_held at in
    s.before ∙ source_input v.role s.input s.register input ∙ sym s.level

before_held : (vars : List Var) (inputs held : List Bits) (x : ℕ) (v : Var) → widths inputs ≡ widths_of vars → widths held ≡ widths_of vars →
    slice_get vars x ≡ Some v → (v.role ≡ Input → ⊥) → slice_index (words (sources_of vars inputs held)) x ≡ slice_index (words held) x
before_held vars inputs held x v is_inputs is_held at inner =
    let s = sources_at vars inputs held x v is_inputs is_held at in
    s.before ∙ source_held v.role s.input s.register inner ∙ sym s.kept

-- what is no input has what is held, also where no variable stands
before_inner : (vars : List Var) (inputs held : List Bits) (x : ℕ) → widths inputs ≡ widths_of vars → widths held ≡ widths_of vars → (IsInput vars x → ⊥) →
    slice_index (words (sources_of vars inputs held)) x ≡ slice_index (words held) x
before_inner vars inputs held x is_inputs is_held inner = by_case (slice_get_cases vars x).1 where
  none_past : (values : List Bits) → widths values ≡ widths_of vars → length vars ≤ x → slice_index (words values) x ≡ 0
  none_past values is past =
      get_or_past (words values) x 0 (subst (λ n. n ≤ x) (sym (length-map values (λ b. b.word) ∙ length_from_widths values vars is)) past)

  by_case : ((v : Var) × (x < length vars) × (slice_get vars x ≡ Some v) × (get_or vars x v ≡ v)) ⊎ ((length vars ≤ x) × (slice_get vars x ≡ None)) →
      slice_index (words (sources_of vars inputs held)) x ≡ slice_index (words held) x
  by_case (inl found) = before_held vars inputs held x found.0 is_inputs is_held found.2 (λ input. inner (found.0, found.2, input))
  by_case (inr past) = none_past (sources_of vars inputs held) (sources_widths vars inputs held is_inputs is_held) past.0 ∙ sym (none_past held is_held past.0)

-- a variable of another role is no input
pub not_input : (vars : List Var) (x : ℕ) (v : Var) → slice_get vars x ≡ Some v → (v.role ≡ Input → ⊥) → IsInput vars x → ⊥
not_input vars x v at inner input =
    let same : v ≡ input.0 = same_Some v input.0 (sym at ∙ input.1) in
    inner (ap (λ (w : Var). w.role) same ∙ input.2)

-- no driver names an input
spared : (vars : List Var) (drivers : List Driver) (x : ℕ) → AllByRecursion (SparesInputs vars) drivers → IsInput vars x → NoneNames drivers x
spared vars [] x spares input = tt
spared vars (d ∷ drivers) x spares input = (by_test (stands_in x (written_by d)) refl, spared vars drivers x spares.1 input) where
  by_test : (t : Bool) → stands_in x (written_by d) ≡ t → t ≡ false
  by_test false is = refl
  by_test true is = absurd (all_standing (λ y. IsInput vars y → ⊥) (written_by d) x spares.0 is input)

-- ---- the solution

-- words of the variables' widths are a valuation
pub valued : (vars : List Var) (u : List ℕ) → length u ≡ length vars → AreWordsOf (widths_of vars) u → IsValuation vars u
valued vars u each small = record {
  each = each;
  fits = λ x v at. subst (λ n. slice_index u x < 2 ^ n) (width_is vars x v at)
      (small x (subst (λ n. x < n) (sym (length-widths vars)) (slice_get_within vars x v at)));
}

-- What a pass leaves solves a state, where the inputs stand before it as they are set, all else as it is held, and from what drivers
-- hold follows what registers have.
pub pass_solves : (spec : Spec) (state : State) (held before : List ℕ) → IsPlain spec → length before ≡ length spec.vars →
    AreWordsOf (widths_of spec.vars) before →
    ((x : ℕ) (v : Var) → slice_get spec.vars x ≡ Some v → v.role ≡ Input → slice_index before x ≡ slice_index state.inputs x) →
    ((x : ℕ) → (IsInput spec.vars x → ⊥) → slice_index before x ≡ slice_index held x) →
    KeepsInitial spec held →
    (AllByRecursion (IsHeldBy spec.vars held (run spec.vars spec.drivers before)) spec.drivers →
    (i : ℕ) (r : Register) → slice_get (registers_of spec) i ≡ Some r → IsHeld state.registers (run spec.vars spec.drivers before) i r) →
    Solves spec state (run spec.vars spec.drivers before)
pass_solves spec state held before plain each small before_input before_inner initial registers =
    let vars = spec.vars in
    let u = run vars spec.drivers before in
    let long : length before ≡ length (widths_of vars) = each ∙ sym (length-widths vars) in
    let leaves : (x : ℕ) → NoneGives spec.drivers x → slice_index u x ≡ slice_index before x = λ x none. run_leaves vars spec.drivers before x long plain.timely none in
    let Apart : Driver → Type 0 = λ d. (x k : ℕ) → holds vars d x k ≡ true → NoneGives spec.drivers x in
    record {
      valuation = valued vars u (run_length vars spec.drivers before ∙ each) (run_small vars spec.drivers before long small);
      set = λ x v at input. leaves x (none_gives spec.drivers x (spared vars spec.drivers x plain.inner (v, at, input))) ∙ before_input x v at input;
      registered = registers (all_both (SparesInputs vars) Apart (IsHeldBy vars held u)
          (λ d spares apart x k holding. ap (λ n. bit_at n k)
          (leaves x (apart x k holding) ∙ before_inner x (all_standing (λ y. IsInput vars y → ⊥) (written_by d) x spares (held_named vars d x k holding))))
          spec.drivers plain.inner (held_alone vars spec.drivers plain.ordered));
      driven = drives_all vars spec.drivers before long plain.timely plain.ordered;
      undriven = λ x k v at inner within none.
          run_spares vars spec.drivers before x k long plain.timely (none_given vars spec.drivers x k none)
          ∙ ap (λ n. bit_at n k) (before_inner x (not_input vars x v at inner))
          ∙ initial x k v at within (none_holds vars spec.drivers x k none);
    }

-- a pass over what stands of levels and of held words solves their state
pub run_solves : (spec : Spec) (inputs held : List Bits) → IsPlain spec → widths inputs ≡ widths_of spec.vars → widths held ≡ widths_of spec.vars →
    KeepsInitial spec (words held) → Solves spec (state_of spec inputs held) (run spec.vars spec.drivers (words (sources_of spec.vars inputs held)))
run_solves spec inputs held plain is_inputs is_held initial =
    let vars = spec.vars in
    let sources = sources_of vars inputs held in
    let are : widths sources ≡ widths_of vars = sources_widths vars inputs held is_inputs is_held in
    pass_solves spec (state_of spec inputs held) (words held) (words sources) plain (long_words sources vars are)
    (small_words vars (words sources) (are_valuation vars sources are))
    (λ x v at input. before_input vars inputs held x v is_inputs is_held at input)
    (λ x inner. before_inner vars inputs held x is_inputs is_held inner)
    initial (held_registers spec (words held) (run vars spec.drivers (words sources)))
