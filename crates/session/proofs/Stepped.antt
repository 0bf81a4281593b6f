-- What a step of a bench makes of a state of which it holds its part.
use Rattle.std.proofs.Common.{◌≡◌, ℕ, zero, suc, Bool, false, List, [], ◌∷◌, None, Some, refl, sym, ◌∙◌, ap, subst}
use Rattle.std.specs.Prelude.{slice_get, slice_set, if◌then◌else◌}
use Rattle.std.specs.List.{AllByRecursion}
use Rattle.sv_base.specs.declared.face.Class.{Class}
use Rattle.sv_base.specs.declared.face.Class.TheVariants as class
use Rattle.sv_base.specs.declared.face.Port.{Port}
use Rattle.sv_base.specs.Classes.{is_value, is_clock, words_of_class}
use Rattle.sv_base.specs.Steps.{Setting, set_all}
use Rattle.sv_base.specs.Meaning.{State, Held, Meaning, held_in, StepsTo}
use Rattle.stimulus_reader.specs.declared.step.StepKind.{StepKind}
use Rattle.stimulus_reader.specs.declared.step.StepKind.TheVariants as kind
use Rattle.stimulus_reader.specs.Stimulus.{class_fault, step_of}
use Rattle.stimulus_reader.specs.Reading.{IsSettable}

-- what is held is what its parts are
same_held : (h k : Held) → h.values ≡ k.values → h.levels ≡ k.levels → h.registers ≡ k.registers → h ≡ k
same_held h k values levels registers =
    ap (λ v. record { values = v; levels = h.levels; registers = h.registers }) values
    ∙ ap (λ l. record { values = k.values; levels = l; registers = h.registers }) levels
    ∙ ap (λ r. record { values = k.values; levels = k.levels; registers = r }) registers

-- ---- settings of other classes

-- the words of some classes stay where the port of another is set
spared : (chosen : Class → Bool) (ports : List Port) (words : List ℕ) (x word : ℕ) (p : Port) → slice_get ports x ≡ Some p → chosen p.class ≡ false →
    words_of_class chosen ports (slice_set words x word) ≡ words_of_class chosen ports words
spared chosen [] words x word p at other = refl
spared chosen (q ∷ ports) [] x word p at other = refl
spared chosen (q ∷ ports) (w ∷ words) zero word p at other =
    let same : q ≡ p = let e : Some q ≡ Some p = at in cc in
    let no : chosen q.class ≡ false = ap (λ (r : Port). chosen r.class) same ∙ other in
    ap (λ b. if b then word ∷ words_of_class chosen ports words else words_of_class chosen ports words) no
    ∙ sym (ap (λ b. if b then w ∷ words_of_class chosen ports words else words_of_class chosen ports words) no)
spared chosen (q ∷ ports) (w ∷ words) (suc x) word p at other =
    ap (λ ws. if chosen q.class then w ∷ ws else ws) (spared chosen ports words x word p at other)

-- so where each setting is of a line that sets none of them
spared_all : (chosen : Class → Bool) (of : StepKind) → ((c : Class) (width : ℕ) → class_fault of c width ≡ None → chosen c ≡ false) →
    (ports : List Port) (settings : List Setting) (words : List ℕ) → AllByRecursion (IsSettable ports of) settings →
    words_of_class chosen ports (set_all settings words) ≡ words_of_class chosen ports words
spared_all chosen of others ports [] words settable = refl
spared_all chosen of others ports (s ∷ settings) words settable =
    spared_all chosen of others ports settings (slice_set words s.port s.word) settable.1
    ∙ spared chosen ports words s.port s.word settable.0.port settable.0.at (others settable.0.port.class settable.0.port.width settable.0.class_fits)

-- a line of data sets no clock
no_clock : (c : Class) (width : ℕ) → class_fault kind.Values c width ≡ None → is_clock c ≡ false
no_clock class.Value width fits = refl
no_clock class.Clock width fits = absurd (cc)
no_clock class.Idle width fits = refl
no_clock class.Output width fits = refl

-- a line of clocks sets no data input
no_value : (c : Class) (width : ℕ) → class_fault kind.Clocks c width ≡ None → is_value c ≡ false
no_value class.Value width fits = absurd (cc)
no_value class.Clock width fits = refl
no_value class.Idle width fits = refl
no_value class.Output width fits = refl

-- ---- steps

-- a state to which the step leads, whose inputs are these and of which the bench holds this
abbrev pub Leads : Meaning → List Port → State → StepKind → List Setting → List ℕ → Held → Type 0
Leads meaning ports state of settings values held =
    (next : State) × StepsTo meaning state (step_of of settings) next × (next.inputs ≡ values) × (held_in ports next ≡ held)

pub data_step : (meaning : Meaning) (ports : List Port) (state : State) (of : StepKind) (settings : List Setting) (values : List ℕ) (old new : Held) →
    of ≡ kind.Values →
    held_in ports state ≡ old → AllByRecursion (IsSettable ports of) settings → values ≡ set_all settings state.inputs →
    new.values ≡ words_of_class is_value ports values → new.levels ≡ old.levels → new.registers ≡ old.registers →
    Leads meaning ports state of settings values new
data_step meaning ports state of settings values old new is holds settable set values_are levels_are registers_are =
    let next : State = record { inputs = values; registers = state.registers } in
    let here = subst (λ k. AllByRecursion (IsSettable ports k) settings) is settable in
    let clocks = ap (words_of_class is_clock ports) set ∙ spared_all is_clock kind.Values no_clock ports settings state.inputs here in (
      next,
      subst (λ k. StepsTo meaning state (step_of k settings) next) (sym is) (set, refl),
      refl,
      same_held (held_in ports next) new (sym values_are) (clocks ∙ ap (λ (h : Held). h.levels) holds ∙ sym levels_are)
          (ap (λ (h : Held). h.registers) holds ∙ sym registers_are),
    )

pub clock_step : (meaning : Meaning) (ports : List Port) (state : State) (of : StepKind) (settings : List Setting) (values levels : List ℕ) (old new : Held) →
    of ≡ kind.Clocks →
    ports ≡ meaning.ports → held_in ports state ≡ old → AllByRecursion (IsSettable ports of) settings → values ≡ set_all settings state.inputs →
    levels ≡ words_of_class is_clock ports values → new.values ≡ old.values → new.levels ≡ levels → meaning.samples old levels new.registers →
    Leads meaning ports state of settings values new
clock_step meaning ports state of settings values levels old new is same holds settable set taken values_are levels_are samples =
    let next : State = record { inputs = values; registers = new.registers } in
    let here = subst (λ k. AllByRecursion (IsSettable ports k) settings) is settable in
    let values_kept = ap (words_of_class is_value ports) set ∙ spared_all is_value kind.Clocks no_value ports settings state.inputs here in
    let sampled : meaning.samples (held_in meaning.ports state) (words_of_class is_clock meaning.ports values) new.registers =
    subst (λ ps. meaning.samples (held_in ps state) (words_of_class is_clock ps values) new.registers) same
    (subst (λ ls. meaning.samples (held_in ports state) ls new.registers) taken (subst (λ h. meaning.samples h levels new.registers) (sym holds) samples)) in (
      next,
      subst (λ k. StepsTo meaning state (step_of k settings) next) (sym is) (set, sampled),
      refl,
      same_held (held_in ports next) new (values_kept ∙ ap (λ (h : Held). h.values) holds ∙ sym values_are) (sym taken ∙ sym levels_are) refl,
    )
