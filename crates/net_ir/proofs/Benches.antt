-- What a bench of a design plays is a run of the design.
use Rattle.std.proofs.Common.{◌≡◌, ℕ, zero, suc, ◌<◌, ◌≤◌, ◌^◌, List, [], ◌∷◌, length, map, Bool, false, refl, sym, ◌∙◌, ap, subst, arith, Some, inl, inr}
use Rattle.std.specs.Prelude.{slice_index, slice_get, slice_set, ◌⊎◌}
use Rattle.std.specs.List.{AllByRecursion}
use Rattle.std.proofs.lemmas.Nat.{pow_pos}
use Rattle.std.proofs.lemmas.List.{length-map, length-set, get_or-set_same, get_or-set_other}
use Rattle.std.proofs.lemmas.Option.{slice_get_within, same_Some}
use Rattle.sv_base.specs.declared.face.Class.{Class}
use Rattle.sv_base.specs.declared.face.Port.{Port}
use Rattle.sv_base.specs.Classes.{is_clock, is_output, words_of_class}
use Rattle.sv_base.specs.Steps.{Step, Values, Clocks, Setting, set_all, values_may_set, clocks_may_set, IsFitting, StepFits}
use Rattle.sv_base.specs.Runs.{Runs}
use Rattle.sv_base.specs.Meaning.{State, held_in, ShowsRow, StepsTo, Plays, row_of}
use Rattle.net_ir.specs.declared.design.Spec.{Spec}
use Rattle.net_ir.specs.Face.{ports_of}
use Rattle.net_ir.specs.Run.{start}
use Rattle.net_ir.specs.Solution.{Solves}
use Rattle.net_ir.specs.Stepping.{Samples, Follows}
use Rattle.net_ir.specs.Trace.{Shows}
use Rattle.net_ir.specs.Idle.{DifferInIdle, IsAlike, IgnoresIdle}
use Rattle.net_ir.specs.Benched.{IsHeldOf, ShowsOutputs, SamplesWords, meaning_of}
use Rattle.net_ir.proofs.Marking.{same_or_other}
use Rattle.net_ir.proofs.Ports.{port_is, ports_among, no_output_role, row_is}

-- ---- levels

-- there is a level for each port, and it fits the port
pub record HaveLevels (ports : List Port) (levels : List ℕ) : Type 0 where
  pub each : length levels ≡ length ports
  pub fits : (x : ℕ) (p : Port) → slice_get ports x ≡ Some p → slice_index levels x < 2 ^ p.width

all_zero : (ports : List Port) (x : ℕ) → slice_index (map (λ _. 0) ports) x ≡ 0
all_zero [] x = refl
all_zero (p ∷ ports) zero = refl
all_zero (p ∷ ports) (suc x) = all_zero ports x

first_levels : (ports : List Port) → HaveLevels ports (map (λ _. 0) ports)
first_levels ports = record {
  each = length-map ports (λ _. 0);
  fits = λ x p at. subst (λ n. n < 2 ^ p.width) (sym (all_zero ports x)) (pow_pos p.width);
}

setting_levels : (may_set : Class → ℕ → Bool) (ports : List Port) (s : Setting) (levels : List ℕ) → HaveLevels ports levels →
    IsFitting may_set ports s → HaveLevels ports (slice_set levels s.port s.word)
setting_levels may_set ports s levels have fitting = record {
  each = length-set levels s.port s.word ∙ have.each;
  fits = λ x p at. by_case x p at (same_or_other s.port x);
} where
  by_case : (x : ℕ) (p : Port) → slice_get ports x ≡ Some p → (s.port ≡ x) ⊎ (s.port ≡ x → ⊥) → slice_index (slice_set levels s.port s.word) x < 2 ^ p.width
  by_case x p at (inl here) =
      let found : slice_get ports s.port ≡ Some p = subst (λ y. slice_get ports y ≡ Some p) (sym here) at in
      let same : fitting.port ≡ p = same_Some fitting.port p (sym fitting.at ∙ found) in
      let within : s.port < length levels = subst (λ n. s.port < n) (sym have.each) (slice_get_within ports s.port p found) in
      let set_to : slice_index (slice_set levels s.port s.word) s.port ≡ s.word = get_or-set_same levels s.port s.word 0 within in
      subst (λ y. slice_index (slice_set levels s.port s.word) y < 2 ^ p.width) here
      (subst (λ n. n < 2 ^ p.width) (sym set_to) (subst (λ (q : Port). s.word < 2 ^ q.width) same fitting.word_fits))
  by_case x p at (inr other) =
      subst (λ n. n < 2 ^ p.width) (sym (get_or-set_other levels s.port x s.word 0 (λ same. other (sym same)))) (have.fits x p at)

all_levels : (may_set : Class → ℕ → Bool) (ports : List Port) (settings : List Setting) (levels : List ℕ) → HaveLevels ports levels →
    AllByRecursion (IsFitting may_set ports) settings → HaveLevels ports (set_all settings levels)
all_levels may_set ports [] levels have fit = have
all_levels may_set ports (s ∷ settings) levels have fit =
    all_levels may_set ports settings (slice_set levels s.port s.word) (setting_levels may_set ports s levels have fit.0) fit.1

-- ---- rows, and what registers sample

-- a state of which the bench holds the same differs from this only in idle inputs
held_differs : (spec : Spec) (s t : State) → HaveLevels (ports_of spec) t.inputs →
    IsHeldOf spec (held_in (ports_of spec) t) s → DifferInIdle (ports_of spec) s t
held_differs spec s t have held = record {
  long = held.long;
  also_long = let same = have.each in omega arith;
  same = held.same;
  fits = λ x p at idle. have.fits x p at;
}

inputs_same : (spec : Spec) (state : State) (v : List ℕ) → Solves spec state v → (x : ℕ) (p : Port) → slice_get (ports_of spec) x ≡ Some p → is_output p.class ≡ false → slice_index state.inputs x ≡ slice_index v x
inputs_same spec state v solves x p at is =
    let port = port_is spec x p at in
    sym (solves.set x port.variable port.at (no_output_role spec x port.variable.role (sym (ap (λ (q : Port). is_output q.class) port.is) ∙ is)))

-- a row that the bench shows is the design's
row_shown : (spec : Spec) (state : State) (row : List ℕ) → IgnoresIdle spec →
    HaveLevels (ports_of spec) state.inputs → ShowsRow (meaning_of spec) state row → Shows spec state row
row_shown spec state row idle have shows =
    let ports = ports_of spec in
    let shown : ShowsOutputs spec (held_in ports state) shows.outputs = shows.shown in
    let differ : DifferInIdle ports shown.state state = held_differs spec shown.state state have shown.held_of in
    let alike : IsAlike spec shown.state state shown.solution = idle shown.state state shown.solution differ shown.solves in
    let v : List ℕ = alike.solution in
    let long : length ports ≤ length v = subst (λ n. length ports ≤ n) (sym alike.solves.valuation.each) (ports_among spec) in record {
      solution = v;
      solves = alike.solves;
      row_is = shows.row_is
          ∙ ap (row_of ports state.inputs) (shown.outputs_are ∙ sym alike.outputs)
          ∙ row_is ports state.inputs v long (inputs_same spec state v alike.solves);
    }

-- what the registers of the bench sample, those of the design do
samples_in : (spec : Spec) (old : State) (levels registers : List ℕ) → IgnoresIdle spec → HaveLevels (ports_of spec) old.inputs →
    length (ports_of spec) ≤ length levels →
    SamplesWords spec (held_in (ports_of spec) old) (words_of_class is_clock (ports_of spec) levels) registers →
    (v : List ℕ) × Solves spec old v × Samples spec v old.inputs levels old.registers registers
samples_in spec old levels registers idle have long sampled =
    let differ : DifferInIdle (ports_of spec) sampled.state old = held_differs spec sampled.state old have sampled.held_of in
    let alike : IsAlike spec sampled.state old sampled.solution = idle sampled.state old sampled.solution differ sampled.solves in
    (alike.solution, alike.solves, alike.samples sampled.after levels registers sampled.long long sampled.levels_are sampled.samples)

-- ---- runs

step_levels : (spec : Spec) (old : State) (step : Step) (new : State) → HaveLevels (ports_of spec) old.inputs →
    StepFits (ports_of spec) step → StepsTo (meaning_of spec) old step new → HaveLevels (ports_of spec) new.inputs
step_levels spec old (Values settings) new have fits steps =
    subst (HaveLevels (ports_of spec)) (sym steps.0) (all_levels values_may_set (ports_of spec) settings old.inputs have fits)
step_levels spec old (Clocks settings) new have fits steps =
    subst (HaveLevels (ports_of spec)) (sym steps.0) (all_levels clocks_may_set (ports_of spec) settings old.inputs have fits)

step_follows : (spec : Spec) (old : State) (step : Step) (new : State) → IgnoresIdle spec → HaveLevels (ports_of spec) old.inputs →
    HaveLevels (ports_of spec) new.inputs → StepsTo (meaning_of spec) old step new → Follows spec old step new
step_follows spec old (Values settings) new idle have have_new steps = steps
step_follows spec old (Clocks settings) new idle have have_new steps =
    (steps.0, samples_in spec old new.inputs new.registers idle have (let same = have_new.each in omega arith) steps.1)

bench_run : (spec : Spec) (state : State) (steps : List Step) (rows : List (List ℕ)) (last : State) → IgnoresIdle spec →
    HaveLevels (ports_of spec) state.inputs → AllByRecursion (StepFits (ports_of spec)) steps →
    Runs (ShowsRow (meaning_of spec)) (StepsTo (meaning_of spec)) state steps rows last → Runs (Shows spec) (Follows spec) state steps rows last
bench_run spec state [] rows last idle have fits run = record {
  row = run.row;
  shown = row_shown spec state run.row idle have run.shown;
  rows_are = run.rows_are;
  last_is = run.last_is;
}
bench_run spec state (step ∷ steps) rows last idle have fits run =
    let have_next : HaveLevels (ports_of spec) run.next.inputs = step_levels spec state step run.next have fits.0 run.follows_to in record {
      row = run.row;
      shown = row_shown spec state run.row idle have run.shown;
      next = run.next;
      follows_to = step_follows spec state step run.next idle have have_next run.follows_to;
      rest = run.rest;
      goes = bench_run spec run.next steps run.rest last idle have_next fits.1 run.goes;
      rows_are = run.rows_are;
    }

pub benched_run : (spec : Spec) (steps : List Step) (rows : List (List ℕ)) (last : State) → IgnoresIdle spec →
    AllByRecursion (StepFits (ports_of spec)) steps → Plays (meaning_of spec) steps rows last → Runs (Shows spec) (Follows spec) (start spec) steps rows last
benched_run spec steps rows last idle fits plays = bench_run spec (start spec) steps rows last idle (first_levels (ports_of spec)) fits plays
