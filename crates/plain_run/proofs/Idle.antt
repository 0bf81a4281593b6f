-- Idle inputs are idle: nothing depends on their levels.
use Rattle.std.proofs.Common.{◌≡◌, ℕ, ◌<◌, ◌≤◌, ◌^◌, ◌+◌, List, length, get_or, Bool, true, false, refl, sym, ◌∙◌, ap, subst, Option, None, Some, inl, inr}
use Rattle.std.specs.Prelude.{slice_index, slice_get, ◌⊎◌}
use Rattle.std.specs.List.{AllByRecursion}
use Rattle.std.specs.Int.{bit_at}
use Rattle.std.proofs.lemmas.List.{get_or_past}
use Rattle.std.proofs.lemmas.Option.{slice_get_cases}
use Rattle.sv_base.specs.Meaning.{State, Held}
use Rattle.sv_base.specs.declared.face.Class.{Class}
use Rattle.sv_base.specs.declared.face.Class.TheVariants as class
use Rattle.sv_base.specs.declared.face.Class.TheVariants.{Idle}
use Rattle.sv_base.specs.declared.face.Port.{Port}
use Rattle.sv_base.specs.Classes.{is_clock, is_output, words_of_class}
use Rattle.net_ir.specs.declared.design.Role.{Role}
use Rattle.net_ir.specs.declared.design.Role.TheVariants.{Input, Output, Inner}
use Rattle.net_ir.specs.declared.design.Var.{Var}
use Rattle.net_ir.specs.declared.design.Trigger.{Trigger}
use Rattle.net_ir.specs.declared.design.Driver.{Driver}
use Rattle.net_ir.specs.declared.design.Driver.TheVariants as driver
use Rattle.net_ir.specs.declared.design.Driver.TheVariants.{Assign, Comb, Clocked}
use Rattle.net_ir.specs.declared.design.Spec.{Spec}
use Rattle.net_ir.specs.Target.{var_list}
use Rattle.net_ir.specs.Drive.{depends_on, driver_reads, driver_clocks, holds}
use Rattle.net_ir.specs.Face.{stands_in, clocks_of, all_reads, input_class, class_of, port_of, ports_of}
use Rattle.net_ir.specs.Solution.{Solves, IsDriven, IsHeld}
use Rattle.net_ir.specs.Stepping.{Samples}
use Rattle.plain_run.specs.Plain.{IsPlain, IsTimely, IsInput, SparesInputs, IsPlainClock, IsPlainTrigger, HasPlainClocks, written_by}
use Rattle.net_ir.specs.Register.{Register, registers_of}
use Rattle.net_ir.specs.Facts.{HasPortsFirst}
use Rattle.net_ir.specs.Idle.{DifferInIdle, IgnoresIdle}
use Rattle.net_values.specs.Writes.{AgreeOn}
use Rattle.net_values.proofs.Elements.{all_from, all_both, all_flat, each_flat}
use Rattle.plain_run.proofs.WordsBy.{words_by, length-words_by, word_at}
use Rattle.plain_run.proofs.Sampled.{ReadsAgree, all_stand, samples_same}
use Rattle.plain_run.proofs.Named.{all_standing}
use Rattle.plain_run.proofs.Order.{given_is_driven, gives_alike, driven_is_named, held_named}
use Rattle.plain_run.proofs.Registers.{holder_holds, register_bit}
use Rattle.plain_run.proofs.Ports.{LevelsAgree, port_is, ports_among, idle_role, output_not_idle, input_port, same_at, same_words, levels_agree}

-- ---- classes

-- an input that stands in an event control is a clock
clock_class : (spec : Spec) (x : ℕ) (r : Role) → r ≡ Input → stands_in x (clocks_of spec) ≡ true → is_clock (class_of spec x r) ≡ true
clock_class spec x Input input here = ap (λ c. is_clock (input_class c (stands_in x (all_reads spec)))) here
clock_class spec x Output input here = absurd (cc)
clock_class spec x Inner input here = absurd (cc)

-- what expressions read is not idle
read_not_idle : (clock : Bool) → input_class clock true ≡ Idle → ⊥
read_not_idle true idle = let clash : class.Clock ≡ Idle = idle in cc
read_not_idle false idle = let clash : class.Value ≡ Idle = idle in cc

read_class : (spec : Spec) (x : ℕ) (r : Role) → stands_in x (all_reads spec) ≡ true → class_of spec x r ≡ Idle → ⊥
read_class spec x Input here idle =
    read_not_idle (stands_in x (clocks_of spec)) (sym (ap (λ r. input_class (stands_in x (clocks_of spec)) r) here) ∙ idle)
read_class spec x Output here idle = let clash : class.Output ≡ Idle = idle in cc
read_class spec x Inner here idle = let clash : class.Output ≡ Idle = idle in cc

-- nor is what is no input
pub inner_class : (spec : Spec) (x : ℕ) (r : Role) → (r ≡ Input → ⊥) → class_of spec x r ≡ Idle → ⊥
inner_class spec x Input inner idle = inner refl
inner_class spec x Output inner idle = let clash : class.Output ≡ Idle = idle in cc
inner_class spec x Inner inner idle = let clash : class.Output ≡ Idle = idle in cc

-- ---- lists of words that agree but in idle inputs

-- two valuations have the same word for each variable that is no idle input
abbrev AgreeButIdle : Spec → List ℕ → List ℕ → Type 0
AgreeButIdle spec u v = (x : ℕ) (w : Var) → slice_get spec.vars x ≡ Some w → (class_of spec x w.role ≡ Idle → ⊥) → slice_index u x ≡ slice_index v x

-- where their lists are of one length they agree at a number that means no idle input, also where no variable stands
agree_at : (spec : Spec) (u v : List ℕ) (x : ℕ) → length u ≡ length spec.vars → length v ≡ length spec.vars → AgreeButIdle spec u v →
    ((w : Var) → slice_get spec.vars x ≡ Some w → class_of spec x w.role ≡ Idle → ⊥) → slice_index u x ≡ slice_index v x
agree_at spec u v x long_u long_v but none = by_case (slice_get_cases spec.vars x).1 where
  by_case : ((w : Var) × (x < length spec.vars) × (slice_get spec.vars x ≡ Some w) × (get_or spec.vars x w ≡ w)) ⊎ ((length spec.vars ≤ x) × (slice_get spec.vars x ≡ None)) →
      slice_index u x ≡ slice_index v x
  by_case (inl found) = but x found.0 found.2 (none found.0 found.2)
  by_case (inr past) =
      get_or_past u x 0 (subst (λ n. n ≤ x) (sym long_u) past.0) ∙ sym (get_or_past v x 0 (subst (λ n. n ≤ x) (sym long_v) past.0))

-- so at what each driver reads
agree_reads : (spec : Spec) (u v : List ℕ) → length u ≡ length spec.vars → length v ≡ length spec.vars → AgreeButIdle spec u v →
    AllByRecursion (ReadsAgree u v) spec.drivers
agree_reads spec u v long_u long_v but =
    each_flat (λ x. slice_index u x ≡ slice_index v x) driver_reads spec.drivers
    (all_from (λ x. stands_in x (all_reads spec) ≡ true) (λ x. slice_index u x ≡ slice_index v x)
    (λ x here. agree_at spec u v x long_u long_v but (λ w at. read_class spec x w.role here)) (all_reads spec) (all_stand (all_reads spec)))

-- and the words of outputs are the same
outputs_same : (spec : Spec) (u v : List ℕ) → length u ≡ length spec.vars → length v ≡ length spec.vars → AgreeButIdle spec u v →
    words_of_class is_output (ports_of spec) v ≡ words_of_class is_output (ports_of spec) u
outputs_same spec u v long_u long_v but =
    same_words is_output (ports_of spec) v u (long v long_v) (long u long_u) (λ x p at is. sym (same x p at is)) where
      long : (words : List ℕ) → length words ≡ length spec.vars → length (ports_of spec) ≤ length words
      long words each = subst (λ n. length (ports_of spec) ≤ n) (sym each) (ports_among spec)

      same : (x : ℕ) (p : Port) → slice_get (ports_of spec) x ≡ Some p → is_output p.class ≡ true → slice_index u x ≡ slice_index v x
      same x p at is =
          let port = port_is spec x p at in
          but x port.variable port.at (λ idle. output_not_idle p.class is (ap (λ (q : Port). q.class) port.is ∙ idle))

-- ---- what registers sample

trigger_clock : (spec : Spec) (var : Option ℕ) → IsPlainTrigger spec var → AllByRecursion (IsPlainClock spec) (var_list var)
trigger_clock spec None plain = tt
trigger_clock spec (Some clock) plain = (plain, tt)

plain_clocks : (spec : Spec) (d : Driver) → HasPlainClocks spec d → AllByRecursion (IsPlainClock spec) (driver_clocks d)
plain_clocks spec (Assign target value at) plain = tt
plain_clocks spec (Comb body at) plain = tt
plain_clocks spec (driver.Instance made) plain = tt
plain_clocks spec (Clocked triggers body at) plain =
    all_flat (IsPlainClock spec) (λ (t : Trigger). var_list t.var) triggers
    (all_from (λ (t : Trigger). IsPlainTrigger spec t.var) (λ (t : Trigger). AllByRecursion (IsPlainClock spec) (var_list t.var)) (λ t clock. trigger_clock spec t.var clock) triggers plain)

-- levels that are the same at clocks agree at what event controls name
agree_clocks : (spec : Spec) (levels others : List ℕ) → IsPlain spec → length (ports_of spec) ≤ length levels → length (ports_of spec) ≤ length others →
    words_of_class is_clock (ports_of spec) levels ≡ words_of_class is_clock (ports_of spec) others → AgreeOn (clocks_of spec) levels others
agree_clocks spec levels others plain long_levels long_others same =
    all_both (IsPlainClock spec) (λ x. stands_in x (clocks_of spec) ≡ true) (λ x. slice_index levels x ≡ slice_index others x)
    (λ x clock here. at_clock x clock.input here) (clocks_of spec)
    (all_flat (IsPlainClock spec) driver_clocks spec.drivers
    (all_from (HasPlainClocks spec) (λ d. AllByRecursion (IsPlainClock spec) (driver_clocks d)) (λ d clocks. plain_clocks spec d clocks) spec.drivers plain.clocks))
    (all_stand (clocks_of spec)) where
      at_clock : (x : ℕ) → IsInput spec.vars x → stands_in x (clocks_of spec) ≡ true → slice_index levels x ≡ slice_index others x
      at_clock x input here =
          same_at is_clock (ports_of spec) levels others x (port_of spec x input.0) long_levels long_others same
          (input_port spec x input.0 plain.lawful.ports input.1 input.2) (clock_class spec x input.0.role input.2 here)

-- ---- the solution with other levels of idle inputs

idle_or_not : (c : Class) → (c ≡ Idle) ⊎ (c ≡ Idle → ⊥)
idle_or_not class.Idle = inl refl
idle_or_not class.Value = inr (λ e. cc)
idle_or_not class.Clock = inr (λ e. cc)
idle_or_not class.Output = inr (λ e. cc)

-- the level where the class is idle, else the word
abbrev idle_or : Class → ℕ → ℕ → ℕ
idle_or class.Idle level word = level
idle_or class.Value level word = word
idle_or class.Clock level word = word
idle_or class.Output level word = word

word_if_not_idle : (c : Class) (level word : ℕ) → (c ≡ Idle → ⊥) → idle_or c level word ≡ word
word_if_not_idle class.Idle level word not_idle = absurd (not_idle refl)
word_if_not_idle class.Value level word not_idle = refl
word_if_not_idle class.Clock level word not_idle = refl
word_if_not_idle class.Output level word not_idle = refl

-- the words of u with these levels at idle inputs
abbrev idle_word : Spec → List ℕ → List ℕ → ℕ → Var → ℕ
idle_word spec levels u x w = idle_or (class_of spec x w.role) (slice_index levels x) (slice_index u x)

abbrev with_idle : Spec → List ℕ → List ℕ → List ℕ
with_idle spec levels u = words_by (idle_word spec levels u) 0 spec.vars

-- that valuation for two states that differ in idle inputs, and where it is as the first
idle_level : (spec : Spec) (levels u : List ℕ) (x : ℕ) (w : Var) → slice_get spec.vars x ≡ Some w → class_of spec x w.role ≡ Idle → slice_index (with_idle spec levels u) x ≡ slice_index levels x
idle_level spec levels u x w at idle = word_at (idle_word spec levels u) spec.vars x w at ∙ ap (λ c. idle_or c (slice_index levels x) (slice_index u x)) idle

same_word : (spec : Spec) (levels u : List ℕ) (x : ℕ) (w : Var) → slice_get spec.vars x ≡ Some w → (class_of spec x w.role ≡ Idle → ⊥) → slice_index u x ≡ slice_index (with_idle spec levels u) x
same_word spec levels u x w at not_idle =
    sym (word_at (idle_word spec levels u) spec.vars x w at ∙ word_if_not_idle (class_of spec x w.role) (slice_index levels x) (slice_index u x) not_idle)

agree_but : (spec : Spec) (levels u : List ℕ) → AgreeButIdle spec u (with_idle spec levels u)
agree_but spec levels u x w at not_idle = same_word spec levels u x w at not_idle

-- two lists that agree but in idle inputs agree at what is no input
agree_inner : (spec : Spec) (u v : List ℕ) (x : ℕ) → length u ≡ length spec.vars → length v ≡ length spec.vars → AgreeButIdle spec u v → (IsInput spec.vars x → ⊥) → slice_index u x ≡ slice_index v x
agree_inner spec u v x long_u long_v but inner =
    agree_at spec u v x long_u long_v but (λ w at. inner_class spec x w.role (λ input. inner (w, at, input)))

-- what a driver depends on it reads
depends_read : (P : ℕ → Type 0) (d : Driver) → AllByRecursion P (driver_reads d) → AllByRecursion P (depends_on d)
depends_read P (Assign target value at) all = all
depends_read P (Comb body at) all = all
depends_read P (Clocked triggers body at) all = tt
depends_read P (driver.Instance made) all = all

-- a driver that is met in the one is met in the other
driven_too : (spec : Spec) (u v : List ℕ) (d : Driver) → length u ≡ length spec.vars → length v ≡ length spec.vars → AgreeButIdle spec u v →
    IsTimely d → SparesInputs spec.vars d → ReadsAgree u v d → IsDriven spec.vars u d → IsDriven spec.vars v d
driven_too spec u v d long_u long_v but timely spares agree driven x k bit given =
    let reads : AgreeOn (depends_on d) u v = depends_read (λ y. slice_index u y ≡ slice_index v y) d agree in
    let named = driven_is_named spec.vars d x k (given_is_driven spec.vars d v x k bit timely given) in
    let inner : IsInput spec.vars x → ⊥ = all_standing (λ y. IsInput spec.vars y → ⊥) (written_by d) x spares named in
    ap (λ n. bit_at n k) (sym (agree_inner spec u v x long_u long_v but inner))
    ∙ driven x k bit (gives_alike spec.vars d u v x k timely reads ∙ given)

-- the variable of a register is no input
register_inner : (spec : Spec) (i : ℕ) (r : Register) (k : ℕ) → IsPlain spec → slice_get (registers_of spec) i ≡ Some r → k < r.width →
    IsInput spec.vars r.var → ⊥
register_inner spec i r k plain at below =
    let vars = spec.vars in
    holder_holds vars 0 spec.drivers r.var (r.low + k) r.driver (IsInput vars r.var → ⊥)
    (all_from (SparesInputs vars) (λ d. holds vars d r.var (r.low + k) ≡ true → IsInput vars r.var → ⊥)
    (λ d spares held. all_standing (λ y. IsInput vars y → ⊥) (written_by d) r.var spares (held_named vars d r.var (r.low + k) held)) spec.drivers plain.inner)
    (register_bit spec i r k at below).held

held_too : (spec : Spec) (kept kept_2 u v : List ℕ) (i : ℕ) (r : Register) → IsPlain spec → length u ≡ length spec.vars → length v ≡ length spec.vars → AgreeButIdle spec u v → kept_2 ≡ kept → slice_get (registers_of spec) i ≡ Some r → IsHeld kept u i r → IsHeld kept_2 v i r
held_too spec kept kept_2 u v i r plain long long_v but same at held k below =
    ap (λ n. bit_at n (r.low + k)) (sym (agree_inner spec u v r.var long long_v but (register_inner spec i r k plain at below)))
    ∙ held k below
    ∙ ap (λ words. bit_at (slice_index words i) k) (sym same)

-- two states that differ in idle inputs, variable by variable
record StatesAgree (spec : Spec) (s t : State) : Type 0 where
  inputs : LevelsAgree spec s.inputs t.inputs
  registers : t.registers ≡ s.registers
  fits : (x : ℕ) (w : Var) → slice_get spec.vars x ≡ Some w → class_of spec x w.role ≡ Idle → slice_index t.inputs x < 2 ^ w.width

states_agree : (spec : Spec) (s t : State) → HasPortsFirst spec → DifferInIdle (ports_of spec) s t → StatesAgree spec s t
states_agree spec s t first differ = record {
  inputs = levels_agree spec s.inputs t.inputs first differ.long differ.also_long
      (ap (λ (h : Held). h.values) differ.same)
      (ap (λ (h : Held). h.levels) differ.same);
  registers = sym (ap (λ (h : Held). h.registers) differ.same);
  fits = λ x w at idle. differ.fits x (port_of spec x w) (input_port spec x w first at (idle_role spec x w.role idle)) idle;
}

idle_solves : (spec : Spec) (s t : State) (u : List ℕ) → IsPlain spec → StatesAgree spec s t → Solves spec s u → Solves spec t (with_idle spec t.inputs u)
idle_solves spec s t u plain agree solves =
    let v = with_idle spec t.inputs u in
    let long = solves.valuation.each in
    let long_v : length v ≡ length spec.vars = length-words_by (idle_word spec t.inputs u) 0 spec.vars in
    let but : AgreeButIdle spec u v = agree_but spec t.inputs u in
    let Meets : Driver → Type 0 = λ d. IsTimely d × (SparesInputs spec.vars d × ReadsAgree u v d) in record {
      valuation = record {
        each = long_v;
        fits = λ x w at. fits x w at (idle_or_not (class_of spec x w.role));
      };
      set = λ x w at input. set x w at input (idle_or_not (class_of spec x w.role));
      registered = λ i r at. held_too spec s.registers t.registers u v i r plain long long_v but agree.registers at (solves.registered i r at);
      driven = all_both (IsDriven spec.vars u) Meets (IsDriven spec.vars v)
          (λ d driven both. driven_too spec u v d long long_v but both.0 both.1.0 both.1.1 driven) spec.drivers solves.driven
          (all_both IsTimely (λ d. SparesInputs spec.vars d × ReadsAgree u v d) Meets (λ d p q. (p, q)) spec.drivers plain.timely
          (all_both (SparesInputs spec.vars) (ReadsAgree u v) (λ d. SparesInputs spec.vars d × ReadsAgree u v d) (λ d p q. (p, q))
          spec.drivers plain.inner (agree_reads spec u v long long_v but)));
      undriven = λ x k w at inner within none.
          ap (λ n. bit_at n k) (sym (but x w at (inner_class spec x w.role inner))) ∙ solves.undriven x k w at inner within none;
    } where
      fits : (x : ℕ) (w : Var) → slice_get spec.vars x ≡ Some w → (class_of spec x w.role ≡ Idle) ⊎ (class_of spec x w.role ≡ Idle → ⊥) → slice_index (with_idle spec t.inputs u) x < 2 ^ w.width
      fits x w at (inl idle) = subst (λ n. n < 2 ^ w.width) (sym (idle_level spec t.inputs u x w at idle)) (agree.fits x w at idle)
      fits x w at (inr not_idle) = subst (λ n. n < 2 ^ w.width) (same_word spec t.inputs u x w at not_idle) (solves.valuation.fits x w at)

      set : (x : ℕ) (w : Var) → slice_get spec.vars x ≡ Some w → w.role ≡ Input → (class_of spec x w.role ≡ Idle) ⊎ (class_of spec x w.role ≡ Idle → ⊥) → slice_index (with_idle spec t.inputs u) x ≡ slice_index t.inputs x
      set x w at input (inl idle) = idle_level spec t.inputs u x w at idle
      set x w at input (inr not_idle) = sym (same_word spec t.inputs u x w at not_idle) ∙ solves.set x w at input ∙ agree.inputs x w at input not_idle

pub plain_idle : (spec : Spec) → IsPlain spec → IgnoresIdle spec
plain_idle spec plain s t u differ solves =
    let v = with_idle spec t.inputs u in
    let but : AgreeButIdle spec u v = agree_but spec t.inputs u in
    let agree : StatesAgree spec s t = states_agree spec s t plain.lawful.ports differ in record {
      solution = v;
      solves = idle_solves spec s t u plain agree solves;
      outputs = outputs_same spec u v solves.valuation.each (length-words_by (idle_word spec t.inputs u) 0 spec.vars) but;
      samples = λ after others next long_after long_others same samples.
          subst (λ kept. Samples spec v t.inputs others kept next) (sym agree.registers)
          (samples_same spec u v s.inputs t.inputs after others s.registers next
          (agree_clocks spec s.inputs t.inputs plain differ.long differ.also_long (ap (λ (h : Held). h.levels) differ.same))
          (agree_clocks spec after others plain long_after long_others same)
          (agree_reads spec u v solves.valuation.each (length-words_by (idle_word spec t.inputs u) 0 spec.vars) but) samples);
    }
