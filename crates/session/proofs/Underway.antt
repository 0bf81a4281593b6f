-- How far a run has come between two lines.
use Rattle.std.proofs.Common.{◌≡◌, ℕ, suc, ◌+◌, ◌-◌, ◌<◌, Bool, true, false, List, [], ◌∷◌, ◌++◌, length, Option, None, Some, refl, sym, ◌∙◌, ap}
use Rattle.std.proofs.Common.{subst, append_assoc, length-append, arith}
use Rattle.std.specs.Prelude.{◌==◌, if◌then◌else◌}
use Rattle.std.specs.List.{AllByRecursion}
use Rattle.io_edge.specs.Told.{Added, Took, took_both, took_nothing, added_both}
use Rattle.sv_base.specs.declared.face.Port.{Port}
use Rattle.sv_base.specs.declared.face.Class.{Class}
use Rattle.sv_base.specs.declared.face.Class.TheVariants as class
use Rattle.sv_base.specs.Classes.{is_input, is_output}
use Rattle.sv_base.specs.Steps.{Setting, Step, StepFits, IsFitting, values_may_set, clocks_may_set, set_all}
use Rattle.sv_base.specs.TraceText.{header, line}
use Rattle.sv_base.specs.Runs.{runs_further}
use Rattle.sv_base.specs.Meaning.{State, Held, Meaning, held_in, row_of, first_state, widths_of_class, ShowsRow, StepsTo, Plays}
use Rattle.stimulus_reader.specs.declared.step.StepKind.{StepKind}
use Rattle.stimulus_reader.specs.declared.step.StepKind.TheVariants as kind
use Rattle.stimulus_reader.specs.declared.reason.Reason.TheVariants.{NoClock}
use Rattle.stimulus_reader.specs.Stimulus.{stimulus_of, with_step, step_of, class_fault}
use Rattle.stimulus_reader.specs.Stimulus as stimulus
use Rattle.stimulus_reader.specs.Reading.{Reading, at_front, stimulus_left, IsSettable, MayFollow, SawEnd, IsStep, may_follow}
use Rattle.session.specs.Playing.{behind_steps, text_before, text_with}
use Rattle.session.proofs.Texts.{before-snoc, with-snoc}

-- `start_left` and `before` are what the source had left and what was written before the run, `left` and `after` what they are now
pub record IsUnderway (meaning : Meaning) (most : ℕ) (start_left before : Option (List ℕ)) (number : ℕ) (reader : Reading) (held : Held)
    (left after : Option (List ℕ)) : Type 0 where
  pub taken : List ℕ
  pub took : Took start_left left taken
  pub seen : SawEnd reader left
  pub made : List Step
  pub fitting : AllByRecursion (StepFits meaning.ports) made
  pub count : length made ≡ number
  pub comes : (rest : List ℕ) → MayFollow reader rest → stimulus_of meaning.ports most (taken ++ rest)
      ≡ behind_steps made (stimulus_left reader (most - number) rest)
  pub shown : List (List ℕ)
  pub rows_count : length shown ≡ number
  pub row : List ℕ
  pub last : State
  pub run : Plays meaning made (shown ++ row ∷ []) last
  pub inputs : reader.values ≡ last.inputs
  pub stands : held_in meaning.ports last ≡ held
  pub added : Added before after (text_before meaning.ports shown ++ text_with meaning.ports shown row)

-- ---- before the first step

-- what a bench shows that holds its part of a state
pub shows_row : (meaning : Meaning) (state : State) (values outputs : List ℕ) (held : Held) → held_in meaning.ports state ≡ held → values ≡ state.inputs →
    length outputs ≡ length (widths_of_class is_output meaning.ports) → meaning.shows held outputs →
    ShowsRow meaning state (row_of meaning.ports values outputs)
shows_row meaning state values outputs held stands is each shows =
    record {
      outputs = outputs;
      each = each;
      shown = subst (λ h. meaning.shows h outputs) (sym stands) shows;
      row_is = ap (λ ins. row_of meaning.ports ins outputs) is;
    }

pub underway_first : (meaning : Meaning) (most : ℕ) (ports : List Port) (left before after : Option (List ℕ)) (reader : Reading) (held : Held)
    (outputs : List ℕ) →
    ports ≡ meaning.ports → reader ≡ at_front ports → held ≡ held_in meaning.ports (first_state meaning) →
    length outputs ≡ length (widths_of_class is_output meaning.ports) → meaning.shows held outputs →
    Added before after (header ports ++ line 0 ports (row_of ports reader.values outputs)) → IsUnderway meaning most left before 0 reader held left after
underway_first meaning most ports left before after reader held outputs same is start each shows added =
    let front : reader ≡ at_front meaning.ports = is ∙ ap at_front same in
    let values : reader.values ≡ (first_state meaning).inputs = ap (λ (r : Reading). r.values) front in
    let all : most - 0 ≡ most = omega arith in
    record {
      taken = [];
      took = took_nothing left;
      seen = λ over. absurd (let no : false ≡ true = sym (ap (λ (r : Reading). r.over) front) ∙ over in cc);
      made = [];
      fitting = tt;
      count = refl;
      comes = λ rest follows. sym (ap (λ (r : Reading). stimulus_left r (most - 0) rest) front ∙ ap (λ m. stimulus_of meaning.ports m rest) all);
      shown = [];
      rows_count = refl;
      row = row_of meaning.ports reader.values outputs;
      last = first_state meaning;
      run = record {
        row = row_of meaning.ports reader.values outputs;
        shown = shows_row meaning (first_state meaning) reader.values outputs held (sym start) values each shows;
        rows_are = refl;
        last_is = refl;
      };
      inputs = values;
      stands = sym start;
      added = subst (λ ps. Added before after (header ps ++ line 0 ps (row_of ps reader.values outputs))) same added;
    }

-- ---- a step

all_snoc : (P : Step → Type 0) (steps : List Step) (step : Step) → AllByRecursion P steps → P step → AllByRecursion P (steps ++ step ∷ [])
all_snoc P [] step all one = (one, tt)
all_snoc P (first ∷ steps) step all one = (all.0, all_snoc P steps step all.1 one)

-- what a line of this kind may set
abbrev may_set : StepKind → Class → ℕ → Bool
may_set kind.Values = values_may_set
may_set kind.Clocks = clocks_may_set

if_one : (b : Bool) → (if b then None else Some NoClock) ≡ None → b ≡ true
if_one true fits = refl
if_one false fits = absurd (cc)

settable_may : (of : StepKind) (c : Class) (width : ℕ) → is_input c ≡ true → class_fault of c width ≡ None → may_set of c width ≡ true
settable_may kind.Values class.Value width input fits = refl
settable_may kind.Values class.Clock width input fits = absurd (cc)
settable_may kind.Values class.Idle width input fits = refl
settable_may kind.Values class.Output width input fits = absurd (cc)
settable_may kind.Clocks class.Value width input fits = absurd (cc)
settable_may kind.Clocks class.Clock width input fits = refl
settable_may kind.Clocks class.Idle width input fits = if_one (width == 1) fits
settable_may kind.Clocks class.Output width input fits = absurd (cc)

fit_each : (ports : List Port) (of : StepKind) (settings : List Setting) → AllByRecursion (IsSettable ports of) settings →
    AllByRecursion (IsFitting (may_set of) ports) settings
fit_each ports of [] settable = tt
fit_each ports of (s ∷ settings) settable = (
  record {
    port = settable.0.port;
    at = settable.0.at;
    allowed = settable_may of settable.0.port.class settable.0.port.width settable.0.input settable.0.class_fits;
    word_fits = settable.0.word_fits;
  },
  fit_each ports of settings settable.1,
)

fit_all : (ports : List Port) (of : StepKind) (settings : List Setting) → AllByRecursion (IsSettable ports of) settings → StepFits ports (step_of of settings)
fit_all ports kind.Values settings settable = fit_each ports kind.Values settings settable
fit_all ports kind.Clocks settings settable = fit_each ports kind.Clocks settings settable

behind_one : (made : List Step) (step : Step) (later : stimulus.Stimulus) → behind_steps made (with_step step later) ≡ behind_steps (made ++ step ∷ []) later
behind_one made step later = ap (λ steps. record { steps = steps; bad = later.bad }) (sym (append_assoc made (step ∷ []) later.steps))

-- what has come of a step before its line is offered: all but the line
pub record HasStepped (meaning : Meaning) (most : ℕ) (start_left before : Option (List ℕ)) (number : ℕ) (reader : Reading) (held : Held)
    (left written : Option (List ℕ)) (next : List ℕ) : Type 0 where
  pub taken : List ℕ
  pub took : Took start_left left taken
  pub seen : SawEnd reader left
  pub made : List Step
  pub fitting : AllByRecursion (StepFits meaning.ports) made
  pub count : length made ≡ number
  pub comes : (rest : List ℕ) → MayFollow reader rest → stimulus_of meaning.ports most (taken ++ rest)
      ≡ behind_steps made (stimulus_left reader (most - number) rest)
  pub shown : List (List ℕ)
  pub rows_count : length shown ≡ number
  pub last : State
  pub run : Plays meaning made (shown ++ next ∷ []) last
  pub inputs : reader.values ≡ last.inputs
  pub stands : held_in meaning.ports last ≡ held
  pub written_so : Added before written (text_before meaning.ports shown)
  pub with_line : text_with meaning.ports shown next ≡ line number meaning.ports next

-- a state to which the step leads, whose inputs are these and of which the bench holds this
abbrev pub Makes : Meaning → List Port → Held → StepKind → List ℕ → Held → Type 0
Makes meaning ports old of values new =
    (state : State) (settings : List Setting) → held_in ports state ≡ old → AllByRecursion (IsSettable ports of) settings →
    values ≡ set_all settings state.inputs →
    (next : State) × StepsTo meaning state (step_of of settings) next × (next.inputs ≡ values) × (held_in ports next ≡ new)

pub has_stepped : (meaning : Meaning) (most : ℕ) (start_left before : Option (List ℕ)) (number : ℕ) (reader after : Reading) (old new : Held)
    (left left' written : Option (List ℕ)) (of : StepKind) (taken outputs : List ℕ) →
    IsUnderway meaning most start_left before number reader old left written → number < most → after.ports ≡ reader.ports → reader.ports ≡ meaning.ports →
    Took left left' taken → (SawEnd reader left → SawEnd after left') → IsStep reader after of taken → Makes meaning after.ports old of after.values new →
    length outputs ≡ length (widths_of_class is_output meaning.ports) → meaning.shows new outputs →
    HasStepped meaning most start_left before (number + 1) after new left' written (row_of meaning.ports after.values outputs)
has_stepped meaning most start_left before number reader after old new left left' written of taken outputs far room same_ports its_ports took sees step makes
    each shows =
    let ports = same_ports ∙ its_ports in
    let made_by = subst (λ ps. Makes meaning ps old of after.values new) ports makes in
    let settable = subst (λ ps. AllByRecursion (IsSettable ps of) step.settings) its_ports step.settable in
    let set : after.values ≡ set_all step.settings far.last.inputs = step.set ∙ ap (set_all step.settings) far.inputs in
    let next = made_by far.last step.settings far.stands settable set in
    let the_step = step_of of step.settings in
    let row = row_of meaning.ports after.values outputs in
    let more : most - number ≡ suc (most - (number + 1)) = omega arith in
    record {
      taken = far.taken ++ taken;
      took = took_both start_left left left' far.taken taken far.took took;
      seen = sees far.seen;
      made = far.made ++ the_step ∷ [];
      fitting = all_snoc (StepFits meaning.ports) far.made the_step far.fitting (fit_all meaning.ports of step.settings settable);
      count = length-append far.made (the_step ∷ []) ∙ ap (λ n. n + 1) far.count;
      comes = λ rest follows.
          ap (stimulus_of meaning.ports most) (append_assoc far.taken taken rest)
          ∙ far.comes (taken ++ rest) (may_follow reader after taken rest step.ends follows)
          ∙ ap (behind_steps far.made) (ap (λ m. stimulus_left reader m (taken ++ rest)) more ∙ step.step rest follows (most - (number + 1)))
          ∙ behind_one far.made the_step (stimulus_left after (most - (number + 1)) rest);
      shown = far.shown ++ far.row ∷ [];
      rows_count = length-append far.shown (far.row ∷ []) ∙ ap (λ n. n + 1) far.rows_count;
      last = next.0;
      run = runs_further (ShowsRow meaning) (StepsTo meaning) (first_state meaning) far.made
          (far.shown ++ far.row ∷ []) far.last far.run the_step next.0 next.1 row
          (shows_row meaning next.0 after.values outputs new next.3 (sym next.2) each shows);
      inputs = sym next.2;
      stands = next.3;
      written_so = subst (λ text. Added before written text) (sym (before-snoc meaning.ports far.shown far.row)) far.added;
      with_line = with-snoc meaning.ports far.shown far.row row ∙ ap (λ n. line (n + 1) meaning.ports row) far.rows_count;
    }

-- and then its line is written
pub underway_next : (meaning : Meaning) (most : ℕ) (start_left before : Option (List ℕ)) (number : ℕ) (reader : Reading) (held : Held)
    (left written after : Option (List ℕ)) (next : List ℕ) →
    HasStepped meaning most start_left before number reader held left written next → Added written after (line number meaning.ports next) →
    IsUnderway meaning most start_left before number reader held left after
underway_next meaning most start_left before number reader held left written after next far added =
    record {
      taken = far.taken;
      took = far.took;
      seen = far.seen;
      made = far.made;
      fitting = far.fitting;
      count = far.count;
      comes = far.comes;
      shown = far.shown;
      rows_count = far.rows_count;
      row = next;
      last = far.last;
      run = far.run;
      inputs = far.inputs;
      stands = far.stands;
      added = added_both before written after (text_before meaning.ports far.shown) (text_with meaning.ports far.shown next) far.written_so
          (subst (λ text. Added written after text) (sym far.with_line) added);
    }
