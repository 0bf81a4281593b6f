-- What is played: its states, what a bench holds of them, and what it means.
use Rattle.std.specs.Prelude.{◌≡◌, ◌↔◌, ℕ, Bool, List, [], ◌∷◌, length, map, slice_index, drop, if◌then◌else◌}
use Rattle.sv_base.specs.declared.face.Class.{Class}
use Rattle.sv_base.specs.declared.face.Port.{Port}
use Rattle.sv_base.specs.Classes.{is_value, is_clock, is_output, words_of_class}
use Rattle.sv_base.specs.Steps.{Step, Values, Clocks, set_all}
use Rattle.sv_base.specs.Runs.{Runs}

-- what lasts from step to step: a word for each port, of which those of inputs count, and a word for each register
pub record State : Type 0 where
  pub inputs : List ℕ
  pub registers : List ℕ

-- what a bench holds: the words of the data inputs and the levels of the clocks, both in port order, and the words of the registers
pub record Held : Type 0 where
  pub values : List ℕ
  pub levels : List ℕ
  pub registers : List ℕ

-- the widths of the ports of some classes, in port order
abbrev pub widths_of_class : (Class → Bool) → List Port → List ℕ
widths_of_class chosen ports = words_of_class chosen ports (map (λ (p : Port). p.width) ports)

-- what a bench holds in a state: idle inputs are not told to it
abbrev pub held_in : List Port → State → Held
held_in ports state = record { values = words_of_class is_value ports state.inputs; levels = words_of_class is_clock ports state.inputs; registers = state.registers }

-- what a bench means: its ports, and its registers in an order of its own
pub record Meaning : Type 1 where
  pub ports : List Port
  -- the initial words of the registers
  pub initial : List ℕ
  -- where it holds this, its outputs have these words, in port order
  pub shows : Held → List ℕ → Type 0
  -- where it holds this and the clocks take these levels, the registers take these words
  pub samples : Held → List ℕ → List ℕ → Type 0

-- the second means what the first does
pub record MeansSame (old new : Meaning) : Type 0 where
  pub ports : new.ports ≡ old.ports
  pub initial : new.initial ≡ old.initial
  pub shows : (held : Held) (outputs : List ℕ) → new.shows held outputs ↔ old.shows held outputs
  pub samples : (held : Held) (levels registers : List ℕ) → new.samples held levels registers ↔ old.samples held levels registers

-- the words of all ports: those of inputs as they are set, and the outputs in port order
abbrev pub row_of : List Port → List ℕ → List ℕ → List ℕ
row_of [] inputs outputs = []
row_of (p ∷ ports) inputs outputs =
    if is_output p.class then slice_index outputs 0 ∷ row_of ports (drop 1 inputs) (drop 1 outputs)
    else slice_index inputs 0 ∷ row_of ports (drop 1 inputs) outputs

-- the state before any step: every input is 0, and every register has its initial word
abbrev pub first_state : Meaning → State
first_state meaning = record { inputs = map (λ _. 0) meaning.ports; registers = meaning.initial }

-- a state shows this row
pub record ShowsRow (meaning : Meaning) (state : State) (row : List ℕ) : Type 0 where
  pub outputs : List ℕ
  pub each : length outputs ≡ length (widths_of_class is_output meaning.ports)
  pub shown : meaning.shows (held_in meaning.ports state) outputs
  pub row_is : row ≡ row_of meaning.ports state.inputs outputs

-- A step leads from one state to another. A data step sets the named inputs and keeps the registers. A clock step sets the named
-- levels, and the registers sample.
abbrev pub StepsTo : Meaning → State → Step → State → Type 0
StepsTo meaning old (Values settings) new = (new.inputs ≡ set_all settings old.inputs) × (new.registers ≡ old.registers)
StepsTo meaning old (Clocks settings) new =
    (new.inputs ≡ set_all settings old.inputs)
    × meaning.samples (held_in meaning.ports old) (words_of_class is_clock meaning.ports new.inputs) new.registers

-- from a state these steps lead to `last` and show these rows
abbrev pub PlaysFrom : Meaning → State → List Step → List (List ℕ) → State → Type 0
PlaysFrom meaning state steps rows last = Runs (ShowsRow meaning) (StepsTo meaning) state steps rows last

-- so from the state before any step
abbrev pub Plays : Meaning → List Step → List (List ℕ) → State → Type 0
Plays meaning = PlaysFrom meaning (first_state meaning)
