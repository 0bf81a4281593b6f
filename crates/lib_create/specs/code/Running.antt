-- How a run goes: what was played, what cuts it short, and its cause.
use Rattle.std.specs.Prelude.{◌≡◌, ℕ, List, [], ◌∷◌, ◌++◌, Option, None, Some, Result, Ok, Err, length, ⊤}
use Rattle.std.specs.List.{AllByRecursion}
use Rattle.sv_base.specs.declared.face.Port.{Port}
use Rattle.sv_base.specs.Steps.{Step, StepFits}
use Rattle.sv_base.specs.Meaning.{State, Meaning, Plays}
use Rattle.stimulus_reader.specs.Stimulus.{stimulus_of}
use Rattle.stimulus_reader.specs.Stimulus as stimulus
use Rattle.session.specs.declared.fault.PlayFault.{PlayFault}
use Rattle.session.specs.declared.fault.PlayFault.TheVariants as fault
use Rattle.session.specs.Playing.{bad_line, behind_steps, text_before, text_with, Writes}
use Rattle.session.specs.declared.playing.TheConstants.{STEP_LIMIT}
use Rattle.io_edge.specs.Fault.{Rose}
use Rattle.lib_create.specs.declared.stop.Stop.{Stop}
use Rattle.lib_create.specs.declared.stop.Stop.TheVariants.{ReadFault, WriteFault, NoMemory}

-- only a read that failed is told as a fault
abbrev pub IsReadCause : Stop → ℕ → ℕ → Type 0
IsReadCause ReadFault before now = Rose before now
IsReadCause WriteFault before now = ⊥
IsReadCause NoMemory before now = ⊤

-- only a read or a write that failed is told as a fault, of these counts of reads and of writes
abbrev pub IsPlayCause : Stop → ℕ → ℕ → ℕ → ℕ → Type 0
IsPlayCause ReadFault reads_before reads_now writes_before writes_now = Rose reads_before reads_now
IsPlayCause WriteFault reads_before reads_now writes_before writes_now = Rose writes_before writes_now
IsPlayCause NoMemory reads_before reads_now writes_before writes_now = ⊤

-- what an answer says of the stimulus of these bytes, of which these steps were made
abbrev pub TellsOf : List Port → Result ℕ PlayFault → List ℕ → List Step → Type 0
TellsOf ports (Ok steps) bytes made = (stimulus_of ports STEP_LIMIT bytes ≡ record { steps = made; bad = None }) × (steps ≡ length made)
TellsOf ports (Err (fault.Stimulus line reason word)) bytes made = stimulus_of ports STEP_LIMIT bytes ≡ record { steps = made; bad = Some (bad_line line reason word.items) }
TellsOf ports (Err fault.ReadFault) bytes made = (later : stimulus.Stimulus) × (stimulus_of ports STEP_LIMIT bytes ≡ behind_steps made later)
TellsOf ports (Err fault.WriteFault) bytes made = (later : stimulus.Stimulus) × (stimulus_of ports STEP_LIMIT bytes ≡ behind_steps made later)
TellsOf ports (Err fault.NoMemory) bytes made = made ≡ []

-- a bench was played over these bytes with this answer, and what was written changed so
pub record PlayedOver (meaning : Meaning) (answer : Result ℕ PlayFault) (bytes : List ℕ) (before after : Option (List ℕ)) : Type 0 where
  pub made : List Step
  pub fitting : AllByRecursion (StepFits meaning.ports) made
  pub tells : TellsOf meaning.ports answer bytes made
  pub shown : List (List ℕ)
  pub row : List ℕ
  pub last : State
  pub run : Plays meaning made (shown ++ row ∷ []) last
  pub writes : Writes answer before after (text_before meaning.ports shown) (text_with meaning.ports shown row)
