-- What a reader of a stimulus has come to, and what it gives.
use Rattle.std.specs.Prelude.{◌≡◌, ℕ, ◌<◌, ◌^◌, suc, Bool, true, false, List, [], ◌++◌, map, Option, None, Some, Result, Ok, Err, IsTrue, slice_get, ⊤, if◌then◌else◌}
use Rattle.std.specs.List.{AllByRecursion}
use Rattle.std.proofs.Common.{ap, ◌∙◌}
use Rattle.sv_base.specs.declared.face.Port.{Port}
use Rattle.sv_base.specs.Steps.{Setting, set_all}
use Rattle.stimulus_reader.specs.declared.reason.Reason.{Reason}
use Rattle.stimulus_reader.specs.declared.reason.Reason.TheVariants.{NoStep, NoSetting, NoInput, IsClock, NoClock, SetTwice, NoValue, LineTooLong, FileTooLong, TooManySteps}
use Rattle.stimulus_reader.specs.declared.step.StepKind.{StepKind}
use Rattle.stimulus_reader.specs.declared.step.StepFault.{StepFault}
use Rattle.stimulus_reader.specs.declared.step.StepFault.TheVariants.{Bad, ReadFault}
use Rattle.io_edge.specs.Fault.{Rose}
use Rattle.io_edge.specs.Told.{IsAtEnd}
use Rattle.stimulus_reader.specs.Stimulus.{class_fault, BadLine, Stimulus, ended, stopped, with_step, lines_of, stimulus_from, step_of}
use Rattle.sv_base.specs.Classes.{is_input}

-- how far a reader has come
pub record Reading : Type 0 where
  pub ports : List Port
  -- the number of the line that is read next, counted from 1, and the place of the file where it begins
  pub number : ℕ
  pub at : ℕ
  -- the bytes that were taken from the source and are not used: those of that line, and then those that are left in the buffer
  pub kept : List ℕ
  -- whether the source has come to its end, after which nothing is read
  pub over : Bool
  -- the number of the line that was given or refused last, 0 before any
  pub last : ℕ
  -- the word of each port that the steps so far have set, 0 where none did
  pub values : List ℕ
  -- the line that was refused, after which nothing is read
  pub bad : Option BadLine

-- a reader of these ports before the first byte of a file
abbrev pub at_front : List Port → Reading
at_front ports = record { ports = ports; number = 1; at = 0; kept = []; over = false; last = 0; values = map (λ _. 0) ports; bad = None }

-- the stimulus of the bytes to come, those that the reader keeps before others, where so many steps more are allowed
abbrev pub stimulus_left : Reading → ℕ → List ℕ → Stimulus
stimulus_left reading more bytes = stimulus_from reading.ports more reading.number reading.at (lines_of (reading.kept ++ bytes))

-- a line of this kind may set a port to a word: it is an input that such a line sets, and its width holds the word
pub record IsSettable (ports : List Port) (of : StepKind) (setting : Setting) : Type 0 where
  pub port : Port
  pub at : slice_get ports setting.port ≡ Some port
  pub input : is_input port.class ≡ true
  pub class_fits : class_fault of port.class port.width ≡ None
  pub word_fits : setting.word < 2 ^ port.width

-- these bytes may follow what the reader has taken: none do, once the source has come to its end
abbrev pub MayFollow : Reading → List ℕ → Type 0
MayFollow reading rest = reading.over ≡ true → rest ≡ []

-- once the source has come to its end, nothing more is taken of it
abbrev pub KeepsEnd : Reading → Reading → List ℕ → Type 0
KeepsEnd before after taken = before.over ≡ true → (taken ≡ []) × (after.over ≡ true)

-- A step of this kind comes next: the reader has its words, and what follows it is what the reader gives from then on. Where no
-- step more is allowed its line is bad.
pub record IsStep (before after : Reading) (of : StepKind) (taken : List ℕ) : Type 0 where
  pub ends : KeepsEnd before after taken
  pub settings : List Setting
  pub settable : AllByRecursion (IsSettable before.ports of) settings
  pub set : after.values ≡ set_all settings before.values
  pub step : (rest : List ℕ) → MayFollow after rest → (more : ℕ) → stimulus_left before (suc more) (taken ++ rest) ≡ with_step (step_of of settings) (stimulus_left after more rest)
  pub none_left : (rest : List ℕ) → MayFollow after rest → stimulus_left before 0 (taken ++ rest) ≡ stopped after.last TooManySteps []

-- the bytes are at their end: no step follows and no bad line
pub record IsEnd (before after : Reading) (taken : List ℕ) : Type 0 where
  pub ends : KeepsEnd before after taken
  pub over : after.over ≡ true
  pub ended_there : (more : ℕ) → stimulus_left before more taken ≡ ended
  pub kept : after.kept ≡ []
  pub last : after.last ≡ before.last

-- where no step more is allowed, a bad line is one step too many, unless it passes a limit of bytes
abbrev pub passes_limit : Reason → Bool
passes_limit NoStep = false
passes_limit NoSetting = false
passes_limit NoInput = false
passes_limit IsClock = false
passes_limit NoClock = false
passes_limit SetTwice = false
passes_limit NoValue = false
passes_limit LineTooLong = true
passes_limit FileTooLong = true
passes_limit TooManySteps = false

abbrev pub bad_without_steps : BadLine → Stimulus
bad_without_steps bad = if passes_limit bad.reason then stopped bad.line bad.reason bad.word else stopped bad.line TooManySteps []

-- the next line that is no comment is bad
pub record IsBad (before after : Reading) (line : ℕ) (reason : Reason) (taken : List ℕ) : Type 0 where
  pub ends : KeepsEnd before after taken
  pub bad : BadLine
  pub told : after.bad ≡ Some bad
  pub line_is : bad.line ≡ line
  pub reason_is : bad.reason ≡ reason
  pub last : after.last ≡ line
  pub script : (rest : List ℕ) → MayFollow after rest → (more : ℕ) → stimulus_left before (suc more) (taken ++ rest) ≡ stopped bad.line bad.reason bad.word
  pub none_left : (rest : List ℕ) → MayFollow after rest → stimulus_left before 0 (taken ++ rest) ≡ bad_without_steps bad

-- a read failed: no byte is lost, and the reader goes on from where it was
pub record IsInterrupted (before after : Reading) (taken : List ℕ) : Type 0 where
  pub ends : KeepsEnd before after taken
  pub over : after.over ≡ false
  pub goes_on : (rest : List ℕ) (more : ℕ) → stimulus_left before more (taken ++ rest) ≡ stimulus_left after more rest
  pub values : after.values ≡ before.values
  pub last : after.last ≡ before.last

-- the word of the bad line, empty before one was found
abbrev pub word_of : Option BadLine → List ℕ
word_of None = []
word_of (Some bad) = bad.word

-- ---- clauses of the reader's calls

-- an input stands at this place
abbrev pub IsInputAt : List Port → ℕ → Type 0
IsInputAt ports place = (p : Port) × (slice_get ports place ≡ Some p) × IsTrue (is_input p.class)

-- what a call makes of the stimulus, which took these bytes of the source
abbrev pub Reads : Reading → Reading → Result (Option StepKind) StepFault → List ℕ → Type 0
Reads before after (Ok None) taken = IsEnd before after taken
Reads before after (Ok (Some of)) taken = IsStep before after of taken
Reads before after (Err (Bad line reason)) taken = before.bad ≡ None → IsBad before after line reason taken
Reads before after (Err ReadFault) taken = IsInterrupted before after taken

-- where the reader has seen the end, no byte is left, where that is told
abbrev pub SawEnd : Reading → Option (List ℕ) → Type 0
SawEnd reading left = reading.over ≡ true → IsAtEnd left

-- the line that is told as bad is the reader's bad line; a read that failed makes none
abbrev pub IsTold : Reading → StepFault → Type 0
IsTold after (Bad line reason) = (bad : BadLine) × (after.bad ≡ Some bad) × (bad.line ≡ line) × (bad.reason ≡ reason) × (after.last ≡ line)
IsTold after ReadFault = after.bad ≡ None

-- once a line was bad, each call tells it again and changes nothing
abbrev pub IsToldAgain : Reading → Reading → Result (Option StepKind) StepFault → Type 0
IsToldAgain before after result = (bad : BadLine) → before.bad ≡ Some bad → (result ≡ Err (Bad bad.line bad.reason)) × (after ≡ before)

-- only a read that failed is told as a fault, of this count of faults
abbrev pub IsStepCause : StepFault → ℕ → ℕ → Type 0
IsStepCause (Bad line reason) before now = ⊤
IsStepCause ReadFault before now = Rose before now

-- only a step changes the values
abbrev pub KeepsUnlessStep : Reading → Reading → Result (Option StepKind) StepFault → Type 0
KeepsUnlessStep before after (Ok None) = after.values ≡ before.values
KeepsUnlessStep before after (Ok (Some of)) = ⊤
KeepsUnlessStep before after (Err fault) = after.values ≡ before.values

-- what may follow a call, may follow what came before it with the bytes that it took in front
pub may_follow : (before after : Reading) (taken rest : List ℕ) → KeepsEnd before after taken → MayFollow after rest → MayFollow before (taken ++ rest)
may_follow before after taken rest ends follows is =
    let none = ends is in
    ap (λ (xs : List ℕ). xs ++ rest) none.0 ∙ follows none.1
