-- What one line makes of a reading.
use Rattle.std.specs.Prelude.{◌≡◌, ℕ, ◌+◌, Bool, List, [], ◌++◌, ⊤, Option, None, Some, Result, Ok, Err}
use Rattle.std.specs.List.{AllByRecursion}
use Rattle.sv_base.specs.Steps.{Setting, set_all}
use Rattle.stimulus_reader.specs.Stimulus as asked
use Rattle.stimulus_reader.specs.Stimulus.{Line, Fault, BadLine, LineVerdict, step_of, words_of, content_of, span, verdict_of_words}
use Rattle.stimulus_reader.specs.Reading.{Reading, MayFollow, KeepsEnd, IsSettable, IsStep, IsEnd, IsBad, IsInterrupted, stimulus_left}
use Rattle.stimulus_reader.specs.code.LineSource.{Ahead}
use Rattle.stimulus_reader.specs.declared.reason.Reason.{Reason}
use Rattle.stimulus_reader.specs.declared.step.StepKind.{StepKind}
use Rattle.stimulus_reader.specs.declared.step.StepFault.{StepFault}
use Rattle.stimulus_reader.specs.declared.step.StepFault.TheVariants.{Bad, ReadFault}
use Rattle.stimulus_reader.specs.declared.judge.NextLine.{NextLine}
use Rattle.stimulus_reader.specs.declared.judge.NextLine.TheVariants as next

-- the line that the reader keeps
abbrev pub line_in : Reading → Bool → Line
line_in reading over = record { text = reading.kept; ended = over }

-- what that line asks for
abbrev pub verdict_in : Reading → Bool → LineVerdict
verdict_in reading over = verdict_of_words reading.ports (words_of (content_of (line_in reading over)))

-- the reader stands behind the line
pub record IsBehind (before after : Reading) (over : Bool) : Type 0 where
  pub ports : after.ports ≡ before.ports
  pub number : after.number ≡ before.number + 1
  pub at : after.at ≡ before.at + span (line_in before over)
  pub kept : after.kept ≡ []
  pub bad : after.bad ≡ None

-- the line asks for nothing
pub record Skips (before after : Reading) (over : Bool) : Type 0 where
  pub behind : IsBehind before after over
  pub verdict : verdict_in before over ≡ asked.Skip
  pub values : after.values ≡ before.values
  pub last : after.last ≡ before.last

-- the line asks for a step of this kind
pub record Steps (before after : Reading) (over : Bool) (of : StepKind) : Type 0 where
  pub behind : IsBehind before after over
  pub settings : List Setting
  pub settable : AllByRecursion (IsSettable before.ports of) settings
  pub verdict : verdict_in before over ≡ asked.Step (step_of of settings)
  pub values : after.values ≡ set_all settings before.values
  pub last : after.last ≡ before.number

-- the line is wrong
pub record Refuses (before after : Reading) (over : Bool) (line : ℕ) (reason : Reason) : Type 0 where
  pub fault : Fault
  pub verdict : verdict_in before over ≡ asked.Bad fault
  pub ports : after.ports ≡ before.ports
  pub line_is : line ≡ before.number
  pub reason_is : reason ≡ fault.reason
  pub bad : after.bad ≡ Some (record { line = line; reason = reason; word = fault.word })
  pub values : after.values ≡ before.values
  pub last : after.last ≡ line

-- what the reader makes of the line that it keeps
abbrev pub Judges : Reading → Reading → Bool → Result NextLine StepFault → Type 0
Judges before after over (Ok next.Skipped) = Skips before after over
Judges before after over (Ok next.End) = ⊥
Judges before after over (Ok (next.Step of)) = Steps before after over of
Judges before after over (Err (Bad line reason)) = Refuses before after over line reason
Judges before after over (Err ReadFault) = ⊥

-- the reading of a judge of lines and of the bytes that were taken and are in no line yet
abbrev pub reading_with : Reading → Ahead → Reading
reading_with judge ahead = record judge { kept = judge.kept ++ ahead.bytes; over = ahead.over }

-- lines that ask for nothing were read
pub record IsPast (before after : Reading) (taken : List ℕ) : Type 0 where
  pub ends : KeepsEnd before after taken
  pub ports : after.ports ≡ before.ports
  pub goes_on : (rest : List ℕ) → MayFollow after rest → (more : ℕ) → stimulus_left before more (taken ++ rest) ≡ stimulus_left after more rest
  pub values : after.values ≡ before.values
  pub last : after.last ≡ before.last

-- what the next line gives
abbrev pub GivesLine : Reading → Reading → Result NextLine StepFault → List ℕ → Type 0
GivesLine before after (Ok next.Skipped) taken = IsPast before after taken
GivesLine before after (Ok next.End) taken = IsEnd before after taken
GivesLine before after (Ok (next.Step of)) taken = IsStep before after of taken
GivesLine before after (Err (Bad line reason)) taken = IsBad before after line reason taken
GivesLine before after (Err ReadFault) taken = IsInterrupted before after taken

-- only a step changes the values
abbrev pub KeepsValues : Reading → Reading → Result NextLine StepFault → Type 0
KeepsValues before after (Ok next.Skipped) = after.values ≡ before.values
KeepsValues before after (Ok next.End) = after.values ≡ before.values
KeepsValues before after (Ok (next.Step of)) = ⊤
KeepsValues before after (Err fault) = after.values ≡ before.values

-- the fault that tells a bad line
abbrev pub fault_of : Option BadLine → Option StepFault
fault_of None = None
fault_of (Some bad) = Some (Bad bad.line bad.reason)
