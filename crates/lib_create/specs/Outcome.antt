-- What the program owes for words and files: a status, what it writes on standard output, and what on standard error.
use Rattle.std.specs.Prelude.{◌≡◌, ℕ, zero, suc, List, [], ◌∷◌, ◌++◌, codes, Option, None, Some, Result, Ok, Err, ◌⊎◌}
use Rattle.std.specs.Fmt.{decimal}
use Rattle.std.specs.FinMap.{get}
use Rattle.io_edge.specs.File.{Files}
use Rattle.sv_base.specs.Kind.{text_of}
use Rattle.sv_base.specs.declared.refusal.Refusal.{Refusal}
use Rattle.net_ir.specs.declared.design.Spec.{Spec}
use Rattle.net_ir.specs.Face.{ports_of}
use Rattle.net_ir.specs.Trace.{IsTrace}
use Rattle.session.specs.declared.playing.TheConstants.{STEP_LIMIT}
use Rattle.sealer.specs.Source.{HasDesign, IsRefused}
use Rattle.lib_create.specs.Command.{Sim, Misuse, Wrong, TooFew, meaning_of}
use Rattle.stimulus_reader.specs.Stimulus.{BadLine, Stimulus, stimulus_of, reason_text}

-- how a run ends that no call of the outside cuts short
pub data Verdict : Type 0 where
  Done : Verdict
  Misused : (misuse : Misuse) → Verdict
  SourceAbsent : (file : List ℕ) → Verdict
  SourceRefused : (file : List ℕ) (refusal : Refusal) → Verdict
  StimulusAbsent : Verdict
  Bad : (bad : BadLine) → Verdict

-- its status
abbrev pub status_of : Verdict → ℕ
status_of Done = 0
status_of (Misused misuse) = 2
status_of (SourceAbsent file) = 3
status_of (SourceRefused file refusal) = 3
status_of StimulusAbsent = 5
status_of (Bad bad) = 5

abbrev pub misuse_text : Misuse → List ℕ
misuse_text (Wrong word) = word
misuse_text TooFew = codes "too few words"

-- the file of a place as a message names it, where the words name this source file: 0 means that there is none
abbrev pub file_text : List ℕ → ℕ → List ℕ
file_text file zero = codes "-"
file_text file (suc n) = file

-- a name behind a blank, and nothing where there is none
abbrev pub name_text : List ℕ → List ℕ
name_text [] = []
name_text (b ∷ bytes) = 32 ∷ b ∷ bytes

-- FILE:LINE: KIND NAME
abbrev pub refusal_text : List ℕ → Refusal → List ℕ
refusal_text file refusal = file_text file refusal.place.file ++ 58 ∷ decimal refusal.place.line ++ codes ": " ++ text_of refusal.kind ++ name_text refusal.name

-- its message, one line or nothing
abbrev pub message_of : Verdict → List ℕ
message_of Done = []
message_of (Misused misuse) = codes "usage: " ++ misuse_text misuse ++ 10 ∷ []
message_of (SourceAbsent file) = codes "absent " ++ file ++ 10 ∷ []
message_of (SourceRefused file refusal) = refusal_text file refusal ++ 10 ∷ []
message_of StimulusAbsent = codes "stimulus 1: absent" ++ 10 ∷ []
message_of (Bad bad) = codes "stimulus " ++ decimal bad.line ++ codes ": " ++ reason_text bad.reason bad.word ++ 10 ∷ []

-- how the run of a design ends, and its trace, by its stimulus
abbrev pub verdict_of_bad : Option BadLine → Verdict
verdict_of_bad None = Done
verdict_of_bad (Some bad) = Bad bad

abbrev pub EndsWithSteps : Spec → Stimulus → Verdict → List ℕ → Type 0
EndsWithSteps spec stimulus verdict trace = (verdict ≡ verdict_of_bad stimulus.bad) × IsTrace spec stimulus.steps trace

-- the stimulus is not there: the trace has no step but step 0
abbrev pub EndsWithStimulus : Spec → Option (List ℕ) → Verdict → List ℕ → Type 0
EndsWithStimulus spec None verdict trace = (verdict ≡ StimulusAbsent) × IsTrace spec [] trace
EndsWithStimulus spec (Some bytes) verdict trace = EndsWithSteps spec (stimulus_of (ports_of spec) STEP_LIMIT bytes) verdict trace

-- the source has a design, or it is refused
abbrev pub EndsWithSource : Files → Sim → Option (List ℕ) → Verdict → List ℕ → Type 0
EndsWithSource files sim None verdict trace = (verdict ≡ SourceAbsent sim.file) × (trace ≡ [])
EndsWithSource files sim (Some bytes) verdict trace =
    ((spec : Spec) × HasDesign sim.top bytes spec × EndsWithStimulus spec (get files sim.stimulus) verdict trace)
    ⊎ ((refusal : Refusal) × IsRefused sim.top bytes refusal × (verdict ≡ SourceRefused sim.file refusal) × (trace ≡ []))

-- the words are the command's, or they are refused
abbrev pub EndsWithWords : Files → Result Sim Misuse → Verdict → List ℕ → Type 0
EndsWithWords files (Ok sim) verdict trace = EndsWithSource files sim (get files sim.file) verdict trace
EndsWithWords files (Err misuse) verdict trace = (verdict ≡ Misused misuse) × (trace ≡ [])

-- for these files and words the run ends so, with these bytes on standard output
abbrev pub Ends : Files → List (List ℕ) → Verdict → List ℕ → Type 0
Ends files words verdict trace = EndsWithWords files (meaning_of words) verdict trace

pub record Outcome : Type 0 where
  pub status : ℕ
  pub out : List ℕ
  pub err : List ℕ

-- the outcome of words over files: there is one at most
pub record IsOutcome (files : Files) (words : List (List ℕ)) (outcome : Outcome) : Type 0 where
  pub verdict : Verdict
  pub ends : Ends files words verdict outcome.out
  pub status : outcome.status ≡ status_of verdict
  pub message : outcome.err ≡ message_of verdict
