-- What an answer of the program says of the bytes that it has written.
use Rattle.std.specs.Prelude.{◌≡◌, ℕ, List, ◌++◌, [], ◌∷◌, codes, Option, None, Some, Ok, unwrap_or}
use Rattle.std.specs.FinMap.{get}
use Rattle.io_edge.specs.File.{Files}
use Rattle.io_edge.specs.Fault.{Rose}
use Rattle.io_edge.specs.Told.{Added, AddedFront}
use Rattle.sv_base.specs.Steps.{Step}
use Rattle.net_ir.specs.declared.design.Spec.{Spec}
use Rattle.net_ir.specs.Face.{ports_of}
use Rattle.net_ir.specs.Trace.{IsTrace}
use Rattle.stimulus_reader.specs.Stimulus.{Stimulus, stimulus_of}
use Rattle.session.specs.Playing.{behind_steps}
use Rattle.sealer.specs.Source.{HasDesign}
use Rattle.lib_create.specs.Command.{Sim, meaning_of}
use Rattle.session.specs.declared.playing.TheConstants.{STEP_LIMIT}
use Rattle.lib_create.specs.Outcome.{Outcome, IsOutcome}

abbrev pub read_fault : List ℕ
read_fault = codes "read fault" ++ 10 ∷ []

abbrev pub write_fault : List ℕ
write_fault = codes "write fault" ++ 10 ∷ []

abbrev pub no_memory : List ℕ
no_memory = codes "no memory" ++ 10 ∷ []

-- the outcome was given: this is its status, and its bytes were added to both sinks
pub record Answered (files : Files) (words : List (List ℕ)) (status : ℕ) (out_before out_after err_before err_after : Option (List ℕ)) : Type 0 where
  pub outcome : Outcome
  pub is : IsOutcome files words outcome
  pub answer : status ≡ outcome.status
  pub out : Added out_before out_after outcome.out
  pub err : Added err_before err_after outcome.err

-- a design was played on the bytes of this stimulus, none where it isn't there: these steps were made, and of their trace a front was
-- added
pub record HasCome (spec : Spec) (found : Option (List ℕ)) (before after : Option (List ℕ)) : Type 0 where
  pub made : List Step
  pub later : Stimulus
  pub first : stimulus_of (ports_of spec) STEP_LIMIT (unwrap_or found []) ≡ behind_steps made later
  pub due : List ℕ
  pub trace : IsTrace spec made due
  pub added : AddedFront before after due

-- where a run stood that was cut short: nothing was due yet on standard output and nothing was added, or its words and source are
-- legal and it was playing
pub data CutShort (files : Files) (words : List (List ℕ)) (before after : Option (List ℕ)) : Type 0 where
  NothingDue : (added : Added before after []) → CutShort files words before after
  InTrace : (sim : Sim) (said : meaning_of words ≡ Ok sim) (bytes : List ℕ) (there : get files sim.file ≡ Some bytes) (spec : Spec) (source : HasDesign sim.top bytes spec)
      (come : HasCome spec (get files sim.stimulus) before after) → CutShort files words before after

-- a message that was due on standard error: that of the outcome, that of a write to standard output or to the folder which failed,
-- that of a read which failed, or that of want of memory
pub data IsDue (files : Files) (words : List (List ℕ)) (write_failed read_failed : Type 0) (message : List ℕ) : Type 0 where
  OfOutcome : (outcome : Outcome) (is : IsOutcome files words outcome) (told : message ≡ outcome.err) → IsDue files words write_failed read_failed message
  OfWrite : (failed : write_failed) (told : message ≡ write_fault) → IsDue files words write_failed read_failed message
  OfRead : (failed : read_failed) (told : message ≡ read_fault) → IsDue files words write_failed read_failed message
  OfMemory : (told : message ≡ no_memory) → IsDue files words write_failed read_failed message

-- of a message that was due a front was added
pub record CutMessage (files : Files) (words : List (List ℕ)) (write_failed read_failed : Type 0) (before after : Option (List ℕ)) : Type 0 where
  pub message : List ℕ
  pub due : IsDue files words write_failed read_failed message
  pub added : AddedFront before after message

-- no count of faults rose, of reads and of writes of the folder, of the writes to standard output and of those to standard error
pub record HasNoFault (reads_before reads_now files_before files_now out_before out_now err_before err_now : ℕ) : Type 0 where
  pub reads : Rose reads_before reads_now → ⊥
  pub files : Rose files_before files_now → ⊥
  pub out : Rose out_before out_now → ⊥
  pub err : Rose err_before err_now → ⊥

-- the words are the command's, the source is legal, and the stimulus is there and has no bad line
pub record IsGood (files : Files) (words : List (List ℕ)) : Type 0 where
  pub sim : Sim
  pub said : meaning_of words ≡ Ok sim
  pub bytes : List ℕ
  pub there : get files sim.file ≡ Some bytes
  pub spec : Spec
  pub source : HasDesign sim.top bytes spec
  pub stimulus : List ℕ
  pub stimulus_there : get files sim.stimulus ≡ Some stimulus
  pub good : (stimulus_of (ports_of spec) STEP_LIMIT stimulus).bad ≡ None
