-- How a run's end is told on standard error.
use Rattle.std.specs.Prelude.{◌≡◌, ℕ, List, Option, ◌⊎◌}
use Rattle.io_edge.specs.Told.{Added, AddedFront}
use Rattle.lib_create.specs.declared.stop.Stop.{Stop}
use Rattle.lib_create.specs.declared.stop.Stop.TheVariants.{ReadFault, WriteFault, NoMemory}
use Rattle.lib_create.specs.Answer.{read_fault, write_fault, no_memory}

-- the message was added and the status answered, or a write failed: a front of it was added and 8 answered
abbrev pub ToldAs : ℕ → ℕ → Type 0 → Option (List ℕ) → Option (List ℕ) → List ℕ → Type 0
ToldAs answer status failed before after text =
    ((answer ≡ status) × Added before after text) ⊎ ((answer ≡ 8) × failed × AddedFront before after text)

abbrev pub stop_status : Stop → ℕ
stop_status ReadFault = 7
stop_status WriteFault = 8
stop_status NoMemory = 9

abbrev pub stop_text : Stop → List ℕ
stop_text ReadFault = read_fault
stop_text WriteFault = write_fault
stop_text NoMemory = no_memory
