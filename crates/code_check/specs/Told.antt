-- What the check of a machine needs, and what it tells where it takes none.
use Rattle.std.specs.Prelude.{◌<◌, ◌^◌}
use Rattle.code_isa.specs.declared.machine.Machine.{Machine}
use Rattle.code_isa.specs.Slots.{slot_count}
use Rattle.code_isa.specs.Faults.{IsFirstFault}
use Rattle.code_check.specs.declared.fault.CheckFault.{CheckFault}
use Rattle.code_check.specs.declared.fault.CheckFault.TheVariants.{Bad, NoMemory}

-- each slot's number has at most 32 bits
abbrev pub HasFewSlots : Machine → Type 0
HasFewSlots m = slot_count m < 2 ^ 32

-- a refusal tells the fault with the least number; want of memory says nothing of the machine
abbrev pub TellsFirstFault : Machine → CheckFault → Type 0
TellsFirstFault m (Bad fault) = IsFirstFault m fault
TellsFirstFault m NoMemory = Unit {0}
