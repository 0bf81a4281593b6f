-- What is wrong with a machine that is not checked.
use Rattle.std.specs.Prelude.{ℕ, ◌<◌}
use Rattle.code_isa.specs.declared.machine.Machine.{Machine}
use Rattle.code_isa.specs.declared.fault.CodeFault.{CodeFault}
use Rattle.code_isa.specs.declared.fault.CodeFault.TheVariants.{PortShape, SlotOrder, SlotWidth, CycleInside, SummaryShort, ChainShort}
use Rattle.code_isa.specs.Checks.{IsPortShaped, IsSlotOrdered, IsSlotWide, IsAcyclic, IsSummarised, IsChained}

-- the condition that a fault breaks
abbrev pub Holds : Machine → CodeFault → Type 0
Holds m PortShape = IsPortShaped m
Holds m SlotOrder = IsSlotOrdered m
Holds m SlotWidth = IsSlotWide m
Holds m CycleInside = IsAcyclic m
Holds m SummaryShort = IsSummarised m
Holds m ChainShort = IsChained m

-- the machine has the fault
abbrev pub HasFault : Machine → CodeFault → Type 0
HasFault m fault = ¬ (Holds m fault)

-- the number of a fault
abbrev pub number_of : CodeFault → ℕ
number_of PortShape = 1
number_of SlotOrder = 2
number_of SlotWidth = 3
number_of CycleInside = 4
number_of SummaryShort = 5
number_of ChainShort = 6

-- of the faults that the machine has, this is the one with the least number
pub record IsFirstFault (m : Machine) (fault : CodeFault) : Type 0 where
  pub has : HasFault m fault
  pub first : (other : CodeFault) → number_of other < number_of fault → Holds m other
