-- The fault with the least number, from what holds.
use Rattle.std.proofs.Common.{ℕ, ◌<◌, arith}
use Rattle.code_isa.specs.declared.machine.Machine.{Machine}
use Rattle.code_isa.specs.declared.fault.CodeFault.{CodeFault}
use Rattle.code_isa.specs.declared.fault.CodeFault.TheVariants.{PortShape, SlotOrder, SlotWidth, CycleInside, SummaryShort, ChainShort}
use Rattle.code_isa.specs.Checks.{IsPortShaped, IsSlotOrdered, IsSlotWide, IsAcyclic, IsSummarised, IsChained}
use Rattle.code_isa.specs.Faults.{Holds, HasFault, number_of, IsFirstFault}

-- what holds below a number
held_below : (m : Machine) (n : ℕ) → (1 < n → IsPortShaped m) → (2 < n → IsSlotOrdered m) → (3 < n → IsSlotWide m) → (4 < n → IsAcyclic m) → (5 < n → IsSummarised m) → (6 < n → IsChained m) → (other : CodeFault) → number_of other < n → Holds m other
held_below m n ports order width acyclic summary chain PortShape low = ports low
held_below m n ports order width acyclic summary chain SlotOrder low = order low
held_below m n ports order width acyclic summary chain SlotWidth low = width low
held_below m n ports order width acyclic summary chain CycleInside low = acyclic low
held_below m n ports order width acyclic summary chain SummaryShort low = summary low
held_below m n ports order width acyclic summary chain ChainShort low = chain low

pub first_ports : (m : Machine) → ¬ (IsPortShaped m) → IsFirstFault m PortShape
first_ports m fault = record {
  has = fault;
  first = held_below m 1 (λ low. absurd (omega arith)) (λ low. absurd (omega arith)) (λ low. absurd (omega arith)) (λ low. absurd (omega arith)) (λ low. absurd (omega arith)) (λ low. absurd (omega arith));
}

pub first_order : (m : Machine) → IsPortShaped m → ¬ (IsSlotOrdered m) → IsFirstFault m SlotOrder
first_order m ports fault = record {
  has = fault;
  first = held_below m 2 (λ low. ports) (λ low. absurd (omega arith)) (λ low. absurd (omega arith)) (λ low. absurd (omega arith)) (λ low. absurd (omega arith)) (λ low. absurd (omega arith));
}

pub first_width : (m : Machine) → IsPortShaped m → IsSlotOrdered m → ¬ (IsSlotWide m) → IsFirstFault m SlotWidth
first_width m ports order fault = record {
  has = fault;
  first = held_below m 3 (λ low. ports) (λ low. order) (λ low. absurd (omega arith)) (λ low. absurd (omega arith)) (λ low. absurd (omega arith)) (λ low. absurd (omega arith));
}

pub first_cycle : (m : Machine) → IsPortShaped m → IsSlotOrdered m → IsSlotWide m → ¬ (IsAcyclic m) → IsFirstFault m CycleInside
first_cycle m ports order width fault = record {
  has = fault;
  first = held_below m 4 (λ low. ports) (λ low. order) (λ low. width) (λ low. absurd (omega arith)) (λ low. absurd (omega arith)) (λ low. absurd (omega arith));
}

pub first_summary : (m : Machine) → IsPortShaped m → IsSlotOrdered m → IsSlotWide m → IsAcyclic m → ¬ (IsSummarised m) → IsFirstFault m SummaryShort
first_summary m ports order width acyclic fault = record {
  has = fault;
  first = held_below m 5 (λ low. ports) (λ low. order) (λ low. width) (λ low. acyclic) (λ low. absurd (omega arith)) (λ low. absurd (omega arith));
}

pub first_chain : (m : Machine) → IsPortShaped m → IsSlotOrdered m → IsSlotWide m → IsAcyclic m → IsSummarised m → ¬ (IsChained m) → IsFirstFault m ChainShort
first_chain m ports order width acyclic summary fault = record {
  has = fault;
  first = held_below m 6 (λ low. ports) (λ low. order) (λ low. width) (λ low. acyclic) (λ low. summary) (λ low. absurd (omega arith));
}
