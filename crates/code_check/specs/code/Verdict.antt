-- What the search for an order answers.
use Rattle.std.specs.Prelude.{◌≡◌, ◌<◌, List, ℕ, Result, Ok, Err, slice_index, Contains}
use Rattle.levelise.specs.Graph.{IsLevelling}
use Rattle.code_isa.specs.declared.machine.Machine.{Machine}
use Rattle.code_isa.specs.declared.fault.CodeFault.{CodeFault}
use Rattle.code_isa.specs.declared.fault.CodeFault.TheVariants.{CycleInside}
use Rattle.code_isa.specs.Dependence.{reads_of}
use Rattle.code_isa.specs.Slots.{IsInputSlot}
use Rattle.code_isa.specs.Checks.{IsAcyclic, row_at}
use Rattle.code_check.specs.code.Sets.{IsIn, row_of}
use Rattle.code_check.specs.declared.fault.CheckFault.{CheckFault}
use Rattle.code_check.specs.declared.fault.CheckFault.TheVariants.{Bad, NoMemory}

-- an order comes after all reads, and then no output slot of a child depends on itself; the only fault is that one does
abbrev pub IsOrderOf : Machine → Result (List ℕ) CheckFault → Type 0
IsOrderOf m (Ok order) = IsLevelling (reads_of m) order × IsAcyclic m
IsOrderOf m (Err (Bad fault)) = (fault ≡ CycleInside) × ¬ (IsAcyclic m)
IsOrderOf m (Err NoMemory) = Unit {0}

-- each data input in the set of an output's slot stands in the output's row
abbrev pub IsNamedAt : Machine → List (List ℕ) → ℕ → Type 0
IsNamedAt m rows k = (p : ℕ) → IsInputSlot m p → IsIn (row_of rows (slice_index m.outs k)) p → Contains (row_at m.summary k) p
