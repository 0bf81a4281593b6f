-- what a refusal tells
use Rattle.std.specs.Prelude.{ℕ, List}
use Rattle.levelise.specs.declared.graph.LevelFault.{LevelFault}
use Rattle.levelise.specs.declared.graph.LevelFault.TheVariants.{OnCycle, NoMemory}
use Rattle.levelise.specs.Graph.{IsLeastOnCycle}

-- a refusal for a cycle names the least node that lies on one; want of memory says nothing of the graph
abbrev pub TellsLeastOnCycle : List (List ℕ) → LevelFault → Type 0
TellsLeastOnCycle rows (OnCycle node) = IsLeastOnCycle rows node
TellsLeastOnCycle rows NoMemory = Unit {0}
