use Rattle.std.proofs.Common.{◌≡◌, map, length}
use Rattle.module_header.specs.Header.{port_of}
use Rattle.elaborate.specs.Reached.{in_turn}
use Rattle.elaborate.specs.Declaration.{port}
use Rattle.elaborate.specs.code.Walking.{reached, IsSound}
use Rattle.elaborate.proofs.specialise.ports.Given as goal

-- what the rest makes of what was reached is what the whole makes of the start
abbrev pub invariant-loop-rest : goal.invariant-loop-rest
invariant-loop-rest l =
    (in_turn port (map port_of l.rest) (reached l.walk) ≡ in_turn port (map port_of l.ports) (reached l.initial.walk)) × IsSound (reached l.walk)

abbrev pub decreases-loop-rest : goal.decreases-loop-rest
decreases-loop-rest l = length l.rest
