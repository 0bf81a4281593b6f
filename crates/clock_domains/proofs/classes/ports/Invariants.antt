use Rattle.std.proofs.Common.{◌≡◌, ◌++◌, drop}
use Rattle.clock_domains.specs.code.Walking.{ports_by}
use Rattle.clock_domains.proofs.classes.ports.Given as goal

-- the ports so far, and those among the rest of the variables
abbrev pub invariant-loop-x : goal.invariant-loop-x
invariant-loop-x l = l.ports.items ++ ports_by l.clocks l.read l.x (drop l.x l.vars) ≡ ports_by l.clocks l.read 0 l.vars
