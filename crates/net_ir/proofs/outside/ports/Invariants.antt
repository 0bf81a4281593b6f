use Rattle.std.proofs.Common.{◌≡◌, ◌++◌, drop}
use Rattle.net_ir.specs.Face.{ports_from, ports_of}
use Rattle.net_ir.proofs.outside.ports.Given as goal

-- the ports so far, and those among the rest of the variables
abbrev pub invariant-loop-x : goal.invariant-loop-x
invariant-loop-x l = l.ports.items ++ ports_from l.spec l.x (drop l.x l.vars) ≡ ports_of l.spec
