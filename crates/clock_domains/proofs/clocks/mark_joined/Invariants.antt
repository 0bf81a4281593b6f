use Rattle.std.proofs.Common.{◌≡◌, length}
use Rattle.net_ir.specs.Marks.{mark_all}
use Rattle.clock_domains.specs.code.Walking.{clocks_joined}
use Rattle.clock_domains.proofs.clocks.mark_joined.Given as goal

-- the rest of the marks gives all of them
abbrev pub invariant-loop-rest : goal.invariant-loop-rest
invariant-loop-rest l = mark_all (clocks_joined l.ports l.rest) l.marks.items ≡ mark_all (clocks_joined l.ports l.inputs) l.fn.marks.items

abbrev pub decreases-loop-rest : goal.decreases-loop-rest
decreases-loop-rest l = length l.rest
