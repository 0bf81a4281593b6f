use Rattle.std.proofs.Common.{◌≡◌, drop}
use Rattle.net_ir.specs.Marks.{mark_all}
use Rattle.clock_domains.specs.Each.{of_each}
use Rattle.clock_domains.specs.Clocks.{clocks_at}
use Rattle.clock_domains.proofs.clocks.mark_clocks.Given as goal

-- the rest of the marks gives all of them
abbrev pub invariant-loop-driver : goal.invariant-loop-driver
invariant-loop-driver l =
    mark_all (of_each clocks_at (drop l.driver-index l.drivers) l.faces) l.marks.items ≡ mark_all (of_each clocks_at l.drivers l.children) l.fn.marks.items
