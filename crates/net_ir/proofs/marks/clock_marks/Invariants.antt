use Rattle.std.proofs.Common.{◌≡◌, drop}
use Rattle.std.specs.List.{flat_map}
use Rattle.net_ir.specs.Drive.{driver_clocks}
use Rattle.net_ir.specs.Marks.{mark_all}
use Rattle.net_ir.proofs.marks.clock_marks.Given as goal

-- the rest of the marks gives all of them
abbrev pub invariant-loop-driver : goal.invariant-loop-driver
invariant-loop-driver l =
    mark_all (flat_map driver_clocks (drop l.driver-index l.driver-items)) l.marks.items ≡ mark_all (flat_map driver_clocks l.driver-items) l.initial.marks.items
