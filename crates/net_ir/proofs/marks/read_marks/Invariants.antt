use Rattle.std.proofs.Common.{◌≡◌, drop}
use Rattle.std.specs.List.{flat_map}
use Rattle.net_ir.specs.Drive.{driver_reads}
use Rattle.net_ir.specs.Marks.{mark_all}
use Rattle.net_ir.proofs.marks.read_marks.Given as goal

-- the rest of the marks gives all of them
abbrev pub invariant-loop-driver : goal.invariant-loop-driver
invariant-loop-driver l =
    mark_all (flat_map driver_reads (drop l.driver-index l.driver-items)) l.marks.items ≡ mark_all (flat_map driver_reads l.driver-items) l.initial.marks.items
