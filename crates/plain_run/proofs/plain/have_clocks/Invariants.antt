use Rattle.std.proofs.Common.{◌≡◌, drop}
use Rattle.std.specs.List.{list_all}
use Rattle.plain_run.specs.code.Marks.{has_clocks}
use Rattle.plain_run.proofs.plain.have_clocks.Given as goal

-- the rest of the drivers decides
abbrev pub invariant-loop-driver : goal.invariant-loop-driver
invariant-loop-driver l =
    list_all (has_clocks l.vars l.read.items) (drop l.driver-index l.driver-items) ≡ list_all (has_clocks l.vars l.read.items) l.driver-items
