use Rattle.std.proofs.Common.{◌≡◌, drop}
use Rattle.std.specs.List.{list_all}
use Rattle.plain_run.specs.code.Timely.{is_timely}
use Rattle.plain_run.proofs.plain.are_timely.Given as goal

-- the rest of the drivers decides
abbrev pub invariant-loop-driver : goal.invariant-loop-driver
invariant-loop-driver l = list_all is_timely (drop l.driver-index l.drivers) ≡ list_all is_timely l.drivers
