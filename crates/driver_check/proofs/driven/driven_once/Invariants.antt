use Rattle.std.proofs.Common.{◌≡◌, drop, take}
use Rattle.driver_check.specs.Driven.{sources_of, overlaps, refused_sources}
use Rattle.driver_check.proofs.Driving.{HasDrivers}
use Rattle.driver_check.proofs.driven.driven_once.Given as goal

-- the rows tell of the sources so far, and what the rest refuses is all that is refused
abbrev pub invariant-loop-number : goal.invariant-loop-number
invariant-loop-number l = record {
  rows : HasDrivers l.spec.vars (take l.number (sources_of l.spec)) l.rows.items;
  refused : overlaps l.spec ≡ refused_sources l.spec.vars (take l.number (sources_of l.spec)) (drop l.number (sources_of l.spec));
}
