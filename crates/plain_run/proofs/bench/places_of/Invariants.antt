use Rattle.std.proofs.Common.{◌≡◌, ◌++◌, drop}
use Rattle.plain_run.specs.Places.{places_from}
use Rattle.plain_run.specs.Places.{is_of}
use Rattle.plain_run.proofs.bench.places_of.Given as goal

-- the places so far, and those of the ports that are left
abbrev pub invariant-loop-place : goal.invariant-loop-place
invariant-loop-place l = l.places.items ++ places_from (is_of l.class) l.place (drop l.place l.ports) ≡ places_from (is_of l.class) 0 l.ports
