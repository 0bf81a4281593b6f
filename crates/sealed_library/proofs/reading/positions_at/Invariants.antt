use Rattle.std.proofs.Common.{◌≡◌, ◌-◌}
use Rattle.std.specs.Int.{w16}
use Rattle.sealed_library.specs.Fields.{number, items_at}
use Rattle.sealed_library.proofs.Loops.{with_front}
use Rattle.sealed_library.proofs.reading.positions_at.Given as goal

-- what is read and what is still read make all
abbrev pub invariant-loop : goal.invariant-loop
invariant-loop l = with_front l.items (items_at (number w16).read (l.count - l.counter) l.rest) ≡ items_at (number w16).read l.count l.bytes
