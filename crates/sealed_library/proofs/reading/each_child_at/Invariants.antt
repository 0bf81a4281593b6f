use Rattle.std.proofs.Common.{◌≡◌, ◌-◌, map}
use Rattle.sealed_library.specs.Fields.{items_at}
use Rattle.sealed_library.specs.Version1.{child_field, child_fields}
use Rattle.sealed_library.proofs.Loops.{with_front}
use Rattle.sealed_library.proofs.reading.each_child_at.Given as goal

-- what is read and what is still read make all
abbrev pub invariant-loop : goal.invariant-loop
invariant-loop l = with_front (map child_fields l.items) (items_at child_field.read (l.count - l.counter) l.rest) ≡ items_at child_field.read l.count l.bytes
