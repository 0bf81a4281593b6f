use Rattle.std.proofs.Common.{◌≡◌, ◌-◌}
use Rattle.sealed_library.specs.Fields.{items_at}
use Rattle.sealed_library.specs.Version1.{port_field}
use Rattle.sealed_library.proofs.Loops.{with_front}
use Rattle.sealed_library.proofs.reading.ports_at.Given as goal

-- what is read and what is still read make all
abbrev pub invariant-loop : goal.invariant-loop
invariant-loop l = with_front l.items (items_at port_field.read (l.count - l.counter) l.rest) ≡ items_at port_field.read l.count l.bytes
