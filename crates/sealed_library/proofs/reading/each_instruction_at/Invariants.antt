use Rattle.std.proofs.Common.{◌≡◌, ◌-◌, map}
use Rattle.sealed_library.specs.Fields.{items_at}
use Rattle.sealed_library.specs.Version1.{instruction_field, instruction_fields}
use Rattle.sealed_library.proofs.Loops.{with_front}
use Rattle.sealed_library.proofs.reading.each_instruction_at.Given as goal

-- what is read and what is still read make all
abbrev pub invariant-loop : goal.invariant-loop
invariant-loop l = with_front (map instruction_fields l.items) (items_at instruction_field.read (l.count - l.counter) l.rest)
    ≡ items_at instruction_field.read l.count l.bytes
