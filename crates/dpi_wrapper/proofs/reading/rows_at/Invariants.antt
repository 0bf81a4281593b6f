use Rattle.std.proofs.Common.{◌≡◌, ◌-◌}
use Rattle.std.specs.Prelude.{codes}
use Rattle.dpi_wrapper.specs.code.Reading.{items_at, row_at}
use Rattle.dpi_wrapper.proofs.Loop.{with_front}
use Rattle.dpi_wrapper.proofs.reading.rows_at.Given as goal

-- what is read and what is still read make all
abbrev pub invariant-loop : goal.invariant-loop
invariant-loop l = with_front l.rows.items (items_at (codes "// depends ") row_at (l.limit - l.counter) l.rest)
    ≡ items_at (codes "// depends ") row_at l.limit l.bytes
