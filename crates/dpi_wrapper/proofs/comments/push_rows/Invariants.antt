use Rattle.std.proofs.Common.{◌≡◌, ◌++◌, drop}
use Rattle.std.specs.List.{flat_map, enumerate_from}
use Rattle.dpi_wrapper.specs.WrapperText.{depends_line}
use Rattle.dpi_wrapper.proofs.comments.push_rows.Given as goal

-- what is written and what is to come make all
abbrev pub invariant-loop-output : goal.invariant-loop-output
invariant-loop-output l = l.into.items ++ flat_map depends_line (enumerate_from l.output (drop l.output l.rows))
    ≡ l.fn.into.items ++ flat_map depends_line (enumerate_from 0 l.rows)
