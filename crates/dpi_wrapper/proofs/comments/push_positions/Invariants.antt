use Rattle.std.proofs.Common.{◌≡◌, ◌++◌, drop}
use Rattle.std.specs.List.{flat_map}
use Rattle.dpi_wrapper.specs.WrapperText.{position_word}
use Rattle.dpi_wrapper.proofs.comments.push_positions.Given as goal

-- what is written and what is to come make all
abbrev pub invariant-loop-position : goal.invariant-loop-position
invariant-loop-position l = l.into.items ++ flat_map position_word (drop l.position-index l.row) ≡ l.fn.into.items ++ flat_map position_word l.row
