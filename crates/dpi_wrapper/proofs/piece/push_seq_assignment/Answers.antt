use Rattle.std.proofs.Common.{◌++◌, ap, ◌∙◌}
use Rattle.std.specs.Prelude.{codes}
use Rattle.dpi_wrapper.specs.WrapperText.{seq_assignment}
use Rattle.dpi_wrapper.proofs.Grouping.{three_parts}
use Rattle.dpi_wrapper.proofs.piece.push_seq_assignment.Goals as goal

pub returns : goal.returns
unfolding seq_assignment
returns c =
    let whole = three_parts _ _ _ _ _ _ _ c.in_ok-push_between.ensures c.in_ok-extend_from_slice.ensures.items c.in_ok-extend_from_slice-2.ensures.items in
    whole ∙ ap (λ name. c.args.into.now.items ++ (codes "    hw_seq_" ++ name ++ codes " <= hw_next_" ++ name ++ codes ";\n")) c.bytes-name.ensures
