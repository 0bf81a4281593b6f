use Rattle.dpi_wrapper.proofs.Grouping.{three_parts}
use Rattle.dpi_wrapper.proofs.piece.push_arguments.Goals as goal

pub returns : goal.returns
returns c =
    let whole = three_parts _ _ _ _ _ _ _ c.in_ok-push_pieces.ensures c.in_ok-push_pieces-2.ensures c.in_ok-extend_from_slice.ensures.items in
    whole
