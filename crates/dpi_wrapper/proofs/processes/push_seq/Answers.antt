use Rattle.std.specs.Prelude.{codes}
use Rattle.dpi_wrapper.specs.declared.piece.Piece.TheVariants.{ClockArgument, NextArgument}
use Rattle.dpi_wrapper.specs.WrapperText.{seq_line}
use Rattle.dpi_wrapper.proofs.Pieces.{call_parts}
use Rattle.dpi_wrapper.proofs.processes.push_seq.Goals as goal

pub returns : goal.returns
unfolding seq_line
returns c =
    call_parts ClockArgument NextArgument (codes "    hw_next_no = ") (codes "_seq(hw_h") c.args.face.now.name c.bytes.result.now c.args.face.now.ports
    c.as_slice.result.now _ _ _
    c.bytes.ensures c.as_slice.ensures c.in_ok-push_between.ensures c.in_ok-push_arguments.ensures
