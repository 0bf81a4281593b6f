use Rattle.std.specs.Prelude.{codes}
use Rattle.dpi_wrapper.specs.declared.piece.Piece.TheVariants.{InputArgument, ComboArgument}
use Rattle.dpi_wrapper.specs.WrapperText.{combo_line}
use Rattle.dpi_wrapper.proofs.Pieces.{call_parts}
use Rattle.dpi_wrapper.proofs.processes.push_combo.Goals as goal

pub returns : goal.returns
unfolding combo_line
returns c =
    call_parts InputArgument ComboArgument (codes "  always_comb hw_combo_no = ") (codes "_combo(hw_h") c.args.face.now.name c.bytes.result.now
    c.args.face.now.ports c.as_slice.result.now _ _ _
    c.bytes.ensures c.as_slice.ensures c.in_ok-push_between.ensures c.in_ok-push_arguments.ensures
