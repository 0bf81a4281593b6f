use Rattle.std.specs.Prelude.{codes}
use Rattle.dpi_wrapper.specs.declared.piece.Piece.TheVariants.{InputParameter, OutputParameter}
use Rattle.dpi_wrapper.specs.WrapperText.{combo_import}
use Rattle.dpi_wrapper.proofs.Pieces.{call_parts}
use Rattle.dpi_wrapper.proofs.imports.push_combo_import.Goals as goal

pub returns : goal.returns
unfolding combo_import
returns c =
    call_parts InputParameter OutputParameter (codes "  import \"DPI-C\" function longint ") (codes "_combo(input chandle h") c.args.face.now.name
    c.bytes.result.now c.args.face.now.ports c.as_slice.result.now _ _ _
    c.bytes.ensures c.as_slice.ensures c.in_ok-push_between.ensures c.in_ok-push_arguments.ensures
