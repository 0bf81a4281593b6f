use Rattle.dpi_wrapper.proofs.Pieces.{all_pieces}
use Rattle.dpi_wrapper.proofs.piece.push_pieces.Goals as goal

pub returns : goal.returns
returns c = all_pieces c.args.piece c.args.ports.now c.loop-port.port-index c.loop-port.into.items c.args.into.now.items c.loop-port-test.false
    c.loop-port.invariant
