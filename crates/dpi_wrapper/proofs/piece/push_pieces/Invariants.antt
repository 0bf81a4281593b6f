use Rattle.std.proofs.Common.{◌≡◌, ◌++◌, drop}
use Rattle.std.specs.List.{flat_map}
use Rattle.dpi_wrapper.specs.code.Pieces.{piece_where_for}
use Rattle.dpi_wrapper.proofs.piece.push_pieces.Given as goal

-- what is written and what is to come make all
abbrev pub invariant-loop-port : goal.invariant-loop-port
invariant-loop-port l = l.into.items ++ flat_map (piece_where_for l.piece) (drop l.port-index l.ports)
    ≡ l.fn.into.items ++ flat_map (piece_where_for l.piece) l.ports
