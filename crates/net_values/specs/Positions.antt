-- Targets that take the same bits in each valuation.
use Rattle.std.specs.Prelude.{◌≡◌, true, Option, None, Some, ⊤}
use Rattle.net_ir.specs.declared.statement.Pos.{Pos}
use Rattle.net_ir.specs.declared.statement.Target.{Target}
use Rattle.net_ir.specs.declared.statement.Target.TheOpen.{Target-F, Of, List as Parts}
use Rattle.net_ir.specs.declared.statement.Target.TheFolds.{every-Target}
use Rattle.net_ir.specs.Target.{is_fixed}

-- a position is a constant: no variable is read for it
abbrev pub HasFixedPosition : Option Pos → Type 0
HasFixedPosition None = ⊤
HasFixedPosition (Some p) = is_fixed p ≡ true

abbrev pub HasFixedLayer : Target-F Target → Type 0
HasFixedLayer (Of var name place p) = HasFixedPosition p
HasFixedLayer (Parts parts) = ⊤

-- each position in a target is a constant
abbrev pub HasFixedPositions : Target → Type 0
HasFixedPositions = every-Target HasFixedLayer
