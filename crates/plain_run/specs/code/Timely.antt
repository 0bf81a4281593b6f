-- Drivers that are continuous assignments to constant positions, or clocked processes.
use Rattle.std.specs.Prelude.{Bool, true, false, Option, None, Some}
use Rattle.std.specs.List.{list_all}
use Rattle.net_ir.specs.declared.statement.Pos.{Pos}
use Rattle.net_ir.specs.declared.statement.Target.{Target}
use Rattle.net_ir.specs.declared.statement.Target.TheOpen.{Target-F, Of, List as Parts}
use Rattle.net_ir.specs.declared.statement.Target.TheFolds.{fold-Target}
use Rattle.net_ir.specs.declared.design.Driver.{Driver}
use Rattle.net_ir.specs.declared.design.Driver.TheVariants as driver
use Rattle.net_ir.specs.declared.design.Driver.TheVariants.{Assign, Comb, Clocked}
use Rattle.net_ir.specs.Target.{is_fixed}

-- whether a position, where there is one, is a constant
abbrev pub has_fixed_position : Option Pos → Bool
has_fixed_position None = true
has_fixed_position (Some p) = is_fixed p

abbrev pub fixed_layer : Target-F Bool → Bool
fixed_layer (Of var name place p) = has_fixed_position p
fixed_layer (Parts parts) = list_all (λ part. part) parts

-- whether each position in a target is one
abbrev pub has_fixed_positions : Target → Bool
has_fixed_positions = fold-Target Bool fixed_layer

-- whether a driver is such an assignment, or a clocked process
abbrev pub is_timely : Driver → Bool
is_timely (Assign target value place) = has_fixed_positions target
is_timely (Comb body place) = false
is_timely (Clocked triggers body place) = true
is_timely (driver.Instance made) = false
