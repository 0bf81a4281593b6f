-- Modules without instances.
use Rattle.std.specs.Prelude.{⊤}
use Rattle.std.specs.List.{AllByRecursion}
use Rattle.net_ir.specs.declared.design.Driver.{Driver}
use Rattle.net_ir.specs.declared.design.Driver.TheVariants as driver
use Rattle.net_ir.specs.declared.design.Driver.TheVariants.{Assign, Comb, Clocked}
use Rattle.net_ir.specs.declared.design.Spec.{Spec}

-- a driver that is no instance
abbrev pub IsOwn : Driver → Type 0
IsOwn (Assign target value place) = ⊤
IsOwn (Comb body place) = ⊤
IsOwn (Clocked triggers body place) = ⊤
IsOwn (driver.Instance made) = ⊥

-- a module without instances
abbrev pub HasNoInstance : Spec → Type 0
HasNoInstance spec = AllByRecursion IsOwn spec.drivers
