-- What the outside sees of a design: its ports, each with its class.
use Rattle.std.specs.Prelude.{ℕ, ◌+◌, Bool, true, false, ◌==◌, List, [], ◌∷◌, if◌then◌else◌}
use Rattle.std.specs.List.{flat_map, list_any}
use Rattle.sv_base.specs.declared.face.Class.{Class}
use Rattle.sv_base.specs.declared.face.Class.TheVariants as class
use Rattle.sv_base.specs.declared.face.Port.{Port}
use Rattle.sv_base.specs.declared.face.Face.{Face}
use Rattle.net_ir.specs.declared.design.Role.{Role}
use Rattle.net_ir.specs.declared.design.Role.TheVariants.{Input, Output, Inner}
use Rattle.net_ir.specs.declared.design.Var.{Var}
use Rattle.net_ir.specs.declared.design.Spec.{Spec}
use Rattle.net_ir.specs.Drive.{driver_reads, driver_clocks}

-- whether a number stands in a list
abbrev pub stands_in : ℕ → List ℕ → Bool
stands_in x xs = list_any (λ y. y == x) xs

-- the variables that stand in event controls, and those that expressions read
abbrev pub clocks_of : Spec → List ℕ
clocks_of spec = flat_map driver_clocks spec.drivers

abbrev pub all_reads : Spec → List ℕ
all_reads spec = flat_map driver_reads spec.drivers

-- the class of an input: a clock where it stands in an event control, else idle where nothing reads it
abbrev pub input_class : Bool → Bool → Class
input_class true read = class.Clock
input_class false true = class.Value
input_class false false = class.Idle

-- the class of variable n of this role
abbrev pub class_of : Spec → ℕ → Role → Class
class_of spec n Input = input_class (stands_in n (clocks_of spec)) (stands_in n (all_reads spec))
class_of spec n Output = class.Output
class_of spec n Inner = class.Output

abbrev pub port_of : Spec → ℕ → Var → Port
port_of spec n v = record { name = v.name; class = class_of spec n v.role; signed = v.signed; width = v.width }

abbrev pub is_inner : Role → Bool
is_inner Input = false
is_inner Output = false
is_inner Inner = true

-- the ports among variables, the first of which has number n: they stand before each variable that only the module sees
abbrev pub ports_from : Spec → ℕ → List Var → List Port
ports_from spec n [] = []
ports_from spec n (v ∷ vars) = if is_inner v.role then [] else port_of spec n v ∷ ports_from spec (n + 1) vars

abbrev pub ports_of : Spec → List Port
ports_of spec = ports_from spec 0 spec.vars

abbrev pub face_of : Spec → Face
face_of spec = record { name = spec.«module»; ports = ports_of spec }
