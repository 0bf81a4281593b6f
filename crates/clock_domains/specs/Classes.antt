-- The classes of a module's ports.
use Rattle.std.specs.Prelude.{◌≡◌, ℕ, ◌+◌, List, [], ◌∷◌, if◌then◌else◌}
use Rattle.sv_base.specs.declared.face.Class.{Class}
use Rattle.sv_base.specs.declared.face.Class.TheVariants as class
use Rattle.sv_base.specs.declared.face.Port.{Port}
use Rattle.sv_base.specs.declared.face.Face.{Face}
use Rattle.net_ir.specs.declared.design.Role.{Role}
use Rattle.net_ir.specs.declared.design.Role.TheVariants.{Input, Output, Inner}
use Rattle.net_ir.specs.declared.design.Var.{Var}
use Rattle.net_ir.specs.declared.design.Spec.{Spec}
use Rattle.net_ir.specs.Face.{stands_in, input_class, is_inner}
use Rattle.clock_domains.specs.Order.{clocks_of, reads_of, refusals}

-- the class of variable x of this role, where these variables are clocks and those are read: an input is a clock, else idle where nothing
-- reads it, else a data input
abbrev pub class_in : List ℕ → List ℕ → ℕ → Role → Class
class_in clocks reads x Input = input_class (stands_in x clocks) (stands_in x reads)
class_in clocks reads x Output = class.Output
class_in clocks reads x Inner = class.Output

abbrev pub port_in : List ℕ → List ℕ → ℕ → Var → Port
port_in clocks reads x v = record { name = v.name; class = class_in clocks reads x v.role; signed = v.signed; width = v.width }

-- the ports among variables, the first of which has number x: they stand before each variable that only the module sees
abbrev pub ports_in : List ℕ → List ℕ → ℕ → List Var → List Port
ports_in clocks reads x [] = []
ports_in clocks reads x (v ∷ vars) = if is_inner v.role then [] else port_in clocks reads x v ∷ ports_in clocks reads (x + 1) vars

-- the face of a module, where these are the faces of its instances in item order
abbrev pub face_with : Spec → List Face → Face
face_with spec faces = record { name = spec.«module»; ports = ports_in (clocks_of spec faces) (reads_of spec faces) 0 spec.vars }

-- nothing of a module's clocks is refused, and this is its face
pub record IsClassified (spec : Spec) (faces : List Face) (face : Face) : Type 0 where
  pub clean : refusals spec faces ≡ []
  pub is : face ≡ face_with spec faces
