-- What the drivers of a module say one after another, each instance with the ports of its child.
use Rattle.std.specs.Prelude.{List, [], ◌∷◌, ◌++◌, drop}
use Rattle.sv_base.specs.declared.face.Face.{Face}
use Rattle.sv_base.specs.declared.face.Port.{Port}
use Rattle.net_ir.specs.declared.design.Driver.{Driver}
use Rattle.net_ir.specs.declared.design.Driver.TheVariants as driver
use Rattle.net_ir.specs.declared.design.Driver.TheVariants.{Assign, Comb, Clocked}

-- the ports of the first of these faces
abbrev pub first_ports : List Face → List Port
first_ports [] = []
first_ports (face ∷ faces) = face.ports

-- the ports of a driver's child, where these are the faces of the instances from it on: a driver that is no instance has no child
abbrev pub child_ports : Driver → List Face → List Port
child_ports (Assign target value place) faces = []
child_ports (Comb body place) faces = []
child_ports (Clocked triggers body place) faces = []
child_ports (driver.Instance made) faces = first_ports faces

-- the faces of the instances behind a driver
abbrev pub faces_behind : Driver → List Face → List Face
faces_behind (Assign target value place) faces = faces
faces_behind (Comb body place) faces = faces
faces_behind (Clocked triggers body place) faces = faces
faces_behind (driver.Instance made) faces = drop 1 faces

-- what each driver says with the ports of its child, in item order
abbrev pub of_each : {X : Type 0} → (List Port → Driver → List X) → List Driver → List Face → List X
of_each say [] faces = []
of_each say (d ∷ drivers) faces = say (child_ports d faces) d ++ of_each say drivers (faces_behind d faces)
