-- What reads which names, and the clocks among them.
use Rattle.std.specs.Prelude.{ℕ, Bool, true, false, List, [], ◌∷◌, ◌++◌, Option, None, Some, slice_get, if◌then◌else◌}
use Rattle.std.specs.Option.{is_some}
use Rattle.std.specs.List.{flat_map}
use Rattle.sv_base.specs.declared.kind.Kind.TheVariants.{ClockRead}
use Rattle.sv_base.specs.declared.refusal.Place.{Place}
use Rattle.sv_base.specs.declared.refusal.Refusal.{Refusal}
use Rattle.sv_base.specs.declared.face.Class.{Class}
use Rattle.sv_base.specs.declared.face.Class.TheVariants as class
use Rattle.sv_base.specs.declared.face.Port.{Port}
use Rattle.net_ir.specs.declared.design.Var.{Var}
use Rattle.net_ir.specs.declared.design.Input.{Input}
use Rattle.net_ir.specs.declared.design.Output.{Output}
use Rattle.net_ir.specs.declared.design.Driver.{Driver}
use Rattle.net_ir.specs.declared.design.Driver.TheVariants as driver
use Rattle.net_ir.specs.declared.design.Driver.TheVariants.{Assign, Comb, Clocked}
use Rattle.net_ir.specs.Value.{reads_of}
use Rattle.net_ir.specs.Target.{target_reads}
use Rattle.net_ir.specs.Statement.{statement_reads}
use Rattle.net_ir.specs.Drive.{joined_reads}
use Rattle.net_ir.specs.Face.{stands_in}

-- whether a connection to a port of this class reads: one to a clock does not, and a plain name does not where the port is idle
abbrev pub reads_at : Class → Bool → Bool
reads_at class.Clock plain = false
reads_at class.Idle true = false
reads_at class.Idle false = true
reads_at class.Value plain = true
reads_at class.Output plain = true

abbrev pub is_reading : Option Port → Bool → Bool
is_reading None plain = true
is_reading (Some p) plain = reads_at p.class plain

-- the names that a connection to an input reads, where these are the ports of the child
abbrev pub connection_reads : List Port → Input → List ℕ
connection_reads ports i = if is_reading (slice_get ports i.port) (is_some i.plain) then reads_of i.value else []

-- the names that a driver's expressions and connections read, in the order of the text, each as often as it stands there
abbrev pub reads_in : List Port → Driver → List ℕ
reads_in ports (Assign target value place) = target_reads target ++ reads_of value
reads_in ports (Comb body place) = statement_reads body
reads_in ports (Clocked triggers body place) = statement_reads body
reads_in ports (driver.Instance made) = flat_map (connection_reads ports) made.inputs ++ flat_map (λ (o : Output). joined_reads o.target) made.outputs

-- where a driver stands: a continuous assignment at its target, a process at its first word, an instance at its name
abbrev pub place_of : Driver → Place
place_of (Assign target value place) = place
place_of (Comb body place) = place
place_of (Clocked triggers body place) = place
place_of (driver.Instance made) = made.place

abbrev pub refused_read : Bool → Place → Option Var → List Refusal
refused_read clock place None = []
refused_read clock place (Some v) = if clock then record { kind = ClockRead; place = place; name = v.name } ∷ [] else []

-- what is refused of a read of variable x at a place, where these are the clocks
abbrev pub read_refusal : List Var → List ℕ → Place → ℕ → List Refusal
read_refusal vars clocks place x = refused_read (stands_in x clocks) place (slice_get vars x)

-- what is refused of a driver's reads, where these are the clocks
abbrev pub reads_refused : List Var → List ℕ → List Port → Driver → List Refusal
reads_refused vars clocks ports d = flat_map (read_refusal vars clocks (place_of d)) (reads_in ports d)
