-- Which names are clocks: those in event controls, and those that are joined to a clock of a child.
use Rattle.std.specs.Prelude.{ℕ, Bool, true, false, ◌==◌, ◌&&◌, List, [], ◌∷◌, Option, None, Some, slice_get, if◌then◌else◌}
use Rattle.std.specs.List.{flat_map}
use Rattle.sv_base.specs.declared.kind.Kind.TheVariants.{ClockNotPort, ClockNotPlain}
use Rattle.sv_base.specs.declared.refusal.Place.{Place}
use Rattle.sv_base.specs.declared.refusal.Refusal.{Refusal}
use Rattle.sv_base.specs.declared.face.Port.{Port}
use Rattle.sv_base.specs.Classes.{is_clock}
use Rattle.net_ir.specs.declared.term.Term.{Term}
use Rattle.net_ir.specs.declared.term.Term.TheOpen.{Term-F, Const, Read, Pick, Apply}
use Rattle.net_ir.specs.declared.term.Term.TheViews.{out-Term}
use Rattle.net_ir.specs.declared.design.Role.{Role}
use Rattle.net_ir.specs.declared.design.Role.TheVariants as role
use Rattle.net_ir.specs.declared.design.Var.{Var}
use Rattle.net_ir.specs.declared.design.Trigger.{Trigger}
use Rattle.net_ir.specs.declared.design.Input.{Input}
use Rattle.net_ir.specs.declared.design.Driver.{Driver}
use Rattle.net_ir.specs.declared.design.Driver.TheVariants as driver
use Rattle.net_ir.specs.declared.design.Driver.TheVariants.{Assign, Comb, Clocked}
use Rattle.net_ir.specs.Target.{var_list}

-- ---- the clocks

-- whether a port that is there is a clock
abbrev pub is_clock_port : Option Port → Bool
is_clock_port None = false
is_clock_port (Some p) = is_clock p.class

-- the variable that a connection joins to a clock of the child, whose ports these are
abbrev pub joined_clock : List Port → Input → List ℕ
joined_clock ports i = if is_clock_port (slice_get ports i.port) then var_list i.plain else []

-- the variables that stand in a driver's event controls or are joined to clocks of its child
abbrev pub clocks_at : List Port → Driver → List ℕ
clocks_at ports (Assign target value place) = []
clocks_at ports (Comb body place) = []
clocks_at ports (Clocked triggers body place) = flat_map (λ (t : Trigger). var_list t.var) triggers
clocks_at ports (driver.Instance made) = flat_map (joined_clock ports) made.inputs

-- ---- what is refused of them

abbrev pub is_input : Role → Bool
is_input role.Input = true
is_input role.Output = false
is_input role.Inner = false

-- whether a variable is an input port of one bit
abbrev pub is_single_input : Var → Bool
is_single_input v = is_input v.role && v.width == 1

-- whether what a name means may be a clock
abbrev pub may_be_clock : Option Var → Bool
may_be_clock None = false
may_be_clock (Some v) = is_single_input v

-- the variable that a name means, where it means one
abbrev pub variable : List Var → Option ℕ → Option Var
variable vars None = None
variable vars (Some x) = slice_get vars x

-- an event control names an input port of one bit
abbrev pub event_refusal : List Var → Trigger → List Refusal
event_refusal vars t =
    if may_be_clock (variable vars t.var) then [] else record { kind = ClockNotPort; place = t.place; name = t.name } ∷ []

abbrev pub read_place : Place → Term-F Term → Place
read_place other (Const bits) = other
read_place other (Read var place) = place
read_place other (Pick base low at at_signed down width) = other
read_place other (Apply op width lo args) = other

-- the place of the name in a connection that is a plain name
abbrev pub name_place : Input → Place
name_place i = read_place i.place (out-Term i.value)

-- the name of a variable; a number that no variable has means none
abbrev pub name_of : Option Var → List ℕ
name_of None = []
name_of (Some v) = v.name

-- a plain name means an input port of one bit
abbrev pub name_refusal : Place → Option Var → List Refusal
name_refusal place v = if may_be_clock v then [] else record { kind = ClockNotPort; place = place; name = name_of v } ∷ []

-- a connection of a clock, whose name this is, is a plain name
abbrev pub clock_refusal : List Var → List ℕ → Input → Option ℕ → List Refusal
clock_refusal vars port i None = record { kind = ClockNotPlain; place = i.place; name = port } ∷ []
clock_refusal vars port i (Some x) = name_refusal (name_place i) (slice_get vars x)

abbrev pub joined_refusal : List Var → Input → Option Port → List Refusal
joined_refusal vars i None = []
joined_refusal vars i (Some p) = if is_clock p.class then clock_refusal vars p.name i i.plain else []

-- what is refused of a connection, where these are the ports of the child
abbrev pub connection_refusal : List Var → List Port → Input → List Refusal
connection_refusal vars ports i = joined_refusal vars i (slice_get ports i.port)

-- what is refused of a driver's event controls and clock connections, in the order of the text
abbrev pub joins_refused : List Var → List Port → Driver → List Refusal
joins_refused vars ports (Assign target value place) = []
joins_refused vars ports (Comb body place) = []
joins_refused vars ports (Clocked triggers body place) = flat_map (event_refusal vars) triggers
joins_refused vars ports (driver.Instance made) = flat_map (connection_refusal vars ports) made.inputs
