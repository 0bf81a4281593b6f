-- What lists of parts say one after another, and what a check tells.
use Rattle.std.specs.Prelude.{◌≡◌, ℕ, ◌+◌, Bool, false, List, [], ◌∷◌, if◌then◌else◌, Result, Ok, Err, slice_get, slice_index_or}
use Rattle.std.specs.List.{flat_map}
use Rattle.sv_base.specs.declared.refusal.Refusal.{Refusal}
use Rattle.sv_base.specs.declared.fault.Fault.{Fault}
use Rattle.sv_base.specs.Faults.{IfRefused}
use Rattle.sv_base.specs.declared.face.Class.{Class}
use Rattle.sv_base.specs.declared.face.Class.TheVariants as class
use Rattle.net_ir.specs.declared.design.Role.{Role}
use Rattle.net_ir.specs.declared.design.Role.TheVariants.{Input, Output, Inner}
use Rattle.sv_base.specs.declared.refusal.Place.{Place}
use Rattle.sv_base.specs.declared.face.Port.{Port}
use Rattle.net_ir.specs.declared.design.Var.{Var}
use Rattle.net_ir.specs.declared.design.Trigger.{Trigger}
use Rattle.net_ir.specs.declared.design.Input.{Input as JoinedInput}
use Rattle.net_ir.specs.declared.design.Driver.{Driver}
use Rattle.net_ir.specs.Face.{input_class, is_inner}
use Rattle.clock_domains.specs.Clocks.{joined_clock, event_refusal, connection_refusal}
use Rattle.clock_domains.specs.Reads.{connection_reads, reads_in, place_of, refused_read}
use Rattle.clock_domains.specs.Order.{IsFirst}

-- the names that connections to inputs read
abbrev pub inputs_read : List Port → List JoinedInput → List ℕ
inputs_read ports inputs = flat_map (connection_reads ports) inputs

-- what connections join to clocks, and what is refused of connections and of event controls
abbrev pub clocks_joined : List Port → List JoinedInput → List ℕ
clocks_joined ports inputs = flat_map (joined_clock ports) inputs

abbrev pub connections_refused : List Var → List Port → List JoinedInput → List Refusal
connections_refused vars ports inputs = flat_map (connection_refusal vars ports) inputs

abbrev pub events_refused : List Var → List Trigger → List Refusal
events_refused vars triggers = flat_map (event_refusal vars) triggers

-- what is refused of reads, where these marks tell the clocks
abbrev pub marked_refusal : List Var → List Bool → Place → ℕ → List Refusal
marked_refusal vars marks place x = refused_read (slice_index_or marks x false) place (slice_get vars x)

abbrev pub marked_refusals : List Var → List Bool → Place → List ℕ → List Refusal
marked_refusals vars marks place reads = flat_map (marked_refusal vars marks place) reads

abbrev pub driver_refusals : List Var → List Bool → List Port → Driver → List Refusal
driver_refusals vars marks ports d = marked_refusals vars marks (place_of d) (reads_in ports d)

-- nothing is refused, or the first of what is; memory may run out
abbrev pub Finds : {T : Type 0} → List Refusal → Result T Fault → Type 0
Finds all (Ok done) = all ≡ []
Finds all (Err fault) = IfRefused (IsFirst all) fault

-- the class of a variable of this role, by whether it is a clock and whether it is read
abbrev pub class_by : Role → Bool → Bool → Class
class_by Input clock read = input_class clock read
class_by Output clock read = class.Output
class_by Inner clock read = class.Output

-- the ports among variables, the first of which has number x, where these marks tell the clocks and what is read
abbrev pub port_by : List Bool → List Bool → ℕ → Var → Port
port_by clocks read x v = record {
  name = v.name;
  class = class_by v.role (slice_index_or clocks x false) (slice_index_or read x false);
  signed = v.signed;
  width = v.width;
}

abbrev pub ports_by : List Bool → List Bool → ℕ → List Var → List Port
ports_by clocks read x [] = []
ports_by clocks read x (v ∷ vars) = if is_inner v.role then [] else port_by clocks read x v ∷ ports_by clocks read (x + 1) vars
