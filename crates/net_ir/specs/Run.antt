-- The first state of a design, and edges of clocks (IEEE 1800-2017, 4.4, 4.5 and 9.4.2, for one change of the outside at a time).
use Rattle.std.specs.Prelude.{ℕ, Bool, true, false, ◌==◌, ◌&&◌, List, [], map, Option, None, Some, slice_index, if◌then◌else◌}
use Rattle.std.specs.List.{flat_map, list_any}
use Rattle.net_ir.specs.declared.design.Trigger.{Trigger}
use Rattle.net_ir.specs.declared.design.Driver.{Driver}
use Rattle.net_ir.specs.declared.design.Driver.TheVariants as driver
use Rattle.net_ir.specs.declared.design.Driver.TheVariants.{Assign, Comb, Clocked}
use Rattle.net_ir.specs.declared.design.Var.{Var}
use Rattle.net_ir.specs.declared.design.Spec.{Spec}
use Rattle.sv_base.specs.Meaning.{State}
use Rattle.net_ir.specs.Face.{ports_of}
use Rattle.net_ir.specs.Register.{initial_words}
use Rattle.net_ir.specs.Target.{Write}
use Rattle.net_ir.specs.Statement.{clocked_writes}

-- the state before any step: every input is 0, and every register has its initial word
abbrev pub start : Spec → State
start spec = record { inputs = map (λ _. 0) (ports_of spec); registers = initial_words spec }

-- whether a change of level is an edge: from 0 to 1, or from 1 to 0 where a falling one is meant
abbrev pub is_edge : Bool → ℕ → ℕ → Bool
is_edge false before after = before == 0 && after == 1
is_edge true before after = before == 1 && after == 0

abbrev pub edge_at : Option ℕ → Bool → List ℕ → List ℕ → Bool
edge_at None falling before after = false
edge_at (Some clock) falling before after = is_edge falling (slice_index before clock) (slice_index after clock)

-- whether the edge of an event control occurs where the inputs change from these levels to those
abbrev pub occurs : List ℕ → List ℕ → Trigger → Bool
occurs before after t = edge_at t.var t.falling before after

-- the writes of a driver at a change of the inputs, with every read from the valuation u
abbrev pub sampled : List Var → List ℕ → List ℕ → List ℕ → Driver → List Write
sampled vars u before after (Assign target value place) = []
sampled vars u before after (Comb body place) = []
sampled vars u before after (Clocked triggers body place) = if list_any (occurs before after) triggers then clocked_writes vars u body else []
sampled vars u before after (driver.Instance made) = []

-- the writes of all drivers
abbrev pub all_sampled : Spec → List ℕ → List ℕ → List ℕ → List Write
all_sampled spec u before after = flat_map (sampled spec.vars u before after) spec.drivers
