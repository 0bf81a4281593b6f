-- The bits that drivers may write, as runs.
use Rattle.std.specs.Prelude.{ℕ, zero, suc, ◌==◌, List, [], ◌∷◌, ◌++◌, if◌then◌else◌}
use Rattle.std.specs.List.{AllByRecursion, flat_map}
use Rattle.sv_base.specs.declared.refusal.Place.{Place}
use Rattle.net_ir.specs.declared.design.Var.{Var}
use Rattle.net_ir.specs.declared.design.Output.{Output}
use Rattle.net_ir.specs.Lawful.{IsLawfulJoined}
use Rattle.driver_check.specs.declared.runs.Taken.{Taken}
use Rattle.driver_check.specs.declared.sources.Source.{Source}
use Rattle.driver_check.specs.Driven as driven
use Rattle.driver_check.specs.Driven.{joined_source}
use Rattle.driver_check.specs.code.Runs.{taken_by_all}

abbrev pub source_from : Place → List Taken → Source
source_from place taken = record { place = place; taken = taken }

-- what drives by itself, with the runs of bits that its targets may take
abbrev pub taken_source : List Var → driven.Source → Source
taken_source vars source = source_from source.place (taken_by_all vars source.targets)

abbrev pub taken_joined : List Var → Output → Source
taken_joined vars o = taken_source vars (joined_source o)

-- an output, where it is of this port
abbrev pub taken_at_port : List Var → ℕ → Output → List Source
taken_at_port vars port o = if o.port == port then taken_joined vars o ∷ [] else []

-- outputs of the ports below n, in the order of the ports
abbrev pub taken_below : List Var → List Output → ℕ → List Source
taken_below vars outputs zero = []
taken_below vars outputs (suc n) = taken_below vars outputs n ++ flat_map (taken_at_port vars n) outputs

abbrev pub AreLawfulOutputs : List ℕ → List Output → Type 0
AreLawfulOutputs ws outputs = AllByRecursion (λ (o : Output). IsLawfulJoined ws o.target) outputs
