-- Who drives each bit, and bits that more than one would drive (IEEE 1800-2017, 6.5, 10.3.2 and 23.3.3).
use Rattle.std.specs.Prelude.{◌≡◌, ℕ, zero, suc, ◌+◌, ◌<◌, max, ◌==◌, Bool, true, false, ◌&&◌, ◌||◌, List, [], ◌∷◌, ◌++◌, length, map, Option, None, Some, slice_get, slice_index_or, if◌then◌else◌}
use Rattle.std.specs.List.{flat_map, list_any}
use Rattle.sv_base.specs.declared.kind.Kind.TheVariants.{TwoDrivers, InputDriven}
use Rattle.sv_base.specs.declared.refusal.Place.{Place}
use Rattle.sv_base.specs.declared.refusal.Refusal.{Refusal}
use Rattle.net_ir.specs.declared.design.Role.{Role}
use Rattle.net_ir.specs.declared.design.Role.TheVariants.{Input, Output, Inner}
use Rattle.net_ir.specs.declared.design.Var.{Var}
use Rattle.net_ir.specs.declared.design.Output.{Output as Joined}
use Rattle.net_ir.specs.declared.design.Driver.{Driver}
use Rattle.net_ir.specs.declared.design.Driver.TheVariants as driver
use Rattle.net_ir.specs.declared.design.Spec.{Spec}
use Rattle.net_ir.specs.declared.statement.Target.{Target}
use Rattle.net_ir.specs.Target.{named_bit}
use Rattle.net_ir.specs.Drive.{any_may_write, joined_target}
use Rattle.net_ir.specs.Statement.{targets_of}
use Rattle.driver_check.specs.Written.{Named, names_of}

-- ---- what drives by itself

-- what drives by itself: its place, and the targets that it may write
pub record Source : Type 0 where
  pub place : Place
  pub targets : List Target

-- an output, where it is of this port
abbrev pub at_port : ℕ → Joined → List Joined
at_port port o = if o.port == port then o ∷ [] else []

-- outputs of the ports below n, in the order of the ports
abbrev pub outputs_below : List Joined → ℕ → List Joined
outputs_below outputs zero = []
outputs_below outputs (suc n) = outputs_below outputs n ++ flat_map (at_port n) outputs

-- one more than the greatest port
abbrev pub port_bound : List Joined → ℕ
port_bound [] = 0
port_bound (o ∷ outputs) = max (o.port + 1) (port_bound outputs)

-- outputs in the order of the child's ports
abbrev pub in_port_order : List Joined → List Joined
in_port_order outputs = outputs_below outputs (port_bound outputs)

abbrev pub joined_source : Joined → Source
joined_source o = record { place = o.place; targets = joined_target o.target }

-- what drives by itself in an item: each joined output of an instance does, in the order of the child's ports
abbrev pub sources_in : Driver → List Source
sources_in (driver.Assign target value place) = record { place = place; targets = target ∷ [] } ∷ []
sources_in (driver.Comb body place) = record { place = place; targets = targets_of body } ∷ []
sources_in (driver.Clocked triggers body place) = record { place = place; targets = targets_of body } ∷ []
sources_in (driver.Instance made) = map joined_source (in_port_order made.outputs)

-- all that drives by itself, in item order: the number of a driver is its place in this list
abbrev pub sources_of : Spec → List Source
sources_of spec = flat_map sources_in spec.drivers

-- ---- who drives a bit

-- whether this may write bit k of variable x
abbrev pub drives : List Var → Source → ℕ → ℕ → Bool
drives vars source x k = any_may_write vars source.targets x k

-- the number of the first of these that may write bit k of variable x, where the first of them has number n
abbrev pub first_driver : List Var → ℕ → List Source → ℕ → ℕ → Option ℕ
first_driver vars n [] x k = None
first_driver vars n (source ∷ rest) x k = if drives vars source x k then Some n else first_driver vars (n + 1) rest x k

-- the number of the driver of bit k of variable x, where it has one
abbrev pub driver_of : Spec → ℕ → ℕ → Option ℕ
driver_of spec x k = first_driver spec.vars 0 (sources_of spec) x k

-- a map of drivers: a row for each variable with an entry for each of its bits, which is the number of the bit's driver or none
pub record IsDriverMap (spec : Spec) (rows : List (List (Option ℕ))) : Type 0 where
  pub each : length rows ≡ length spec.vars
  pub bits : (x : ℕ) (v : Var) → slice_get spec.vars x ≡ Some v → length (slice_index_or rows x []) ≡ v.width
  pub tells : (x : ℕ) (v : Var) (k : ℕ) → slice_get spec.vars x ≡ Some v → k < v.width → slice_index_or (slice_index_or rows x []) k None ≡ driver_of spec x k

-- ---- bits that have another driver

-- whether some number below n passes a test
abbrev pub some_below : ℕ → (ℕ → Bool) → Bool
some_below zero test = false
some_below (suc n) test = some_below n test || test n

-- whether some of these may write bit k of variable x
abbrev pub is_driven : List Var → List Source → ℕ → ℕ → Bool
is_driven vars sources x k = list_any (λ source. drives vars source x k) sources

-- whether a name in a target may take bit k of variable x
abbrev pub takes : List Var → Named → ℕ → ℕ → Bool
takes vars n x k = named_bit vars n.var n.pos x k

abbrev pub is_input : Role → Bool
is_input Input = true
is_input Output = false
is_input Inner = false

-- a driver at a place that takes bits of variable x: it drives an input of the module itself, or a bit that one before it drives; one that
-- takes no bit in range drives nothing
abbrev pub refused_var : List Var → List Source → Place → Named → ℕ → Option Var → List Refusal
refused_var vars before place n x None = []
refused_var vars before place n x (Some v) =
    if is_input v.role
    then (if some_below v.width (takes vars n x) then record { kind = InputDriven; place = place; name = v.name } ∷ [] else [])
    else (if some_below v.width (λ k. takes vars n x k && is_driven vars before x k) then record { kind = TwoDrivers; place = place; name = v.name } ∷ [] else [])

abbrev pub refused_taking : List Var → List Source → Place → Named → Option ℕ → List Refusal
refused_taking vars before place n None = []
refused_taking vars before place n (Some x) = refused_var vars before place n x (slice_get vars x)

-- what is refused of a driver that comes after others: its names in the order of the text
abbrev pub refused_source : List Var → List Source → Source → List Refusal
refused_source vars before source = flat_map (λ n. refused_taking vars before source.place n n.var) (flat_map names_of source.targets)

-- what is refused of drivers, each after those before it
abbrev pub refused_sources : List Var → List Source → List Source → List Refusal
refused_sources vars before [] = []
refused_sources vars before (source ∷ rest) = refused_source vars before source ++ refused_sources vars (before ++ source ∷ []) rest

-- bits with a driver too many, in item order
abbrev pub overlaps : Spec → List Refusal
overlaps spec = refused_sources spec.vars [] (sources_of spec)
