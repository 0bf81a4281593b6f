-- Designs whose drivers can be taken in the order of the text, variable by variable.
use Rattle.std.specs.Prelude.{◌≡◌, ℕ, false, List, [], ◌∷◌, Option, None, Some, slice_get, slice_index, ⊤}
use Rattle.std.specs.List.{AllByRecursion, flat_map}
use Rattle.net_ir.specs.declared.design.Role.TheVariants.{Input}
use Rattle.net_ir.specs.declared.design.Var.{Var}
use Rattle.net_ir.specs.declared.statement.Target.{Target}
use Rattle.net_ir.specs.declared.design.Trigger.{Trigger}
use Rattle.net_ir.specs.declared.design.Driver.{Driver}
use Rattle.net_ir.specs.declared.design.Driver.TheVariants as driver
use Rattle.net_ir.specs.declared.design.Driver.TheVariants.{Assign, Comb, Clocked}
use Rattle.net_ir.specs.declared.design.Spec.{Spec}
use Rattle.net_ir.specs.Value.{widths_of}
use Rattle.net_ir.specs.Lawful.{IsLawfulSpec}
use Rattle.net_ir.specs.Target.{target_vars}
use Rattle.net_ir.specs.Statement.{targets_of}
use Rattle.net_ir.specs.Drive.{depends_on, instance_targets}
use Rattle.net_ir.specs.Face.{stands_in, all_reads}
use Rattle.net_values.specs.Positions.{HasFixedPositions}
use Rattle.driver_check.specs.Written.{wrong_assigns}

-- a continuous assignment to constant positions, or a clocked process
abbrev pub IsTimely : Driver → Type 0
IsTimely (Assign to value place) = HasFixedPositions to
IsTimely (Comb body place) = ⊥
IsTimely (Clocked triggers body place) = ⊤
IsTimely (driver.Instance made) = ⊥

-- the variables that targets name
abbrev pub named_by : List Target → List ℕ
named_by targets = flat_map target_vars targets

-- the variables that a driver names in its targets, and those of them that it gives at all times
abbrev pub written_by : Driver → List ℕ
written_by (Assign to value place) = target_vars to
written_by (Comb body place) = named_by (targets_of body)
written_by (Clocked triggers body place) = named_by (targets_of body)
written_by (driver.Instance made) = named_by (instance_targets made)

abbrev pub driven_by : Driver → List ℕ
driven_by (Assign to value place) = target_vars to
driven_by (Comb body place) = named_by (targets_of body)
driven_by (Clocked triggers body place) = []
driven_by (driver.Instance made) = named_by (instance_targets made)

-- variable x is an input
abbrev pub IsInput : List Var → ℕ → Type 0
IsInput vars x = (v : Var) × (slice_get vars x ≡ Some v) × (v.role ≡ Input)

-- a driver writes no input
abbrev pub SparesInputs : List Var → Driver → Type 0
SparesInputs vars d = AllByRecursion (λ x. IsInput vars x → ⊥) (written_by d)

-- none of the drivers names variable x in a target, and none gives bits of it at all times
abbrev pub NoneNames : List Driver → ℕ → Type 0
NoneNames drivers x = AllByRecursion (λ d. stands_in x (written_by d) ≡ false) drivers

abbrev pub NoneGives : List Driver → ℕ → Type 0
NoneGives drivers x = AllByRecursion (λ d. stands_in x (driven_by d) ≡ false) drivers

-- no later driver writes a variable that this one writes, and neither it nor a later one gives at all times a variable on which it
-- depends
pub record IsBefore (d : Driver) (later : List Driver) : Type 0 where
  pub alone : AllByRecursion (NoneNames later) (written_by d)
  pub settled : AllByRecursion (NoneGives (d ∷ later)) (depends_on d)

-- so for each driver of the list and those after it: no variable has two drivers, and none is read before it is given
abbrev pub AreOrdered : List Driver → Type 0
AreOrdered [] = ⊤
AreOrdered (d ∷ later) = IsBefore d later × AreOrdered later

-- a variable may be a clock: it is an input of one bit, and no expression reads it
pub record IsPlainClock (spec : Spec) (clock : ℕ) : Type 0 where
  pub input : IsInput spec.vars clock
  pub one_bit : slice_index (widths_of spec.vars) clock ≡ 1
  pub unread : stands_in clock (all_reads spec) ≡ false

-- each event control of a driver names such a variable
abbrev pub IsPlainTrigger : Spec → Option ℕ → Type 0
IsPlainTrigger spec None = ⊥
IsPlainTrigger spec (Some clock) = IsPlainClock spec clock

abbrev pub HasPlainClocks : Spec → Driver → Type 0
HasPlainClocks spec (Assign to value place) = ⊤
HasPlainClocks spec (Comb body place) = ⊤
HasPlainClocks spec (Clocked triggers body place) = AllByRecursion (λ (t : Trigger). IsPlainTrigger spec t.var) triggers
HasPlainClocks spec (driver.Instance made) = ⊤

-- a lawful design whose drivers can be taken in the order of the text, variable by variable; processes assign rightly, and clocks are
-- apart from what expressions read
pub record IsPlain (spec : Spec) : Type 0 where
  pub lawful : IsLawfulSpec spec
  pub timely : AllByRecursion IsTimely spec.drivers
  pub rightly : wrong_assigns spec ≡ []
  pub inner : AllByRecursion (SparesInputs spec.vars) spec.drivers
  pub ordered : AreOrdered spec.drivers
  pub clocks : AllByRecursion (HasPlainClocks spec) spec.drivers
