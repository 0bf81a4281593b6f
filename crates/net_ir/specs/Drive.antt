-- What drivers give, which bits they may write, and what they read.
use Rattle.std.specs.Prelude.{◌≡◌, ℕ, Bool, false, List, [], ◌∷◌, ◌++◌, Option, None, Some}
use Rattle.std.specs.List.{AllByRecursion, list_any, flat_map}
use Rattle.net_ir.specs.declared.design.Var.{Var}
use Rattle.net_ir.specs.declared.statement.Target.{Target}
use Rattle.net_ir.specs.declared.design.Trigger.{Trigger}
use Rattle.net_ir.specs.declared.design.Input.{Input}
use Rattle.net_ir.specs.declared.design.Output.{Output}
use Rattle.net_ir.specs.declared.design.Instance.{Instance}
use Rattle.net_ir.specs.declared.design.Driver.{Driver}
use Rattle.net_ir.specs.declared.design.Driver.TheVariants as driver
use Rattle.net_ir.specs.declared.design.Driver.TheVariants.{Assign, Comb, Clocked}
use Rattle.net_ir.specs.Value.{val, widths_of, reads_of}
use Rattle.net_ir.specs.Target.{writes_to, last_bit, overlaid, may_write, var_list, target_reads}
use Rattle.net_ir.specs.Statement.{effect, targets_of, statement_reads}

-- The bit that a driver gives to bit k of variable x on a valuation, where it gives that bit at all times: a continuous assignment (IEEE
-- 1800-2017, 10.3), or a combinational process, which reads its own writes (9.2.2.2). A clocked process gives nothing between edges, and
-- what an instance gives is what its module's drivers do.
abbrev pub gives : List Var → Driver → List ℕ → ℕ → ℕ → Option ℕ
gives vars (Assign target value place) u x k = last_bit (writes_to vars u target (val (widths_of vars) u value)) x k
gives vars (Comb body place) u x k = last_bit (effect vars (overlaid u) body []) x k
gives vars (Clocked triggers body place) u x k = None
gives vars (driver.Instance made) u x k = None

-- whether an assignment to some of these targets may write bit k of variable x
abbrev pub any_may_write : List Var → List Target → ℕ → ℕ → Bool
any_may_write vars targets x k = list_any (λ target. may_write vars target x k) targets

abbrev pub joined_target : Option Target → List Target
joined_target None = []
joined_target (Some target) = target ∷ []

-- what the outputs of an instance are joined to
abbrev pub instance_targets : Instance → List Target
instance_targets made = flat_map (λ (o : Output). joined_target o.target) made.outputs

-- whether a driver may give bit k of variable x at all times
abbrev pub drives : List Var → Driver → ℕ → ℕ → Bool
drives vars (Assign target value place) x k = may_write vars target x k
drives vars (Comb body place) x k = any_may_write vars (targets_of body) x k
drives vars (Clocked triggers body place) x k = false
drives vars (driver.Instance made) x k = any_may_write vars (instance_targets made) x k

-- whether bit k of variable x belongs to a register of this driver: some assignment of the clocked process may write it
abbrev pub holds : List Var → Driver → ℕ → ℕ → Bool
holds vars (Assign target value place) x k = false
holds vars (Comb body place) x k = false
holds vars (Clocked triggers body place) x k = any_may_write vars (targets_of body) x k
holds vars (driver.Instance made) x k = false

-- whether a driver may write bit k of variable x, at all times or at an edge
abbrev pub writes : List Var → Driver → ℕ → ℕ → Bool
writes vars (Assign target value place) x k = may_write vars target x k
writes vars (Comb body place) x k = any_may_write vars (targets_of body) x k
writes vars (Clocked triggers body place) x k = any_may_write vars (targets_of body) x k
writes vars (driver.Instance made) x k = any_may_write vars (instance_targets made) x k

-- no driver of the list gives bit k of variable x at all times
abbrev pub NoneDrives : List Var → List Driver → ℕ → ℕ → Type 0
NoneDrives vars drivers x k = AllByRecursion (λ d. drives vars d x k ≡ false) drivers

-- no driver of the list has bit k of variable x in a register
abbrev pub NoneHolds : List Var → List Driver → ℕ → ℕ → Type 0
NoneHolds vars drivers x k = AllByRecursion (λ d. holds vars d x k ≡ false) drivers

-- no driver of the list writes bit k of variable x
abbrev pub NoneWrites : List Var → List Driver → ℕ → ℕ → Type 0
NoneWrites vars drivers x k = AllByRecursion (λ d. writes vars d x k ≡ false) drivers

-- the variables that the positions of a connection read
abbrev pub joined_reads : Option Target → List ℕ
joined_reads None = []
joined_reads (Some target) = target_reads target

-- the variables that the connections of an instance name, but those that outputs are joined to
abbrev pub instance_reads : Instance → List ℕ
instance_reads made = flat_map (λ (i : Input). reads_of i.value) made.inputs ++ flat_map (λ (o : Output). joined_reads o.target) made.outputs

-- the variables that a driver's expressions read
abbrev pub driver_reads : Driver → List ℕ
driver_reads (Assign target value place) = target_reads target ++ reads_of value
driver_reads (Comb body place) = statement_reads body
driver_reads (Clocked triggers body place) = statement_reads body
driver_reads (driver.Instance made) = instance_reads made

-- the variables on which what a driver gives at all times depends
abbrev pub depends_on : Driver → List ℕ
depends_on (Assign target value place) = target_reads target ++ reads_of value
depends_on (Comb body place) = statement_reads body
depends_on (Clocked triggers body place) = []
depends_on (driver.Instance made) = instance_reads made

-- the variables that stand in a driver's event controls
abbrev pub driver_clocks : Driver → List ℕ
driver_clocks (Assign target value place) = []
driver_clocks (Comb body place) = []
driver_clocks (Clocked triggers body place) = flat_map (λ (t : Trigger). var_list t.var) triggers
driver_clocks (driver.Instance made) = []
