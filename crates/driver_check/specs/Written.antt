-- What may be assigned where, and by which sign (IEEE 1800-2017, 6.5, 9.2.2.2.1 and 10.4).
use Rattle.std.specs.Prelude.{ℕ, Bool, true, false, not, List, [], ◌∷◌, ◌++◌, Option, None, Some, slice_get, take, map, unwrap_or, if◌then◌else◌}
use Rattle.std.specs.List.{flat_map}
use Rattle.sv_base.specs.declared.kind.Kind.TheVariants.{WrongAssign}
use Rattle.sv_base.specs.declared.refusal.Place.{Place}
use Rattle.sv_base.specs.declared.refusal.Refusal.{Refusal}
use Rattle.net_ir.specs.declared.design.Var.{Var}
use Rattle.net_ir.specs.declared.design.Output.{Output}
use Rattle.net_ir.specs.declared.design.Driver.{Driver}
use Rattle.net_ir.specs.declared.design.Driver.TheVariants as driver
use Rattle.net_ir.specs.declared.design.Spec.{Spec}
use Rattle.net_ir.specs.declared.statement.Pos.{Pos}
use Rattle.net_ir.specs.declared.statement.Target.{Target}
use Rattle.net_ir.specs.declared.statement.Target.TheOpen.{Target-F, Of, List as Parts}
use Rattle.net_ir.specs.declared.statement.Target.TheFolds.{fold-Target}
use Rattle.net_ir.specs.declared.statement.Arm.{Arm}
use Rattle.net_ir.specs.declared.statement.Stmt.{Stmt}
use Rattle.net_ir.specs.declared.statement.Stmt.TheOpen.{Stmt-F, Arm-F, Block, If, Case, Assign}
use Rattle.net_ir.specs.declared.statement.Stmt.TheFolds.{fold-Stmt, fold-Arm}
use Rattle.driver_check.specs.declared.written.Within.{Within}
use Rattle.driver_check.specs.declared.written.Within.TheVariants.{Module, Combinational, Clocked}

-- ---- the names of a target

-- a name in a target: the variable that it means, where it means one, its spelling and place, and the bits that are taken of it
pub record Named : Type 0 where
  pub var : Option ℕ
  pub name : List ℕ
  pub place : Place
  pub pos : Option Pos

abbrev pub names_layer : Target-F (List Named) → List Named
names_layer (Of var name place pos) = record { var = var; name = name; place = place; pos = pos } ∷ []
names_layer (Parts parts) = flat_map (λ part. part) parts

-- the names of a target from left to right
abbrev pub names_of : Target → List Named
names_of = fold-Target (List Named) names_layer

-- ---- names and signs that are refused

-- an assignment is refused by a name and its place
abbrev pub wrong_at : Place → List ℕ → Refusal
wrong_at place name = record { kind = WrongAssign; place = place; name = name }

abbrev pub wrong_assign : Named → Refusal
wrong_assign n = wrong_at n.place n.name

-- whether this is a net
abbrev pub is_net : Option Var → Bool
is_net None = false
is_net (Some v) = v.wire

-- whether what stands there may assign to a name that means a variable of this number: a process may not, where that is a net
abbrev pub may_assign : List Var → Within → ℕ → Bool
may_assign vars Module x = true
may_assign vars Combinational x = not (is_net (slice_get vars x))
may_assign vars Clocked x = not (is_net (slice_get vars x))

-- whether it may assign to what a name means: a name that means no net or variable is never assigned to
abbrev pub is_target : List Var → Within → Option ℕ → Bool
is_target vars within None = false
is_target vars within (Some x) = may_assign vars within x

abbrev pub refused_name : List Var → Within → Named → List Refusal
refused_name vars within n = if is_target vars within n.var then [] else wrong_assign n ∷ []

-- the names of a target that are refused, from left to right
abbrev pub refused_names : List Var → Within → Target → List Refusal
refused_names vars within target = flat_map (refused_name vars within) (names_of target)

-- whether an assignment has the sign that its process asks for: `=` in a combinational one, `<=` in a clocked one
abbrev pub is_sign : Within → Bool → Bool
is_sign Module blocking = true
is_sign Combinational blocking = blocking
is_sign Clocked blocking = not blocking

-- a wrong sign is refused by the first name of the target
abbrev pub refused_sign : Within → Bool → Target → List Refusal
refused_sign within blocking target = if is_sign within blocking then [] else map wrong_assign (take 1 (names_of target))

-- ---- statements, drivers and designs, in the order of the text

abbrev pub refused_layer : List Var → Within → Stmt-F (List Refusal) (List Refusal) → List Refusal
refused_layer vars within (Block parts) = flat_map (λ part. part) parts
refused_layer vars within (If test first second) = first ++ unwrap_or second []
refused_layer vars within (Case value arms) = flat_map (λ arm. arm) arms
refused_layer vars within (Assign blocking target value) = refused_names vars within target ++ refused_sign within blocking target

abbrev pub refused_arm_layer : Arm-F (List Refusal) (List Refusal) → List Refusal
refused_arm_layer arm = arm.body

-- the assignments of a process that are refused
abbrev pub refused_assigns : List Var → Within → Stmt → List Refusal
refused_assigns vars within = fold-Stmt (List Refusal) (List Refusal) (refused_layer vars within) refused_arm_layer

-- and those of an arm
abbrev pub refused_in_arm : List Var → Within → Arm → List Refusal
refused_in_arm vars within = fold-Arm (List Refusal) (List Refusal) (refused_layer vars within) refused_arm_layer

-- an output that is joined to what is no target is refused at its connection, without a name, since a module does not know its children's
-- ports; else the names that it is joined to are
abbrev pub refused_joined : List Var → Place → Option Target → List Refusal
refused_joined vars place None = wrong_at place [] ∷ []
refused_joined vars place (Some target) = refused_names vars Module target

abbrev pub refused_output : List Var → Output → List Refusal
refused_output vars o = refused_joined vars o.place o.target

abbrev pub refused_driver : List Var → Driver → List Refusal
refused_driver vars (driver.Assign target value place) = refused_names vars Module target
refused_driver vars (driver.Comb body place) = refused_assigns vars Combinational body
refused_driver vars (driver.Clocked triggers body place) = refused_assigns vars Clocked body
refused_driver vars (driver.Instance made) = flat_map (refused_output vars) made.outputs

-- the assignments of a design that are refused, in the order of the text
abbrev pub wrong_assigns : Spec → List Refusal
wrong_assigns spec = flat_map (refused_driver spec.vars) spec.drivers
