-- The parts of lawful targets and statements are lawful.
use Rattle.std.proofs.Common.{◌≡◌, ℕ, zero, suc, ◌<◌, List, [], ◌∷◌, length, map, get_or, Bool, sym, ◌∙◌, subst, arith}
use Rattle.std.specs.Prelude.{⊤, Option, None, Some}
use Rattle.std.specs.List.{AllByRecursion}
use Rattle.sv_base.specs.declared.refusal.Place.{Place}
use Rattle.net_ir.specs.declared.design.Var.{Var}
use Rattle.net_ir.specs.declared.term.Term.{Term}
use Rattle.net_ir.specs.declared.statement.Pos.{Pos}
use Rattle.net_ir.specs.declared.statement.Arm.{Arm}
use Rattle.net_ir.specs.declared.statement.Stmt.{Stmt, Block, If, Case, Assign}
use Rattle.net_ir.specs.declared.statement.Stmt.TheOpen as statement
use Rattle.net_ir.specs.declared.statement.Stmt.TheOpen.{Stmt-F, Arm-F}
use Rattle.net_ir.specs.declared.statement.Stmt.TheVariants.{outs-Block, outs-If, outs-Case, outs-Assign}
use Rattle.net_ir.specs.declared.statement.Stmt.TheFolds.{map-Stmt, map-Arm, every_here-Stmt, every_held-Stmt, every_held-Arm}
use Rattle.net_ir.specs.declared.statement.Target.{Target, Of, List as Parts}
use Rattle.net_ir.specs.declared.statement.Target.TheOpen as layer
use Rattle.net_ir.specs.declared.statement.Target.TheOpen.{Target-F}
use Rattle.net_ir.specs.declared.statement.Target.TheVariants.{outs-Of, outs-List}
use Rattle.net_ir.specs.declared.statement.Target.TheFolds.{map-Target, every_here-Target, every_held-Target}
use Rattle.net_ir.specs.Value.{widths_of, size}
use Rattle.net_values.specs.code.Arms.{HasLawfulLabels, IsLawfulInArm}
use Rattle.net_values.proofs.Elements.{all_from}
use Rattle.net_ir.specs.Lawful.{IsLawful, IsLawfulArm, IsThere, IsLawfulPos, IsLawfulTargetLayer, IsLawfulTarget, IsLawfulAssign, IsLawfulStmtLayer, IsLawfulStmt}

-- what holds of each holds of the item at a place
pub all_at : {X : Type 0} (P : X → Type 0) (xs : List X) (i : ℕ) (x : X) → AllByRecursion P xs → i < length xs → x ≡ get_or xs i x → P x
all_at P [] i x all within is = absurd (omega arith)
all_at P (y ∷ xs) zero x all within is = subst P (sym is) all.0
all_at P (y ∷ xs) (suc i) x all within is = all_at P xs i x all.1 (omega arith) is

module _ (ws : List ℕ) where
  abbrev LawfulTarget : Type 0
  LawfulTarget = (t : Target) × IsLawfulTarget ws t

  all_targets : (es : List LawfulTarget) → AllByRecursion (IsLawfulTarget ws) (map (λ e. e.0) es)
  all_targets [] = tt
  all_targets (e ∷ es) = (e.1, all_targets es)

  abbrev HasLawfulTargets : Target-F Target → Type 0
  HasLawfulTargets (layer.Of var name place p) = ⊤
  HasLawfulTargets (layer.List parts) = AllByRecursion (IsLawfulTarget ws) parts

  held_targets : (y : Target-F LawfulTarget) → HasLawfulTargets (map-Target LawfulTarget Target (λ e. e.0) y)
  held_targets (layer.Of var name place p) = tt
  held_targets (layer.List es) = all_targets es

  -- the parts of a concatenation
  pub target_parts : (parts : List Target) → IsLawfulTarget ws (Parts parts) → AllByRecursion (IsLawfulTarget ws) parts
  target_parts parts lawful =
      let all = every_held-Target (IsLawfulTargetLayer ws) (Parts parts) lawful in
      subst HasLawfulTargets (all.1 ∙ outs-List parts) (held_targets all.0)

  -- the position of a name
  pub target_pos : (var : Option ℕ) (name : List ℕ) (place : Place) (p : Option Pos) → IsLawfulTarget ws (Of var name place p) → IsThere ws var × IsLawfulPos ws p
  target_pos var name place p lawful = subst (IsLawfulTargetLayer ws) (outs-Of var name place p) (every_here-Target (IsLawfulTargetLayer ws) (Of var name place p) lawful)

module _ (vars : List Var) where
  abbrev LawfulStmt : Type 0
  LawfulStmt = (s : Stmt) × IsLawfulStmt vars s

  abbrev LawfulArm : Type 0
  LawfulArm = (a : Arm) × IsLawfulInArm vars a

  all_statements : (es : List LawfulStmt) → AllByRecursion (IsLawfulStmt vars) (map (λ e. e.0) es)
  all_statements [] = tt
  all_statements (e ∷ es) = (e.1, all_statements es)

  all_arms : (es : List LawfulArm) → AllByRecursion (IsLawfulInArm vars) (map (λ e. e.0) es)
  all_arms [] = tt
  all_arms (e ∷ es) = (e.1, all_arms es)

  abbrev IsLawfulElse : Option Stmt → Type 0
  IsLawfulElse None = ⊤
  IsLawfulElse (Some s) = IsLawfulStmt vars s

  abbrev HasLawfulParts : Stmt-F Stmt Arm → Type 0
  HasLawfulParts (statement.Block parts) = AllByRecursion (IsLawfulStmt vars) parts
  HasLawfulParts (statement.If test first second) = IsLawfulStmt vars first × IsLawfulElse second
  HasLawfulParts (statement.Case value arms) = AllByRecursion (IsLawfulInArm vars) arms
  HasLawfulParts (statement.Assign blocking to value) = ⊤

  held_parts : (y : Stmt-F LawfulStmt LawfulArm) → HasLawfulParts (map-Stmt LawfulStmt LawfulArm Stmt Arm (λ e. e.0) (λ e. e.0) y)
  held_parts (statement.Block es) = all_statements es
  held_parts (statement.If test first None) = (first.1, tt)
  held_parts (statement.If test first (Some second)) = (first.1, second.1)
  held_parts (statement.Case value es) = all_arms es
  held_parts (statement.Assign blocking to value) = tt

  pub block_parts : (parts : List Stmt) → IsLawfulStmt vars (Block parts) → AllByRecursion (IsLawfulStmt vars) parts
  block_parts parts lawful =
      let all = every_held-Stmt (IsLawfulStmtLayer vars) (λ arm. ⊤) (Block parts) lawful in
      subst HasLawfulParts (all.1 ∙ outs-Block parts) (held_parts all.0)

  pub if_parts : (test : Term) (first : Stmt) (second : Option Stmt) → IsLawfulStmt vars (If test first second) → IsLawfulStmt vars first × IsLawfulElse second
  if_parts test first second lawful =
      let all = every_held-Stmt (IsLawfulStmtLayer vars) (λ arm. ⊤) (If test first second) lawful in
      subst HasLawfulParts (all.1 ∙ outs-If test first second) (held_parts all.0)

  pub case_parts : (value : Term) (arms : List Arm) → IsLawfulStmt vars (Case value arms) → AllByRecursion (IsLawfulInArm vars) arms
  case_parts value arms lawful =
      let all = every_held-Stmt (IsLawfulStmtLayer vars) (λ arm. ⊤) (Case value arms) lawful in
      subst HasLawfulParts (all.1 ∙ outs-Case value arms) (held_parts all.0)

  pub assign_parts : (blocking : Bool) (to : Target) (value : Term) → IsLawfulStmt vars (Assign blocking to value) → IsLawfulAssign vars to value
  assign_parts blocking to value lawful =
      subst (IsLawfulStmtLayer vars) (outs-Assign blocking to value) (every_here-Stmt (IsLawfulStmtLayer vars) (λ arm. ⊤) (Assign blocking to value) lawful)

  abbrev HasLawfulBody : Arm-F Stmt Arm → Type 0
  HasLawfulBody arm = IsLawfulStmt vars arm.body

  pub arm_body : (arm : Arm) → IsLawfulInArm vars arm → IsLawfulStmt vars arm.body
  arm_body arm lawful =
      let all = every_held-Arm (IsLawfulStmtLayer vars) (λ arm. ⊤) arm lawful in
      subst HasLawfulBody all.1 (held_body all.0) where
        held_body : (y : Arm-F LawfulStmt LawfulArm) → HasLawfulBody (map-Arm LawfulStmt LawfulArm Stmt Arm (λ e. e.0) (λ e. e.0) y)
        held_body y = y.body.1

  -- the condition of an `if`, and the value of a `case` with the labels that it is compared with
  pub if_test : (test : Term) (first : Stmt) (second : Option Stmt) → IsLawfulStmt vars (If test first second) → IsLawful (widths_of vars) test
  if_test test first second lawful =
      subst (IsLawfulStmtLayer vars) (outs-If test first second) (every_here-Stmt (IsLawfulStmtLayer vars) (λ arm. ⊤) (If test first second) lawful)

  pub case_value : (value : Term) (arms : List Arm) → IsLawfulStmt vars (Case value arms) → IsLawful (widths_of vars) value
  case_value value arms lawful =
      (subst (IsLawfulStmtLayer vars) (outs-Case value arms) (every_here-Stmt (IsLawfulStmtLayer vars) (λ arm. ⊤) (Case value arms) lawful)).0

  pub case_labels : (value : Term) (arms : List Arm) → IsLawfulStmt vars (Case value arms) → AllByRecursion (HasLawfulLabels (widths_of vars)) arms
  case_labels value arms lawful =
      let ws = widths_of vars in
      all_from (IsLawfulArm ws (size ws value)) (HasLawfulLabels ws)
      (λ (arm : Arm) labels. all_from (λ label. IsLawful ws label × (size ws label ≡ size ws value)) (IsLawful ws) (λ label both. both.0) arm.labels labels) arms
      (subst (IsLawfulStmtLayer vars) (outs-Case value arms) (every_here-Stmt (IsLawfulStmtLayer vars) (λ arm. ⊤) (Case value arms) lawful)).1
