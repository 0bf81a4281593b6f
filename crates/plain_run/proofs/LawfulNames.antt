-- What lawful targets and statements name is there.
use Rattle.std.proofs.Common.{ℕ, ◌<◌, List, [], ◌∷◌, length, map, sym, subst}
use Rattle.std.specs.Prelude.{Option, None, Some}
use Rattle.std.specs.List.{AllByRecursion, flat_map}
use Rattle.net_ir.specs.declared.statement.Target.{Target, Of}
use Rattle.net_ir.specs.declared.statement.Target.TheOpen as layer
use Rattle.net_ir.specs.declared.statement.Target.TheOpen.{Target-F}
use Rattle.net_ir.specs.declared.statement.Target.TheViews.{roll-Target}
use Rattle.net_ir.specs.declared.statement.Target.TheVariants.{outs-Of, rolls-Of, rolls-List}
use Rattle.net_ir.specs.declared.statement.Target.TheFolds.{map-Target, ind-Target}
use Rattle.net_ir.specs.declared.statement.Arm.{Arm, roll-Arm}
use Rattle.net_ir.specs.declared.statement.Stmt.{Stmt}
use Rattle.net_ir.specs.declared.statement.Stmt.TheOpen as statement
use Rattle.net_ir.specs.declared.statement.Stmt.TheOpen.{Stmt-F, Arm-F}
use Rattle.net_ir.specs.declared.statement.Stmt.TheVariants.{rolls-Block, rolls-If, rolls-Case, rolls-Assign}
use Rattle.net_ir.specs.declared.statement.Stmt.TheViews.{roll-Stmt}
use Rattle.net_ir.specs.declared.statement.Stmt.TheFolds.{map-Stmt, map-Arm, ind-Stmt}
use Rattle.net_ir.specs.declared.design.Var.{Var}
use Rattle.net_ir.specs.declared.design.Driver.{Driver}
use Rattle.net_ir.specs.declared.design.Driver.TheVariants as driver
use Rattle.net_ir.specs.Value.{widths_of}
use Rattle.net_ir.specs.Target.{target_vars, var_list}
use Rattle.net_ir.specs.Statement.{targets_of}
use Rattle.net_ir.specs.Lawful.{IsThere, IsLawfulTarget, IsLawfulStmt, IsLawfulDriver}
use Rattle.net_values.specs.code.Arms.{IsLawfulInArm}
use Rattle.net_values.proofs.Elements.{all_join}
use Rattle.net_values.proofs.LawfulParts.{target_parts, target_pos, block_parts, if_parts, case_parts, assign_parts, arm_body}
use Rattle.plain_run.specs.Plain.{named_by, IsTimely, written_by, driven_by}
use Rattle.plain_run.specs.code.Marks.{targets_of_arm, named_in}
use Rattle.plain_run.proofs.Marking.{vars_layer, parts_vars, block_targets, if_targets, if_alone_targets, case_targets, assign_targets, arm_targets_are}

-- each of the numbers is below n
abbrev pub Within : ℕ → List ℕ → Type 0
Within n xs = AllByRecursion (λ x. x < n) xs

-- ---- targets

module _ (ws : List ℕ) where
  abbrev NamesThere : Target → Type 0
  NamesThere t = IsLawfulTarget ws t → Within (length ws) (target_vars t)

  abbrev Naming : Type 0
  Naming = (t : Target) × NamesThere t

  listed_within : (var : Option ℕ) → IsThere ws var → Within (length ws) (var_list var)
  listed_within None there = tt
  listed_within (Some x) there = (there, tt)

  each_within : (es : List Naming) → AllByRecursion (IsLawfulTarget ws) (map (λ e. e.0) es) →
      Within (length ws) (flat_map target_vars (map (λ e. e.0) es))
  each_within [] all = tt
  each_within (e ∷ es) all =
      all_join (λ x. x < length ws) (target_vars e.0) (flat_map target_vars (map (λ (d : Naming). d.0) es)) (e.1 all.0) (each_within es all.1)

  layer_within : (y : Target-F Naming) → NamesThere (roll-Target (map-Target Naming Target (λ e. e.0) y))
  layer_within (layer.Of var name place p) =
      subst NamesThere (sym (rolls-Of var name place p)) (λ lawful.
      subst (Within (length ws)) (sym (vars_layer (Of var name place p) (layer.Of var name place p) (outs-Of var name place p)))
      (listed_within var (target_pos ws var name place p lawful).0))
  layer_within (layer.List es) =
      let parts : List Target = map (λ (e : Naming). e.0) es in
      subst NamesThere (sym (rolls-List parts)) (λ lawful.
      subst (Within (length ws)) (sym (parts_vars parts)) (each_within es (target_parts ws parts lawful)))

  -- the variables that a lawful target names are there
  pub target_within : (t : Target) → IsLawfulTarget ws t → Within (length ws) (target_vars t)
  target_within = ind-Target NamesThere (λ x y is. subst (λ z. NamesThere (roll-Target z)) is (layer_within y))

  targets_within : (ts : List Target) → AllByRecursion (IsLawfulTarget ws) ts → Within (length ws) (named_by ts)
  targets_within [] all = tt
  targets_within (t ∷ ts) all = all_join (λ x. x < length ws) (target_vars t) (named_by ts) (target_within t all.0) (targets_within ts all.1)

-- ---- statements

module _ (vars : List Var) where
  abbrev AreLawful : List Target → Type 0
  AreLawful ts = AllByRecursion (IsLawfulTarget (widths_of vars)) ts

  abbrev Assigns : Stmt → Type 0
  Assigns s = IsLawfulStmt vars s → AreLawful (targets_of s)

  abbrev AssignsIn : Arm → Type 0
  AssignsIn a = IsLawfulInArm vars a → AreLawful (targets_of_arm a)

  abbrev GoodStmt : Type 0
  GoodStmt = (s : Stmt) × Assigns s

  abbrev GoodArm : Type 0
  GoodArm = (a : Arm) × AssignsIn a

  each_part : (es : List GoodStmt) → AllByRecursion (IsLawfulStmt vars) (map (λ e. e.0) es) → AreLawful (flat_map targets_of (map (λ e. e.0) es))
  each_part [] all = tt
  each_part (e ∷ es) all =
      all_join (IsLawfulTarget (widths_of vars)) (targets_of e.0) (flat_map targets_of (map (λ (d : GoodStmt). d.0) es)) (e.1 all.0) (each_part es all.1)

  each_arm : (es : List GoodArm) → AllByRecursion (IsLawfulInArm vars) (map (λ e. e.0) es) → AreLawful (flat_map targets_of_arm (map (λ e. e.0) es))
  each_arm [] all = tt
  each_arm (e ∷ es) all =
      all_join (IsLawfulTarget (widths_of vars)) (targets_of_arm e.0) (flat_map targets_of_arm (map (λ (d : GoodArm). d.0) es)) (e.1 all.0) (each_arm es all.1)

  layer_good : (y : Stmt-F GoodStmt GoodArm) → Assigns (roll-Stmt (map-Stmt GoodStmt GoodArm Stmt Arm (λ e. e.0) (λ e. e.0) y))
  layer_good (statement.Block es) =
      let parts : List Stmt = map (λ (e : GoodStmt). e.0) es in
      subst Assigns (sym (rolls-Block parts)) (λ lawful.
      subst AreLawful (sym (block_targets parts)) (each_part es (block_parts vars parts lawful)))
  layer_good (statement.If test first None) =
      subst Assigns (sym (rolls-If test first.0 None)) (λ lawful.
      subst AreLawful (sym (if_alone_targets test first.0))
      (first.1 (if_parts vars test first.0 None lawful).0))
  layer_good (statement.If test first (Some second)) =
      subst Assigns (sym (rolls-If test first.0 (Some second.0))) (λ lawful.
      let both = if_parts vars test first.0 (Some second.0) lawful in
      subst AreLawful (sym (if_targets test first.0 second.0))
      (all_join (IsLawfulTarget (widths_of vars)) (targets_of first.0) (targets_of second.0) (first.1 both.0) (second.1 both.1)))
  layer_good (statement.Case value es) =
      let arms : List Arm = map (λ (e : GoodArm). e.0) es in
      subst Assigns (sym (rolls-Case value arms)) (λ lawful.
      subst AreLawful (sym (case_targets value arms)) (each_arm es (case_parts vars value arms lawful)))
  layer_good (statement.Assign blocking to value) =
      subst Assigns (sym (rolls-Assign blocking to value)) (λ lawful.
      subst AreLawful (sym (assign_targets blocking to value)) ((assign_parts vars blocking to value lawful).lawful_target, tt))

  arm_good : (y : Arm-F GoodStmt GoodArm) → AssignsIn (roll-Arm (map-Arm GoodStmt GoodArm Stmt Arm (λ e. e.0) (λ e. e.0) y))
  arm_good y = λ lawful.
      let arm : Arm = roll-Arm (map-Arm GoodStmt GoodArm Stmt Arm (λ e. e.0) (λ e. e.0) y) in
      subst AreLawful (sym (arm_targets_are arm)) (y.body.1 (arm_body vars arm lawful))

  -- the targets of a lawful statement are
  pub statement_targets : (s : Stmt) → IsLawfulStmt vars s → AreLawful (targets_of s)
  statement_targets = ind-Stmt Assigns AssignsIn
      (λ x y is. subst (λ z. Assigns (roll-Stmt z)) is (layer_good y))
      (λ x y is. subst (λ z. AssignsIn (roll-Arm z)) is (arm_good y))

  -- and the variables that they name are there
  pub statement_within : (s : Stmt) → IsLawfulStmt vars s → Within (length (widths_of vars)) (named_in s)
  statement_within s lawful = targets_within (widths_of vars) (targets_of s) (statement_targets s lawful)

  -- ---- drivers

  pub written_within : (d : Driver) → IsTimely d → IsLawfulDriver vars d → Within (length (widths_of vars)) (written_by d)
  written_within (driver.Assign to value place) timely lawful = target_within (widths_of vars) to lawful.lawful_target
  written_within (driver.Comb body place) timely lawful = absurd timely
  written_within (driver.Clocked triggers body place) timely lawful = statement_within body lawful.1
  written_within (driver.Instance made) timely lawful = absurd timely

  pub driven_within : (d : Driver) → IsTimely d → IsLawfulDriver vars d → Within (length (widths_of vars)) (driven_by d)
  driven_within (driver.Assign to value place) timely lawful = target_within (widths_of vars) to lawful.lawful_target
  driven_within (driver.Comb body place) timely lawful = absurd timely
  driven_within (driver.Clocked triggers body place) timely lawful = tt
  driven_within (driver.Instance made) timely lawful = absurd timely
