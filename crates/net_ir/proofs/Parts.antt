-- What is lawful of lawful targets and statements: their parts are, and they are made of such parts.
use Rattle.std.proofs.Common.{◌≡◌, ℕ, List, [], ◌∷◌, ◌++◌, map, Bool, Option, None, Some, refl, ◌∙◌, ap, subst}
use Rattle.std.specs.Prelude.{⊤}
use Rattle.std.specs.List.{AllByRecursion}
use Rattle.sv_base.specs.declared.refusal.Place.{Place}
use Rattle.net_ir.specs.declared.design.Var.{Var}
use Rattle.net_ir.specs.declared.term.Term.{Term}
use Rattle.net_ir.specs.declared.statement.Pos.{Pos}
use Rattle.net_ir.specs.declared.statement.Arm.{Arm}
use Rattle.net_ir.specs.declared.statement.Stmt.{Stmt, Block, If, Case, Assign}
use Rattle.net_ir.specs.declared.statement.Stmt.TheOpen as stmt
use Rattle.net_ir.specs.declared.statement.Stmt.TheOpen.{Stmt-F, Arm-F}
use Rattle.net_ir.specs.declared.statement.Stmt.TheViews.{roll-Stmt, out-Stmt}
use Rattle.net_ir.specs.declared.statement.Stmt.TheVariants.{rolls-Block, rolls-If, rolls-Case, rolls-Assign, outs-Block, outs-If, outs-Case, outs-Assign}
use Rattle.net_ir.specs.declared.statement.Stmt.TheFolds.{map-Stmt, map-Arm, every-Arm, every_here-Stmt, every_held-Stmt, every_held-Arm, every_made-Stmt, every_made-Arm}
use Rattle.net_ir.specs.declared.statement.Target.{Target, Of, List as Parts}
use Rattle.net_ir.specs.declared.statement.Target.TheOpen as to
use Rattle.net_ir.specs.declared.statement.Target.TheOpen.{Target-F}
use Rattle.net_ir.specs.declared.statement.Target.TheVariants.{rolls-Of, rolls-List, outs-Of, outs-List}
use Rattle.net_ir.specs.declared.statement.Target.TheFolds.{map-Target, fold_out-Target, every_here-Target, every_held-Target, every_made-Target}
use Rattle.net_ir.specs.Value.{widths_of, size}
use Rattle.net_ir.specs.Target.{Lvalue, lvalue, lvalue_layer, concatenated, named_bits, target_width}
use Rattle.net_ir.specs.Lawful.{IsLawful, IsThere, IsLawfulPos, IsLawfulTargetLayer, IsLawfulTarget, IsLawfulAssign, IsLawfulArm, IsLawfulStmtLayer, IsLawfulStmt}

-- ---- lists

-- what holds of both parts holds of the whole
pub all_joined : {X : Type 0} (P : X → Type 0) (xs ys : List X) → AllByRecursion P xs → AllByRecursion P ys → AllByRecursion P (xs ++ ys)
all_joined P [] ys front back = back
all_joined P (x ∷ xs) ys front back = (front.0, all_joined P xs ys front.1 back)

-- what holds of each where something else does
pub all_each : {X : Type 0} (P Q : X → Type 0) → ((x : X) → P x → Q x) → (xs : List X) → AllByRecursion P xs → AllByRecursion Q xs
all_each P Q step [] all = tt
all_each P Q step (x ∷ xs) all = (step x all.0, all_each P Q step xs all.1)

-- the elements of a list, each with what holds of it
pub held_of : {X : Type 0} (P : X → Type 0) (xs : List X) → AllByRecursion P xs → (es : List ((x : X) × P x)) × (map (λ e. e.0) es ≡ xs)
held_of P [] all = ([], refl)
held_of P (x ∷ xs) all = let rest = held_of P xs all.1 in ((x, all.0) ∷ rest.0, ap (λ ys. x ∷ ys) rest.1)

-- elements that carry a fact of themselves
pub all_held : {X : Type 0} (P : X → Type 0) (es : List ((x : X) × P x)) → AllByRecursion P (map (λ e. e.0) es)
all_held P [] = tt
all_held P (e ∷ es) = (e.1, all_held P es)

-- ---- targets

module _ (ws : List ℕ) where
  abbrev LawfulTarget : Type 0
  LawfulTarget = (t : Target) × IsLawfulTarget ws t

  abbrev HasLawfulTargets : Target-F Target → Type 0
  HasLawfulTargets (to.Of var name place p) = ⊤
  HasLawfulTargets (to.List parts) = AllByRecursion (IsLawfulTarget ws) parts

  held_targets : (y : Target-F LawfulTarget) → HasLawfulTargets (map-Target LawfulTarget Target (λ e. e.0) y)
  held_targets (to.Of var name place p) = tt
  held_targets (to.List es) = all_held (IsLawfulTarget ws) es

  -- the parts of a concatenation
  pub target_parts : (parts : List Target) → IsLawfulTarget ws (Parts parts) → AllByRecursion (IsLawfulTarget ws) parts
  target_parts parts lawful =
      let all = every_held-Target (IsLawfulTargetLayer ws) (Parts parts) lawful in
      subst HasLawfulTargets (all.1 ∙ outs-List parts) (held_targets all.0)

  pub parts_made : (parts : List Target) → AllByRecursion (IsLawfulTarget ws) parts → IsLawfulTarget ws (Parts parts)
  parts_made parts all =
      let held = held_of (IsLawfulTarget ws) parts all in
      subst (IsLawfulTarget ws) (rolls-List parts)
      (every_made-Target (IsLawfulTargetLayer ws) (to.List parts) (to.List held.0) (ap (λ ts. to.List ts) held.1) tt)

  -- a name with its position
  pub name_parts : (var : Option ℕ) (name : List ℕ) (place : Place) (p : Option Pos) → IsLawfulTarget ws (Of var name place p) → IsThere ws var × IsLawfulPos ws p
  name_parts var name place p lawful = subst (IsLawfulTargetLayer ws) (outs-Of var name place p) (every_here-Target (IsLawfulTargetLayer ws) (Of var name place p) lawful)

  pub name_made : (var : Option ℕ) (name : List ℕ) (place : Place) (p : Option Pos) → IsThere ws var → IsLawfulPos ws p → IsLawfulTarget ws (Of var name place p)
  name_made var name place p there lawful =
      subst (IsLawfulTarget ws) (rolls-Of var name place p)
      (every_made-Target (IsLawfulTargetLayer ws) (to.Of var name place p) (to.Of var name place p) refl (there, lawful))

-- how many bits they have
pub name_width : (vars : List Var) (var : Option ℕ) (name : List ℕ) (place : Place) (p : Option Pos) → target_width vars (Of var name place p) ≡ (named_bits vars [] var p).width
name_width vars var name place p =
    ap (λ (l : Lvalue). l.width) (fold_out-Target Lvalue (lvalue_layer vars []) (Of var name place p)
    ∙ ap (λ x. lvalue_layer vars [] (map-Target Target Lvalue (lvalue vars []) x)) (outs-Of var name place p))

pub parts_width : (vars : List Var) (parts : List Target) → target_width vars (Parts parts) ≡ (concatenated (map (lvalue vars []) parts)).width
parts_width vars parts =
    ap (λ (l : Lvalue). l.width) (fold_out-Target Lvalue (lvalue_layer vars []) (Parts parts)
    ∙ ap (λ x. lvalue_layer vars [] (map-Target Target Lvalue (lvalue vars []) x)) (outs-List parts))

-- ---- statements

module _ (vars : List Var) where
  abbrev pub IsLawfulBody : Arm → Type 0
  IsLawfulBody a = IsLawfulStmt vars a.body

  abbrev pub IsLawfulElse : Option Stmt → Type 0
  IsLawfulElse None = ⊤
  IsLawfulElse (Some s) = IsLawfulStmt vars s

  abbrev IsLawfulInArm : Arm → Type 0
  IsLawfulInArm = every-Arm (IsLawfulStmtLayer vars) (λ arm. ⊤)

  abbrev LawfulStmt : Type 0
  LawfulStmt = (s : Stmt) × IsLawfulStmt vars s

  abbrev LawfulArm : Type 0
  LawfulArm = (a : Arm) × IsLawfulInArm a

  abbrev HasLawfulParts : Stmt-F Stmt Arm → Type 0
  HasLawfulParts (stmt.Block parts) = AllByRecursion (IsLawfulStmt vars) parts
  HasLawfulParts (stmt.If test first second) = IsLawfulStmt vars first × IsLawfulElse second
  HasLawfulParts (stmt.Case value arms) = AllByRecursion IsLawfulInArm arms
  HasLawfulParts (stmt.Assign blocking to value) = ⊤

  held_parts : (y : Stmt-F LawfulStmt LawfulArm) → HasLawfulParts (map-Stmt LawfulStmt LawfulArm Stmt Arm (λ e. e.0) (λ e. e.0) y)
  held_parts (stmt.Block es) = all_held (IsLawfulStmt vars) es
  held_parts (stmt.If test first None) = (first.1, tt)
  held_parts (stmt.If test first (Some second)) = (first.1, second.1)
  held_parts (stmt.Case value es) = all_held IsLawfulInArm es
  held_parts (stmt.Assign blocking to value) = tt

  parts_in : (s : Stmt) (x : Stmt-F Stmt Arm) → out-Stmt s ≡ x → IsLawfulStmt vars s → HasLawfulParts x
  parts_in s x is lawful =
      let all = every_held-Stmt (IsLawfulStmtLayer vars) (λ arm. ⊤) s lawful in
      subst HasLawfulParts (all.1 ∙ is) (held_parts all.0)

  layer_in : (s : Stmt) (x : Stmt-F Stmt Arm) → out-Stmt s ≡ x → IsLawfulStmt vars s → IsLawfulStmtLayer vars x
  layer_in s x is lawful = subst (IsLawfulStmtLayer vars) is (every_here-Stmt (IsLawfulStmtLayer vars) (λ arm. ⊤) s lawful)

  abbrev HasLawfulBody : Arm-F Stmt Arm → Type 0
  HasLawfulBody arm = IsLawfulStmt vars arm.body

  arm_body : (arm : Arm) → IsLawfulInArm arm → IsLawfulBody arm
  arm_body arm lawful =
      let all = every_held-Arm (IsLawfulStmtLayer vars) (λ arm. ⊤) arm lawful in
      subst HasLawfulBody all.1 (held_body all.0) where
        held_body : (y : Arm-F LawfulStmt LawfulArm) → HasLawfulBody (map-Arm LawfulStmt LawfulArm Stmt Arm (λ e. e.0) (λ e. e.0) y)
        held_body y = y.body.1

  pub block_parts : (parts : List Stmt) → IsLawfulStmt vars (Block parts) → AllByRecursion (IsLawfulStmt vars) parts
  block_parts parts lawful = parts_in (Block parts) (stmt.Block parts) (outs-Block parts) lawful

  pub if_parts : (test : Term) (first : Stmt) (second : Option Stmt) → IsLawfulStmt vars (If test first second) → IsLawfulStmt vars first × IsLawfulElse second
  if_parts test first second lawful = parts_in (If test first second) (stmt.If test first second) (outs-If test first second) lawful

  pub if_test : (test : Term) (first : Stmt) (second : Option Stmt) → IsLawfulStmt vars (If test first second) → IsLawful (widths_of vars) test
  if_test test first second lawful = layer_in (If test first second) (stmt.If test first second) (outs-If test first second) lawful

  pub case_parts : (value : Term) (arms : List Arm) → IsLawfulStmt vars (Case value arms) → AllByRecursion IsLawfulBody arms
  case_parts value arms lawful = all_each IsLawfulInArm IsLawfulBody arm_body arms (parts_in (Case value arms) (stmt.Case value arms) (outs-Case value arms) lawful)

  pub case_labels : (value : Term) (arms : List Arm) → IsLawfulStmt vars (Case value arms) →
      IsLawful (widths_of vars) value × AllByRecursion (IsLawfulArm (widths_of vars) (size (widths_of vars) value)) arms
  case_labels value arms lawful = layer_in (Case value arms) (stmt.Case value arms) (outs-Case value arms) lawful

  pub assign_parts : (blocking : Bool) (t : Target) (value : Term) → IsLawfulStmt vars (Assign blocking t value) → IsLawfulAssign vars t value
  assign_parts blocking t value lawful = layer_in (Assign blocking t value) (stmt.Assign blocking t value) (outs-Assign blocking t value) lawful

  rolled : (x : Stmt-F Stmt Arm) (y : Stmt-F LawfulStmt LawfulArm) → map-Stmt LawfulStmt LawfulArm Stmt Arm (λ e. e.0) (λ e. e.0) y ≡ x → IsLawfulStmtLayer vars x →
      IsLawfulStmt vars (roll-Stmt x)
  rolled x y is here = every_made-Stmt (IsLawfulStmtLayer vars) (λ arm. ⊤) x y is here

  arm_made : (arm : Arm) → IsLawfulBody arm → IsLawfulInArm arm
  arm_made arm lawful = every_made-Arm (IsLawfulStmtLayer vars) (λ arm. ⊤) (record { labels = arm.labels; body = arm.body }) (record { labels = arm.labels; body = (arm.body, lawful) }) refl tt

  pub block_made : (parts : List Stmt) → AllByRecursion (IsLawfulStmt vars) parts → IsLawfulStmt vars (Block parts)
  block_made parts all =
      let held = held_of (IsLawfulStmt vars) parts all in
      subst (IsLawfulStmt vars) (rolls-Block parts) (rolled (stmt.Block parts) (stmt.Block held.0) (ap (λ ss. stmt.Block ss) held.1) tt)

  pub if_made : (test : Term) (first : Stmt) (second : Option Stmt) → IsLawful (widths_of vars) test → IsLawfulStmt vars first → IsLawfulElse second →
      IsLawfulStmt vars (If test first second)
  if_made test first None lawful one other =
      subst (IsLawfulStmt vars) (rolls-If test first None) (rolled (stmt.If test first None) (stmt.If test (first, one) None) refl lawful)
  if_made test first (Some second) lawful one other =
      subst (IsLawfulStmt vars) (rolls-If test first (Some second))
      (rolled (stmt.If test first (Some second)) (stmt.If test (first, one) (Some (second, other))) refl lawful)

  pub case_made : (value : Term) (arms : List Arm) → IsLawful (widths_of vars) value → AllByRecursion (IsLawfulArm (widths_of vars) (size (widths_of vars) value)) arms →
      AllByRecursion IsLawfulBody arms → IsLawfulStmt vars (Case value arms)
  case_made value arms lawful labels bodies =
      let held = held_of IsLawfulInArm arms (all_each IsLawfulBody IsLawfulInArm arm_made arms bodies) in
      subst (IsLawfulStmt vars) (rolls-Case value arms) (rolled (stmt.Case value arms) (stmt.Case value held.0) (ap (λ xs. stmt.Case value xs) held.1) (lawful, labels))

  pub assign_made : (blocking : Bool) (t : Target) (value : Term) → IsLawfulAssign vars t value → IsLawfulStmt vars (Assign blocking t value)
  assign_made blocking t value lawful =
      subst (IsLawfulStmt vars) (rolls-Assign blocking t value) (rolled (stmt.Assign blocking t value) (stmt.Assign blocking t value) refl lawful)
