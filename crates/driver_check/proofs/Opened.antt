-- One layer of a target or a statement: what is refused of it.
use Rattle.std.proofs.Common.{◌≡◌, ℕ, List, [], ◌∷◌, ◌++◌, map, append_assoc, Bool, refl, sym, ◌∙◌, ap}
use Rattle.std.specs.Prelude.{Option, None, Some}
use Rattle.std.specs.List.{flat_map}
use Rattle.std.proofs.lemmas.List.{map-append}
use Rattle.std.proofs.lemmas.List.Folds.{flat_map-map}
use Rattle.sv_base.specs.declared.refusal.Place.{Place}
use Rattle.sv_base.specs.declared.refusal.Refusal.{Refusal}
use Rattle.net_ir.specs.declared.design.Var.{Var}
use Rattle.bit_ops.specs.declared.operation.Op.{Op}
use Rattle.net_ir.specs.declared.term.Term.{Term, Apply}
use Rattle.net_ir.specs.declared.term.Term.TheVariants.{outs-Apply}
use Rattle.net_ir.specs.declared.term.Term.TheFolds.{map-Term, fold_out-Term}
use Rattle.net_ir.specs.Value.{reads_of, reads_of_layer}
use Rattle.net_ir.specs.declared.statement.Pos.{Pos}
use Rattle.net_ir.specs.declared.statement.Arm.{Arm}
use Rattle.net_ir.specs.declared.statement.Stmt.{Stmt, Block, If, Case, Assign}
use Rattle.net_ir.specs.declared.statement.Stmt.TheOpen as statement
use Rattle.net_ir.specs.declared.statement.Stmt.TheOpen.{Stmt-F}
use Rattle.net_ir.specs.declared.statement.Stmt.TheVariants.{outs-Block, outs-If, outs-Case, outs-Assign}
use Rattle.net_ir.specs.declared.statement.Stmt.TheViews.{out-Stmt}
use Rattle.net_ir.specs.declared.statement.Stmt.TheFolds.{map-Stmt, fold_out-Stmt, fold_out-Arm}
use Rattle.net_ir.specs.declared.statement.Target.{Target, Of, List as Parts}
use Rattle.net_ir.specs.declared.statement.Target.TheOpen as layer
use Rattle.net_ir.specs.declared.statement.Target.TheOpen.{Target-F}
use Rattle.net_ir.specs.declared.statement.Target.TheVariants.{outs-Of, outs-List}
use Rattle.net_ir.specs.declared.statement.Target.TheViews.{out-Target}
use Rattle.net_ir.specs.declared.statement.Target.TheFolds.{map-Target, fold_out-Target}
use Rattle.driver_check.specs.declared.written.Within.{Within}
use Rattle.driver_check.specs.Written.{Named, names_layer, names_of, refused_name, refused_names, refused_sign, refused_layer, refused_arm_layer, refused_assigns, refused_in_arm}

-- ---- targets

target_layer : (t : Target) (x : Target-F Target) → out-Target t ≡ x → names_of t ≡ names_layer (map-Target Target (List Named) names_of x)
target_layer t x is = fold_out-Target (List Named) names_layer t ∙ ap (λ y. names_layer (map-Target Target (List Named) names_of y)) is

pub name_alone : (var : Option ℕ) (name : List ℕ) (place : Place) (pos : Option Pos) →
    names_of (Of var name place pos) ≡ record { var = var; name = name; place = place; pos = pos } ∷ []
name_alone var name place pos = target_layer (Of var name place pos) (layer.Of var name place pos) (outs-Of var name place pos)

pub parts_names : (parts : List Target) → names_of (Parts parts) ≡ flat_map names_of parts
parts_names parts = target_layer (Parts parts) (layer.List parts) (outs-List parts) ∙ flat_map-map (λ (names : List Named). names) names_of parts

pub flat_map_append : {X Y : Type 0} (f : X → List Y) (xs ys : List X) → flat_map f (xs ++ ys) ≡ (flat_map f xs ++ flat_map f ys)
flat_map_append f [] ys = refl
flat_map_append f (x ∷ xs) ys = ap (λ zs. f x ++ zs) (flat_map_append f xs ys) ∙ sym (append_assoc (f x) (flat_map f xs) (flat_map f ys))

pub flat_map_twice : {X Y Z : Type 0} (g : Y → List Z) (f : X → List Y) (xs : List X) → flat_map g (flat_map f xs) ≡ flat_map (λ x. flat_map g (f x)) xs
flat_map_twice g f [] = refl
flat_map_twice g f (x ∷ xs) = flat_map_append g (f x) (flat_map f xs) ∙ ap (λ zs. flat_map g (f x) ++ zs) (flat_map_twice g f xs)

pub map_of_flat : {X Y Z : Type 0} (g : Y → Z) (f : X → List Y) (xs : List X) → map g (flat_map f xs) ≡ flat_map (λ x. map g (f x)) xs
map_of_flat g f [] = refl
map_of_flat g f (x ∷ xs) = map-append g (f x) (flat_map f xs) ∙ ap (λ zs. map g (f x) ++ zs) (map_of_flat g f xs)

pub parts_refused : (vars : List Var) (within : Within) (parts : List Target) → refused_names vars within (Parts parts) ≡ flat_map (refused_names vars within) parts
parts_refused vars within parts = ap (flat_map (refused_name vars within)) (parts_names parts) ∙ flat_map_twice (refused_name vars within) names_of parts

pub name_refused : (vars : List Var) (within : Within) (var : Option ℕ) (name : List ℕ) (place : Place) (pos : Option Pos) →
    refused_names vars within (Of var name place pos) ≡ (refused_name vars within (record { var = var; name = name; place = place; pos = pos }) ++ [])
name_refused vars within var name place pos = ap (flat_map (refused_name vars within)) (name_alone var name place pos)

-- ---- statements

module _ (vars : List Var) (within : Within) where
  statement_layer : (s : Stmt) (x : Stmt-F Stmt Arm) → out-Stmt s ≡ x →
      refused_assigns vars within s ≡ refused_layer vars within (map-Stmt Stmt Arm (List Refusal) (List Refusal) (refused_assigns vars within) (refused_in_arm vars within) x)
  statement_layer s x is =
      fold_out-Stmt (List Refusal) (List Refusal) (refused_layer vars within) refused_arm_layer s
      ∙ ap (λ y. refused_layer vars within (map-Stmt Stmt Arm (List Refusal) (List Refusal) (refused_assigns vars within) (refused_in_arm vars within) y)) is

  pub arm_refused : (arm : Arm) → refused_in_arm vars within arm ≡ refused_assigns vars within arm.body
  arm_refused arm = fold_out-Arm (List Refusal) (List Refusal) (refused_layer vars within) refused_arm_layer arm

  pub block_refused : (parts : List Stmt) → refused_assigns vars within (Block parts) ≡ flat_map (refused_assigns vars within) parts
  block_refused parts =
      statement_layer (Block parts) (statement.Block parts) (outs-Block parts) ∙ flat_map-map (λ (r : List Refusal). r) (refused_assigns vars within) parts

  pub if_refused : (test : Term) (first second : Stmt) → refused_assigns vars within (If test first (Some second)) ≡ (refused_assigns vars within first ++ refused_assigns vars within second)
  if_refused test first second = statement_layer (If test first (Some second)) (statement.If test first (Some second)) (outs-If test first (Some second))

  pub if_alone_refused : (test : Term) (first : Stmt) → refused_assigns vars within (If test first None) ≡ (refused_assigns vars within first ++ [])
  if_alone_refused test first = statement_layer (If test first None) (statement.If test first None) (outs-If test first None)

  pub case_refused : (value : Term) (arms : List Arm) → refused_assigns vars within (Case value arms) ≡ flat_map (refused_in_arm vars within) arms
  case_refused value arms =
      statement_layer (Case value arms) (statement.Case value arms) (outs-Case value arms) ∙ flat_map-map (λ (r : List Refusal). r) (refused_in_arm vars within) arms

  pub assign_refused : (blocking : Bool) (to : Target) (value : Term) →
      refused_assigns vars within (Assign blocking to value) ≡ (refused_names vars within to ++ refused_sign within blocking to)
  assign_refused blocking to value = statement_layer (Assign blocking to value) (statement.Assign blocking to value) (outs-Assign blocking to value)

-- ---- terms

pub reads_apply : (op : Op) (width lo : ℕ) (args : List Term) → reads_of (Apply op width lo args) ≡ flat_map reads_of args
reads_apply op width lo args =
    fold_out-Term (List ℕ) reads_of_layer (Apply op width lo args)
    ∙ ap (λ x. reads_of_layer (map-Term Term (List ℕ) reads_of x)) (outs-Apply op width lo args)
    ∙ flat_map-map (λ (reads : List ℕ). reads) reads_of args
