-- One layer of a target or a statement: what it may take.
use Rattle.std.proofs.Common.{◌≡◌, ℕ, ◌<◌, ◌+◌, List, [], ◌∷◌, ◌++◌, length, drop, get_or, append_assoc, Bool, refl, sym, ◌∙◌, ap}
use Rattle.std.specs.Prelude.{Option, None, Some}
use Rattle.std.specs.List.{flat_map}
use Rattle.std.proofs.lemmas.List.{append-nil}
use Rattle.std.proofs.lemmas.List.Folds.{flat_map-map}
use Rattle.net_ir.specs.declared.design.Var.{Var}
use Rattle.net_ir.specs.declared.term.Term.{Term}
use Rattle.net_ir.specs.declared.statement.Arm.{Arm}
use Rattle.net_ir.specs.declared.statement.Stmt.{Stmt, Block, If, Case, Assign}
use Rattle.net_ir.specs.declared.statement.Stmt.TheOpen as statement
use Rattle.net_ir.specs.declared.statement.Stmt.TheOpen.{Stmt-F}
use Rattle.net_ir.specs.declared.statement.Stmt.TheVariants.{outs-Block, outs-If, outs-Case, outs-Assign}
use Rattle.net_ir.specs.declared.statement.Stmt.TheViews.{out-Stmt}
use Rattle.net_ir.specs.declared.statement.Stmt.TheFolds.{map-Stmt, fold_out-Stmt, fold_out-Arm, fold-Arm}
use Rattle.net_ir.specs.declared.statement.Target.{Target, Of, List as Parts}
use Rattle.net_ir.specs.declared.statement.Pos.{Pos}
use Rattle.sv_base.specs.declared.refusal.Place.{Place}
use Rattle.net_ir.specs.Statement.{targets_of_layer, arm_targets, targets_of}
use Rattle.driver_check.specs.Written.{names_of}
use Rattle.driver_check.specs.code.Runs.{taken_of, taken_named, taken_by, taken_by_all, taken_in, taken_in_arm}
use Rattle.driver_check.proofs.Firsts.{split_items}
use Rattle.driver_check.proofs.Opened.{name_alone, parts_names, flat_map_append, flat_map_twice}

pub parts_taken : (vars : List Var) (parts : List Target) → taken_by vars (Parts parts) ≡ flat_map (taken_by vars) parts
parts_taken vars parts = ap (flat_map (taken_named vars)) (parts_names parts) ∙ flat_map_twice (taken_named vars) names_of parts

pub name_taken : (vars : List Var) (var : Option ℕ) (name : List ℕ) (place : Place) (p : Option Pos) → taken_by vars (Of var name place p) ≡ taken_of vars var p
name_taken vars var name place p = ap (flat_map (taken_named vars)) (name_alone var name place p) ∙ append-nil (taken_of vars var p)

abbrev targets_of_arm : Arm → List Target
targets_of_arm = fold-Arm (List Target) (List Target) targets_of_layer arm_targets

targets_layer : (s : Stmt) (x : Stmt-F Stmt Arm) → out-Stmt s ≡ x → targets_of s ≡ targets_of_layer (map-Stmt Stmt Arm (List Target) (List Target) targets_of targets_of_arm x)
targets_layer s x is =
    fold_out-Stmt (List Target) (List Target) targets_of_layer arm_targets s
    ∙ ap (λ y. targets_of_layer (map-Stmt Stmt Arm (List Target) (List Target) targets_of targets_of_arm y)) is

arm_is : (arm : Arm) → targets_of_arm arm ≡ targets_of arm.body
arm_is arm = fold_out-Arm (List Target) (List Target) targets_of_layer arm_targets arm

arms_are : (arms : List Arm) → flat_map targets_of_arm arms ≡ flat_map (λ (arm : Arm). targets_of arm.body) arms
arms_are [] = refl
arms_are (arm ∷ arms) = ap (λ ts. ts ++ flat_map targets_of_arm arms) (arm_is arm) ∙ ap (λ ts. targets_of arm.body ++ ts) (arms_are arms)

module _ (vars : List Var) where
  pub block_taken : (parts : List Stmt) → taken_in vars (Block parts) ≡ flat_map (taken_in vars) parts
  block_taken parts =
      ap (taken_by_all vars) (targets_layer (Block parts) (statement.Block parts) (outs-Block parts) ∙ flat_map-map (λ (ts : List Target). ts) targets_of parts)
      ∙ flat_map_twice (taken_by vars) targets_of parts

  pub if_taken : (test : Term) (first second : Stmt) → taken_in vars (If test first (Some second)) ≡ (taken_in vars first ++ taken_in vars second)
  if_taken test first second =
      ap (taken_by_all vars) (targets_layer (If test first (Some second)) (statement.If test first (Some second)) (outs-If test first (Some second)))
      ∙ flat_map_append (taken_by vars) (targets_of first) (targets_of second)

  pub if_alone_taken : (test : Term) (first : Stmt) → taken_in vars (If test first None) ≡ taken_in vars first
  if_alone_taken test first =
      ap (taken_by_all vars) (targets_layer (If test first None) (statement.If test first None) (outs-If test first None) ∙ append-nil (targets_of first))

  pub case_taken : (value : Term) (arms : List Arm) → taken_in vars (Case value arms) ≡ flat_map (taken_in_arm vars) arms
  case_taken value arms =
      ap (taken_by_all vars) (targets_layer (Case value arms) (statement.Case value arms) (outs-Case value arms) ∙ flat_map-map (λ (ts : List Target). ts) targets_of_arm arms ∙ arms_are arms)
      ∙ flat_map_twice (taken_by vars) (λ (arm : Arm). targets_of arm.body) arms

  pub assign_taken : (blocking : Bool) (to : Target) (value : Term) → taken_in vars (Assign blocking to value) ≡ taken_by vars to
  assign_taken blocking to value =
      ap (taken_by_all vars) (targets_layer (Assign blocking to value) (statement.Assign blocking to value) (outs-Assign blocking to value)) ∙ append-nil (taken_by vars to)

-- what one item more takes is added
pub push_more : {X Y : Type 0} (f : X → List Y) (xs : List X) (i : ℕ) (a : X) (before after all : List Y) → i < length xs → a ≡ get_or xs i a →
    after ≡ before ++ f a → before ++ flat_map f (drop i xs) ≡ all → after ++ flat_map f (drop (i + 1) xs) ≡ all
push_more f xs i a before after all within is pushed so_far =
    ap (λ ys. ys ++ flat_map f (drop (i + 1) xs)) pushed
    ∙ append_assoc before (f a) (flat_map f (drop (i + 1) xs))
    ∙ sym (ap (λ ys. before ++ flat_map f ys) (split_items xs i a within is))
    ∙ so_far

pub push_both : {Y : Type 0} (before between after xs ys all : List Y) → between ≡ before ++ xs → after ≡ between ++ ys → all ≡ xs ++ ys → after ≡ before ++ all
push_both before between after xs ys all p q r = q ∙ ap (λ zs. zs ++ ys) p ∙ append_assoc before xs ys ∙ sym (ap (λ zs. before ++ zs) r)
