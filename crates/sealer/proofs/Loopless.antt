-- What having no loop is for each statement.
use Rattle.std.proofs.Common.{◌≡◌, Bool, List, Option, ◌∙◌, ap}
use Rattle.std.specs.List.{list_all}
use Rattle.std.proofs.lemmas.List.Folds.{list_all-map}
use Rattle.sv_base.specs.declared.refusal.Place.{Place}
use Rattle.sv_ast.specs.declared.expression.Id.{Id}
use Rattle.sv_ast.specs.declared.expression.Expr.{Expr}
use Rattle.sv_ast.specs.declared.statement.Stmt.{Stmt, Block, Case}
use Rattle.sv_ast.specs.declared.statement.CaseItem.{CaseItem}
use Rattle.sv_ast.specs.declared.statement.Stmt.TheVariants.{outs-Block, outs-Case}
use Rattle.sv_ast.specs.declared.statement.Stmt.TheFolds.{fold_out-Stmt, map-Stmt}
use Rattle.sealer.specs.Supported.{is_loopless_layer, is_loopless_arm_layer, is_loopless, is_loopless_arm}

pub block_is : (label : Option Id) (parts : List Stmt) → is_loopless (Block label parts) ≡ list_all is_loopless parts
block_is label parts =
    fold_out-Stmt Bool Bool is_loopless_layer is_loopless_arm_layer (Block label parts)
    ∙ ap (λ x. is_loopless_layer (map-Stmt Stmt CaseItem Bool Bool is_loopless is_loopless_arm x)) (outs-Block label parts)
    ∙ list_all-map (λ says. says) is_loopless parts

pub case_is : (place : Place) (value : Expr) (arms : List CaseItem) → is_loopless (Case place value arms) ≡ list_all is_loopless_arm arms
case_is place value arms =
    fold_out-Stmt Bool Bool is_loopless_layer is_loopless_arm_layer (Case place value arms)
    ∙ ap (λ x. is_loopless_layer (map-Stmt Stmt CaseItem Bool Bool is_loopless is_loopless_arm x)) (outs-Case place value arms)
    ∙ list_all-map (λ says. says) is_loopless_arm arms
