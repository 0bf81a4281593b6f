use Rattle.std.proofs.Common.{◌<◌, ◌++◌, length, get_or, rules, subst, sym, ap, ◌∙◌, Some}
use Rattle.std.specs.List.{flat_map}
use Rattle.net_ir.specs.declared.statement.Stmt.{If}
use Rattle.net_ir.specs.declared.statement.Stmt.TheFolds.{the_lemmas}
use borrow.Author.Rules.{get_or_read}
use Rattle.net_ir.specs.Lawful.{IsLawfulStmt}
use Rattle.driver_check.specs.code.Runs.{taken_in, taken_in_arm, IsLawfulInArm}
use Rattle.driver_check.proofs.LawfulParts.{all_at, block_parts, if_parts, case_parts, assign_parts, arm_body}
use Rattle.driver_check.proofs.Takings.{block_taken, case_taken}
use Rattle.driver_check.proofs.runs.+taking.Goals as goal

pub push_statement-loop-part-init : goal.push_statement-loop-part-init
push_statement-loop-part-init t c =
    let f = taken_in c.args.vars.now in
    ap (λ xs. c.args.taken.now.items ++ flat_map f xs) c.as_slice-part-items.ensures
    ∙ sym (ap (λ xs. c.args.taken.now.items ++ xs) (ap f c.in-Block.is ∙ block_taken c.args.vars.now c.in-Block.parts))

pub push_statement-loop-arm-init : goal.push_statement-loop-arm-init
push_statement-loop-arm-init t c =
    let vars = c.args.vars.now in
    ap (λ xs. c.args.taken.now.items ++ flat_map (taken_in_arm vars) xs) c.as_slice-arm-items.ensures
    ∙ sym (ap (λ xs. c.args.taken.now.items ++ xs) (ap (taken_in vars) c.in-Case.is ∙ case_taken vars c.in-Case.field-0 c.in-Case.arms))

pub push_statement-push_statement-requires : goal.push_statement-push_statement-requires
push_statement-push_statement-requires t c =
    let vars = c.args.vars.now in
    let all = block_parts vars c.in-Block.parts (subst (IsLawfulStmt vars) c.in-Block.is c.requires.statement) in
    let same = c.as_slice-part-items.ensures in (
      search (rules, the_lemmas, get_or_read, c.well_formed),
      (
        c.requires.vars,
        all_at (IsLawfulStmt vars) c.in-Block.parts c.loop-part.part-index c.part-item.result all
            (subst (λ xs. c.loop-part.part-index < length xs) same c.loop-part-test.true)
            (c.part-item.is ∙ ap (λ xs. get_or xs c.loop-part.part-index c.part-item.result) same),
      ),
    )

pub push_statement-push_statement-requires-in-If : goal.push_statement-push_statement-requires-in-If
push_statement-push_statement-requires-in-If t c =
    let vars = c.args.vars.now in
    let parts = if_parts vars c.in-If.field-0 c.in-If.first c.in-If.second (subst (IsLawfulStmt vars) c.in-If.is c.requires.statement) in (
      search (rules, the_lemmas, c.well_formed),
      (c.requires.vars, subst (IsLawfulStmt vars) (sym c.get.ensures) parts.0),
    )

pub push_statement-push_statement-requires-in-Some : goal.push_statement-push_statement-requires-in-Some
push_statement-push_statement-requires-in-Some t c =
    let vars = c.args.vars.now in
    let lawful : IsLawfulStmt vars (If c.in-If.field-0 c.in-If.first (Some c.in-Some.second)) =
    subst (λ s. IsLawfulStmt vars (If c.in-If.field-0 c.in-If.first s)) c.in-Some.is (subst (IsLawfulStmt vars) c.in-If.is c.requires.statement) in
    let parts = if_parts vars c.in-If.field-0 c.in-If.first (Some c.in-Some.second) lawful in (
      search (rules, the_lemmas, c.well_formed),
      (c.requires.vars, subst (IsLawfulStmt vars) (sym c.get-in-Some.ensures) parts.1),
    )

pub push_statement-push_arm-requires : goal.push_statement-push_arm-requires
push_statement-push_arm-requires t c =
    let vars = c.args.vars.now in
    let all = case_parts vars c.in-Case.field-0 c.in-Case.arms (subst (IsLawfulStmt vars) c.in-Case.is c.requires.statement) in
    let same = c.as_slice-arm-items.ensures in (
      search (rules, the_lemmas, get_or_read, c.well_formed),
      (
        c.requires.vars,
        all_at (IsLawfulInArm vars) c.in-Case.arms c.loop-arm.arm-index c.arm-item.result all
            (subst (λ xs. c.loop-arm.arm-index < length xs) same c.loop-arm-test.true)
            (c.arm-item.is ∙ ap (λ xs. get_or xs c.loop-arm.arm-index c.arm-item.result) same),
      ),
    )

pub push_statement-push_target-requires-clause-target : goal.push_statement-push_target-requires-clause-target
push_statement-push_target-requires-clause-target t c =
    let vars = c.args.vars.now in
    (assign_parts vars c.in-Assign.blocking c.in-Assign.target c.in-Assign.value (subst (IsLawfulStmt vars) c.in-Assign.is c.requires.statement)).lawful_target

pub push_arm-push_statement-requires : goal.push_arm-push_statement-requires
push_arm-push_statement-requires t c = (search (rules, the_lemmas, c.well_formed), (c.requires.vars, arm_body c.args.vars.now c.args.arm.now c.requires.body))
