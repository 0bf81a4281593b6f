use Rattle.std.proofs.Common.{◌≡◌, ◌<◌, ◌≤◌, ◌∙◌, length, get_or, sym, ap, subst, rules, refl, Some, None}
use Rattle.std.specs.List.{AllByRecursion, flat_map}
use borrow.Author.Rules.{get_or_read}
use Rattle.bit_ops.specs.Lists.{words, widths}
use Rattle.net_ir.specs.declared.statement.Stmt.{If}
use Rattle.net_ir.specs.declared.statement.Stmt.TheFolds.{the_lemmas}
use Rattle.net_ir.specs.Value.{widths_of, size, val}
use Rattle.net_ir.specs.Lawful.{IsLawful, IsLawfulStmt}
use Rattle.net_ir.specs.Target.{overlaid, target_width, writes_to}
use Rattle.net_ir.specs.Statement.{clocked_writes}
use Rattle.net_values.specs.code.Arms.{HasLawfulLabels, IsLawfulInArm, taken_arm}
use Rattle.net_values.proofs.LawfulParts.{all_at, block_parts, if_parts, if_test, case_parts, case_value, case_labels, arm_body, assign_parts}
use Rattle.net_values.proofs.Statements.{writes_block, writes_assign, number_writes}
use Rattle.net_values.proofs.Executions.{overlaid_more, taken_within, if_first, if_second, case_taken, arm_taken}
use Rattle.net_values.proofs.statement.+executing.Goals as goal

pub execute-loop-part-init : goal.execute-loop-part-init
execute-loop-part-init t c =
    let vars = c.args.vars.now in
    let u = words c.args.seen.now in
    record {
      same_widths = refl;
      so_far = ap (overlaid (words c.args.values.now))
          (ap (flat_map (clocked_writes vars u)) c.as_slice-part-items.ensures ∙ sym (ap (clocked_writes vars u) c.in-Block.is ∙ writes_block vars u c.in-Block.parts));
    }

pub execute-execute-requires : goal.execute-execute-requires
execute-execute-requires t c =
    let vars = c.args.vars.now in
    let all = block_parts vars c.in-Block.parts (subst (IsLawfulStmt vars) c.in-Block.is c.requires.lawful) in
    let same = c.as_slice-part-items.ensures in (
      search (rules, the_lemmas, get_or_read, c.well_formed),
      (
        all_at (IsLawfulStmt vars) c.in-Block.parts c.loop-part.part-index c.part-item.result all
            (subst (λ xs. c.loop-part.part-index < length xs) same c.loop-part-test.true)
            (c.part-item.is ∙ ap (λ xs. get_or xs c.loop-part.part-index c.part-item.result) same),
        (c.requires.seen, c.loop-part.invariant.same_widths ∙ c.requires.values),
      ),
    )

pub execute-loop-part-preserved : goal.execute-loop-part-preserved
execute-loop-part-preserved t c =
    let vars = c.args.vars.now in
    let u = words c.args.seen.now in
    record {
      same_widths = c.execute.ensures.widths ∙ sym c.requires.values;
      so_far = overlaid_more (clocked_writes vars u) c.as_slice-part-items.result.now c.loop-part.part-index c.part-item.result (words c.loop-part.values) (words c.execute.new.values)
          c.loop-part-test.true c.part-item.is c.execute.ensures.words ∙ c.loop-part.invariant.so_far;
    }

pub execute-evaluate-requires : goal.execute-evaluate-requires
execute-evaluate-requires t c =
    let vars = c.args.vars.now in
    subst (λ ws. IsLawful ws c.in-If.test) (sym c.requires.seen) (if_test vars c.in-If.test c.in-If.first c.in-If.second (subst (IsLawfulStmt vars) c.in-If.is c.requires.lawful))

pub execute-execute-requires-then-evaluate-ne0 : goal.execute-execute-requires-then-evaluate-ne0
execute-execute-requires-then-evaluate-ne0 t c =
    let vars = c.args.vars.now in
    let parts = if_parts vars c.in-If.test c.in-If.first c.in-If.second (subst (IsLawfulStmt vars) c.in-If.is c.requires.lawful) in (
      search (rules, the_lemmas, c.well_formed),
      (subst (IsLawfulStmt vars) (sym c.get.ensures) parts.0, (c.requires.seen, c.requires.values)),
    )

pub execute-execute-requires-in-Some : goal.execute-execute-requires-in-Some
execute-execute-requires-in-Some t c =
    let vars = c.args.vars.now in
    let lawful : IsLawfulStmt vars (If c.in-If.test c.in-If.first (Some c.in-Some.second)) =
    subst (λ s. IsLawfulStmt vars (If c.in-If.test c.in-If.first s)) c.in-Some.is (subst (IsLawfulStmt vars) c.in-If.is c.requires.lawful) in
    let parts = if_parts vars c.in-If.test c.in-If.first (Some c.in-Some.second) lawful in (
      search (rules, the_lemmas, c.well_formed),
      (subst (IsLawfulStmt vars) (sym c.get-in-Some.ensures) parts.1, (c.requires.seen, c.requires.values)),
    )

pub execute-evaluate-word-requires : goal.execute-evaluate-word-requires
execute-evaluate-word-requires t c =
    let vars = c.args.vars.now in
    subst (λ ws. IsLawful ws c.in-Case.value) (sym c.requires.seen) (case_value vars c.in-Case.value c.in-Case.arms (subst (IsLawfulStmt vars) c.in-Case.is c.requires.lawful))

pub execute-taken_arm-requires : goal.execute-taken_arm-requires
execute-taken_arm-requires t c =
    let vars = c.args.vars.now in
    subst (AllByRecursion (HasLawfulLabels (widths c.args.seen.now))) (sym c.as_slice.ensures)
    (subst (λ ws. AllByRecursion (HasLawfulLabels ws) c.in-Case.arms) (sym c.requires.seen)
    (case_labels vars c.in-Case.value c.in-Case.arms (subst (IsLawfulStmt vars) c.in-Case.is c.requires.lawful)))

pub execute-offset_bounds-as_slice-number : goal.execute-offset_bounds-as_slice-number
execute-offset_bounds-as_slice-number t c =
    let within : c.in-Some-taken_arm.number < length c.as_slice-in-Some-taken_arm.result.now =
    subst (λ arms. c.in-Some-taken_arm.number < length arms) (c.as_slice.ensures ∙ sym c.as_slice-in-Some-taken_arm.ensures)
    (taken_within _ _ _ c.in-Some-taken_arm.number c.as_slice.result.now (sym c.taken_arm.ensures ∙ c.in-Some-taken_arm.is)) in
    search rules

pub execute-bounds-as_slice-number : goal.execute-bounds-as_slice-number
execute-bounds-as_slice-number t c =
    subst (λ arms. c.in-Some-taken_arm.number < length arms) (c.as_slice.ensures ∙ sym c.as_slice-in-Some-taken_arm.ensures)
    (taken_within _ _ _ c.in-Some-taken_arm.number c.as_slice.result.now (sym c.taken_arm.ensures ∙ c.in-Some-taken_arm.is))

pub execute-execute_arm-requires : goal.execute-execute_arm-requires
execute-execute_arm-requires t c =
    let vars = c.args.vars.now in
    let n = c.in-Some-taken_arm.number in
    let items = c.as_slice-in-Some-taken_arm.result.now in
    let within : n < length items =
    subst (λ arms. n < length arms) (c.as_slice.ensures ∙ sym c.as_slice-in-Some-taken_arm.ensures)
    (taken_within _ _ _ n c.as_slice.result.now (sym c.taken_arm.ensures ∙ c.in-Some-taken_arm.is)) in
    let all = case_parts vars c.in-Case.value c.in-Case.arms (subst (IsLawfulStmt vars) c.in-Case.is c.requires.lawful) in (
      search (rules, the_lemmas, get_or_read, c.well_formed),
      (
        all_at (IsLawfulInArm vars) items n c.index-as_slice-number.result (subst (AllByRecursion (IsLawfulInArm vars)) (sym c.as_slice-in-Some-taken_arm.ensures) all) within
            c.index-as_slice-number.is,
        (c.requires.seen, c.requires.values),
      ),
    )

pub execute-evaluate-requires-in-Assign : goal.execute-evaluate-requires-in-Assign
execute-evaluate-requires-in-Assign t c =
    let vars = c.args.vars.now in
    subst (λ ws. IsLawful ws c.in-Assign.value) (sym c.requires.seen)
    (assign_parts vars c.in-Assign.blocking c.in-Assign.target c.in-Assign.value (subst (IsLawfulStmt vars) c.in-Assign.is c.requires.lawful)).lawful_value

pub execute-store-requires-clause-target : goal.execute-store-requires-clause-target
execute-store-requires-clause-target t c =
    let vars = c.args.vars.now in
    (assign_parts vars c.in-Assign.blocking c.in-Assign.target c.in-Assign.value (subst (IsLawfulStmt vars) c.in-Assign.is c.requires.lawful)).lawful_target

pub execute-store-requires-clause-wide : goal.execute-store-requires-clause-wide
execute-store-requires-clause-wide t c =
    let vars = c.args.vars.now in
    subst (λ n. target_width vars c.in-Assign.target ≤ n) (sym (c.evaluate-in-Assign.ensures.width ∙ ap (λ ws. size ws c.in-Assign.value) c.requires.seen))
    (assign_parts vars c.in-Assign.blocking c.in-Assign.target c.in-Assign.value (subst (IsLawfulStmt vars) c.in-Assign.is c.requires.lawful)).wide

pub execute-returns-then-evaluate-ne0-clause-words : goal.execute-returns-then-evaluate-ne0-clause-words
execute-returns-then-evaluate-ne0-clause-words t c =
    let vars = c.args.vars.now in
    let u = words c.args.seen.now in
    let value : c.evaluate.result.word ≡ val (widths_of vars) u c.in-If.test = c.evaluate.ensures.word ∙ ap (λ ws. val ws u c.in-If.test) c.requires.seen in
    c.execute-then-evaluate-ne0.ensures.words
    ∙ ap (λ s. overlaid (words c.args.values.now) (clocked_writes vars u s)) c.get.ensures
    ∙ ap (overlaid (words c.args.values.now)) (sym (ap (clocked_writes vars u) c.in-If.is ∙ if_first vars u c.in-If.test c.in-If.first c.in-If.second (λ none. c.if-evaluate-ne0.true (value ∙ none))))

pub execute-returns-in-Some-clause-words : goal.execute-returns-in-Some-clause-words
execute-returns-in-Some-clause-words t c =
    let vars = c.args.vars.now in
    let u = words c.args.seen.now in
    let value : c.evaluate.result.word ≡ val (widths_of vars) u c.in-If.test = c.evaluate.ensures.word ∙ ap (λ ws. val ws u c.in-If.test) c.requires.seen in
    c.execute-in-Some.ensures.words
    ∙ ap (λ s. overlaid (words c.args.values.now) (clocked_writes vars u s)) c.get-in-Some.ensures
    ∙ ap (overlaid (words c.args.values.now))
    (sym (ap (clocked_writes vars u) (c.in-If.is ∙ ap (If c.in-If.test c.in-If.first) c.in-Some.is) ∙ if_second vars u c.in-If.test c.in-If.first (Some c.in-Some.second) (sym value ∙ c.if-evaluate-ne0.false)))

pub execute-returns-in-None-clause-words : goal.execute-returns-in-None-clause-words
execute-returns-in-None-clause-words t c =
    let vars = c.args.vars.now in
    let u = words c.args.seen.now in
    let value : c.evaluate.result.word ≡ val (widths_of vars) u c.in-If.test = c.evaluate.ensures.word ∙ ap (λ ws. val ws u c.in-If.test) c.requires.seen in
    ap (overlaid (words c.args.values.now))
    (sym (ap (clocked_writes vars u) (c.in-If.is ∙ ap (If c.in-If.test c.in-If.first) c.in-None.is) ∙ if_second vars u c.in-If.test c.in-If.first None (sym value ∙ c.if-evaluate-ne0.false)))

pub execute-returns-in-Some-taken_arm-clause-words : goal.execute-returns-in-Some-taken_arm-clause-words
execute-returns-in-Some-taken_arm-clause-words t c =
    let vars = c.args.vars.now in
    let u = words c.args.seen.now in
    let n = c.in-Some-taken_arm.number in
    let items = c.as_slice-in-Some-taken_arm.result.now in
    let same : c.as_slice.result.now ≡ items = c.as_slice.ensures ∙ sym c.as_slice-in-Some-taken_arm.ensures in
    let within : n < length items =
    subst (λ arms. n < length arms) same (taken_within _ _ _ n c.as_slice.result.now (sym c.taken_arm.ensures ∙ c.in-Some-taken_arm.is)) in
    let number : Some n ≡ taken_arm (widths_of vars) u (val (widths_of vars) u c.in-Case.value) c.in-Case.arms =
    sym c.in-Some-taken_arm.is
    ∙ c.taken_arm.ensures
    ∙ ap (λ word. taken_arm (widths c.args.seen.now) u word c.as_slice.result.now) c.evaluate-word.ensures.word
    ∙ ap (λ ws. taken_arm ws u (val ws u c.in-Case.value) c.as_slice.result.now) c.requires.seen
    ∙ ap (taken_arm (widths_of vars) u (val (widths_of vars) u c.in-Case.value)) c.as_slice.ensures in
    c.execute_arm.ensures.words
    ∙ ap (overlaid (words c.args.values.now))
    (sym (ap (clocked_writes vars u) c.in-Case.is
    ∙ case_taken vars u c.in-Case.value c.in-Case.arms (Some n) number
    ∙ ap (λ arms. number_writes vars u arms (Some n)) (sym c.as_slice-in-Some-taken_arm.ensures)
    ∙ arm_taken vars u items n c.index-as_slice-number.result within c.index-as_slice-number.is))

pub execute-returns-in-None-taken_arm-clause-words : goal.execute-returns-in-None-taken_arm-clause-words
execute-returns-in-None-taken_arm-clause-words t c =
    let vars = c.args.vars.now in
    let u = words c.args.seen.now in
    let number : None ≡ taken_arm (widths_of vars) u (val (widths_of vars) u c.in-Case.value) c.in-Case.arms =
    sym c.in-None-taken_arm.is
    ∙ c.taken_arm.ensures
    ∙ ap (λ word. taken_arm (widths c.args.seen.now) u word c.as_slice.result.now) c.evaluate-word.ensures.word
    ∙ ap (λ ws. taken_arm ws u (val ws u c.in-Case.value) c.as_slice.result.now) c.requires.seen
    ∙ ap (taken_arm (widths_of vars) u (val (widths_of vars) u c.in-Case.value)) c.as_slice.ensures in
    ap (overlaid (words c.args.values.now)) (sym (ap (clocked_writes vars u) c.in-Case.is ∙ case_taken vars u c.in-Case.value c.in-Case.arms None number))

pub execute-returns-in-Assign-clause-words : goal.execute-returns-in-Assign-clause-words
execute-returns-in-Assign-clause-words t c =
    let vars = c.args.vars.now in
    let u = words c.args.seen.now in
    let ws = c.requires.seen in
    c.store.ensures.words
    ∙ ap (λ word. overlaid (words c.args.values.now) (writes_to vars u c.in-Assign.target word)) (c.evaluate-in-Assign.ensures.word ∙ ap (λ ws. val ws u c.in-Assign.value) c.requires.seen)
    ∙ ap (overlaid (words c.args.values.now)) (sym (ap (clocked_writes vars u) c.in-Assign.is ∙ writes_assign vars u c.in-Assign.blocking c.in-Assign.target c.in-Assign.value))

pub execute_arm-execute-requires : goal.execute_arm-execute-requires
execute_arm-execute-requires t c = (search (rules, the_lemmas, c.well_formed), (arm_body c.args.vars.now c.args.arm.now c.requires.body, (c.requires.seen, c.requires.values)))
