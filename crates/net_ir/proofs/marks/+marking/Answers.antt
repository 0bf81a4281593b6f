use Rattle.std.proofs.Common.{sym, ap, ◌∙◌}
use Rattle.std.specs.Prelude.{◌++◌}
use Rattle.std.specs.List.{flat_map}
use Rattle.std.proofs.lemmas.List.{append-nil}
use Rattle.net_ir.specs.declared.statement.Stmt.{If}
use Rattle.net_ir.specs.Target.{target_reads}
use Rattle.net_ir.specs.Statement.{statement_reads, reads_of_arm}
use Rattle.net_ir.specs.Value.{reads_of}
use Rattle.net_ir.specs.Marks.{mark_all}
use Rattle.net_ir.specs.code.Classing.{labels_read}
use Rattle.net_ir.proofs.Marking.{block_reads, if_reads, if_alone_reads, case_reads, assign_reads, arm_both, mark_both, mark_append, mark_more}
use Rattle.net_ir.proofs.marks.+marking.Goals as goal

pub mark_arm-returns : goal.mark_arm-returns
mark_arm-returns t c =
    let arm = c.args.arm.now in
    mark_both (labels_read arm.labels) (statement_reads arm.body) c.args.marks.now.items c.mark_labels.new.marks.items c.mark_statement.new.marks.items
    (c.mark_labels.ensures ∙ ap (λ xs. mark_all (labels_read xs) c.args.marks.now.items) c.as_slice.ensures) c.mark_statement.ensures
    ∙ ap (λ reads. mark_all reads c.args.marks.now.items) (sym (arm_both arm))

pub mark_statement-loop-part-init : goal.mark_statement-loop-part-init
mark_statement-loop-part-init t c =
    ap (λ xs. mark_all (flat_map statement_reads xs) c.args.marks.now.items) c.as_slice-part-items.ensures
    ∙ sym (ap (λ reads. mark_all reads c.args.marks.now.items) (ap statement_reads c.in-Block.is ∙ block_reads c.in-Block.parts))

pub mark_statement-loop-part-preserved : goal.mark_statement-loop-part-preserved
mark_statement-loop-part-preserved t c =
    mark_more statement_reads c.as_slice-part-items.result.now c.loop-part.part-index c.part-item.result c.loop-part.marks.items c.mark_statement.new.marks.items _ c.loop-part-test.true c.part-item.is c.mark_statement.ensures c.loop-part.invariant

pub mark_statement-loop-arm-init : goal.mark_statement-loop-arm-init
mark_statement-loop-arm-init t c =
    let first = c.args.marks.now.items in
    ap (mark_all (flat_map reads_of_arm c.as_slice-arm-items.result.now)) c.mark_term-in-Case.ensures
    ∙ ap (λ xs. mark_all (flat_map reads_of_arm xs) (mark_all (reads_of c.in-Case.value) first)) c.as_slice-arm-items.ensures
    ∙ sym (mark_append (reads_of c.in-Case.value) (flat_map reads_of_arm c.in-Case.arms) first)
    ∙ sym (ap (λ reads. mark_all reads first) (ap statement_reads c.in-Case.is ∙ case_reads c.in-Case.value c.in-Case.arms))

pub mark_statement-loop-arm-preserved : goal.mark_statement-loop-arm-preserved
mark_statement-loop-arm-preserved t c =
    mark_more reads_of_arm c.as_slice-arm-items.result.now c.loop-arm.arm-index c.arm-item.result c.loop-arm.marks.items c.mark_arm.new.marks.items _ c.loop-arm-test.true c.arm-item.is c.mark_arm.ensures c.loop-arm.invariant

pub mark_statement-returns-in-Some : goal.mark_statement-returns-in-Some
mark_statement-returns-in-Some t c =
    let first = c.args.marks.now.items in
    mark_both (reads_of c.in-If.test ++ statement_reads c.in-If.first) (statement_reads c.in-Some.second) first c.mark_statement-in-If.new.marks.items c.mark_statement-in-Some.new.marks.items
    (mark_both (reads_of c.in-If.test) (statement_reads c.in-If.first) first c.mark_term.new.marks.items c.mark_statement-in-If.new.marks.items c.mark_term.ensures
    (c.mark_statement-in-If.ensures ∙ ap (λ s. mark_all (statement_reads s) c.mark_term.new.marks.items) c.get.ensures))
    (c.mark_statement-in-Some.ensures ∙ ap (λ s. mark_all (statement_reads s) c.mark_statement-in-If.new.marks.items) c.get-in-Some.ensures)
    ∙ ap (λ reads. mark_all reads first) (sym (ap statement_reads c.in-If.is ∙ ap (λ s. statement_reads (If c.in-If.test c.in-If.first s)) c.in-Some.is ∙ if_reads c.in-If.test c.in-If.first c.in-Some.second))

pub mark_statement-returns-in-None : goal.mark_statement-returns-in-None
mark_statement-returns-in-None t c =
    let first = c.args.marks.now.items in
    mark_both (reads_of c.in-If.test) (statement_reads c.in-If.first) first c.mark_term.new.marks.items c.mark_statement-in-If.new.marks.items c.mark_term.ensures
    (c.mark_statement-in-If.ensures ∙ ap (λ s. mark_all (statement_reads s) c.mark_term.new.marks.items) c.get.ensures)
    ∙ ap (λ reads. mark_all reads first)
    (sym (append-nil (reads_of c.in-If.test ++ statement_reads c.in-If.first))
    ∙ sym (ap statement_reads c.in-If.is ∙ ap (λ s. statement_reads (If c.in-If.test c.in-If.first s)) c.in-None.is ∙ if_alone_reads c.in-If.test c.in-If.first))

pub mark_statement-returns-in-Assign : goal.mark_statement-returns-in-Assign
mark_statement-returns-in-Assign t c =
    mark_both (target_reads c.in-Assign.target) (reads_of c.in-Assign.value) c.args.marks.now.items c.mark_target.new.marks.items c.mark_term-in-Assign.new.marks.items
    c.mark_target.ensures c.mark_term-in-Assign.ensures
    ∙ ap (λ reads. mark_all reads c.args.marks.now.items) (sym (ap statement_reads c.in-Assign.is ∙ assign_reads c.in-Assign.blocking c.in-Assign.target c.in-Assign.value))
