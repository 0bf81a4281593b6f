use Rattle.std.proofs.Common.{sym, ap, ◌∙◌, ◌++◌, append_assoc}
use Rattle.std.specs.List.{flat_map}
use Rattle.std.proofs.lemmas.List.{append-nil}
use Rattle.net_ir.specs.declared.statement.Stmt.{If}
use Rattle.net_ir.specs.Value.{reads_of}
use Rattle.net_ir.specs.Target.{target_reads}
use Rattle.net_ir.specs.Statement.{statement_reads, reads_of_arm}
use Rattle.net_ir.proofs.Marking.{block_reads, if_reads, if_alone_reads, case_reads, assign_reads}
use Rattle.clock_domains.proofs.Walks.{on_ok, list_both}
use Rattle.clock_domains.proofs.listing.+listing.Goals as goal

pub list_statement-loop-part-init : goal.list_statement-loop-part-init
list_statement-loop-part-init t c =
    let before = c.args.reads.now.items in
    ap (λ xs. before ++ flat_map statement_reads xs) c.as_slice-part-items.ensures
    ∙ ap (λ reads. before ++ reads) (sym (ap statement_reads c.in-Block.is ∙ block_reads c.in-Block.parts))

pub list_statement-loop-arm-init : goal.list_statement-loop-arm-init
list_statement-loop-arm-init t c =
    let before = c.args.reads.now.items in
    let then = c.list_term-in-Case.new.reads.items in
    ap (λ xs. then ++ flat_map reads_of_arm xs) c.as_slice-arm-items.ensures
    ∙ ap (λ reads. reads ++ flat_map reads_of_arm c.in-Case.arms) c.in_ok-list_term-in-Case.ensures
    ∙ append_assoc before (reads_of c.in-Case.value) (flat_map reads_of_arm c.in-Case.arms)
    ∙ ap (λ reads. before ++ reads) (sym (ap statement_reads c.in-Case.is ∙ case_reads c.in-Case.value c.in-Case.arms))

pub list_statement-returns-in-Some : goal.list_statement-returns-in-Some
list_statement-returns-in-Some t c =
    let before = c.args.reads.now.items in
    let then = c.list_term.new.reads.items in
    let later = c.list_statement-in-If.new.reads.items in
    on_ok c.list_statement-in-Some.result
    (λ third.
    list_both (reads_of c.in-If.test ++ statement_reads c.in-If.first) (statement_reads c.in-Some.second) before later c.list_statement-in-Some.new.reads.items
    (list_both (reads_of c.in-If.test) (statement_reads c.in-If.first) before then later c.in_ok-list_term-in-If.ensures
    (c.in_ok-list_statement-in-If.ensures ∙ ap (λ s. then ++ statement_reads s) c.get.ensures))
    (third ∙ ap (λ s. later ++ statement_reads s) c.get-in-Some.ensures)
    ∙ ap (λ reads. before ++ reads)
    (sym (ap statement_reads c.in-If.is ∙ ap (λ s. statement_reads (If c.in-If.test c.in-If.first s)) c.in-Some.is ∙ if_reads c.in-If.test
    c.in-If.first c.in-Some.second)))
    c.list_statement-in-Some.ensures

pub list_statement-returns-in-None : goal.list_statement-returns-in-None
list_statement-returns-in-None t c =
    let before = c.args.reads.now.items in
    let then = c.list_term.new.reads.items in
    list_both (reads_of c.in-If.test) (statement_reads c.in-If.first) before then c.list_statement-in-If.new.reads.items c.in_ok-list_term-in-If.ensures
    (c.in_ok-list_statement-in-If.ensures ∙ ap (λ s. then ++ statement_reads s) c.get.ensures)
    ∙ ap (λ reads. before ++ reads)
    (sym (append-nil (reads_of c.in-If.test ++ statement_reads c.in-If.first))
    ∙ sym (ap statement_reads c.in-If.is ∙ ap (λ s. statement_reads (If c.in-If.test c.in-If.first s)) c.in-None.is ∙ if_alone_reads c.in-If.test
    c.in-If.first))

pub list_statement-returns-in_ok-list_target-in-Assign : goal.list_statement-returns-in_ok-list_target-in-Assign
list_statement-returns-in_ok-list_target-in-Assign t c =
    let before = c.args.reads.now.items in
    on_ok c.list_term-in-Assign.result
    (λ second.
    list_both (target_reads c.in-Assign.target) (reads_of c.in-Assign.value) before c.list_target.new.reads.items c.list_term-in-Assign.new.reads.items
    c.in_ok-list_target-in-Assign.ensures second
    ∙ ap (λ reads. before ++ reads) (sym (ap statement_reads c.in-Assign.is ∙ assign_reads c.in-Assign.blocking c.in-Assign.target c.in-Assign.value)))
    c.list_term-in-Assign.ensures
