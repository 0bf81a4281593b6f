use Rattle.std.proofs.Common.{◌+◌, map, drop, ap, ◌∙◌}
use Rattle.std.proofs.lemmas.Result.{err_from_is_err_and}
use Rattle.elaborate.specs.Targets.{all_of}
use Rattle.elaborate.specs.Statements as spec
use Rattle.elaborate.specs.code.Walking.{reached, seen_in}
use Rattle.elaborate.proofs.Sequences.{behind_given, is_found, is_refused, none_given, part_given, part_refused, all_given, block_refused, case_refused, arm_given, labels_refused, body_refused}
use Rattle.elaborate.proofs.statement.+statements.Goals as goal

pub arms-loop-item-init : goal.arms-loop-item-init
arms-loop-item-init t c =
    let whole = spec.sequence (map spec.arm_of c.args.items.now) (reached c.args.walk.now) in
    (ap (λ xs. behind_given xs whole) c.new-found.ensures ∙ none_given whole, c.requires.sound)

pub arms-returns-in_err-labels-clause-given : goal.arms-returns-in_err-labels-clause-given
arms-returns-in_err-labels-clause-given t c =
    let p = err_from_is_err_and c.from_residual.result c.from_residual.ensures.1 in
    let w = c.loop-item.walk in
    rw (p.1, p.2) (part_refused spec.arm_of c.args.items.now c.loop-item.item-index c.item-item.result (reached w) c.loop-item.found c.in_err-labels.field-0.0
    (spec.sequence (map spec.arm_of c.args.items.now) (reached c.args.walk.now)) c.loop-item-test.true c.item-item.is
    (labels_refused c.item-item.result c.as_slice.result.now (reached w) c.in_err-labels.field-0.0 c.as_slice.ensures
    (is_refused c.in_err-labels.field-0.0 (all_of (spec.measured_each (seen_in w) w.scope.vars c.as_slice.result.now)) c.in_err-labels.ensures))
    c.loop-item.invariant.0)

pub arms-returns-in_err-body-clause-given : goal.arms-returns-in_err-body-clause-given
arms-returns-in_err-body-clause-given t c =
    let p = err_from_is_err_and c.from_residual-in_err-body.result c.from_residual-in_err-body.ensures.1 in
    let w = c.loop-item.walk in
    rw (p.1, p.2) (part_refused spec.arm_of c.args.items.now c.loop-item.item-index c.item-item.result (reached w) c.loop-item.found c.in_err-body.field-0.0
    (spec.sequence (map spec.arm_of c.args.items.now) (reached c.args.walk.now)) c.loop-item-test.true c.item-item.is
    (body_refused c.item-item.result c.as_slice.result.now c.in_ok-labels.labels (reached w) c.in_err-body.field-0.0 c.as_slice.ensures
    (is_found c.in_ok-labels.labels (all_of (spec.measured_each (seen_in w) w.scope.vars c.as_slice.result.now)) c.in_ok-labels.ensures)
    c.in_err-body.ensures.given)
    c.loop-item.invariant.0)

pub arms-loop-item-preserved : goal.arms-loop-item-preserved
arms-loop-item-preserved t c =
    let w = c.loop-item.walk in
    let rest = spec.sequence (map spec.arm_of (drop (c.loop-item.item-index + 1) c.args.items.now)) (reached c.statement.new.walk) in (
      ap (λ xs. behind_given xs rest) c.in_ok-push.ensures.ok
          ∙ part_given spec.arm_of c.args.items.now c.loop-item.item-index c.item-item.result (record { labels = c.in_ok-labels.labels; body = c.in_ok-body.body }) (reached w)
          (reached c.statement.new.walk) c.loop-item.found (spec.sequence (map spec.arm_of c.args.items.now) (reached c.args.walk.now)) c.loop-item-test.true c.item-item.is
          (arm_given c.item-item.result c.as_slice.result.now c.in_ok-labels.labels c.in_ok-body.body (reached w) (reached c.statement.new.walk) c.as_slice.ensures
          (is_found c.in_ok-labels.labels (all_of (spec.measured_each (seen_in w) w.scope.vars c.as_slice.result.now)) c.in_ok-labels.ensures)
          c.in_ok-body.ensures.given)
          c.loop-item.invariant.0,
      c.in_ok-body.ensures.sound,
    )

pub arms-returns-clause-given : goal.arms-returns-clause-given
arms-returns-clause-given t c =
    all_given spec.arm_of c.args.items.now c.loop-item.item-index (reached c.loop-item.walk) c.loop-item.found
    (spec.sequence (map spec.arm_of c.args.items.now) (reached c.args.walk.now)) c.loop-item-test.false c.loop-item.invariant.0

pub arms-returns-clause-sound : goal.arms-returns-clause-sound
arms-returns-clause-sound t c = c.loop-item.invariant.1

pub arms-measured_labels-requires : goal.arms-measured_labels-requires
arms-measured_labels-requires t c = c.loop-item.invariant.1

pub statements-loop-part-init : goal.statements-loop-part-init
statements-loop-part-init t c =
    let whole = spec.sequence (map spec.statement c.args.parts.now) (reached c.args.walk.now) in
    (ap (λ xs. behind_given xs whole) c.new-found.ensures ∙ none_given whole, c.requires.sound)

pub statements-returns-in_err-statement-clause-given : goal.statements-returns-in_err-statement-clause-given
statements-returns-in_err-statement-clause-given t c =
    let p = err_from_is_err_and c.from_residual.result c.from_residual.ensures.1 in
    rw (p.1, p.2) (part_refused spec.statement c.args.parts.now c.loop-part.part-index c.part-item.result (reached c.loop-part.walk) c.loop-part.found c.in_err-statement.field-0.0
    (spec.sequence (map spec.statement c.args.parts.now) (reached c.args.walk.now)) c.loop-part-test.true c.part-item.is c.in_err-statement.ensures.given c.loop-part.invariant.0)

pub statements-loop-part-preserved : goal.statements-loop-part-preserved
statements-loop-part-preserved t c =
    let rest = spec.sequence (map spec.statement (drop (c.loop-part.part-index + 1) c.args.parts.now)) (reached c.statement.new.walk) in (
      ap (λ xs. behind_given xs rest) c.in_ok-push.ensures.ok
          ∙ part_given spec.statement c.args.parts.now c.loop-part.part-index c.part-item.result c.in_ok-statement.field-0 (reached c.loop-part.walk) (reached c.statement.new.walk)
          c.loop-part.found (spec.sequence (map spec.statement c.args.parts.now) (reached c.args.walk.now)) c.loop-part-test.true c.part-item.is c.in_ok-statement.ensures.given
          c.loop-part.invariant.0,
      c.in_ok-statement.ensures.sound,
    )

pub statements-returns-clause-given : goal.statements-returns-clause-given
statements-returns-clause-given t c =
    all_given spec.statement c.args.parts.now c.loop-part.part-index (reached c.loop-part.walk) c.loop-part.found
    (spec.sequence (map spec.statement c.args.parts.now) (reached c.args.walk.now)) c.loop-part-test.false c.loop-part.invariant.0

pub statements-returns-clause-sound : goal.statements-returns-clause-sound
statements-returns-clause-sound t c = c.loop-part.invariant.1

pub statement-returns-in_err-statements-in-Block-clause-given : goal.statement-returns-in_err-statements-in-Block-clause-given
statement-returns-in_err-statements-in-Block-clause-given t c =
    let p = err_from_is_err_and c.from_residual-in_err-statements-in-Block.result c.from_residual-in_err-statements-in-Block.ensures.1 in
    rw (p.1, p.2) (block_refused c.args.s.now c.in-Block.label c.in-Block.parts c.as_slice.result.now (reached c.args.walk.now) (reached c.label.new.self)
    c.in_err-statements-in-Block.field-0.0 c.in-Block.is c.as_slice.ensures c.in_ok-label-in-Block.ensures.step c.in_err-statements-in-Block.ensures.given)

pub statement-returns-in_err-arms-in-Case-clause-given : goal.statement-returns-in_err-arms-in-Case-clause-given
statement-returns-in_err-arms-in-Case-clause-given t c =
    let p = err_from_is_err_and c.from_residual-in_err-arms-in-Case.result c.from_residual-in_err-arms-in-Case.ensures.1 in
    rw (p.1, p.2) (case_refused c.args.s.now c.in-Case.field-0 c.in-Case.value c.in_ok-value-in-Case.value c.in-Case.items c.as_slice-in-Case.result.now (reached c.args.walk.now)
    c.in_err-arms-in-Case.field-0.0 c.in-Case.is c.as_slice-in-Case.ensures (is_found c.in_ok-value-in-Case.value _ c.in_ok-value-in-Case.ensures) c.in_err-arms-in-Case.ensures.given)
