use Rattle.std.proofs.Common.{sym}
use Rattle.std.specs.Prelude.{codes}
use Rattle.std.proofs.lemmas.Result.{err_from_is_err_and}
use Rattle.dpi_wrapper.specs.code.Reading.{items_at, row_at}
use Rattle.dpi_wrapper.proofs.Loop.{goes_on, ends, fails, is_done}
use Rattle.dpi_wrapper.proofs.reading.rows_at.Goals as goal

pub returns-in_default : goal.returns-in_default
returns-in_default c =
    ends (codes "// depends ") row_at c.loop.rows.items c.args.limit c.loop.counter c.loop.rest.now
    (items_at (codes "// depends ") row_at c.args.limit c.args.bytes.now) c.loop-test.true
    (sym c.in_default.ensures) c.loop.invariant

pub returns-in_err-row : goal.returns-in_err-row
returns-in_err-row c =
    let p = err_from_is_err_and c.from_residual.result c.from_residual.ensures.1 in
    rw (p.1, p.2) (fails c.in_err-row.field-0.0 (codes "// depends ") row_at c.loop.rows.items c.args.limit c.loop.counter c.loop.rest.now c.in-Some.start.now
    (items_at (codes "// depends ") row_at c.args.limit c.args.bytes.now) c.loop-test.true (sym c.in-Some.ensures) c.in_err-row.ensures c.loop.invariant)

pub loop-preserved : goal.loop-preserved
loop-preserved c =
    rw c.in_ok-push.ensures.items
    (goes_on (codes "// depends ") row_at c.loop.rows.items c.args.limit c.loop.counter c.loop.rest.now c.in-Some.start.now c.in_ok-row.row
    c.in_ok-row.end.now
    (items_at (codes "// depends ") row_at c.args.limit c.args.bytes.now) c.loop-test.true (sym c.in-Some.ensures) c.in_ok-row.ensures c.loop.invariant)

pub returns : goal.returns
returns c =
    is_done (codes "// depends ") row_at c.loop.rows.items c.args.limit c.loop.counter c.loop.rest.now
    (items_at (codes "// depends ") row_at c.args.limit c.args.bytes.now) c.loop-test.false
    c.loop.invariant
