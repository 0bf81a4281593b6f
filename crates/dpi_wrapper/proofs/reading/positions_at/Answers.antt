use Rattle.std.proofs.Common.{sym}
use Rattle.std.specs.Prelude.{codes}
use Rattle.std.proofs.lemmas.Result.{err_from_is_err_and}
use Rattle.dpi_wrapper.specs.code.Reading.{items_at, number_at}
use Rattle.dpi_wrapper.proofs.Loop.{goes_on, ends, fails, is_done}
use Rattle.dpi_wrapper.proofs.reading.positions_at.Goals as goal

pub returns-in_default : goal.returns-in_default
returns-in_default c =
    ends (codes " ") number_at c.loop.positions.items c.args.limit c.loop.counter c.loop.rest.now
    (items_at (codes " ") number_at c.args.limit c.args.bytes.now) c.loop-test.true
    (sym c.in_default.ensures) c.loop.invariant

pub returns-in_err-position : goal.returns-in_err-position
returns-in_err-position c =
    let p = err_from_is_err_and c.from_residual.result c.from_residual.ensures.1 in
    rw (p.1, p.2) (fails c.in_err-position.field-0.0 (codes " ") number_at c.loop.positions.items c.args.limit c.loop.counter c.loop.rest.now
    c.in-Some.start.now
    (items_at (codes " ") number_at c.args.limit c.args.bytes.now) c.loop-test.true (sym c.in-Some.ensures) c.in_err-position.ensures c.loop.invariant)

pub loop-preserved : goal.loop-preserved
loop-preserved c =
    rw c.in_ok-push.ensures.items
    (goes_on (codes " ") number_at c.loop.positions.items c.args.limit c.loop.counter c.loop.rest.now c.in-Some.start.now c.in_ok-position.position
    c.in_ok-position.end.now
    (items_at (codes " ") number_at c.args.limit c.args.bytes.now) c.loop-test.true (sym c.in-Some.ensures) c.in_ok-position.ensures c.loop.invariant)

pub returns : goal.returns
returns c =
    is_done (codes " ") number_at c.loop.positions.items c.args.limit c.loop.counter c.loop.rest.now
    (items_at (codes " ") number_at c.args.limit c.args.bytes.now) c.loop-test.false
    c.loop.invariant
