use Rattle.std.proofs.Common.{None, Some, refl}
use Rattle.elaborate.proofs.Parts.{first_left, no_name}
use Rattle.elaborate.proofs.target.+first_names.Goals as goal

pub first_of-loop-part-init : goal.first_of-loop-part-init
first_of-loop-part-init t c = refl

pub first_of-returns-in-Some : goal.first_of-returns-in-Some
first_of-returns-in-Some t c =
    first_left c.args.parts.now c.loop-part.part-index c.part-item.result (Some c.in-Some.name.now) _ c.loop-part-test.true c.part-item.is c.in-Some.ensures c.loop-part.invariant

pub first_of-loop-part-preserved : goal.first_of-loop-part-preserved
first_of-loop-part-preserved t c =
    first_left c.args.parts.now c.loop-part.part-index c.part-item.result None _ c.loop-part-test.true c.part-item.is c.in_default.ensures c.loop-part.invariant

pub first_of-returns : goal.first_of-returns
first_of-returns t c = no_name c.args.parts.now c.loop-part.part-index _ c.loop-part-test.false c.loop-part.invariant
