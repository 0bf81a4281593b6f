use Rattle.std.proofs.Common.{arith}
use Rattle.std.proofs.lemmas.Grind.{common_steps}
use Rattle.io_edge.proofs.OfferedSoFar.{added_next}
use Rattle.io_edge.proofs.offering.offer.Goals as goal

pub loop-done-preserved : goal.loop-done-preserved
loop-done-preserved g c = record {
  within = grind (arith, common_steps);
  added = added_next _ _ _ c.args.piece.now _ _ c.loop-done.invariant.added c.in_ok-done.ensures.added;
  later = omega arith;
}
