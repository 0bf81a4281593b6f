use Rattle.std.proofs.Common.{◌≡◌, ◌^◌, ◌*◌, ◌%◌}
use Rattle.const_eval.proofs.power.raised_to.Given as goal

abbrev pub invariant-loop-left : goal.invariant-loop-left
invariant-loop-left l = record {
  width : l.result.width ≡ l.fn.a.width;
  base_width : l.base.width ≡ l.fn.a.width;
  word : (l.result.word * l.base.word ^ l.left) % 2 ^ l.fn.a.width ≡ l.fn.a.word ^ l.fn.exponent % 2 ^ l.fn.a.width;
}

abbrev pub decreases-loop-left : goal.decreases-loop-left
decreases-loop-left l = l.left
