use Rattle.std.proofs.Common.{arith, ◌∙◌}
use Rattle.trace_writer.proofs.TraceText.{digit_more}
use Rattle.trace_writer.proofs.trace.push_value.Goals as goal

pub loop-place-preserved : goal.loop-place-preserved
loop-place-preserved c = record {
  text = digit_more c.args.value.word c.loop-place.place c.digit.result c.loop-place.into.items c.push_reserved-in-loop-place.new.self.items _ c.loop-place-test.true c.digit.ensures c.push_reserved-in-loop-place.ensures.items c.loop-place.invariant.text;
  left = omega arith;
  room = c.push_reserved-in-loop-place.ensures.capacity ∙ c.loop-place.invariant.room;
}
