use Rattle.std.proofs.Common.{◌≡◌, drop}
use Rattle.bit_ops.specs.Lists.{words, widths}
use Rattle.plain_run.specs.Places.{set_places}
use Rattle.plain_run.proofs.bench.set_inputs.Given as goal

abbrev pub invariant-loop-k : goal.invariant-loop-k
invariant-loop-k l = record {
  same_widths : widths l.values ≡ widths l.fn.values;
  rest : set_places (drop l.k l.places) (words (drop l.k l.given)) (words l.values) ≡ set_places l.places (words l.given) (words l.fn.values);
}
