use Rattle.std.proofs.Common.{◌≡◌, drop}
use Rattle.bit_ops.specs.Lists.{words, widths}
use Rattle.plain_run.proofs.Places.{level_words}
use Rattle.plain_run.specs.Places.{set_places}
use Rattle.plain_run.proofs.bench.set_levels.Given as goal

abbrev pub invariant-loop-k : goal.invariant-loop-k
invariant-loop-k l = record {
  same_widths : widths l.values ≡ widths l.fn.values;
  rest : set_places (drop l.k l.places) (level_words (drop l.k l.levels)) (words l.values) ≡ set_places l.places (level_words l.levels) (words l.fn.values);
}
