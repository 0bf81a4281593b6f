use Rattle.std.proofs.Common.{◌∙◌, false, arith}
use Rattle.std.specs.Prelude.{slice_index_or}
use Rattle.std.proofs.lemmas.List.{length-set, length-map, get_or-map}
use Rattle.code_isa.specs.Traces.{level_at, levels_at}
use Rattle.wrapper_core.proofs.Lists.{filled_more}
use Rattle.wrapper_core.proofs.buffer.gather_levels.Goals as goal

pub loop-k-preserved : goal.loop-k-preserved
loop-k-preserved c =
    let buffer = c.loop-k.buffer.items in
    let levels = c.args.levels.now in
    let clocks = c.args.clocks.now in
    let k = c.loop-k.k in
    let level = slice_index_or levels (slice_index_or clocks k 0) false in
    record {
      sized = length-set buffer k level ∙ c.loop-k.invariant.sized;
      levels = filled_more buffer (levels_at levels clocks) k level false (omega (arith, c.loop-k-test.true, c.loop-k.invariant.sized))
          (omega (arith, c.loop-k-test.true, length-map clocks (level_at levels))) c.loop-k.invariant.levels (get_or-map (level_at levels) clocks k 0 false c.loop-k-test.true);
    }
