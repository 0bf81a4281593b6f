use Rattle.std.proofs.Common.{◌≡◌, ◌<◌, ◌∙◌, length, false, sym, arith}
use Rattle.std.specs.Prelude.{slice_index_or}
use Rattle.std.proofs.lemmas.List.{take_more_same, get_or-map, length-map}
use Rattle.code_isa.specs.Traces.{level_at, levels_at}
use Rattle.settle_loop_tests.proofs.fitting.are_levels.Goals as goal

pub loop-k-preserved : goal.loop-k-preserved
loop-k-preserved c =
    let own = c.args.own.now in
    let levels = c.args.levels.now in
    let clocks = c.args.clocks.now in
    let k = c.loop-k.k in
    let inside : k < length clocks = omega arith in
    let here : slice_index_or own k false ≡ level_at levels (slice_index_or clocks k 0) = c.is_level.ensures c.if-not-is_level.false in
    take_more_same own (levels_at levels clocks) k false c.loop-k-test.true (omega (arith, inside, length-map clocks (level_at levels))) c.loop-k.invariant
    (here ∙ sym (get_or-map (level_at levels) clocks k 0 false inside))
