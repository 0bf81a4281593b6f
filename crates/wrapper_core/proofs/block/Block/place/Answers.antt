use Rattle.std.proofs.Common.{◌+◌, ◌≤◌, ◌∙◌, length, arith}
use Rattle.bit_ops.specs.Lists.{words}
use Rattle.wrapper_core.proofs.Blocking.{given_size, words_each, place_more}
use Rattle.wrapper_core.proofs.block.Block.place.Goals as goal

pub loop-k-preserved : goal.loop-k-preserved
loop-k-preserved c =
    let given = c.args.self.now.given.items in
    let low : c.args.first + length c.args.values.now ≤ length (words given) = omega (arith, given_size c.args.self.now c.requires.block, words_each given, c.requires.slots) in
    record {
      block = c.put.ensures.block;
      keeps = record { code = c.put.ensures.keeps.code ∙ c.loop-k.invariant.keeps.code; slots = c.put.ensures.keeps.slots ∙ c.loop-k.invariant.keeps.slots };
      given = place_more (words given) (words c.loop-k.self.given.items) c.args.first c.loop-k.k c.args.values.now c.index-values-k.result (words c.put.new.self.given.items) c.loop-k-test.true c.index-values-k.is low c.loop-k.invariant.given c.put.ensures.given;
    }
