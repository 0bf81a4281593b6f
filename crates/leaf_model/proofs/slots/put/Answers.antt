use Rattle.std.proofs.Common.{◌+◌, ◌∙◌}
use Rattle.std.proofs.lemmas.List.{length-set}
use Rattle.bit_ops.specs.declared.value.Bits.{Bits}
use Rattle.leaf_model.proofs.Lists.{put_more}
use Rattle.leaf_model.proofs.slots.put.Goals as goal

pub loop-k-preserved : goal.loop-k-preserved
loop-k-preserved c =
    let start = c.args.slots.now.items in
    let now = c.loop-k.slots.items in
    let values = c.args.values.now in
    let v = c.index-values-k.result in
    let k = c.loop-k.k in
    record {
      sized = length-set now (c.args.first + k) v ∙ c.loop-k.invariant.sized;
      words = put_more (λ (b : Bits). b.word) start now c.args.first k values v c.loop-k-test.true c.index-values-k.is c.requires c.loop-k.invariant.words;
      widths = put_more (λ (b : Bits). b.width) start now c.args.first k values v c.loop-k-test.true c.index-values-k.is c.requires c.loop-k.invariant.widths;
    }
