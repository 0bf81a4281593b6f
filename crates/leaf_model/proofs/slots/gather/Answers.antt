use Rattle.std.proofs.Common.{◌<◌, ◌∙◌, length, arith}
use Rattle.std.specs.Prelude.{slice_index}
use Rattle.std.proofs.lemmas.List.{length-set}
use Rattle.bit_ops.specs.declared.value.Bits.{Bits}
use Rattle.leaf_model.proofs.Lists.{copied_next}
use Rattle.leaf_model.proofs.slots.gather.Goals as goal

pub loop-k-preserved : goal.loop-k-preserved
loop-k-preserved c =
    let buffer = c.loop-k.buffer.items in
    let slots = c.args.slots.now in
    let places = c.args.places.now in
    let k = c.loop-k.k in
    let v = c.index-slots-places.result in
    let room : k < length buffer = omega (arith, c.loop-k-test.true, c.loop-k.invariant.sized) in
    let there : slice_index places k < length slots = c.requires.inside k 0 c.loop-k-test.true in
    record {
      sized = length-set buffer k v ∙ c.loop-k.invariant.sized;
      words = copied_next (λ (b : Bits). b.word) slots buffer places k v room c.loop-k-test.true there c.index-slots-places.is c.loop-k.invariant.words;
      widths = copied_next (λ (b : Bits). b.width) slots buffer places k v room c.loop-k-test.true there c.index-slots-places.is c.loop-k.invariant.widths;
    }
