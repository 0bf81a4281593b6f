use Rattle.std.proofs.Common.{◌<◌, ◌∙◌, length, arith}
use Rattle.std.proofs.lemmas.List.{length-set}
use Rattle.bit_ops.specs.declared.value.Bits.{Bits}
use Rattle.code_isa.specs.Faces.{output_widths}
use Rattle.code_isa.specs.Tree.{top_of}
use Rattle.wrapper_core.proofs.Copying.{taken_next}
use Rattle.wrapper_core.proofs.buffer.collect.Goals as goal

pub loop-k-preserved : goal.loop-k-preserved
loop-k-preserved g c =
    let buffer = c.loop-k.buffer.items in
    let m = g.C.Child.model c.args.child.now in
    let k = c.loop-k.k in
    let room : k < length buffer = omega (arith, c.loop-k-test.true, c.len-k-end.ensures, c.loop-k.invariant.sized, c.requires.sized, c.args.buffer.now.ok.0) in
    record {
      sized = length-set buffer k c.out.result ∙ c.loop-k.invariant.sized;
      words = taken_next (λ (b : Bits). b.word) buffer m.shown k c.out.result room c.out.ensures.word c.loop-k.invariant.words;
      widths = taken_next (λ (b : Bits). b.width) buffer (output_widths (top_of m.tree).face) k c.out.result room c.out.ensures.width c.loop-k.invariant.widths;
    }
