use Rattle.std.proofs.Common.{◌<◌, ◌∙◌, length, arith}
use Rattle.std.proofs.lemmas.List.{length-set}
use Rattle.bit_ops.specs.declared.value.Bits.{Bits}
use Rattle.code_isa.specs.Faces.{output_widths}
use Rattle.code_isa.specs.Tree.{words_at}
use Rattle.wrapper_core.specs.World.{moment_of}
use Rattle.wrapper_core.proofs.Copying.{taken_next}
use Rattle.model_handle.proofs.striking.keep.Goals as goal

pub loop-k-preserved : goal.loop-k-preserved
loop-k-preserved g c =
    let kept = c.loop-k.shown.items in
    let s = moment_of c.args.w.now in
    let k = c.loop-k.k in
    let room : k < length kept = omega (arith, c.loop-k-test.true, c.len-k-end.ensures, c.loop-k.invariant.sized, c.requires.sized, c.args.shown.now.ok.0) in
    record {
      sized = length-set kept k c.out.result ∙ c.loop-k.invariant.sized;
      words = taken_next (λ (b : Bits). b.word) kept (words_at s.slots s.code.outs) k c.out.result room c.out.ensures.word c.loop-k.invariant.words;
      widths = taken_next (λ (b : Bits). b.width) kept (output_widths s.code.face) k c.out.result room c.out.ensures.width c.loop-k.invariant.widths;
    }
