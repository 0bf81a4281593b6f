use Rattle.std.proofs.Common.{◌∙◌, subst, sym}
use Rattle.std.specs.Prelude.{All}
use Rattle.bit_ops.specs.Width.{IsWidth}
use Rattle.leaf_model.proofs.Leaves.{inputs_fit}
use Rattle.leaf_model.proofs.starting.zero_inputs.Goals as goal

pub zero-requires : goal.zero-requires
zero-requires c =
    let all : All IsWidth c.as_slice-width-items.result.now = subst (All IsWidth) (sym (c.as_slice-width-items.ensures.value ∙ c.in_ok-widths.ensures)) (inputs_fit c.args.m.now) in
    all c.loop-width.width-index 0 c.loop-width-test.true
