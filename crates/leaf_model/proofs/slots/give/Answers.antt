use Rattle.std.proofs.Common.{◌∙◌, length, ap, arith}
use Rattle.bit_ops.specs.Lists.{widths}
use Rattle.code_isa.specs.Slots.{slot_widths}
use Rattle.leaf_model.specs.Known.{widths_each, count_is}
use Rattle.leaf_model.specs.Leaf.{placed}
use Rattle.leaf_model.proofs.Lists.{placed_same}
use Rattle.leaf_model.proofs.slots.give.Goals as goal

pub run_slots-requires-clause-shape : goal.run_slots-requires-clause-shape
run_slots-requires-clause-shape c =
    let m = c.args.m.now in
    let values = c.args.values.now in
    c.put.ensures.widths
    ∙ ap (λ ws. placed ws c.args.first (widths values)) c.requires.shape
    ∙ placed_same (slot_widths m) c.args.first (length values) (widths values) (omega (arith, c.requires.inside, count_is m)) (widths_each values) c.requires.wide
