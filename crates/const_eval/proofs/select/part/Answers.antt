use Rattle.std.proofs.Common.{◌∙◌, ap}
use Rattle.const_eval.specs.Selects as selects
use Rattle.const_eval.specs.WholeNumbers.{integer_of}
use Rattle.const_eval.proofs.Selecting.{both_down}
use Rattle.const_eval.proofs.select.part.Goals as goal

pub returns : goal.returns
returns c =
    let word = c.bits_from.ensures.word ∙ ap (λ z. selects.bits_from z c.args.width c.args.constant.value.value.word)
    (both_down (integer_of c.args.position) c.from.result c.from-2.result c.args.constant.low c.args.down c.from.ensures c.from-2.ensures) in
    rw (c.bits_from.ensures.width, word) at c.alone.ensures
