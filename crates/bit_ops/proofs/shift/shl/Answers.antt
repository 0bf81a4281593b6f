use Rattle.std.proofs.Common.{◌*◌, ◌^◌, ◌<◌, ◌∙◌, arith}
use Rattle.bit_ops.specs.declared.value.TheConstants.{MAX_WIDTH}
use Rattle.bit_ops.proofs.Words.{cut_twice}
use Rattle.std.proofs.lemmas.Bool.{cond_below}
use Rattle.bit_ops.proofs.shift.shl.Goals as goal

pub returns-then-b-from-clause-value : goal.returns-then-b-from-clause-value
returns-then-b-from-clause-value c =
    let within : c.args.b.word < c.args.a.width = omega (arith, c.from.ensures) in
    c.truncated.ensures.word
    ∙ cut_twice MAX_WIDTH c.args.a.width (c.args.a.word * 2 ^ c.args.b.word) c.args.a.within
    ∙ cond_below c.args.b.word c.args.a.width _ 0 within
