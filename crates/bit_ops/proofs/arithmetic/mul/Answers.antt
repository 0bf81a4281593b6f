use Rattle.std.proofs.Common.{◌*◌, ◌∙◌}
use Rattle.bit_ops.specs.declared.value.TheConstants.{MAX_WIDTH}
use Rattle.bit_ops.proofs.Words.{cut_twice}
use Rattle.bit_ops.proofs.arithmetic.mul.Goals as goal

pub returns-clause-value : goal.returns-clause-value
returns-clause-value c =
    c.truncated.ensures.word ∙ cut_twice MAX_WIDTH c.args.a.width (c.args.a.word * c.args.b.word) c.args.a.within
