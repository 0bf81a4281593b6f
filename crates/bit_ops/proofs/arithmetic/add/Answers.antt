-- The check finds this at 64 bits alone, and not at 128: the lemma holds at every greatest width.
use Rattle.std.proofs.Common.{◌+◌, ◌∙◌}
use Rattle.bit_ops.specs.declared.value.TheConstants.{MAX_WIDTH}
use Rattle.bit_ops.proofs.Words.{cut_twice}
use Rattle.bit_ops.proofs.arithmetic.add.Goals as goal

pub returns-clause-value : goal.returns-clause-value
returns-clause-value c =
    c.truncated.ensures.word ∙ cut_twice MAX_WIDTH c.args.a.width (c.args.a.word + c.args.b.word) c.args.a.within
