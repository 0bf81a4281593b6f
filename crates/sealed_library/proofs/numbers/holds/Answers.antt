use Rattle.std.proofs.Common.{ap, eqb, ◌∙◌}
use Rattle.sealed_library.proofs.Words.{held_test}
use Rattle.sealed_library.proofs.numbers.holds.Goals as goal

pub returns : goal.returns
returns c = ap (λ n. eqb n c.args.word) c.truncated.ensures.word ∙ held_test c.args.word c.args.width
