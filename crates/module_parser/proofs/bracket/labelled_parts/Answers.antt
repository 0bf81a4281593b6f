use Rattle.std.proofs.Common.{arith}
use Rattle.std.proofs.lemmas.Grind.{common_steps}
use Rattle.module_parser.proofs.bracket.labelled_parts.Goals as goal

pub returns-in_err-both : goal.returns-in_err-both
returns-in_err-both g c = λ p h. let e = c.up_to.ensures p h in grind (arith, common_steps)

pub returns : goal.returns
returns g c = λ p h. let e = c.up_to.ensures p h in grind (arith, common_steps)
