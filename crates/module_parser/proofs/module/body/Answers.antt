use Rattle.std.proofs.Common.{arith}
use Rattle.std.proofs.lemmas.Grind.{common_steps}
use Rattle.expr_parser.specs.Input.{turns}
use Rattle.module_parser.specs.Reading.{body}
use Rattle.module_parser.specs.Input.{marked_between}
use Rattle.module_parser.proofs.module.body.Goals as goal

pub returns : goal.returns
unfolding body marked_between turns
returns c = grind (arith, common_steps)
