use Rattle.std.proofs.Common.{arith}
use Rattle.std.proofs.lemmas.Grind.{common_steps}
use Rattle.module_parser.specs.Reading.{module_of}
use Rattle.module_parser.proofs.module.module_of.Goals as goal

pub returns : goal.returns
unfolding module_of
returns c = grind (arith, common_steps)

pub returns-in_err-head-3 : goal.returns-in_err-head-3
unfolding module_of
returns-in_err-head-3 c = grind (arith, common_steps)
