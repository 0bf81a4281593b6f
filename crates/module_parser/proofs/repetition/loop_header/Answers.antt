use Rattle.std.proofs.Common.{arith}
use Rattle.std.proofs.lemmas.Grind.{common_steps}
use Rattle.module_parser.specs.Reading.{loop}
use Rattle.module_parser.proofs.repetition.loop_header.Goals as goal

pub returns-in_err-name : goal.returns-in_err-name
unfolding loop
returns-in_err-name c = grind (arith, common_steps)

pub returns-in_err-start : goal.returns-in_err-start
unfolding loop
returns-in_err-start c = grind (arith, common_steps)

pub returns-in_err-first : goal.returns-in_err-first
unfolding loop
returns-in_err-first c = grind (arith, common_steps)

pub returns : goal.returns
unfolding loop
returns c = grind (arith, common_steps)
