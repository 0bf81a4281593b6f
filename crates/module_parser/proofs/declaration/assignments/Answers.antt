use Rattle.std.proofs.Common.{arith}
use Rattle.std.proofs.lemmas.Grind.{common_steps}
use Rattle.module_parser.specs.Reading.{assignments, pair}
use Rattle.module_parser.proofs.declaration.assignments.Goals as goal

pub returns : goal.returns
unfolding assignments
returns c = let e = c.listed.ensures pair (λ alloc old new r h. h.1) in grind (arith, common_steps)
