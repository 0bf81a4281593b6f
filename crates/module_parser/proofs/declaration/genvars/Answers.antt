use Rattle.std.proofs.Common.{arith}
use Rattle.std.proofs.lemmas.Grind.{common_steps}
use Rattle.module_parser.specs.Reading.{genvars, identifier}
use Rattle.module_parser.proofs.declaration.genvars.Goals as goal

pub returns : goal.returns
unfolding genvars
returns c = let e = c.listed.ensures identifier (λ alloc old new r h. h.1) in grind (arith, common_steps)
