use Rattle.std.proofs.Common.{◌≡◌, take}
use Rattle.linked_units.specs.code.Counting.{all_joined}
use Rattle.linked_units.proofs.figures.all_joined.Given as goal

abbrev pub invariant-loop-kid : goal.invariant-loop-kid
invariant-loop-kid l = l.all ≡ all_joined l.figures (take l.kid-index l.kids)
