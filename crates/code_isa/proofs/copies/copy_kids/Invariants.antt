use Rattle.std.proofs.Common.{◌≡◌, take}
use Rattle.code_isa.proofs.copies.copy_kids.Given as goal

abbrev pub invariant-loop-kid : goal.invariant-loop-kid
invariant-loop-kid l = l.copies ≡ take l.kid-index l.kids
