use Rattle.std.proofs.Common.{◌≡◌, ◌++◌, take}
use Rattle.std.specs.List.{flat_map}
use Rattle.code_isa.specs.Dependence.{kid_reads}
use Rattle.code_check.proofs.reads.add_kids.Given as goal

abbrev pub invariant-loop-kid : goal.invariant-loop-kid
invariant-loop-kid l = l.rows ≡ l.fn.rows ++ flat_map kid_reads (take l.kid-index l.kids)
