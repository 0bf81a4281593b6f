use Rattle.std.proofs.Common.{drop}
use Rattle.const_eval.specs.Constant.{names_of}
use Rattle.const_eval.proofs.Parts.{Joins}
use Rattle.const_eval.proofs.measure.+measuring.Given as goal

-- what was joined, with the parts that are left, is what the parts are
abbrev pub invariant-join-loop-part : goal.invariant-join-loop-part
invariant-join-loop-part l = Joins (names_of l.env) l.joined (drop l.part-index l.parts) l.parts
