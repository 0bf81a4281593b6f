use Rattle.std.proofs.Common.{◌≡◌, drop}
use Rattle.std.specs.List.{flat_map}
use Rattle.driver_check.specs.code.Marks.{flaw_of, flaws_of}
use Rattle.driver_check.proofs.driven.judge_source.Given as goal

-- what the rest refuses is all that is refused
abbrev pub invariant-loop-taken : goal.invariant-loop-taken
invariant-loop-taken l = flaws_of l.vars l.rows l.source ≡ flat_map (flaw_of l.vars l.rows l.source.place) (drop l.taken-index l.taken-items)
