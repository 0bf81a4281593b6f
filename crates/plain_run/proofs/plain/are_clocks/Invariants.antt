use Rattle.std.proofs.Common.{◌≡◌, drop}
use Rattle.plain_run.specs.code.Marks.{are_clocks}
use Rattle.plain_run.proofs.plain.are_clocks.Given as goal

-- the rest of the event controls decides
abbrev pub invariant-loop-trigger : goal.invariant-loop-trigger
invariant-loop-trigger l = are_clocks l.vars l.read (drop l.trigger-index l.triggers) ≡ are_clocks l.vars l.read l.triggers
