use Rattle.std.proofs.Common.{◌≡◌, drop}
use Rattle.plain_run.specs.code.Turns.{are_free}
use Rattle.plain_run.proofs.plain.are_free.Given as goal

-- the rest of the names decides
abbrev pub invariant-loop-var : goal.invariant-loop-var
invariant-loop-var l = are_free l.vars l.written (drop l.var-index l.names) ≡ are_free l.vars l.written l.names
