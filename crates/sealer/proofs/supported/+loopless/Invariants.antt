use Rattle.std.proofs.Common.{◌≡◌, drop}
use Rattle.std.specs.List.{list_all}
use Rattle.sealer.specs.Supported.{is_loopless, is_loopless_arm}
use Rattle.sealer.proofs.supported.+loopless.Given as goal

-- the rest of the statements decides
abbrev pub invariant-are_loopless-loop-statement : goal.invariant-are_loopless-loop-statement
invariant-are_loopless-loop-statement l = list_all is_loopless (drop l.statement-index l.statements) ≡ list_all is_loopless l.statements

-- so of arms
abbrev pub invariant-are_loopless_arms-loop-arm : goal.invariant-are_loopless_arms-loop-arm
invariant-are_loopless_arms-loop-arm l = list_all is_loopless_arm (drop l.arm-index l.arms) ≡ list_all is_loopless_arm l.arms
