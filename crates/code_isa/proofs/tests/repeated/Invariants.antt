use Rattle.std.proofs.Common.{◌≡◌, replicate}
use Rattle.code_isa.proofs.tests.repeated.Given as goal

abbrev pub invariant-loop : goal.invariant-loop
invariant-loop l = l.code ≡ replicate l.counter l.i
