use Rattle.std.proofs.Common.{◌≡◌, take, length}
use Rattle.plain_run.specs.code.Pass.{sources_of}
use Rattle.plain_run.proofs.evaluator.set_sources.Given as goal

abbrev pub invariant-loop-x : goal.invariant-loop-x
invariant-loop-x l = record {
  shape : length l.values ≡ length l.vars;
  so_far : take l.x l.values ≡ take l.x (sources_of l.vars l.inputs l.registers);
}
