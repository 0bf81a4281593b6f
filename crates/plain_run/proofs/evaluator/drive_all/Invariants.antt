use Rattle.std.proofs.Common.{◌≡◌, drop}
use Rattle.bit_ops.specs.Lists.{words, widths}
use Rattle.net_ir.specs.Value.{widths_of}
use Rattle.plain_run.specs.code.Pass.{run}
use Rattle.plain_run.proofs.evaluator.drive_all.Given as goal

-- the rest of the drivers leaves what all of them leave
abbrev pub invariant-loop-driver : goal.invariant-loop-driver
invariant-loop-driver l = record {
  same_widths : widths l.values ≡ widths_of l.vars;
  same_words : run l.vars (drop l.driver-index l.drivers) (words l.values) ≡ run l.vars l.drivers (words l.fn.values);
}
