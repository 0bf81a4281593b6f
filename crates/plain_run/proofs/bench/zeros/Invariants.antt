use Rattle.std.proofs.Common.{◌≡◌, ◌++◌, drop, map}
use Rattle.bit_ops.specs.Lists.{words, widths}
use Rattle.net_ir.specs.Value.{widths_of}
use Rattle.plain_run.proofs.bench.zeros.Given as goal

abbrev pub invariant-loop-var : goal.invariant-loop-var
invariant-loop-var l = record {
  same_widths : widths l.values.items ++ widths_of (drop l.var-index l.vars) ≡ widths_of l.vars;
  same_words : words l.values.items ++ map (λ _. 0) (drop l.var-index l.vars) ≡ map (λ _. 0) l.vars;
}
