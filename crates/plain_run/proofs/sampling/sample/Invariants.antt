use Rattle.std.proofs.Common.{◌≡◌, drop}
use Rattle.std.specs.List.{flat_map}
use Rattle.bit_ops.specs.Lists.{words, widths}
use Rattle.net_ir.specs.Value.{widths_of}
use Rattle.net_ir.specs.Target.{overlaid}
use Rattle.net_ir.specs.Run.{sampled}
use Rattle.plain_run.proofs.sampling.sample.Given as goal

-- what the rest of the drivers samples leaves what all of them leave
abbrev pub invariant-loop-driver : goal.invariant-loop-driver
invariant-loop-driver l =
    let samples = sampled l.spec.vars (words l.values) (words l.before) (words l.after) in record {
      same_widths : widths l.registers ≡ widths_of l.spec.vars;
      same_words : overlaid (words l.registers) (flat_map samples (drop l.driver-index l.driver-items))
          ≡ overlaid (words l.fn.registers) (flat_map samples l.driver-items);
    }
