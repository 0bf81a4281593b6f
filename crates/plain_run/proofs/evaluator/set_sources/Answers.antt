use Rattle.std.proofs.Common.{◌∙◌, ap}
use Rattle.std.proofs.lemmas.List.{length-set}
use Rattle.bit_ops.specs.Lists.{widths}
use Rattle.plain_run.proofs.Passes.{length_from_widths, more_sources, all_sources, sources_widths}
use Rattle.plain_run.proofs.evaluator.set_sources.Goals as goal

pub loop-x-preserved : goal.loop-x-preserved
loop-x-preserved c = record {
  shape = length-set c.loop-x.values c.loop-x.x c.source.result ∙ c.loop-x.invariant.shape;
  so_far = more_sources c.args.vars.now c.args.inputs.now c.args.registers.now c.loop-x.values c.loop-x.x c.index-vars-x.result c.index-inputs-x.result c.index-registers-x.result c.source.result
      (length_from_widths c.args.inputs.now c.args.vars.now c.requires.inputs) (length_from_widths c.args.registers.now c.args.vars.now c.requires.registers) c.loop-x.invariant.shape c.loop-x-test.true
      c.index-vars-x.is c.index-inputs-x.is c.index-registers-x.is c.source.ensures c.loop-x.invariant.so_far;
}

pub returns-clause-sources : goal.returns-clause-sources
returns-clause-sources c =
    all_sources c.args.vars.now c.args.inputs.now c.args.registers.now c.loop-x.values c.loop-x.x
    (length_from_widths c.args.inputs.now c.args.vars.now c.requires.inputs) (length_from_widths c.args.registers.now c.args.vars.now c.requires.registers) c.loop-x.invariant.shape c.loop-x-test.false c.loop-x.invariant.so_far

pub returns-clause-widths : goal.returns-clause-widths
returns-clause-widths c =
    ap widths (returns-clause-sources c) ∙ sources_widths c.args.vars.now c.args.inputs.now c.args.registers.now c.requires.inputs c.requires.registers
