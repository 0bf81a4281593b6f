use Rattle.std.proofs.Common.{◌∙◌}
use Rattle.session.proofs.Stepped.{data_step, clock_step}
use Rattle.session.proofs.stepping.make_step.Goals as goal

pub returns-in-Values-clause-step : goal.returns-in-Values-clause-step
returns-in-Values-clause-step g c = λ state settings holds settable set.
    data_step (g.B.Bench.meaning c.args.bench.now) c.args.reader.now.ports state c.args.kind settings c.args.reader.now.values _ _ c.in-Values.is holds settable
    set
    (c.set_values.ensures.values ∙ c.inputs.ensures.words) c.set_values.ensures.levels c.set_values.ensures.registers

pub returns-in-Clocks-clause-step : goal.returns-in-Clocks-clause-step
returns-in-Clocks-clause-step g c = λ state settings holds settable set.
    clock_step (g.B.Bench.meaning c.args.bench.now) c.args.reader.now.ports state c.args.kind settings c.args.reader.now.values _ _ _ c.in-Clocks.is
    c.requires.reader holds settable set
    c.levels.ensures.words c.set_clocks.ensures.values c.set_clocks.ensures.levels c.set_clocks.ensures.registers
