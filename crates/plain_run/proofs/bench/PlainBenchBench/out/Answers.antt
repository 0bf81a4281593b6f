use Rattle.std.proofs.Common.{sym, subst, ◌<◌}
use Rattle.plain_run.proofs.BenchPorts.{output_counted, output_there, output_shown}
use Rattle.plain_run.proofs.bench.PlainBenchBench.out.Goals as goal

pub index-requires : goal.index-requires
index-requires c =
    let self = c.args.self.now in
    subst (λ n. c.args.k < n) (sym self.outputs.ok.0)
    (output_counted self.spec self.values.items self.outputs.items c.args.k self.values_widths self.outputs_places c.requires)

pub index-requires-2 : goal.index-requires-2
index-requires-2 c =
    let self = c.args.self.now in
    let within = output_counted self.spec self.values.items self.outputs.items c.args.k self.values_widths self.outputs_places c.requires in
    output_there self.spec self.values.items self.outputs.items c.args.k c.index.result.now _
    self.values_widths self.outputs_places within c.index.ensures self.values.ok.0

pub returns-clause-word : goal.returns-clause-word
returns-clause-word c =
    let self = c.args.self.now in
    let within = output_counted self.spec self.values.items self.outputs.items c.args.k self.values_widths self.outputs_places c.requires in
    let shown = output_shown self.spec self.values.items self.outputs.items c.args.k c.index.result.now c.index-2.result.now
    self.values_widths self.outputs_places within c.index.ensures c.index-2.ensures in
    shown.word

pub returns-clause-width : goal.returns-clause-width
returns-clause-width c =
    let self = c.args.self.now in
    let within = output_counted self.spec self.values.items self.outputs.items c.args.k self.values_widths self.outputs_places c.requires in
    let shown = output_shown self.spec self.values.items self.outputs.items c.args.k c.index.result.now c.index-2.result.now
    self.values_widths self.outputs_places within c.index.ensures c.index-2.ensures in
    shown.width
