use Rattle.std.proofs.Common.{◌≡◌, map, sym, ◌∙◌, ap}
use Rattle.std.proofs.lemmas.Grind.{merely}
use Rattle.bit_ops.specs.Lists.{words}
use Rattle.sv_base.specs.declared.face.Face.{Face}
use Rattle.net_ir.specs.Face.{ports_of}
use Rattle.net_ir.specs.Value.{widths_of}
use Rattle.sv_base.specs.Classes.{is_value, is_clock, is_output}
use Rattle.plain_run.specs.Places.{places_from}
use Rattle.plain_run.proofs.BenchPorts.{initial_kept, written, written_widths, solves_same, ports_long, each_word, held_at_start}
use Rattle.plain_run.proofs.bench.PlainBench.new.Goals as goal

pub solve-requires-clause-initial : goal.solve-requires-clause-initial
solve-requires-clause-initial c =
    initial_kept c.args.spec (words c.as_slice-2.result.now)
    (ap words c.as_slice-2.ensures.value ∙ c.in_ok-registers.ensures.words ∙ ap (map (λ v. v.init.word)) c.as_slice-vars.ensures)

pub invariant_of-result-clause-plain : goal.invariant_of-result-clause-plain
invariant_of-result-clause-plain c = merely c.requires.plain

pub invariant_of-result-clause-data_inputs_places : goal.invariant_of-result-clause-data_inputs_places
invariant_of-result-clause-data_inputs_places c =
    let ports : c.as_slice-ports.result.now ≡ ports_of c.args.spec = c.as_slice-ports.ensures ∙ ap (λ (f : Face). f.ports) c.requires.face in
    c.in_ok-data_inputs.ensures ∙ ap (λ ps. places_from is_value 0 ps) ports

pub invariant_of-result-clause-clocks_places : goal.invariant_of-result-clause-clocks_places
invariant_of-result-clause-clocks_places c =
    let ports : c.as_slice-ports.result.now ≡ ports_of c.args.spec = c.as_slice-ports.ensures ∙ ap (λ (f : Face). f.ports) c.requires.face in
    c.in_ok-clocks.ensures ∙ ap (λ ps. places_from is_clock 0 ps) ports

pub invariant_of-result-clause-outputs_places : goal.invariant_of-result-clause-outputs_places
invariant_of-result-clause-outputs_places c =
    let ports : c.as_slice-ports.result.now ≡ ports_of c.args.spec = c.as_slice-ports.ensures ∙ ap (λ (f : Face). f.ports) c.requires.face in
    c.in_ok-outputs.ensures ∙ ap (λ ps. places_from is_output 0 ps) ports

pub invariant_of-result-clause-values_widths : goal.invariant_of-result-clause-values_widths
invariant_of-result-clause-values_widths c =
    written_widths c.in_ok-values.values.len c.in_ok-values.values.items c.solve.new.values (widths_of c.args.spec.vars) (c.in_ok-values.values.ok.0)
    (c.in_ok-values.ensures.widths ∙ ap widths_of c.as_slice-vars.ensures) c.solve.ensures.widths

pub invariant_of-result-clause-long : goal.invariant_of-result-clause-long
invariant_of-result-clause-long c =
    ports_long c.args.spec c.in_ok-inputs.inputs.items (c.in_ok-inputs.ensures.widths ∙ ap widths_of c.as_slice-vars.ensures)

pub invariant_of-result-clause-each_output : goal.invariant_of-result-clause-each_output
invariant_of-result-clause-each_output c =
    each_word is_output c.args.spec _
    (written_widths c.in_ok-values.values.len c.in_ok-values.values.items c.solve.new.values (widths_of c.args.spec.vars) (c.in_ok-values.values.ok.0)
    (c.in_ok-values.ensures.widths ∙ ap widths_of c.as_slice-vars.ensures) c.solve.ensures.widths)

pub invariant_of-result-clause-initial : goal.invariant_of-result-clause-initial
invariant_of-result-clause-initial c =
    initial_kept c.args.spec (words c.in_ok-registers.registers.items) (c.in_ok-registers.ensures.words ∙ ap (map (λ v. v.init.word)) c.as_slice-vars.ensures)

pub invariant_of-result-clause-solved : goal.invariant_of-result-clause-solved
invariant_of-result-clause-solved c =
    solves_same c.args.spec _ _ _ _ _ _ c.as_slice.ensures.value c.as_slice-2.ensures.value
    (sym (written c.in_ok-values.values.len c.in_ok-values.values.items c.solve.new.values (widths_of c.args.spec.vars) c.in_ok-values.values.ok.0
    (c.in_ok-values.ensures.widths ∙ ap widths_of c.as_slice-vars.ensures) c.solve.ensures.widths)) c.solve.ensures.solved

pub returns-clause-start : goal.returns-clause-start
returns-clause-start c =
    held_at_start c.args.spec c.in_ok-inputs.inputs.items c.in_ok-registers.registers.items
    (c.in_ok-inputs.ensures.words ∙ ap (map (λ _. 0)) c.as_slice-vars.ensures)
    (c.in_ok-registers.ensures.words ∙ ap (map (λ v. v.init.word)) c.as_slice-vars.ensures)
