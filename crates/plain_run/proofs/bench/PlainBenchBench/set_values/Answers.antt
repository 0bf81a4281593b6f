use Rattle.std.proofs.Common.{◌≡◌, ◌∙◌, ap, sym, subst}
use Rattle.bit_ops.specs.Lists.{words, widths}
use Rattle.net_ir.specs.Value.{widths_of}
use Rattle.plain_run.specs.code.Pass.{KeepsInitial}
use Rattle.sv_base.specs.Classes.{is_value, is_clock, is_output}
use Rattle.plain_run.specs.Places.{set_places}
use Rattle.plain_run.proofs.PlainKnown.{plain_known}
use Rattle.plain_run.proofs.BenchPorts.{places_there, inputs_given, taken_at, kept_at, value_no_clock, written, written_widths, solves_same, given_each, ports_long, each_word}
use Rattle.plain_run.proofs.bench.PlainBenchBench.set_values.Goals as goal

pub set_inputs-requires-clause-within : goal.set_inputs-requires-clause-within
set_inputs-requires-clause-within c =
    places_there is_value c.args.self.now.spec c.as_mut_slice.result.now c.as_slice.result.now
    (ap widths c.as_mut_slice.ensures.value ∙ c.args.self.now.inputs_widths) (c.as_slice.ensures.value ∙ c.args.self.now.data_inputs_places)

pub set_inputs-requires-clause-given : goal.set_inputs-requires-clause-given
set_inputs-requires-clause-given c =
    inputs_given c.args.self.now.spec c.args.inputs.now c.as_mut_slice.result.now c.as_slice.result.now
    (ap widths c.as_mut_slice.ensures.value ∙ c.args.self.now.inputs_widths) (c.as_slice.ensures.value ∙ c.args.self.now.data_inputs_places) c.requires.inputs

pub solve-requires-clause-plain : goal.solve-requires-clause-plain
solve-requires-clause-plain c = plain_known c.args.self.now.spec c.args.self.now.plain

pub solve-requires-clause-initial : goal.solve-requires-clause-initial
solve-requires-clause-initial c = subst (λ xs. KeepsInitial c.args.self.now.spec (words xs)) (sym c.as_slice-3.ensures.value) c.args.self.now.initial

pub invariant_of-self-clause-values_widths : goal.invariant_of-self-clause-values_widths
invariant_of-self-clause-values_widths c =
    let self = c.args.self.now in
    written_widths self.values.len self.values.items c.solve.new.values (widths_of self.spec.vars) self.values.ok.0 self.values_widths c.solve.ensures.widths

pub invariant_of-self-clause-solved : goal.invariant_of-self-clause-solved
invariant_of-self-clause-solved c =
    let self = c.args.self.now in
    solves_same self.spec _ _ _ _ _ _ c.as_slice-2.ensures.value c.as_slice-3.ensures.value
    (sym (written self.values.len self.values.items c.solve.new.values
    (widths_of self.spec.vars) self.values.ok.0 self.values_widths c.solve.ensures.widths)) c.solve.ensures.solved

pub invariant_of-self-clause-long : goal.invariant_of-self-clause-long
invariant_of-self-clause-long c =
    let self = c.args.self.now in
    let new_widths : widths c.set_inputs.new.values ≡ widths_of self.spec.vars = c.set_inputs.ensures.widths ∙ ap widths c.as_mut_slice.ensures.value
    ∙ self.inputs_widths in
    ports_long self.spec _
    (written_widths self.inputs.len self.inputs.items c.set_inputs.new.values (widths_of self.spec.vars) self.inputs.ok.0 self.inputs_widths new_widths)

pub invariant_of-self-clause-each_output : goal.invariant_of-self-clause-each_output
invariant_of-self-clause-each_output c =
    let self = c.args.self.now in
    each_word is_output self.spec _
    (written_widths self.values.len self.values.items c.solve.new.values
    (widths_of self.spec.vars) self.values.ok.0 self.values_widths c.solve.ensures.widths)

pub returns-clause-values : goal.returns-clause-values
returns-clause-values c =
    let self = c.args.self.now in
    let mut : c.as_mut_slice.result.now ≡ self.inputs.items = c.as_mut_slice.ensures.value in
    let new_widths : widths c.set_inputs.new.values ≡ widths_of self.spec.vars = c.set_inputs.ensures.widths ∙ ap widths mut ∙ self.inputs_widths in
    let back = written self.inputs.len self.inputs.items c.set_inputs.new.values (widths_of self.spec.vars) self.inputs.ok.0 self.inputs_widths new_widths in
    let fit = inputs_given self.spec c.args.inputs.now c.as_mut_slice.result.now c.as_slice.result.now
    (ap widths mut ∙ self.inputs_widths) (c.as_slice.ensures.value ∙ self.data_inputs_places) c.requires.inputs in
    taken_at is_value self.spec c.as_slice.result.now (words c.args.inputs.now) self.inputs.items _ self.inputs_widths
    (c.as_slice.ensures.value ∙ self.data_inputs_places) (given_each c.args.inputs.now c.as_mut_slice.result.now c.as_slice.result.now fit)
    (ap words back ∙ c.set_inputs.ensures.words ∙ ap (λ xs. set_places c.as_slice.result.now (words c.args.inputs.now) (words xs)) mut)

pub returns-clause-levels : goal.returns-clause-levels
returns-clause-levels c =
    let self = c.args.self.now in
    let mut : c.as_mut_slice.result.now ≡ self.inputs.items = c.as_mut_slice.ensures.value in
    let new_widths : widths c.set_inputs.new.values ≡ widths_of self.spec.vars = c.set_inputs.ensures.widths ∙ ap widths mut ∙ self.inputs_widths in
    let back = written self.inputs.len self.inputs.items c.set_inputs.new.values (widths_of self.spec.vars) self.inputs.ok.0 self.inputs_widths new_widths in
    kept_at is_value is_clock value_no_clock self.spec c.as_slice.result.now (words c.args.inputs.now) self.inputs.items _
    (c.as_slice.ensures.value ∙ self.data_inputs_places)
    (ap words back ∙ c.set_inputs.ensures.words ∙ ap (λ xs. set_places c.as_slice.result.now (words c.args.inputs.now) (words xs)) mut)
