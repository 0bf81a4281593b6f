use Rattle.std.proofs.Common.{◌≡◌, length, sym, ◌∙◌, ap, subst, refl}
use Rattle.std.proofs.lemmas.List.{length-map}
use Rattle.bit_ops.specs.Lists.{words, widths}
use Rattle.net_ir.specs.Value.{widths_of}
use Rattle.plain_run.specs.code.Pass.{KeepsInitial, state_of}
use Rattle.sv_base.specs.Classes.{is_value, is_clock, is_output, level_word}
use Rattle.plain_run.specs.Places.{set_places}
use Rattle.plain_run.proofs.Places.{level_words}
use Rattle.plain_run.proofs.PlainKnown.{plain_known}
use Rattle.plain_run.proofs.BenchPorts.{places_there, clocks_have_one_bit, clocks_counted, taken_at, kept_at, clock_no_value, written, written_widths, solves_same, samples_same, ports_long, words_long, each_word}
use Rattle.plain_run.proofs.bench.PlainBenchBench.set_clocks.Goals as goal

pub set_levels-requires-clause-within : goal.set_levels-requires-clause-within
set_levels-requires-clause-within c =
    places_there is_clock c.args.self.now.spec c.as_mut_slice-2.result.now c.as_slice-2.result.now
    (ap widths c.as_mut_slice-2.ensures.value ∙ c.args.self.now.inputs_widths) (c.as_slice-2.ensures.value ∙ c.args.self.now.clocks_places)

pub set_levels-requires-clause-one_bit : goal.set_levels-requires-clause-one_bit
set_levels-requires-clause-one_bit c =
    clocks_have_one_bit c.args.self.now.spec c.as_mut_slice-2.result.now c.as_slice-2.result.now (plain_known c.args.self.now.spec c.args.self.now.plain)
    (ap widths c.as_mut_slice-2.ensures.value ∙ c.args.self.now.inputs_widths) (c.as_slice-2.ensures.value ∙ c.args.self.now.clocks_places)

pub set_levels-requires-clause-each : goal.set_levels-requires-clause-each
set_levels-requires-clause-each c =
    c.requires.levels ∙ clocks_counted c.args.self.now.spec ∙ ap length (sym (c.as_slice-2.ensures.value ∙ c.args.self.now.clocks_places))

pub sample-requires-clause-plain : goal.sample-requires-clause-plain
sample-requires-clause-plain c = plain_known c.args.self.now.spec c.args.self.now.plain

pub solve-requires-clause-plain : goal.solve-requires-clause-plain
solve-requires-clause-plain c = plain_known c.args.self.now.spec c.args.self.now.plain

pub invariant_of-self-clause-values_widths : goal.invariant_of-self-clause-values_widths
invariant_of-self-clause-values_widths c =
    let self = c.args.self.now in
    written_widths self.values.len self.values.items c.solve.new.values (widths_of self.spec.vars) self.values.ok.0 self.values_widths c.solve.ensures.widths

pub invariant_of-self-clause-initial : goal.invariant_of-self-clause-initial
invariant_of-self-clause-initial c =
    let self = c.args.self.now in
    let sampled = written self.registers.len self.registers.items c.sample.new.registers
    (widths_of self.spec.vars) self.registers.ok.0 self.registers_widths c.sample.ensures.widths in
    subst (λ xs. KeepsInitial self.spec (words xs)) (sym sampled)
    (c.sample.ensures.initial (subst (λ xs. KeepsInitial self.spec (words xs)) (sym c.as_mut_slice-3.ensures.value) self.initial))

pub invariant_of-self-clause-solved : goal.invariant_of-self-clause-solved
invariant_of-self-clause-solved c =
    let self = c.args.self.now in
    solves_same self.spec _ _ _ _ _ _ c.as_slice-6.ensures.value c.as_slice-7.ensures.value
    (sym (written self.values.len self.values.items c.solve.new.values
    (widths_of self.spec.vars) self.values.ok.0 self.values_widths c.solve.ensures.widths)) c.solve.ensures.solved

pub invariant_of-self-clause-long : goal.invariant_of-self-clause-long
invariant_of-self-clause-long c =
    let self = c.args.self.now in
    let new_widths : widths c.set_levels.new.values ≡ widths_of self.spec.vars = c.set_levels.ensures.widths ∙ ap widths c.as_mut_slice-2.ensures.value
    ∙ self.inputs_widths in
    ports_long self.spec _
    (written_widths self.inputs.len self.inputs.items c.set_levels.new.values (widths_of self.spec.vars) self.inputs.ok.0 self.inputs_widths new_widths)

pub invariant_of-self-clause-each_output : goal.invariant_of-self-clause-each_output
invariant_of-self-clause-each_output c =
    let self = c.args.self.now in
    each_word is_output self.spec _
    (written_widths self.values.len self.values.items c.solve.new.values
    (widths_of self.spec.vars) self.values.ok.0 self.values_widths c.solve.ensures.widths)

pub returns-clause-values : goal.returns-clause-values
returns-clause-values c =
    let self = c.args.self.now in
    let mut : c.as_mut_slice-2.result.now ≡ self.inputs.items = c.as_mut_slice-2.ensures.value in
    let new_widths : widths c.set_levels.new.values ≡ widths_of self.spec.vars = c.set_levels.ensures.widths ∙ ap widths mut ∙ self.inputs_widths in
    let back = written self.inputs.len self.inputs.items c.set_levels.new.values (widths_of self.spec.vars) self.inputs.ok.0 self.inputs_widths new_widths in
    kept_at is_clock is_value clock_no_value self.spec c.as_slice-2.result.now (level_words c.args.levels.now) self.inputs.items _
    (c.as_slice-2.ensures.value ∙ self.clocks_places)
    (ap words back ∙ c.set_levels.ensures.words ∙ ap (λ xs. set_places c.as_slice-2.result.now (level_words c.args.levels.now) (words xs)) mut)

pub returns-clause-levels : goal.returns-clause-levels
returns-clause-levels c =
    let self = c.args.self.now in
    let mut : c.as_mut_slice-2.result.now ≡ self.inputs.items = c.as_mut_slice-2.ensures.value in
    let new_widths : widths c.set_levels.new.values ≡ widths_of self.spec.vars = c.set_levels.ensures.widths ∙ ap widths mut ∙ self.inputs_widths in
    let back = written self.inputs.len self.inputs.items c.set_levels.new.values (widths_of self.spec.vars) self.inputs.ok.0 self.inputs_widths new_widths in
    taken_at is_clock self.spec c.as_slice-2.result.now (level_words c.args.levels.now) self.inputs.items _ self.inputs_widths
    (c.as_slice-2.ensures.value ∙ self.clocks_places)
    (length-map c.args.levels.now level_word ∙ c.requires.levels ∙ clocks_counted self.spec ∙ ap length (sym (c.as_slice-2.ensures.value ∙ self.clocks_places)))
    (ap words back ∙ c.set_levels.ensures.words ∙ ap (λ xs. set_places c.as_slice-2.result.now (level_words c.args.levels.now) (words xs)) mut)

pub returns-clause-registers : goal.returns-clause-registers
returns-clause-registers c =
    let self = c.args.self.now in
    let mut : c.as_mut_slice-2.result.now ≡ self.inputs.items = c.as_mut_slice-2.ensures.value in
    let new_widths : widths c.set_levels.new.values ≡ widths_of self.spec.vars = c.set_levels.ensures.widths ∙ ap widths mut ∙ self.inputs_widths in
    let back = written self.inputs.len self.inputs.items c.set_levels.new.values (widths_of self.spec.vars) self.inputs.ok.0 self.inputs_widths new_widths in
    let copied : c.copy_from_slice.new.self ≡ self.inputs.items = c.copy_from_slice.ensures.after ∙ c.as_slice.ensures.value in
    let kept = written self.before.len self.before.items c.copy_from_slice.new.self (widths_of self.spec.vars) self.before.ok.0 self.before_widths
    (ap widths copied ∙ self.inputs_widths) in
    let sampled = written self.registers.len self.registers.items c.sample.new.registers
    (widths_of self.spec.vars) self.registers.ok.0 self.registers_widths c.sample.ensures.widths in
    record {
      state = state_of self.spec self.inputs.items self.registers.items;
      held_of = record { long = words_long self.spec self.inputs.items self.inputs_widths; same = refl };
      solution = words self.values.items;
      solves = self.solved;
      after = words c.set_levels.new.values;
      long = words_long self.spec c.set_levels.new.values new_widths;
      levels_are = taken_at is_clock self.spec c.as_slice-2.result.now
          (level_words c.args.levels.now) self.inputs.items c.set_levels.new.values self.inputs_widths
          (c.as_slice-2.ensures.value ∙ self.clocks_places)
          (length-map c.args.levels.now level_word ∙ c.requires.levels ∙ clocks_counted self.spec ∙ ap length
          (sym (c.as_slice-2.ensures.value ∙ self.clocks_places)))
          (c.set_levels.ensures.words ∙ ap (λ xs. set_places c.as_slice-2.result.now (level_words c.args.levels.now) (words xs)) mut);
      samples = samples_same self.spec _ _ _ _ _ _ _ _ _ _ c.as_slice-3.ensures.value (c.as_slice-4.ensures.value ∙ kept ∙ copied)
          (c.as_slice-5.ensures.value ∙ back) c.as_mut_slice-3.ensures.value (sym sampled) c.sample.ensures.samples;
    }
