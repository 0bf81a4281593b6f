use Rattle.std.proofs.Common.{arith, sym, ◌∙◌}
use Rattle.stimulus_reader.proofs.StimulusSettings.{number_below, number_stops}
use Rattle.stimulus_reader.proofs.setting.number.Goals as goal

pub overflow_mul-number : goal.overflow_mul-number
overflow_mul-number c = let inside = number_below c.loop-b.number 0 c.loop-b.b-index c.loop-b.invariant.below (omega arith) (omega arith) in omega arith

pub overflow_add-number : goal.overflow_add-number
overflow_add-number c =
    let inside = number_below c.loop-b.number c.in_ok-number.field-0 c.loop-b.b-index c.loop-b.invariant.below c.in_ok-number.ensures.below (omega arith) in
    omega arith

pub returns-in_err-number : goal.returns-in_err-number
returns-in_err-number c =
    c.from_residual.ensures ∙ sym (sym c.loop-b.invariant.rest ∙ number_stops c.args.digits.now c.loop-b.number c.loop-b.b-index (omega arith) (sym c.digit.ensures.value ∙ c.in_err-number.was))
