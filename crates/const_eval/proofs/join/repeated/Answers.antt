use Rattle.std.proofs.Common.{◌≡◌, ◌*◌, ◌<◌, ◌≤◌, ◌∙◌, arith, refl, ap}
use Rattle.bit_ops.specs.declared.value.TheConstants.{MAX_WIDTH}
use Rattle.const_eval.specs.WholeNumbers.{count_of}
use Rattle.const_eval.specs.Meaning.{number}
use Rattle.const_eval.specs.Selects.{total}
use Rattle.const_eval.proofs.Counts.{many_wide, too_often}
use Rattle.const_eval.proofs.Joining.{too_many}
use Rattle.const_eval.proofs.Matching.{number_matches}
use Rattle.const_eval.proofs.join.repeated.Goals as goal
use Rattle.const_eval.proofs.join.repeated.Goals.{in_default-via-in-Whole+else-count-from, in_default-via-in_default}

pub returns-in_default : goal.returns-in_default
returns-in_default c = λ n ms matches is.
    let same : c.count-count.result ≡ count_of (number n) =
    c.count-count.ensures ∙ ap count_of (c.number.ensures ∙ number_matches c.args.count.now n matches) in
    let least : 1 ≤ c.count-count.result = omega arith in
    let wide : MAX_WIDTH < c.count-count.result * total ms =
    elim c.in_default.branch [
      | in_default-via-in-Whole+else-count-from w ↦ (
          let h = rw w.in-Whole.is at is in
          rw (← h.0) (too_often MAX_WIDTH w.in-Whole.bits.width c.count-count.result (omega arith) (omega arith)))
      | in_default-via-in_default w ↦ (let h = rw w.in_default.is at is in many_wide MAX_WIDTH c.count-count.result (total ms) least h)
    ] in
    rw (too_many c.args.place n ms (rw same at least) (rw same at wide), c.unnamed_at-in_default.ensures) refl
