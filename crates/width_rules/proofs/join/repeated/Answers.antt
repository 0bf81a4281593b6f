use Rattle.std.proofs.Common.{◌∙◌, arith, sym}
use Rattle.width_rules.proofs.Joins.{fitting_count}
use Rattle.width_rules.proofs.Copied.{repeated_told}
use Rattle.width_rules.proofs.join.repeated.Goals as goal

pub overflow_cast-count : goal.overflow_cast-count
overflow_cast-count c = omega (arith, (fitting_count c.count-count.result c.in-Whole.width (sym c.fits.ensures ∙ c.if-fits.true)).2)

pub returns-in_ok-repetition-in-Whole : goal.returns-in_ok-repetition-in-Whole
returns-in_ok-repetition-in-Whole c = record {
  built = rw (c.in-Whole.is, ← c.count-count.ensures) (repeated_told c.args.place c.count-count.result c.in-Whole.width c.in-Whole.term c.in_ok-repetition-in-Whole.field-0 (omega arith)
      (sym c.fits.ensures ∙ c.if-fits.true) c.in_ok-repetition-in-Whole.ensures.built);
}
