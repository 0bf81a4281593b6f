use Rattle.std.proofs.Common.{refl, sym, ap, ◌∙◌}
use Rattle.dpi_wrapper.specs.code.Reading.{parts_at, word_at}
use Rattle.dpi_wrapper.proofs.fields.word_at.Goals as goal

pub returns-in-Some : goal.returns-in-Some
unfolding word_at
returns-in-Some c = ap (parts_at c.args.bytes.now) (sym c.in-Some.ensures) ∙ rw (c.split_at.ensures.front, c.split_at-in-Some.ensures.back) refl

pub returns-in-None : goal.returns-in-None
unfolding word_at
returns-in-None c = ap (parts_at c.args.bytes.now) (sym c.in-None.ensures)
