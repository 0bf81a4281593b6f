use Rattle.std.proofs.Common.{sym, ◌∙◌, ap, arith, inl, inr}
use Rattle.std.specs.Prelude.{is_some, None, slice_index_or}
use Rattle.std.proofs.lemmas.Bool.{cases_eq}
use Rattle.driver_check.proofs.Marking.{marked_some, marked_none}
use Rattle.driver_check.proofs.driven.is_marked.Goals as goal

pub loop-k-init : goal.loop-k-init
loop-k-init c = λ j low below. absurd (omega arith)

pub returns-then-is_some : goal.returns-then-is_some
returns-then-is_some c =
    sym (marked_some c.args.row.now c.args.run c.loop-k.k c.loop-k.auto.k c.loop-k-test.true c.requires (sym c.is_some.ensures ∙ c.if-is_some.true))

pub loop-k-preserved : goal.loop-k-preserved
loop-k-preserved c = λ j low below. elim (cases_eq j c.loop-k.k) [
  | inl same ↦ ap (λ i. is_some (slice_index_or c.args.row.now i None)) same ∙ sym c.is_some.ensures ∙ c.if-is_some.false
  | inr apart ↦ c.loop-k.invariant j low (omega arith)
]

pub returns : goal.returns
returns c = sym (marked_none c.args.row.now c.args.run (λ j low high. c.loop-k.invariant j low (let past = c.loop-k-test.false in omega (arith, past))))
