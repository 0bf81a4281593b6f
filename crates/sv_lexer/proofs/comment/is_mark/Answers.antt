use Rattle.std.proofs.Common.{length, arith, sym, ap, ◌∙◌}
use Rattle.std.proofs.lemmas.Bool.{eqb-true, eqb-false}
use Rattle.sv_lexer.proofs.Marks.{no_first, no_second, mark_ends, mark_made, empty_length}
use Rattle.sv_lexer.proofs.comment.is_mark.Goals as goal

pub returns-in_default-clause-none : goal.returns-in_default-clause-none
returns-in_default-clause-none c _ m = no_first c.past_blanks.result.0 c.args.content.now c.past_blanks.result.1.now c.past_blanks.ensures c.in_default.ensures m

pub returns-in_default-after_word-clause-none : goal.returns-in_default-after_word-clause-none
returns-in_default-after_word-clause-none c _ m =
    no_second c.past_blanks.result.0 c.past_blanks-between.result.0 c.args.content.now c.past_blanks.result.1.now c.in-Some.text.now c.past_blanks-between.result.1.now
    c.past_blanks.ensures c.in-Some.ensures c.past_blanks-between.ensures c.in_default-after_word.ensures m

pub returns-then-between-gt0-clause-yes : goal.returns-then-between-gt0-clause-yes
returns-then-between-gt0-clause-yes c e =
    mark_made c.past_blanks.result.0 c.past_blanks-between.result.0 c.past_blanks-2.result.0 c.args.content.now c.past_blanks.result.1.now c.in-Some.text.now c.past_blanks-between.result.1.now c.in-Some-after_word.text.now c.past_blanks-2.result.1.now
    c.past_blanks.ensures c.in-Some.ensures c.past_blanks-between.ensures c.in-Some-after_word.ensures c.past_blanks-2.ensures
    c.if-between-gt0.true (empty_length c.past_blanks-2.result.1.now (eqb-true (length c.past_blanks-2.result.1.now) 0 (sym c.is_empty.ensures ∙ e)))

pub returns-then-between-gt0-clause-none : goal.returns-then-between-gt0-clause-none
returns-then-between-gt0-clause-none c e m =
    eqb-false (length c.past_blanks-2.result.1.now) 0 (sym c.is_empty.ensures ∙ e) (ap length (mark_ends c.past_blanks.result.0 c.past_blanks-between.result.0 c.past_blanks-2.result.0 c.args.content.now c.past_blanks.result.1.now c.in-Some.text.now c.past_blanks-between.result.1.now c.in-Some-after_word.text.now c.past_blanks-2.result.1.now
    c.past_blanks.ensures c.in-Some.ensures c.past_blanks-between.ensures c.in-Some-after_word.ensures c.past_blanks-2.ensures m).1)

pub returns-else-between-gt0-clause-none : goal.returns-else-between-gt0-clause-none
returns-else-between-gt0-clause-none c e m =
    let some = (mark_ends c.past_blanks.result.0 c.past_blanks-between.result.0 c.past_blanks-2.result.0 c.args.content.now c.past_blanks.result.1.now c.in-Some.text.now c.past_blanks-between.result.1.now c.in-Some-after_word.text.now c.past_blanks-2.result.1.now
    c.past_blanks.ensures c.in-Some.ensures c.past_blanks-between.ensures c.in-Some-after_word.ensures c.past_blanks-2.ensures m).0 in omega arith
