use Rattle.std.proofs.Common.{sym, ◌∙◌}
use Rattle.std.proofs.lemmas.List.{take_rest}
use Rattle.sv_lexer.proofs.Front.{directive_at, other_directive_at, directive_none_at}
use Rattle.sv_lexer.proofs.scan.directive.Goals as goal

pub returns-in_default : goal.returns-in_default
returns-in_default c = directive_none_at c.args.bytes.now c.requires (simp take_rest at c.in_default.ensures)

pub returns-then-is_skipped : goal.returns-then-is_skipped
returns-then-is_skipped c =
    directive_at c.in-Some.name c.run_len.result c.args.bytes.now c.requires (simp take_rest at c.in-Some.ensures)
    (simp take_rest at (sym c.is_skipped.ensures ∙ c.if-is_skipped.true)) (simp take_rest at c.run_len.ensures.within)
    (simp take_rest at c.run_len.ensures.run) (simp take_rest at c.run_len.ensures.stops)

pub returns-else-is_skipped : goal.returns-else-is_skipped
returns-else-is_skipped c =
    other_directive_at c.in-Some.name c.args.bytes.now c.requires (simp take_rest at c.in-Some.ensures)
    (simp take_rest at (sym c.is_skipped.ensures ∙ c.if-is_skipped.false))
