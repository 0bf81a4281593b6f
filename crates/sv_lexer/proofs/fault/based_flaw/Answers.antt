use Rattle.std.proofs.Common.{ap, ◌∙◌}
use Rattle.std.proofs.lemmas.List.{take_rest}
use Rattle.sv_lexer.specs.Piece.{named}
use Rattle.sv_lexer.proofs.Numbers.{based_has_head, based_fault_reads}
use Rattle.sv_lexer.proofs.fault.based_flaw.Goals as goal

pub unreachable-requires : goal.unreachable-requires
unreachable-requires c =
    based_has_head c.args.piece.now c.requires c.run_len-size.result c.run_len-size.ensures.run c.run_len-size.ensures.stops (simp take_rest at c.in_default.ensures)

pub returns : goal.returns
returns c =
    let reads = based_fault_reads c.args.piece.now c.requires c.run_len-size.result c.in-Some.head.len c.in-Some.head.base c.run_len-size.ensures.run
    c.run_len-size.ensures.stops (simp take_rest at c.in-Some.ensures) in
    (c.requires.0, c.requires.1, c.requires.2, c.requires.3, c.named.ensures ∙ ap (named c.args.piece.now) (simp take_rest at c.based_fault.ensures ∙ reads))
