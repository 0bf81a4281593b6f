use Rattle.std.proofs.Common.{◌≤◌, ◌+◌, length}
use Rattle.sv_lexer.specs.Scan.{IsSoFar}
use Rattle.sv_lexer.proofs.lexer.lex.Given as goal

abbrev pub invariant-loop-rest : goal.invariant-loop-rest
invariant-loop-rest l = IsSoFar l.file l.bytes l.rest l.tokens l.ends × (l.ends + length l.rest ≤ length l.bytes)

abbrev pub decreases-loop-rest : goal.decreases-loop-rest
decreases-loop-rest l = length l.rest
