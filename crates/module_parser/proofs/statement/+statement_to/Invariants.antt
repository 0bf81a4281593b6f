use Rattle.module_parser.proofs.statement.+statement_to.Given as goal

abbrev pub decreases-statement_to : goal.decreases-statement_to
decreases-statement_to l = l.depth
