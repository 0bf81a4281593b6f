use Rattle.expr_parser.proofs.Exact.{any_read, any_refused}
use Rattle.expr_parser.proofs.grammar.any.Goals as goal

pub returns-clause-read : goal.returns-clause-read
returns-clause-read c = any_read c.args.tokens.now c.whole.new.tokens c.whole.result c.whole.ensures

pub returns-clause-refused : goal.returns-clause-refused
returns-clause-refused c = any_refused c.args.tokens.now c.whole.new.tokens c.whole.result c.whole.ensures
