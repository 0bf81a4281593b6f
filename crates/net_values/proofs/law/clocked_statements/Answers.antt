use Rattle.net_values.proofs.Statements.{statement_adds, statement_within, statement_may, statement_local}
use Rattle.net_values.proofs.law.clocked_statements.Goals as goal

pub returns-clause-behind : goal.returns-clause-behind
returns-clause-behind c = λ vars u body writes. statement_adds vars u body writes

pub returns-clause-within : goal.returns-clause-within
returns-clause-within c = λ vars u body. statement_within vars u body

pub returns-clause-may : goal.returns-clause-may
returns-clause-may c = λ vars u body x k bit is. statement_may vars u body x k bit is

pub returns-clause-reads : goal.returns-clause-reads
returns-clause-reads c = λ vars u v body agree. statement_local vars u v body agree
