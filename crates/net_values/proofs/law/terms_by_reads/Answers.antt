use Rattle.std.proofs.Common.{ap}
use Rattle.net_values.proofs.Terms.{operand_is_local}
use Rattle.net_values.proofs.law.terms_by_reads.Goals as goal

pub returns : goal.returns
returns c = λ ws u v t agree. ap (λ p. p.1) (operand_is_local ws t u v agree)
