use Rattle.clock_domains.proofs.OneBit.{one_bit}
use Rattle.clock_domains.proofs.law.clocks_have_one_bit.Goals as goal

pub returns : goal.returns
returns c = one_bit
