use Rattle.driver_check.proofs.Bits.{source_taken}
use Rattle.driver_check.proofs.law.runs_are_bits.Goals as goal

pub returns : goal.returns
returns c = λ vars source x k. source_taken vars x k source
