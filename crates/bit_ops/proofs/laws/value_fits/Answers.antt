use Rattle.bit_ops.proofs.Fits.{value_of_fits}
use Rattle.bit_ops.proofs.laws.value_fits.Goals as goal

pub returns : goal.returns
returns c = value_of_fits
