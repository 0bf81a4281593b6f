use Rattle.const_eval.proofs.Sizes.{sizes_and_values_lem}
use Rattle.const_eval.proofs.law.sizes_and_values.Goals as goal

pub returns : goal.returns
returns c = sizes_and_values_lem c.value_fits.ensures
