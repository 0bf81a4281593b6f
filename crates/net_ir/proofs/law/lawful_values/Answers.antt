use Rattle.net_ir.proofs.Values.{value_small}
use Rattle.net_ir.proofs.law.lawful_values.Goals as goal

pub returns : goal.returns
returns c = value_small c.value_fits.ensures
