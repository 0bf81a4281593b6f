use Rattle.linked_units.proofs.Greatest.{product_greatest}
use Rattle.linked_units.proofs.law.product_by_paths.Goals as goal

pub returns : goal.returns
returns c = product_greatest
