use Rattle.std.proofs.Common.{arith}
use Rattle.bit_ops.specs.declared.value.TheConstants.{MAX_WIDTH}
use Rattle.net_values.proofs.Stores.{nothing_above}
use Rattle.net_values.proofs.target.without_lowest.Goals as goal

pub returns-else-places-lt-MAX_WIDTH : goal.returns-else-places-lt-MAX_WIDTH
returns-else-places-lt-MAX_WIDTH c = nothing_above c.args.word c.args.places MAX_WIDTH (omega arith) (omega arith)
