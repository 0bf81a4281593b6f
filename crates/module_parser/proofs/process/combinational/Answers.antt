use Rattle.std.proofs.Common.{◌∙◌}
use Rattle.module_parser.specs.Reading.{combinational}
use Rattle.module_parser.proofs.Branches.{behind}
use Rattle.module_parser.proofs.process.combinational.Goals as goal

pub returns : goal.returns
unfolding combinational
returns c = behind _ c.in_ok-place.ensures ∙ behind _ c.in_ok-body.ensures
