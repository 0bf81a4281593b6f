use Rattle.std.proofs.Common.{true}
use Rattle.const_eval.specs.Constant.{names_of}
use Rattle.const_eval.specs.Expressions.{meaning_of}
use Rattle.width_rules.proofs.Valued.{constant_told}
use Rattle.width_rules.proofs.measure.constant_in.Goals as goal

pub returns : goal.returns
returns c = record { built = constant_told (meaning_of (names_of c.args.scope.now.names) true c.args.e.now) c.constant.result c.constant.ensures.value c.constant.ensures.refused }
