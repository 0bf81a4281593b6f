use Rattle.std.proofs.Common.{arith}
use Rattle.stimulus_reader.proofs.StimulusSettings.{one_fits}
use Rattle.stimulus_reader.proofs.setting.level_bits.Goals as goal

pub new-requires-clause-word : goal.new-requires-clause-word
new-requires-clause-word c = one_fits c.args.width (omega arith)
