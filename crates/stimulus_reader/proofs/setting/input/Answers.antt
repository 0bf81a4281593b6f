use Rattle.stimulus_reader.proofs.StimulusSettings.{input_of}
use Rattle.stimulus_reader.proofs.setting.input.Goals as goal

pub returns-clause-found : goal.returns-clause-found
returns-clause-found c = input_of c.args.ports.now c.args.name.now c.position_of_input.result c.position_of_input.ensures
