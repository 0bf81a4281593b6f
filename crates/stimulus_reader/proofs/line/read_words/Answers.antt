use Rattle.stimulus_reader.proofs.StimulusParts.{names_behind}
use Rattle.stimulus_reader.proofs.line.read_words.Goals as goal

pub returns-in-Some-kind_of-clause-part : goal.returns-in-Some-kind_of-clause-part
returns-in-Some-kind_of-clause-part c = names_behind c.args.text.now c.in-Some.word.now c.in-Some.rest.now c.read_settings.result c.in-Some.ensures.part c.read_settings.ensures.part
