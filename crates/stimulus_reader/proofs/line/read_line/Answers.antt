use Rattle.stimulus_reader.proofs.StimulusParts.{stands_in_front}
use Rattle.stimulus_reader.proofs.line.read_line.Goals as goal

pub returns-in-Bad-clause-part : goal.returns-in-Bad-clause-part
returns-in-Bad-clause-part c = stands_in_front c.args.line.now c.content-said.result.now c.in-Bad.bad.word.now c.in-Bad.bad.behind c.content-said.ensures.front c.in-Bad.ensures.part
