use Rattle.stimulus_reader.proofs.StimulusLines.{cr_front}
use Rattle.stimulus_reader.proofs.line.content.Goals as goal

pub returns-then-ended-clause-front : goal.returns-then-ended-clause-front
returns-then-ended-clause-front c = rw c.without_cr.ensures (cr_front c.args.line.now)
