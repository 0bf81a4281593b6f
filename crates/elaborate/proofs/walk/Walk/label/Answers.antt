use Rattle.elaborate.proofs.Visible.{sound_labelled}
use Rattle.elaborate.proofs.walk.Walk.label.Goals as goal

pub returns-in_ok-add-in-Some-clause-sound : goal.returns-in_ok-add-in-Some-clause-sound
returns-in_ok-add-in-Some-clause-sound c = record {
  there = sound_labelled c.args.self.now c.add.new.self c.requires;
  widths = c.requires.widths;
}
