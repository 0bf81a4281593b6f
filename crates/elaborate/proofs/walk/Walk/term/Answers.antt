use Rattle.elaborate.proofs.Visible.{scope_of}
use Rattle.elaborate.proofs.walk.Walk.term.Goals as goal

pub sized-requires-clause-scope : goal.sized-requires-clause-scope
sized-requires-clause-scope c = scope_of c.args.self.now c.requires.sound
