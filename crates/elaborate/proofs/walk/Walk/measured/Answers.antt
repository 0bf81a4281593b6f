use Rattle.elaborate.proofs.Visible.{scope_of}
use Rattle.elaborate.proofs.walk.Walk.measured.Goals as goal

pub sized_alone-requires : goal.sized_alone-requires
sized_alone-requires c = scope_of c.args.self.now c.requires
