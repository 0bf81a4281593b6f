use Rattle.elaborate.proofs.Visible.{nothing_reached}
use Rattle.elaborate.proofs.walk.Walk.new.Goals as goal

pub returns-clause-start : goal.returns-clause-start
returns-clause-start c =
    nothing_reached c.new.result c.new-3.result c.new-2.result c.new-4.result c.new.ensures c.new-3.ensures c.new-2.ensures c.new-4.ensures
