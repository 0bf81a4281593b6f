use Rattle.std.proofs.Common.{arith}
use Rattle.levelise.proofs.Steps.{start_on_path}
use Rattle.levelise.proofs.search.Search.advance.Goals as goal

pub close-requires-clause-inside : goal.close-requires-clause-inside
close-requires-clause-inside c =
    omega (arith, start_on_path c.args.g.now.reads c.args.self.now c.args.start c.requires.sound c.requires.last)
