use Rattle.std.proofs.Common.{refl}
use Rattle.wrapper_core.specs.World.{moment_of}
use Rattle.model_handle.proofs.Moves.{tree_kept, registers_kept}
use Rattle.model_handle.proofs.node.Node.of.Goals as goal

pub returns-clause-begins : goal.returns-clause-begins
returns-clause-begins g c =
    let model = g.C.Child.model in
    let s = moment_of c.args.world in
    let z = moment_of c.settle.new.w in
    let keeps = c.settle.ensures.keeps in
    record {
      tree = tree_kept model c.settle.result s z keeps;
      levels = keeps.levels;
      held = keeps.held;
      registers = registers_kept model c.settle.result s z keeps;
      number = refl;
    }
