use Rattle.wrapper_core.specs.World.{moment_of}
use Rattle.settle_loop_tests.proofs.Kept.{rests}
use Rattle.settle_loop_tests.proofs.board.comes_to_rest.Goals as goal

pub returns-clause-rest : goal.returns-clause-rest
returns-clause-rest g c = λ yes.
    rests g.C.Child.model (moment_of c.args.w.now) (moment_of c.step.new.w)
    (c.enabled.ensures.0 c.if-not-enabled.false) c.step.ensures.does (c.is_quiet.ensures yes)
