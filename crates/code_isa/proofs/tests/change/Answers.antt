use Rattle.std.proofs.Common.{arith, subst, sym, ◌<◌}
use Rattle.code_isa.specs.Slots.{first_instruction}
use Rattle.code_isa.specs.Activity.{HaveValuesBut}
use Rattle.code_isa.proofs.Marking.{set_and_marked}
use Rattle.code_isa.proofs.tests.change.Goals as goal

pub run_marked-requires-clause-unmarked : goal.run_marked-requires-clause-unmarked
run_marked-requires-clause-unmarked c =
    let low : 0 < first_instruction c.args.m.now = omega (arith, c.requires.first) in
    subst (HaveValuesBut c.args.m.now c.mark.new.marks) (sym c.set_input.ensures.words)
    (set_and_marked c.args.m.now 0 _ _ c.args.marks.now c.mark.new.marks low c.mark.ensures c.requires.settled)
