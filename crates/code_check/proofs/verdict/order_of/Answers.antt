use Rattle.std.proofs.Common.{length, refl, ap, subst, arith}
use Rattle.levelise.specs.Graph.{IsLevelling, IsLeastOnCycle}
use Rattle.levelise.specs.LevelFault.{TellsLeastOnCycle}
use Rattle.code_isa.specs.Dependence.{reads_of}
use Rattle.code_check.proofs.Rows.{row_total}
use Rattle.code_check.proofs.Cycles.{cycle_inside, none_inside}
use Rattle.code_check.proofs.verdict.order_of.Goals as goal

pub order-requires-clause-few : goal.order-requires-clause-few
order-requires-clause-few c = omega (arith, ap length c.requires.reads, row_total c.args.m.now, c.requires.few)

pub returns-in-Ok : goal.returns-in-Ok
returns-in-Ok c =
    let level : IsLevelling (reads_of c.args.m.now) c.in-Ok.order = subst (λ rows. IsLevelling rows c.in-Ok.order) c.requires.reads c.in-Ok.ensures.ok in
    (level, none_inside c.args.m.now (c.levelling_excludes_cycles.ensures (reads_of c.args.m.now) c.in-Ok.order level))

pub returns-in-Err-OnCycle : goal.returns-in-Err-OnCycle
returns-in-Err-OnCycle c =
    let node = c.in-Err-OnCycle.field-0-0 in
    let tells : IsLeastOnCycle c.args.graph.now.reads node = subst (TellsLeastOnCycle c.args.graph.now.reads) c.in-Err-OnCycle.field-0-is c.in-Err-OnCycle.ensures.cycle in
    (refl, cycle_inside c.args.m.now node c.requires.slot_order (subst (λ rows. IsLeastOnCycle rows node) c.requires.reads tells))
