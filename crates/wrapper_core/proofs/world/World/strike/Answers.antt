use Rattle.std.proofs.Common.{◌≡◌, ◌∙◌, refl, sym, ap, subst}
use Rattle.std.specs.Prelude.{Some, None, if◌then◌else◌}
use Rattle.bit_ops.specs.Lists.{words}
use Rattle.wrapper_core.specs.Events.{StrikesAt}
use Rattle.wrapper_core.specs.declared.world.World.{World}
use Rattle.wrapper_core.specs.World.{levels_before, phase_of}
use Rattle.wrapper_core.proofs.Blocking.{true_is_not_false}
use Rattle.wrapper_core.proofs.Worlds.{world_moved, struck_at, phase_striking}
use Rattle.wrapper_core.proofs.world.World.strike.Goals as goal

pub returns-clause-world : goal.returns-clause-world
returns-clause-world g c =
    let w = c.args.self.now in
    let m = w.block.code.value in
    let new = c.strike_at.new.children.items in
    let on : w.striking ≡ Rattle.std.proofs.Common.true = phase_striking w.striking w.before.items c.requires.enabled.before (if w.sampled then Some (words w.sampling.next.items) else None) c.requires.enabled.sampled c.requires.enabled.striking in
    let strikes : StrikesAt g.C.Child.model c.args.i m w.levels.items w.children.items new = subst (λ levels. StrikesAt g.C.Child.model c.args.i m levels w.children.items new) c.as_slice-levels.ensures.value c.strike_at.ensures.strikes in
    let z : World g.row.C.Denot = record { block = w.block; sampling = w.sampling; levels = w.levels; before = w.before; striking = w.striking; sampled = w.sampled; children = c.strike_at.new.children; buffers = c.strike_at.new.buffers; visited = w.visited } in
    world_moved g.C.Child.model g.C.Child.ready g.C.Child.struck w z c.requires.world refl refl c.strike_at.ensures.core
    (struck_at g.C.Child.model g.C.Child.ready g.C.Child.struck m (levels_before (phase_of w) w.levels.items) w.levels.items c.args.i w.children.items new strikes c.requires.world.joined)
    (λ still. absurd (true_is_not_false w.striking on still))
