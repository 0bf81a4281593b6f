use Rattle.bit_ops.specs.Lists.{words}
use Rattle.wrapper_core.specs.declared.world.World.{World}
use Rattle.wrapper_core.specs.World.{levels_before, phase_of}
use Rattle.wrapper_core.proofs.Worlds.{world_moved, updated_at, unstruck_at}
use Rattle.wrapper_core.proofs.world.World.update.Goals as goal

pub returns-clause-world : goal.returns-clause-world
returns-clause-world g c =
    let w = c.args.self.now in
    let slots = words w.block.slots.items in
    let done = c.update_at.ensures in
    let z : World g.row.C.Denot = record { block = c.update_at.new.block; sampling = w.sampling; levels = w.levels; before = w.before; striking = w.striking; sampled = w.sampled; children = c.update_at.new.children; buffers = c.update_at.new.buffers; visited = w.visited } in
    world_moved g.C.Child.model g.C.Child.ready g.C.Child.struck w z c.requires.world done.keeps.keeps.code done.keeps.registers done.core
    (updated_at g.C.Child.model g.C.Child.ready g.C.Child.struck w.block.code.value slots (levels_before (phase_of w) w.levels.items) w.levels.items c.args.i w.children.items c.update_at.new.children.items done.updates c.requires.world.joined)
    (λ still. unstruck_at g.C.Child.model g.C.Child.ready g.C.Child.struck w.block.code.value slots c.args.i w.children.items c.update_at.new.children.items done.updates (c.requires.world.calm still).1)
