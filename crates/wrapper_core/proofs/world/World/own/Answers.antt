use Rattle.std.proofs.Common.{drop, ap}
use Rattle.bit_ops.specs.Lists.{words}
use Rattle.code_isa.specs.Slots.{first_kid_output}
use Rattle.wrapper_core.specs.code.Samplings.{held_of_block, registers_of_block}
use Rattle.wrapper_core.specs.declared.world.World.{World}
use Rattle.wrapper_core.specs.World.{phase_of}
use Rattle.wrapper_core.proofs.Worlds.{world_moved, core_given, same_parts, own_does, held_same, registers_same}
use Rattle.wrapper_core.proofs.world.World.own.Goals as goal

pub returns-clause-world : goal.returns-clause-world
returns-clause-world g c =
    let w = c.args.self.now in
    let n = c.own.new.self in
    let core = core_given g.C.Child.model g.C.Child.ready g.C.Child.struck w.block n w.children.items w.buffers.items c.requires.world.core c.own.ensures.block c.own.ensures.code (ap (λ x. drop (first_kid_output w.block.code.value) (words x.items)) c.own.ensures.given) in
    let z : World g.row.C.Denot = record { block = n; sampling = w.sampling; levels = w.levels; before = w.before; striking = w.striking; sampled = w.sampled; children = w.children; buffers = w.buffers; visited = w.visited } in
    world_moved g.C.Child.model g.C.Child.ready g.C.Child.struck w z c.requires.world c.own.ensures.code (registers_same g.C.Child.model g.C.Child.ready g.C.Child.struck w.block n c.own.ensures.code c.own.ensures.given) core c.requires.world.joined (λ still. (c.requires.world.calm still).1)

pub returns-clause-does : goal.returns-clause-does
returns-clause-does g c =
    let w = c.args.self.now in
    let n = c.own.new.self in
    record {
      filled = own_does g.C.Child.model g.C.Child.ready g.C.Child.struck w n c.requires.world c.own.ensures.block c.own.ensures.code c.own.ensures.given c.own.ensures.filled c.own.ensures.run;
      rest = same_parts w.block.code.value n.code.value (held_of_block w.block) (held_of_block n) (registers_of_block w.block) (registers_of_block n) (words n.slots.items) w.levels.items (phase_of w) w.children.items w.visited.items
          (ap (λ x. x.value) c.own.ensures.code) (held_same g.C.Child.model g.C.Child.ready g.C.Child.struck w.block n c.own.ensures.code c.own.ensures.given) (registers_same g.C.Child.model g.C.Child.ready g.C.Child.struck w.block n c.own.ensures.code c.own.ensures.given);
    }
