use Rattle.std.proofs.Common.{◌≡◌, ◌∙◌, length, sym, ap}
use Rattle.bit_ops.specs.Lists.{words}
use Rattle.code_isa.specs.Slots.{first_register}
use Rattle.wrapper_core.specs.declared.world.World.{World}
use Rattle.wrapper_core.proofs.Blocking.{words_each, widths_each}
use Rattle.wrapper_core.proofs.Worlds.{world_moved, core_given, held_placed}
use Rattle.wrapper_core.proofs.world.World.set_inputs.Goals as goal

pub returns-clause-world : goal.returns-clause-world
returns-clause-world g c =
    let w = c.args.self.now in
    let n = c.place.new.self in
    let world = c.requires.world in
    let inputs = c.args.inputs.now in
    let size : length (words inputs) ≡ first_register w.block.code.value = words_each inputs ∙ sym (widths_each inputs) ∙ ap length c.requires.inputs in
    let set_so = held_placed g.C.Child.model g.C.Child.ready g.C.Child.struck w.block n (words inputs) world.core.block c.place.ensures.keeps size c.place.ensures.given in
    let core = core_given g.C.Child.model g.C.Child.ready g.C.Child.struck w.block n w.children.items w.buffers.items world.core c.place.ensures.block c.place.ensures.keeps.code set_so.2 in
    let z : World g.row.C.Denot = record { block = n; sampling = w.sampling; levels = w.levels; before = w.before; striking = w.striking; sampled = w.sampled; children = w.children; buffers = w.buffers; visited = w.visited } in
    world_moved g.C.Child.model g.C.Child.ready g.C.Child.struck w z world c.place.ensures.keeps.code set_so.1 core world.joined (λ still. (world.calm still).1)
