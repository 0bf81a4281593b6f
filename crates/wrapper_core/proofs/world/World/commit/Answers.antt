use Rattle.std.proofs.Common.{◌≡◌, ◌∙◌, length, refl, sym, ap, subst}
use Rattle.std.specs.Prelude.{Some, None, if◌then◌else◌}
use Rattle.bit_ops.specs.Lists.{words}
use Rattle.code_isa.specs.declared.machine.Machine.{Machine}
use Rattle.code_isa.specs.Faces.{clock_count}
use Rattle.code_isa.specs.Slots.{first_register}
use Rattle.wrapper_core.specs.Snapshot.{Calm}
use Rattle.wrapper_core.specs.code.Blocks.{placed}
use Rattle.wrapper_core.specs.code.Samplings.{IsSampling, registers_of_block, held_of_block}
use Rattle.wrapper_core.specs.World.{levels_before, phase_of}
use Rattle.wrapper_core.proofs.Worlds.{core_given, next_size, registers_placed, published_levels, published_free, sampled_parts_of, same_parts}
use Rattle.wrapper_core.proofs.world.World.commit.Goals as goal

pub publish_all-requires-clause-core : goal.publish_all-requires-clause-core
publish_all-requires-clause-core g c =
    let w = c.args.self.now in
    let world = c.requires.world in
    let b = w.block in
    let n = c.commit.new.block in
    let next = words w.sampling.next.items in
    let first : c.first_register-first.result ≡ first_register b.code.value = c.first_register-first.ensures in
    let given : words n.given.items ≡ placed (words b.given.items) (first_register b.code.value) next = c.commit.ensures.given ∙ ap (λ p. placed (words b.given.items) p next) first in
    let size = next_size g.C.Child.model g.C.Child.ready g.C.Child.struck b.code.value w.sampling (registers_of_block b) world.sampling in
    let placed_so = registers_placed g.C.Child.model g.C.Child.ready g.C.Child.struck b n next world.core.block c.commit.ensures.keeps size given in
    core_given g.C.Child.model g.C.Child.ready g.C.Child.struck b n w.children.items w.buffers.items world.core c.commit.ensures.block c.commit.ensures.keeps.code placed_so.2

pub returns-clause-world : goal.returns-clause-world
returns-clause-world g c =
    let w = c.args.self.now in
    let world = c.requires.world in
    let b = w.block in
    let n = c.commit.new.block in
    let next = words w.sampling.next.items in
    let first : c.first_register-first.result ≡ first_register b.code.value = c.first_register-first.ensures in
    let given : words n.given.items ≡ placed (words b.given.items) (first_register b.code.value) next = c.commit.ensures.given ∙ ap (λ p. placed (words b.given.items) p next) first in
    let size = next_size g.C.Child.model g.C.Child.ready g.C.Child.struck b.code.value w.sampling (registers_of_block b) world.sampling in
    let placed_so = registers_placed g.C.Child.model g.C.Child.ready g.C.Child.struck b n next world.core.block c.commit.ensures.keeps size given in
    let z = c.publish_all.new.block in
    let new = c.publish_all.new.children.items in
    let done = c.publish_all.ensures in
    let s = c.commit.new.self in
    let code : z.code.value ≡ b.code.value = ap (λ x. x.value) (done.keeps.keeps.code ∙ c.commit.ensures.keeps.code) in
    let registers : registers_of_block z ≡ next = done.keeps.registers ∙ placed_so.0 in
    let levels = published_levels g.C.Child.model g.C.Child.ready g.C.Child.struck b.code.value (levels_before (phase_of w) w.levels.items) w.levels.items w.children.items new done.published c.requires.enabled.struck world.joined in
    record {
      core = done.core;
      joined = λ i kid x ki xi. levels i kid x (ap (λ (m : Machine). Rattle.std.specs.Prelude.slice_get m.kids i) (sym code) ∙ ki) xi;
      sampling = subst (IsSampling z.code.value s) (sym registers) (subst (λ (m : Machine). IsSampling m s next) (sym code) c.commit.ensures.sampling);
      unsampled = λ off. c.commit.ensures.none;
      levels_each = world.levels_each ∙ ap (λ (m : Machine). clock_count m.face) (sym code);
      before_each = world.before_each ∙ ap (λ (m : Machine). clock_count m.face) (sym code);
      visited_each = world.visited_each ∙ ap (λ (m : Machine). length m.kids) (sym code);
      calm = λ still. (refl, published_free g.C.Child.model g.C.Child.ready g.C.Child.struck w.children.items new done.published);
    }

pub returns-clause-does : goal.returns-clause-does
returns-clause-does g c =
    let w = c.args.self.now in
    let world = c.requires.world in
    let b = w.block in
    let n = c.commit.new.block in
    let next = words w.sampling.next.items in
    let first : c.first_register-first.result ≡ first_register b.code.value = c.first_register-first.ensures in
    let given : words n.given.items ≡ placed (words b.given.items) (first_register b.code.value) next = c.commit.ensures.given ∙ ap (λ p. placed (words b.given.items) p next) first in
    let size = next_size g.C.Child.model g.C.Child.ready g.C.Child.struck b.code.value w.sampling (registers_of_block b) world.sampling in
    let placed_so = registers_placed g.C.Child.model g.C.Child.ready g.C.Child.struck b n next world.core.block c.commit.ensures.keeps size given in
    let z = c.publish_all.new.block in
    let new = c.publish_all.new.children.items in
    let done = c.publish_all.ensures in
    let code : z.code.value ≡ b.code.value = ap (λ x. x.value) (done.keeps.keeps.code ∙ c.commit.ensures.keeps.code) in
    let parts = sampled_parts_of w.striking w.sampled w.before.items c.requires.enabled.before next c.requires.enabled.sampled c.requires.enabled.striking in
    let slots : words z.slots.items ≡ words b.slots.items = ap (λ x. words x.items) (done.keeps.keeps.slots ∙ c.commit.ensures.keeps.slots) in
    record {
      before = c.requires.enabled.before;
      sampled = c.requires.enabled.sampled;
      striking = c.requires.enabled.striking;
      published = done.published;
      rest = ap (λ u. record { code = z.code.value; held = held_of_block z; registers = registers_of_block z; slots = u; levels = w.levels.items; phase = Calm; children = new; visited = w.visited.items }) slots
          ∙ same_parts b.code.value z.code.value (held_of_block b) (held_of_block z) c.requires.enabled.sampled (registers_of_block z) (words b.slots.items) w.levels.items Calm new w.visited.items
          code (done.keeps.held ∙ placed_so.1) (done.keeps.registers ∙ placed_so.0 ∙ sym parts.2);
    }
