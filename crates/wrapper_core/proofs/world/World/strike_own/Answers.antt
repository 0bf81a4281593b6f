use Rattle.std.proofs.Common.{◌≡◌, ◌∙◌, true, refl, sym, ap, subst}
use Rattle.std.specs.Prelude.{Some, None, if◌then◌else◌}
use Rattle.bit_ops.specs.Lists.{words}
use Rattle.code_isa.specs.Traces.{sampled, levels_at}
use Rattle.code_isa.specs.declared.machine.Machine.{Machine}
use Rattle.wrapper_core.specs.Snapshot.{Phase, Striking}
use Rattle.wrapper_core.specs.code.Samplings.{IsSampling, registers_of_block, held_of_block}
use Rattle.wrapper_core.specs.World.{levels_by}
use Rattle.wrapper_core.proofs.Blocking.{true_is_not_false}
use Rattle.wrapper_core.proofs.Worlds.{sampling_of_next, next_registers, unsampled_parts, before_same, striking_phase}
use Rattle.wrapper_core.proofs.world.World.strike_own.Goals as goal

pub sample-requires-clause-sampling : goal.sample-requires-clause-sampling
sample-requires-clause-sampling g c =
    let w = c.args.self.now in
    subst (λ (m : Machine). IsSampling m w.sampling (words w.sampling.next.items)) (sym c.as_ref-code.ensures) (sampling_of_next g.C.Child.model g.C.Child.ready g.C.Child.struck w.block.code.value w.sampling (registers_of_block w.block) c.requires.world.sampling)

pub returns-clause-world : goal.returns-clause-world
returns-clause-world g c =
    let w = c.args.self.now in
    let s = c.sample.new.self in
    let world = c.requires.world in
    let parts = unsampled_parts w.striking w.sampled w.before.items c.requires.enabled.before (words w.sampling.next.items) c.requires.enabled.striking in
    let registers : words w.sampling.next.items ≡ registers_of_block w.block = next_registers g.C.Child.model g.C.Child.ready g.C.Child.struck w.block w.sampling world.core.block world.sampling (world.unsampled parts.1) in
    record {
      core = world.core;
      joined = λ i kid x ki xi. world.joined i kid x ki xi
          ∙ ap (λ b. levels_at (levels_by b w.levels.items x.struck) kid.clocks) (before_same w.striking w.before.items w.levels.items (if w.sampled then Some (words w.sampling.next.items) else None) (Some (words s.next.items)));
      sampling = subst (IsSampling w.block.code.value s) registers (subst (λ (m : Machine). IsSampling m s (words w.sampling.next.items)) c.as_ref-code.ensures c.sample.ensures.sampling);
      unsampled = λ off. absurd (true_is_not_false true refl off);
      levels_each = world.levels_each;
      before_each = world.before_each;
      visited_each = world.visited_each;
      calm = λ still. absurd (true_is_not_false w.striking parts.0 still);
    }

pub returns-clause-does : goal.returns-clause-does
returns-clause-does g c =
    let w = c.args.self.now in
    let s = c.sample.new.self in
    let world = c.requires.world in
    let m = w.block.code.value in
    let parts = unsampled_parts w.striking w.sampled w.before.items c.requires.enabled.before (words w.sampling.next.items) c.requires.enabled.striking in
    let registers : words w.sampling.next.items ≡ registers_of_block w.block = next_registers g.C.Child.model g.C.Child.ready g.C.Child.struck w.block w.sampling world.core.block world.sampling (world.unsampled parts.1) in
    let code : c.as_ref-code.result.now ≡ m = c.as_ref-code.ensures in
    let words_are : words s.next.items ≡ sampled w.before.items w.levels.items (words w.block.slots.items) m.regs (registers_of_block w.block) =
    c.sample.ensures.next
    ∙ ap (λ xs. sampled xs c.as_slice-3.result.now (words c.as_slice.result.now) c.as_ref-code.result.now.regs (words w.sampling.next.items)) c.as_slice-2.ensures.value
    ∙ ap (λ xs. sampled w.before.items xs (words c.as_slice.result.now) c.as_ref-code.result.now.regs (words w.sampling.next.items)) c.as_slice-3.ensures.value
    ∙ ap (λ xs. sampled w.before.items w.levels.items (words xs) c.as_ref-code.result.now.regs (words w.sampling.next.items)) c.as_slice.ensures.value
    ∙ ap (λ (x : Machine). sampled w.before.items w.levels.items (words w.block.slots.items) x.regs (words w.sampling.next.items)) code
    ∙ ap (sampled w.before.items w.levels.items (words w.block.slots.items) m.regs) registers in
    record {
      before = w.before.items;
      striking = parts.2;
      rest = ap (λ (p : Phase). record { code = m; held = held_of_block w.block; registers = registers_of_block w.block; slots = words w.block.slots.items; levels = w.levels.items; phase = p; children = w.children.items; visited = w.visited.items })
          (striking_phase w.striking w.before.items (Some (words s.next.items)) parts.0 ∙ ap (λ xs. Striking w.before.items (Some xs)) words_are);
    }
