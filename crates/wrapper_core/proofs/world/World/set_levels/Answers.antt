use Rattle.std.proofs.Common.{◌≡◌, ◌∙◌, true, false, length, refl, sym, ap, arith}
use Rattle.std.specs.Prelude.{Some, None, if◌then◌else◌}
use Rattle.std.specs.Vec.{with_items}
use Rattle.std.proofs.lemmas.List.{with_items_is}
use Rattle.bit_ops.specs.Lists.{words}
use Rattle.code_isa.specs.Traces.{levels_at}
use Rattle.wrapper_core.specs.World.{levels_before, levels_by}
use Rattle.wrapper_core.proofs.Blocking.{true_is_not_false}
use Rattle.wrapper_core.proofs.Worlds.{phase_calm}
use Rattle.wrapper_core.proofs.world.World.set_levels.Goals as goal

pub returns-clause-world : goal.returns-clause-world
returns-clause-world g c =
    let w = c.args.self.now in
    let world = c.requires.world in
    let was = w.levels.items in
    let given = c.args.levels.now in
    let still : w.striking ≡ false = phase_calm w.striking w.before.items (if w.sampled then Some (words w.sampling.next.items) else None) c.requires.quiescent.calm in
    let levels_new : c.copy_from_slice-2.new.self ≡ given = c.copy_from_slice-2.ensures.after in
    let before_new : c.copy_from_slice.new.self ≡ was = c.copy_from_slice.ensures.after ∙ c.as_slice.ensures.value in
    let levels_are : (with_items w.levels c.copy_from_slice-2.new.self).items ≡ given =
    with_items_is w.levels c.copy_from_slice-2.new.self (let e : length c.copy_from_slice-2.new.self ≡ w.levels.len = omega (arith, ap length levels_new, c.requires.levels, world.levels_each, w.levels.ok.0) in e) ∙ levels_new in
    let before_are : (with_items w.before c.copy_from_slice.new.self).items ≡ was =
    with_items_is w.before c.copy_from_slice.new.self (let e : length c.copy_from_slice.new.self ≡ w.before.len = omega (arith, ap length before_new, world.levels_each, world.before_each, w.before.ok.0) in e) ∙ before_new in
    record {
      core = world.core;
      joined = λ i kid x ki xi.
          let free : x.struck ≡ false = (world.calm still).1 i x xi in
          world.joined i kid x ki xi ∙ ap (λ p. levels_at (levels_by (levels_before p was) was x.struck) kid.clocks) c.requires.quiescent.calm
          ∙ ap (λ b. levels_at (levels_by was was b) kid.clocks) free
          ∙ ap (λ l. levels_at l kid.clocks) (sym before_are)
          ∙ ap (λ b. levels_at (levels_by (with_items w.before c.copy_from_slice.new.self).items (with_items w.levels c.copy_from_slice-2.new.self).items b) kid.clocks) (sym free);
      sampling = world.sampling;
      unsampled = world.unsampled;
      levels_each = ap length levels_are ∙ c.requires.levels;
      before_each = ap length before_are ∙ world.levels_each;
      visited_each = world.visited_each;
      calm = λ off. absurd (true_is_not_false true refl off);
    }
