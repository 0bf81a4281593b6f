use Rattle.std.specs.Prelude.{Some, None, if◌then◌else◌}
use Rattle.bit_ops.specs.Lists.{words}
use Rattle.wrapper_core.proofs.Worlds.{striking_phase}
use Rattle.wrapper_core.proofs.world.World.is_strikable.Goals as goal

pub returns-then-self : goal.returns-then-self
returns-then-self g c =
    let w = c.args.self.now in
    let sampled = if w.sampled then Some (words w.sampling.next.items) else None in (
      λ t.
          let has = c.is_unstruck.ensures.0 t in
          record { before = w.before.items; sampled = sampled; striking = striking_phase w.striking w.before.items sampled c.if-self.true; was = has.was; was_at = has.was_at; unstruck = has.unstruck },
      λ s. c.is_unstruck.ensures.1 (record { was = s.was; was_at = s.was_at; unstruck = s.unstruck }),
    )
