use Rattle.std.proofs.Common.{◌≡◌, ◌<◌, ◌+◌, ◌-◌, ◌∙◌, ◌++◌, ◌∷◌, [], length, take, get_or, refl, sym, ap, subst, arith}
use Rattle.std.proofs.lemmas.List.{take_more}
use Rattle.std.proofs.lemmas.Option.{slice_get_within}
use Rattle.wrapper_core.specs.declared.event.Event.{Event}
use Rattle.wrapper_core.specs.declared.event.Event.TheVariants.{Own}
use Rattle.wrapper_core.specs.Events.{Schedule, HasRoom}
use Rattle.wrapper_core.specs.World.{moment_of}
use Rattle.wrapper_core.proofs.Worlds.{world_settled}
use Rattle.wrapper_core.proofs.Running.{schedule_push, room_kept, room_for, shows_same, takes_edges}
use Rattle.wrapper_core.proofs.events.run_events.Goals as goal

pub step-requires-clause-room : goal.step-requires-clause-room
step-requires-clause-room g c =
    let events = c.args.events.now.items in
    let items = c.deref-e-items.result.now in
    let k = c.loop-e.e-index in
    let inside : k < length events = subst (λ xs. k < length xs) c.deref-e-items.ensures.value c.loop-e-test.true in
    room_for g.C.Child.model (get_or items k Own) (length events - k) (moment_of c.loop-e.w) c.loop-e.invariant.room (omega (arith, inside))

pub loop-e-preserved : goal.loop-e-preserved
loop-e-preserved g c =
    let model = g.C.Child.model in
    let events = c.args.events.now.items in
    let items = c.deref-e-items.result.now in
    let same : items ≡ events = c.deref-e-items.ensures.value in
    let k = c.loop-e.e-index in
    let e : Event = get_or items k Own in
    let inside : k < length events = subst (λ xs. k < length xs) same c.loop-e-test.true in
    let more : take (k + 1) events ≡ take k events ++ e ∷ [] = take_more events k Own inside ∙ ap (λ xs. take k events ++ get_or xs k Own ∷ []) (sym same) in
    let left : length events - k ≡ length events - (k + 1) + 1 = omega (arith, inside) in
    record {
      world = c.step.ensures.world;
      done = let next : c.loop-e.done + 1 ≡ k + 1 = omega (arith, c.loop-e.invariant.done) in next;
      schedule = subst (λ es. Schedule model es (moment_of c.args.w.now) (moment_of c.step.new.w)) (sym more)
          (schedule_push model (take k events) e (moment_of c.args.w.now) (moment_of c.loop-e.w) (moment_of c.step.new.w) c.loop-e.invariant.schedule (c.if-enabled.ensures.0 refl) c.step.ensures.does);
      room = room_kept model e (length events - (k + 1)) (moment_of c.loop-e.w) (moment_of c.step.new.w) (subst (λ n. HasRoom model n (moment_of c.loop-e.w)) left c.loop-e.invariant.room) c.step.ensures.does;
    }

pub returns-clause-longest : goal.returns-clause-longest
returns-clause-longest g c = λ e at enabled.
    let inside = slice_get_within c.args.events.now.items c.loop-e.done e at in
    let clash : ⊥ = omega (arith, inside, c.loop-e.invariant.done, c.loop-e-test.false, ap length c.deref-e-items.ensures.value) in clash

pub returns-clause-settled : goal.returns-clause-settled
returns-clause-settled g c = λ quiet. world_settled g.C.Child.model g.C.Child.ready g.C.Child.struck c.loop-e.w g.met.C.Child.is_ready c.loop-e.invariant.world quiet

pub returns-clause-unchanged : goal.returns-clause-unchanged
returns-clause-unchanged g c = λ start levels begins striking.
    shows_same g.C.Child.model g.C.Child.ready g.C.Child.struck c.args.w.now c.requires.world start levels begins (take c.loop-e.e-index c.args.events.now.items) (moment_of c.loop-e.w) c.loop-e.invariant.schedule striking

pub returns-clause-edges : goal.returns-clause-edges
returns-clause-edges g c = λ start levels begins calm.
    takes_edges g.C.Child.model g.C.Child.ready g.C.Child.struck c.args.w.now c.requires.world start levels begins (take c.loop-e.e-index c.args.events.now.items) (moment_of c.loop-e.w) c.loop-e.invariant.schedule calm

pub returns-else-enabled-clause-settled : goal.returns-else-enabled-clause-settled
returns-else-enabled-clause-settled g c = λ quiet. world_settled g.C.Child.model g.C.Child.ready g.C.Child.struck c.loop-e.w g.met.C.Child.is_ready c.loop-e.invariant.world quiet

pub returns-else-enabled-clause-unchanged : goal.returns-else-enabled-clause-unchanged
returns-else-enabled-clause-unchanged g c = λ start levels begins striking.
    shows_same g.C.Child.model g.C.Child.ready g.C.Child.struck c.args.w.now c.requires.world start levels begins (take c.loop-e.e-index c.args.events.now.items) (moment_of c.loop-e.w) c.loop-e.invariant.schedule striking

pub returns-else-enabled-clause-edges : goal.returns-else-enabled-clause-edges
returns-else-enabled-clause-edges g c = λ start levels begins calm.
    takes_edges g.C.Child.model g.C.Child.ready g.C.Child.struck c.args.w.now c.requires.world start levels begins (take c.loop-e.e-index c.args.events.now.items) (moment_of c.loop-e.w) c.loop-e.invariant.schedule calm
