use Rattle.std.proofs.Common.{◌≡◌, [], ◌∷◌, ◌++◌, ap}
use Rattle.wrapper_core.specs.declared.event.Event.TheVariants.{StrikeOwn, Commit}
use Rattle.wrapper_core.specs.Snapshot.{Calm, Snapshot}
use Rattle.wrapper_core.specs.World.{moment_of}
use Rattle.wrapper_core.proofs.Running.{takes_edges}
use Rattle.model_handle.proofs.Strikes.{step_committable, step_reached, steps_clocks}
use Rattle.model_handle.proofs.striking.step_clocks.Goals as goal

pub step-requires-2-clause-enabled : goal.step-requires-2-clause-enabled
step-requires-2-clause-enabled g c =
    step_committable g.C.Child.model (moment_of c.set_levels.new.self) (moment_of c.step.new.w) (moment_of c.strike_children.new.w) c.step.ensures.does c.strike_children.ensures.strikes

pub returns-clause-edges : goal.returns-clause-edges
returns-clause-edges g c =
    let model = g.C.Child.model in
    let s = moment_of c.args.w.now in
    let a = moment_of c.set_levels.new.self in
    let t = moment_of c.step.new.w in
    let u = moment_of c.strike_children.new.w in
    let z = moment_of c.step-2.new.w in
    let begins = c.set_levels.ensures.set.begins in
    let strikes = c.strike_children.ensures.strikes in
    let goes = step_reached model c.args.clocks.now s a t u z begins c.step.ensures.does strikes c.step-2.ensures.does (step_committable model a t u c.step.ensures.does strikes) in
    let calm : z.phase ≡ Calm = ap (λ (x : Snapshot _). x.phase) c.step-2.ensures.does.rest in
    takes_edges model g.C.Child.ready g.C.Child.struck c.set_levels.new.self c.set_levels.ensures.world s c.args.clocks.now c.set_levels.ensures.set (StrikeOwn ∷ (strikes.reached.events ++ Commit ∷ [])) z goes calm

pub returns-clause-steps : goal.returns-clause-steps
returns-clause-steps g c =
    steps_clocks g.C.Child.model c.args.clocks.now (moment_of c.args.w.now) (moment_of c.set_levels.new.self) (moment_of c.step.new.w) (moment_of c.strike_children.new.w) (moment_of c.step-2.new.w)
    c.set_levels.ensures.set.begins c.step.ensures.does c.strike_children.ensures.strikes c.step-2.ensures.does
