use Rattle.std.proofs.Common.{◌≡◌, length, subst, arith}
use Rattle.wrapper_core.specs.Events.{IsStrikable}
use Rattle.wrapper_core.specs.World.{moment_of}
use Rattle.model_handle.specs.Striking.{StrikesFirst}
use Rattle.model_handle.proofs.Strikes.{none_struck, next_strikable, next_room, more_struck}
use Rattle.model_handle.proofs.striking.strike_children.Goals as goal

pub loop-i-init : goal.loop-i-init
loop-i-init g c = record { world = c.requires.world; strikes = none_struck g.C.Child.model (moment_of c.args.w.now) }

pub step-requires-clause-enabled : goal.step-requires-clause-enabled
step-requires-clause-enabled g c =
    next_strikable g.C.Child.model (moment_of c.args.w.now) (moment_of c.loop-i.w) c.loop-i.i c.requires.sampled c.loop-i.invariant.strikes (omega (arith, c.loop-i-test.true, c.children-i-end.ensures))

pub step-requires-clause-room : goal.step-requires-clause-room
step-requires-clause-room g c = next_room g.C.Child.model (moment_of c.args.w.now) (moment_of c.loop-i.w) c.loop-i.i c.loop-i.invariant.strikes c.requires.room

pub loop-i-preserved : goal.loop-i-preserved
loop-i-preserved g c =
    let enabled : IsStrikable (moment_of c.loop-i.w) c.loop-i.i =
    next_strikable g.C.Child.model (moment_of c.args.w.now) (moment_of c.loop-i.w) c.loop-i.i c.requires.sampled c.loop-i.invariant.strikes (omega (arith, c.loop-i-test.true, c.children-i-end.ensures)) in
    record {
      world = c.step.ensures.world;
      strikes = more_struck g.C.Child.model (moment_of c.args.w.now) (moment_of c.loop-i.w) (moment_of c.step.new.w) c.loop-i.i c.loop-i.invariant.strikes enabled c.step.ensures.does;
    }

pub returns-clause-strikes : goal.returns-clause-strikes
returns-clause-strikes g c =
    let model = g.C.Child.model in
    let s = moment_of c.args.w.now in
    let z = moment_of c.loop-i.w in
    let all : c.loop-i.i ≡ length z.children = omega (arith, c.loop-i-test.false, c.loop-i.auto.i-end, c.children-i-end.ensures, c.loop-i.invariant.strikes.each) in
    subst (λ n. StrikesFirst model n s z) all c.loop-i.invariant.strikes
