use Rattle.std.proofs.Common.{ℕ, ◌+◌, ◌<◌, refl, arith}
use Rattle.code_isa.specs.declared.machine.Machine.{Machine}
use Rattle.wrapper_core.specs.World.{moment_of}
use Rattle.settle_loop.proofs.Kept.{keeps_none, keeps_then, room_left}
use Rattle.settle_loop.proofs.Sweeping.{none_final, world_left, room_less, sweeps_more}
use Rattle.settle_loop.proofs.settling.sweeps.Goals as goal

pub sweeps-init : goal.sweeps-init
sweeps-init g c =
    let s = moment_of c.args.w.now in
    record {
      world = c.requires.world;
      clear = c.requires.clear;
      fresh = c.requires.fresh;
      sweeps = refl;
      keeps = keeps_none g.C.Child.model s;
      within = omega arith;
      nearer = λ u states end. (end, none_final g.C.Child.model s u);
    }

pub overflow_add-count : goal.overflow_add-count
overflow_add-count g c =
    let was = c.sweeps.invariant in
    let m : Machine = (moment_of c.args.w.now).code in
    let more : c.sweeps.count < m.chain + 1 =
    world_left g.C.Child.model g.C.Child.ready g.C.Child.struck g.met.C.Child.is_ready c.args.w.now c.sweeps.w c.sweeps.count c.requires.world c.requires.checked c.requires.calm c.requires.fresh was.world was.fresh was.keeps was.within was.nearer (c.is_stale.ensures.0 c.sweeps-test.true) in
    omega (arith, more, m.chain_fits)

pub sweep-requires-clause-room : goal.sweep-requires-clause-room
sweep-requires-clause-room g c =
    let was = c.sweeps.invariant in
    let model = g.C.Child.model in
    let s = moment_of c.args.w.now in
    let more : c.sweeps.count < s.code.chain + 1 =
    world_left g.C.Child.model g.C.Child.ready g.C.Child.struck g.met.C.Child.is_ready c.args.w.now c.sweeps.w c.sweeps.count c.requires.world c.requires.checked c.requires.calm c.requires.fresh was.world was.fresh was.keeps was.within was.nearer (c.is_stale.ensures.0 c.sweeps-test.true) in
    room_left model c.sweeps.count 1 s (moment_of c.sweeps.w) was.keeps (room_less model s (s.code.chain + 1) (1 + c.sweeps.count) (omega (arith, more)) c.requires.room)

pub sweeps-smaller : goal.sweeps-smaller
sweeps-smaller g c =
    let was = c.sweeps.invariant in
    let more : c.sweeps.count < (moment_of c.args.w.now).code.chain + 1 =
    world_left g.C.Child.model g.C.Child.ready g.C.Child.struck g.met.C.Child.is_ready c.args.w.now c.sweeps.w c.sweeps.count c.requires.world c.requires.checked c.requires.calm c.requires.fresh was.world was.fresh was.keeps was.within was.nearer (c.is_stale.ensures.0 c.sweeps-test.true) in
    omega (arith, more)

pub sweeps-preserved : goal.sweeps-preserved
sweeps-preserved g c =
    let was = c.sweeps.invariant in
    let model = g.C.Child.model in
    let answers : ℕ → ℕ → ℕ → Type 0 = λ sweep left answer. g.F.Fn.post c.args.order.now.f (sweep, (left, tt)) answer in
    let s = moment_of c.args.w.now in
    let t = moment_of c.sweeps.w in
    let z = moment_of c.sweep.new.w in
    let stale = c.is_stale.ensures.0 c.sweeps-test.true in
    let more : c.sweeps.count < s.code.chain + 1 =
    world_left g.C.Child.model g.C.Child.ready g.C.Child.struck g.met.C.Child.is_ready c.args.w.now c.sweeps.w c.sweeps.count c.requires.world c.requires.checked c.requires.calm c.requires.fresh was.world was.fresh was.keeps was.within was.nearer stale in
    record {
      world = c.sweep.ensures.world;
      clear = c.sweep.ensures.clear;
      fresh = c.sweep.ensures.fresh;
      sweeps = sweeps_more model answers c.sweeps.count s t z was.sweeps stale c.sweep.ensures.sweep;
      keeps = keeps_then model c.sweeps.count 1 s t z was.keeps c.sweep.ensures.keeps;
      within = omega (arith, more);
      nearer = λ u states end. (c.sweep.ensures.end u states (was.nearer u states end).0, c.sweep.ensures.nearer c.sweeps.count u states (was.nearer u states end).0 (was.nearer u states end).1);
    }
