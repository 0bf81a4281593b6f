use Rattle.std.proofs.Common.{◌≡◌, ℕ, length, replicate, false, refl, ◌∙◌, ap, subst}
use Rattle.wrapper_core.specs.Snapshot.{Calm, Snapshot, with_visited}
use Rattle.wrapper_core.specs.Events.{DoesOwn, IsQuiescent}
use Rattle.wrapper_core.specs.World.{moment_of}
use Rattle.wrapper_core.proofs.Worlds.{world_settled}
use Rattle.settle_loop.specs.Sweeps.{unmarked}
use Rattle.settle_loop.proofs.Sweeping.{no_sweeps, stale_same}
use Rattle.settle_loop.proofs.Scheduling.{settles_reached}
use Rattle.settle_loop.proofs.settling.settle.Goals as goal

pub returns-clause-settled : goal.returns-clause-settled
returns-clause-settled g c =
    let model = g.C.Child.model in
    let z = moment_of c.sweeps.new.w in
    let phase : z.phase ≡ Calm =
    c.sweeps.ensures.keeps.phase ∙ ap (λ (x : Snapshot _). x.phase) c.step.ensures.does.rest ∙ ap (λ (x : Snapshot _). x.phase) c.end_sweep.ensures.visited ∙ c.requires.calm in
    let quiet : IsQuiescent model z = record {
      calm = phase;
      none = λ i up. c.sweeps.ensures.none (record { child = i; enabled = up });
      own = record { filled = c.sweeps.ensures.fresh; rest = refl };
    } in
    world_settled model g.C.Child.ready g.C.Child.struck c.sweeps.new.w g.met.C.Child.is_ready c.sweeps.ensures.world quiet

pub returns-clause-zero : goal.returns-clause-zero
returns-clause-zero g c = λ first own.
    let model = g.C.Child.model in
    let answers : ℕ → ℕ → ℕ → Type 0 = λ sweep left answer. g.F.Fn.post c.args.order.now.f (sweep, (left, tt)) answer in
    let s = moment_of c.args.w.now in
    let t = moment_of c.step.new.w in
    let z = moment_of c.sweeps.new.w in
    let v = replicate (length s.visited) false in
    let also : DoesOwn (with_visited s v) t = subst (λ x. DoesOwn x t) c.end_sweep.ensures.visited c.step.ensures.does in
    let same = stale_same model s first t v c.machine.ensures.checked own also in
    let none = no_sweeps model answers c.sweeps.result t z c.sweeps.ensures.sweeps c.sweeps.ensures.none in
    (λ e. same.1 (none.0 e), λ no. none.1 (same.0 no))

pub returns-clause-settles : goal.returns-clause-settles
returns-clause-settles g c =
    let s = moment_of c.args.w.now in
    let t = moment_of c.step.new.w in
    let v = replicate (length s.visited) false in
    let also : DoesOwn (with_visited s v) t = subst (λ x. DoesOwn x t) c.end_sweep.ensures.visited c.step.ensures.does in
    record { first = t; own = also; sweeps = c.sweeps.ensures.sweeps; none = c.sweeps.ensures.none }

pub returns-clause-schedule : goal.returns-clause-schedule
returns-clause-schedule g c =
    let answers : ℕ → ℕ → ℕ → Type 0 = λ sweep left answer. g.F.Fn.post c.args.order.now.f (sweep, (left, tt)) answer in
    let s = moment_of c.args.w.now in
    let t = moment_of c.step.new.w in
    let also : DoesOwn (unmarked s) t = subst (λ x. DoesOwn x t) c.end_sweep.ensures.visited c.step.ensures.does in
    settles_reached g.C.Child.model answers c.sweeps.result (unmarked s) (moment_of c.sweeps.new.w) c.requires.calm
    (record { first = t; own = also; sweeps = c.sweeps.ensures.sweeps; none = c.sweeps.ensures.none })
