use Rattle.std.proofs.Common.{◌≡◌, ℕ, ◌+◌, ◌-◌, ◌<◌, ◌≤◌, false, [], length, replicate, sym, ◌∙◌, ap, subst, arith}
use Rattle.std.specs.Prelude.{slice_get, Some}
use Rattle.std.proofs.lemmas.Option.{slice_get_within}
use Rattle.code_isa.specs.Checks.{IsChecked}
use Rattle.wrapper_core.specs.Snapshot.{Snapshot}
use Rattle.wrapper_core.specs.World.{moment_of}
use Rattle.settle_loop.specs.Sweeps.{unmarked, unvisited, without, IsSweeping, begins, goes}
use Rattle.settle_loop.specs.Finality.{IsFinal, IsWhole}
use Rattle.settle_loop.proofs.Marks.{all_left, all_left_size, left_unset, left_after, without_size, empty_list, visited_more, first_low}
use Rattle.settle_loop.proofs.Visiting.{Outcome, outcome, outcome_marked}
use Rattle.settle_loop.proofs.Ending.{world_whole}
use Rattle.settle_loop.proofs.Sweeping.{under_start, under_visit, under_room, under_final}
use Rattle.settle_loop.proofs.settling.sweep.Goals as goal

pub visits-init : goal.visits-init
visits-init g c =
    let model = g.C.Child.model in
    let answers : ℕ → ℕ → ℕ → Type 0 = λ sweep left answer. g.F.Fn.post c.args.order.now.f (sweep, (left, tt)) answer in
    let s = moment_of c.args.w.now in
    let clear : s.visited ≡ replicate (length s.visited) false = ap (λ (x : Snapshot _). x.visited) c.requires.clear in
    let size : length s.visited ≡ length s.children = c.requires.world.visited_each ∙ sym c.requires.world.core.children_each in
    record {
      world = c.requires.world;
      left = c.children-left.ensures ∙ sym (all_left_size s.visited (length s.children) clear size);
      visits =
          subst (λ x. IsSweeping model answers c.args.number s (unvisited s.visited) x) c.requires.clear
          (subst (λ xs. IsSweeping model answers c.args.number s xs s) (sym (all_left s.visited (length s.children) clear size)) begins);
      first = record { within = omega arith; all = λ j low. absurd (let clash : ⊥ = omega (arith, low) in clash) };
      under = under_start model s (length s.visited) clear size c.requires.fresh;
    }

pub visits-preserved : goal.visits-preserved
visits-preserved g c =
    let model = g.C.Child.model in
    let answers : ℕ → ℕ → ℕ → Type 0 = λ sweep left answer. g.F.Fn.post c.args.order.now.f (sweep, (left, tt)) answer in
    let was = c.visits.invariant in
    let s = moment_of c.args.w.now in
    let t = moment_of c.visits.w in
    let z = moment_of c.visit.new.w in
    let place : ℕ = c.pick-place.result in
    let i : ℕ = c.unvisited_at-i.result in
    let at : slice_get (unvisited t.visited) place ≡ Some i = c.unvisited_at-i.ensures in
    let left : unvisited z.visited ≡ without place (unvisited t.visited) = left_after t.visited z.visited place i at c.visit.ensures.marked in
    let inside : place < length (unvisited t.visited) = slice_get_within (unvisited t.visited) place i at in
    let checked : IsChecked t.code = subst IsChecked (sym was.under.code) c.requires.checked in
    let whole : IsWhole model t = world_whole model g.C.Child.ready g.C.Child.struck g.met.C.Child.is_ready c.visits.w was.world checked (was.under.phase ∙ c.requires.calm) in
    let o : Outcome model i t z = outcome_marked model i t z _ _ (outcome model i (unmarked t) (unmarked z) c.visit.ensures.visit) in
    record {
      world = c.visit.ensures.world;
      left = let e : c.visits.left - 1 ≡ length (unvisited z.visited) = omega (arith, was.left, ap length left, without_size place (unvisited t.visited) inside) in e;
      visits = subst (λ xs. IsSweeping model answers c.args.number s xs (unmarked z)) (sym left)
          (goes was.visits (subst (λ n. g.F.Fn.post c.args.order.now.f (c.args.number, (n, tt)) place) was.left c.pick-place.ensures.asked) at c.visit.ensures.visit);
      first = visited_more t.visited z.visited c.visits.first i c.visited_below-first.result was.first (slice_get_within t.visited i false (left_unset t.visited place i at)) c.visit.ensures.marked c.visited_below-first.ensures;
      under = under_visit model i s t z was.under c.requires.calm whole o (left_unset t.visited place i at) c.visit.ensures.marked;
    }

pub visit-requires-clause-room : goal.visit-requires-clause-room
visit-requires-clause-room g c =
    under_room g.C.Child.model (moment_of c.args.w.now) (moment_of c.visits.w) 1 c.unvisited_at-i.result c.visits.invariant.under c.requires.room
    (left_unset (moment_of c.visits.w).visited c.pick-place.result c.unvisited_at-i.result c.unvisited_at-i.ensures)

pub returns-clause-sweep : goal.returns-clause-sweep
returns-clause-sweep g c =
    let model = g.C.Child.model in
    let answers : ℕ → ℕ → ℕ → Type 0 = λ sweep left answer. g.F.Fn.post c.args.order.now.f (sweep, (left, tt)) answer in
    let was = c.visits.invariant in
    let s = moment_of c.args.w.now in
    let t = moment_of c.visits.w in
    let none : unvisited t.visited ≡ [] = empty_list (unvisited t.visited) (omega (arith, was.left, c.visits-test.false)) in
    subst (λ x. IsSweeping model answers c.args.number s [] x) (sym c.end_sweep.ensures.visited)
    (subst (λ xs. IsSweeping model answers c.args.number s xs (unmarked t)) none was.visits)

pub visit-requires-clause-child : goal.visit-requires-clause-child
visit-requires-clause-child g c =
    let t = moment_of c.visits.w in
    let inside = slice_get_within t.visited c.unvisited_at-i.result false (left_unset t.visited c.pick-place.result c.unvisited_at-i.result c.unvisited_at-i.ensures) in
    omega (arith, inside, c.visits.invariant.under.marks, c.visits.invariant.under.each)

pub returns-clause-nearer : goal.returns-clause-nearer
returns-clause-nearer g c = λ n u states end final.
    let model = g.C.Child.model in
    let t = moment_of c.visits.w in
    let none : length (unvisited t.visited) ≡ 0 = omega (arith, c.visits.invariant.left, c.visits-test.false) in
    subst (IsFinal model (n + 1) u) (sym c.end_sweep.ensures.visited) (under_final model (moment_of c.args.w.now) t (replicate (length t.visited) false) c.visits.invariant.under none n u states end final)

pub visited_below-first-requires : goal.visited_below-first-requires
visited_below-first-requires g c =
    let was = c.visits.invariant in
    let t = moment_of c.visits.w in
    let i : ℕ = c.unvisited_at-i.result in
    let unset = left_unset t.visited c.pick-place.result i c.unvisited_at-i.ensures in
    let inside = slice_get_within t.visited i false unset in
    let low : c.visits.first ≤ i = first_low t.visited c.visits.first i was.first unset in
    omega (arith, low, inside, was.under.marks, c.children-left.ensures, c.children-left.type_inv)
