use Rattle.std.proofs.Common.{◌≡◌, ◌≤◌, ◌+◌, ◌∙◌, true, false, suc, drop, length, sym, ap, arith}
use Rattle.std.specs.Prelude.{slice_get, Some}
use Rattle.wrapper_core.specs.World.{moment_of}
use Rattle.settle_loop.specs.Sweeps.{unset_from}
use Rattle.settle_loop.proofs.Marks.{pass_set, pass_unset, at_unset, none_past, skip_set}
use Rattle.settle_loop.proofs.visits.unvisited_at.Goals.{then-not-is_visited+else-before-eq0, else-not-is_visited}
use Rattle.settle_loop.proofs.visits.unvisited_at.Goals as goal

pub loop-i-init : goal.loop-i-init
loop-i-init g c = ap (λ xs. slice_get xs c.args.place) (skip_set c.args.first (moment_of c.args.w.now).visited c.requires.first.within c.requires.first.all)

pub loop-i-preserved : goal.loop-i-preserved
loop-i-preserved g c =
    let marks = (moment_of c.args.w.now).visited in
    elim c.if-not-is_visited.branch [
      | then-not-is_visited+else-before-eq0 w ↦
          let unset : slice_get marks c.loop-i.i ≡ Some false = c.is_visited.ensures ∙ ap (λ b. Some b) w.if-not-is_visited.true in
          let more : c.loop-i.before ≡ suc c.if-not-is_visited.before = omega (arith, w.before-is, w.if-before-eq0.false) in
          pass_unset marks c.loop-i.i c.loop-i.before c.if-not-is_visited.before unset more ∙ c.loop-i.invariant
      | else-not-is_visited w ↦
          let set_so : slice_get marks c.loop-i.i ≡ Some true = c.is_visited.ensures ∙ ap (λ b. Some b) w.if-not-is_visited.false in
          ap (slice_get (unset_from (c.loop-i.i + 1) (drop (c.loop-i.i + 1) marks))) w.before-is
          ∙ pass_set marks c.loop-i.i c.loop-i.before set_so ∙ c.loop-i.invariant
    ]

pub returns-then-before-eq0 : goal.returns-then-before-eq0
returns-then-before-eq0 g c =
    let marks = (moment_of c.args.w.now).visited in
    sym c.loop-i.invariant ∙ ap (slice_get (unset_from c.loop-i.i (drop c.loop-i.i marks))) c.if-before-eq0.true ∙ at_unset marks c.loop-i.i (c.is_visited.ensures ∙ ap (λ b. Some b) c.if-not-is_visited.true)

pub returns : goal.returns
returns g c =
    let marks = (moment_of c.args.w.now).visited in
    let past : length marks ≤ c.loop-i.i = omega (arith, c.loop-i-test.false, c.children-i-end.ensures, c.requires.world.visited_each, c.requires.world.core.children_each) in
    absurd (none_past marks c.loop-i.i c.loop-i.before c.args.place past c.requires.place c.loop-i.invariant)
