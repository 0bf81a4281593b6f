use Rattle.std.proofs.Common.{◌≡◌, ◌<◌, ◌+◌, ◌++◌, ◌∷◌, [], ◌∙◌, inl, inr, length, map, take, drop, false, sym, ap, subst, arith}
use Rattle.std.specs.Prelude.{slice_get, Some}
use Rattle.std.specs.Vec.Iter.{into_iter_items}
use Rattle.std.proofs.lemmas.List.{length_push, map_push, take_more}
use Rattle.std.proofs.lemmas.Option.{slice_get_within, get_or_from_slice_get, same_Some}
use Rattle.code_isa.specs.declared.machine.Kid.{Kid}
use Rattle.wrapper_core.specs.declared.wrapped.Wrapped.{Wrapped}
use Rattle.wrapper_core.specs.Start.{IsNewWrapper}
use Rattle.wrapper_core.specs.code.Cores.{IsSeated}
use Rattle.wrapper_core.proofs.Cores.{found, got_push, at_front, front_taken}
use Rattle.wrapper_core.proofs.making.wrap_all.Goals as goal

pub wrap-requires-clause-ready : goal.wrap-requires-clause-ready
wrap-requires-clause-ready g c =
    let children = c.args.children.items in
    let kids = c.args.kids.now in
    let wrapped = c.loop-child.wrapped.items in
    let n = length wrapped in
    let child = c.in-Some.child in
    let kid = c.index-kids-at.result in
    let front : drop n children ≡ child ∷ into_iter_items c.next.new.self = sym c.loop-child.invariant.left ∙ c.in-Some.ensures.items in
    let child_at : slice_get children n ≡ Some child = at_front children n child (into_iter_items c.next.new.self) front in
    let place : c.len-at.result ≡ n = omega (arith, c.len-at.ensures, c.loop-child.wrapped.ok.0) in
    let inside : c.len-at.result < length kids = omega (arith, place, slice_get_within children n child child_at, c.requires.each) in
    let kid_at : slice_get kids n ≡ Some kid = ap (slice_get kids) (sym place) ∙ found kids c.len-at.result kid inside c.index-kids-at.is in
    let joined = c.requires.joined n kid child kid_at child_at in
    joined.0

pub wrap-requires-clause-face : goal.wrap-requires-clause-face
wrap-requires-clause-face g c =
    let children = c.args.children.items in
    let kids = c.args.kids.now in
    let wrapped = c.loop-child.wrapped.items in
    let n = length wrapped in
    let child = c.in-Some.child in
    let kid = c.index-kids-at.result in
    let front : drop n children ≡ child ∷ into_iter_items c.next.new.self = sym c.loop-child.invariant.left ∙ c.in-Some.ensures.items in
    let child_at : slice_get children n ≡ Some child = at_front children n child (into_iter_items c.next.new.self) front in
    let place : c.len-at.result ≡ n = omega (arith, c.len-at.ensures, c.loop-child.wrapped.ok.0) in
    let inside : c.len-at.result < length kids = omega (arith, place, slice_get_within children n child child_at, c.requires.each) in
    let kid_at : slice_get kids n ≡ Some kid = ap (slice_get kids) (sym place) ∙ found kids c.len-at.result kid inside c.index-kids-at.is in
    let joined = c.requires.joined n kid child kid_at child_at in
    joined.1

pub wrap-requires-clause-summary : goal.wrap-requires-clause-summary
wrap-requires-clause-summary g c =
    let children = c.args.children.items in
    let kids = c.args.kids.now in
    let wrapped = c.loop-child.wrapped.items in
    let n = length wrapped in
    let child = c.in-Some.child in
    let kid = c.index-kids-at.result in
    let front : drop n children ≡ child ∷ into_iter_items c.next.new.self = sym c.loop-child.invariant.left ∙ c.in-Some.ensures.items in
    let child_at : slice_get children n ≡ Some child = at_front children n child (into_iter_items c.next.new.self) front in
    let place : c.len-at.result ≡ n = omega (arith, c.len-at.ensures, c.loop-child.wrapped.ok.0) in
    let inside : c.len-at.result < length kids = omega (arith, place, slice_get_within children n child child_at, c.requires.each) in
    let kid_at : slice_get kids n ≡ Some kid = ap (slice_get kids) (sym place) ∙ found kids c.len-at.result kid inside c.index-kids-at.is in
    let joined = c.requires.joined n kid child kid_at child_at in
    joined.2

pub loop-child-preserved : goal.loop-child-preserved
loop-child-preserved g c =
    let children = c.args.children.items in
    let kids = c.args.kids.now in
    let wrapped = c.loop-child.wrapped.items in
    let n = length wrapped in
    let child = c.in-Some.child in
    let kid = c.index-kids-at.result in
    let front : drop n children ≡ child ∷ into_iter_items c.next.new.self = sym c.loop-child.invariant.left ∙ c.in-Some.ensures.items in
    let child_at : slice_get children n ≡ Some child = at_front children n child (into_iter_items c.next.new.self) front in
    let place : c.len-at.result ≡ n = omega (arith, c.len-at.ensures, c.loop-child.wrapped.ok.0) in
    let inside : c.len-at.result < length kids = omega (arith, place, slice_get_within children n child child_at, c.requires.each) in
    let kid_at : slice_get kids n ≡ Some kid = ap (slice_get kids) (sym place) ∙ found kids c.len-at.result kid inside c.index-kids-at.is in
    let joined = c.requires.joined n kid child kid_at child_at in
    let one = c.in_ok-one.one in
    let new = c.push.new.self.items in
    let step : new ≡ wrapped ++ one ∷ [] = c.in_ok-push.ensures.items in
    let size : length new ≡ n + 1 = ap length step ∙ length_push wrapped one in
    let before : n < length children = slice_get_within children n child child_at in
    record {
      left = front_taken children n child (into_iter_items c.next.new.self) front ∙ ap (λ k. drop k children) (sym size);
      children =
          ap (map (λ (x : Wrapped g.row.C.Denot). x.child)) step ∙ map_push (λ (x : Wrapped g.row.C.Denot). x.child) wrapped one
          ∙ ap (λ xs. xs ++ one.child ∷ []) c.loop-child.invariant.children ∙ ap (λ x. take n children ++ x ∷ []) (c.in_ok-one.ensures.child ∙ sym (get_or_from_slice_get children n child child child_at))
          ∙ sym (take_more children n child before) ∙ ap (λ k. take k children) (sym size);
      seated = λ i k x ki xi. elim (got_push wrapped one x i (ap (λ xs. slice_get xs i) (sym step) ∙ xi)) [
        | inl here ↦
            let same : kid ≡ k = same_Some kid k (sym kid_at ∙ ap (slice_get kids) (sym here.0) ∙ ki) in
            subst (λ (y : Wrapped g.row.C.Denot). IsSeated g.C.Child.model g.C.Child.ready g.C.Child.struck k y) (sym here.1) (subst (λ (y : Kid). IsSeated g.C.Child.model g.C.Child.ready g.C.Child.struck y one) same c.in_ok-one.ensures.seated)
        | inr there ↦ c.loop-child.invariant.seated i k x ki there
      ];
      wrappers = λ i x xi. elim (got_push wrapped one x i (ap (λ xs. slice_get xs i) (sym step) ∙ xi)) [
        | inl here ↦
            let fresh : IsNewWrapper (g.C.Child.model one.child).shown one.wrapper = subst (λ y. IsNewWrapper (g.C.Child.model y).shown one.wrapper) (sym c.in_ok-one.ensures.child) c.in_ok-one.ensures.wrapper in
            subst (λ (y : Wrapped g.row.C.Denot). IsNewWrapper (g.C.Child.model y.child).shown y.wrapper × (y.struck ≡ false)) (sym here.1) (fresh, c.in_ok-one.ensures.unstruck)
        | inr there ↦ c.loop-child.invariant.wrappers i x there
      ];
    }
