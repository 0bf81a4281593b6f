use Rattle.std.proofs.Common.{◌≡◌, ◌-◌, length, take, get_or, Contains, sym, ap, arith, subst}
use Rattle.std.proofs.lemmas.Option.{get_or_from_slice_get}
use Rattle.std.proofs.lemmas.List.{length-take}
use Rattle.levelise.specs.Search.{Rises}
use Rattle.levelise.proofs.Lists.{Contains-take, Contains-front, Rises-take}
use Rattle.levelise.proofs.search.join_parts.Goals as goal

pub loop-start-preserved : goal.loop-start-preserved
loop-start-preserved c =
    let before = c.loop-start.starts.items in
    let front : c.pop.new.self.items ≡ take (length before - 1) before = rw (← c.loop-start.starts.ok.0) c.pop.ensures.rest in
    let last : get_or before (length before - 1) 0 ≡ c.in-Some.field-0.now =
    get_or_from_slice_get before (length before - 1) c.in-Some.field-0.now 0 (rw (← c.deref.ensures.value) (sym c.in-Some.ensures.value)) in
    record {
      rises = subst Rises (sym front) (Rises-take (length before - 1) before c.loop-start.invariant.rises);
      kept = λ s there low.
          subst (λ xs. Contains xs s) (sym front)
          (Contains-front before c.in-Some.field-0.now s last (λ same. omega arith) (c.loop-start.invariant.kept s there low));
      only = λ s there. c.loop-start.invariant.only s (Contains-take (length before - 1) before s (subst (λ xs. Contains xs s) front there));
      fewer = omega (arith, c.loop-start.invariant.fewer, ap length front, length-take (length before - 1) before);
    }
