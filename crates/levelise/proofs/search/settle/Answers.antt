use Rattle.std.proofs.Common.{ℕ, ◌≡◌, ◌<◌, ◌+◌, length, take, get_or, set, List, Contains, sym, subst, arith, ◌∙◌, inl, inr}
use Rattle.std.proofs.lemmas.Bool.{cases_eq}
use Rattle.std.proofs.lemmas.Grind.{common_steps}
use Rattle.std.proofs.lemmas.List.{length-set, get_or-set_same, get_or-set_other, take_all}
use Rattle.levelise.specs.declared.search.Mark.{Mark}
use Rattle.levelise.specs.declared.search.Mark.TheVariants.{New, Done}
use Rattle.levelise.specs.Search.{mark_of}
use Rattle.levelise.proofs.Lists.{front_grows, Contains-take_more, Contains-take_at}
use Rattle.levelise.proofs.search.settle.Goals as goal

-- a node of the front is marked, one more node on
settled_more : (marks : List Mark) (part : List ℕ) (i : ℕ) → i < length part → get_or part i 0 < length marks →
    ((a : ℕ) → Contains (take i part) a → mark_of marks a ≡ Done) → (a : ℕ) → Contains (take (i + 1) part) a →
    mark_of (set marks (get_or part i 0) Done) a ≡ Done
settled_more marks part i h fits before a there =
    elim (cases_eq a (get_or part i 0)) [
      | inl same ↦ rw same (get_or-set_same marks (get_or part i 0) Done New fits)
      | inr other ↦
          rw (get_or-set_other marks (get_or part i 0) a Done New other)
          (elim (Contains-take_more part i 0 a h there) [
            | inl earlier ↦ before a earlier
            | inr here ↦ absurd (other (sym here))
          ])
    ]

-- a node outside the front keeps its mark, one more node on
others_more : (was marks : List Mark) (part : List ℕ) (i : ℕ) → i < length part →
    ((a : ℕ) → (Contains (take i part) a → ⊥) → mark_of marks a ≡ mark_of was a) → (a : ℕ) →
    (Contains (take (i + 1) part) a → ⊥) → mark_of (set marks (get_or part i 0) Done) a ≡ mark_of was a
others_more was marks part i h before a out =
    let other : a ≡ get_or part i 0 → ⊥ =
    λ same. out (subst (λ x. Contains (take (i + 1) part) x) (sym same) (Contains-take_at (i + 1) part i 0 (omega arith) h)) in
    get_or-set_other marks (get_or part i 0) a Done New other
    ∙ before a (λ earlier. out (front_grows part i a earlier))

pub loop-node-preserved : goal.loop-node-preserved
loop-node-preserved c =
    let part = c.args.part.now in
    let i = c.loop-node.node-index in
    let h : i < length part = omega arith in
    record {
      size = rw (length-set c.loop-node.marks.items (get_or part i 0) Done) c.loop-node.invariant.size;
      settled = settled_more c.loop-node.marks.items part i h (rw c.loop-node.invariant.size (c.requires i 0 h)) c.loop-node.invariant.settled;
      others = others_more c.args.marks.now.items c.loop-node.marks.items part i h c.loop-node.invariant.others;
      list = grind (arith, common_steps);
    }

pub returns-clause-settled : goal.returns-clause-settled
returns-clause-settled c =
    λ a there. c.loop-node.invariant.settled a (subst (λ xs. Contains xs a) (sym (take_all c.loop-node.node-index c.args.part.now (omega arith))) there)
