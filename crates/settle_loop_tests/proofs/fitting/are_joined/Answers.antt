use Rattle.std.proofs.Common.{◌≡◌, ◌<◌, ◌∙◌, length, inl, inr, sym, ap, subst, arith}
use Rattle.std.specs.Prelude.{slice_get}
use Rattle.std.proofs.lemmas.Bool.{cases_eq}
use Rattle.std.proofs.lemmas.Option.{same_Some, slice_get_within}
use Rattle.code_isa.specs.declared.machine.Kid.{Kid}
use Rattle.leaf_model.specs.declared.leaf.Leaf.{Leaf}
use Rattle.leaf_model.specs.Leaf.{model_of, IsReadyLeaf}
use Rattle.wrapper_core.proofs.Blocking.{item_at}
use Rattle.wrapper_core.proofs.Cores.{found}
use Rattle.wrapper_core.specs.Start.{IsJoined}
use Rattle.settle_loop_tests.proofs.fitting.are_joined.Goals as goal

pub is_joined-requires : goal.is_joined-requires
is_joined-requires c =
    let inside : c.loop-k.k < length c.args.leaves.now = omega arith in
    c.requires c.loop-k.k c.index-leaves-k.result (found c.args.leaves.now c.loop-k.k c.index-leaves-k.result inside c.index-leaves-k.is)

pub loop-k-preserved : goal.loop-k-preserved
loop-k-preserved c = λ j kid leaf low kid_at leaf_at.
    let kids = c.args.m.now.kids in
    let leaves = c.args.leaves.now in
    let levels = c.args.levels.now in
    let k = c.loop-k.k in
    let first = c.index-kids-k.result in
    let second = c.index-leaves-k.result in
    elim (cases_eq j k) [
      | inl here ↦
          let inside : k < length leaves = omega arith in
          let first_at = item_at kids c.as_slice-kids.result.now k first c.as_slice-kids.ensures c.loop-k-test.true c.index-kids-k.is in
          let kid_is : first ≡ kid = same_Some first kid (sym first_at ∙ ap (slice_get kids) (sym here) ∙ kid_at) in
          let second_at = found leaves k second inside c.index-leaves-k.is in
          let leaf_is : second ≡ leaf = same_Some second leaf (sym second_at ∙ ap (slice_get leaves) (sym here) ∙ leaf_at) in
          subst (λ (x : Kid). IsJoined model_of IsReadyLeaf levels x leaf) kid_is
          (subst (λ (y : Leaf). IsJoined model_of IsReadyLeaf levels first y) leaf_is (c.is_joined.ensures c.if-not-is_joined.false))
      | inr other ↦ c.loop-k.invariant j kid leaf (let e : j < k = omega (arith, low, other) in e) kid_at leaf_at
    ]

pub returns : goal.returns
returns c = λ yes. record {
  each = sym c.if-kids-leaves.false ∙ ap length c.as_slice-kids.ensures;
  joined = λ i kid leaf kid_at leaf_at.
      let inside = slice_get_within c.args.leaves.now i leaf leaf_at in
      c.loop-k.invariant i kid leaf
      (let e : i < c.loop-k.k = omega (arith, inside, c.loop-k-test.false, c.if-kids-leaves.false) in e) kid_at leaf_at;
}
