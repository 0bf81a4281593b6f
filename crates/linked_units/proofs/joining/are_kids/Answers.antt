use Rattle.std.proofs.Common.{◌≡◌, ℕ, ◌<◌, length, get_or, refl, sym, ◌∙◌, subst, inl, inr, arith}
use Rattle.std.proofs.lemmas.Bool.{cases_lt, false≢true}
use Rattle.std.proofs.lemmas.List.{get_or_default}
use Rattle.code_isa.specs.declared.machine.Kid.{Kid}
use Rattle.linked_units.specs.Units.{StandsFor}
use Rattle.linked_units.proofs.Zips.{zip_length, zip_at, zip_each}
use Rattle.linked_units.proofs.joining.are_kids.Goals as goal

pub returns-then-kids-children : goal.returns-then-kids-children
returns-then-kids-children c = (
  λ h. absurd (false≢true h),
  λ h. absurd (c.if-kids-children.true (zip_length (λ kid child. (kid < c.args.n) × StandsFor c.args.units.now kid child) c.args.kids.now c.args.children.now h)),
)

pub returns-then-not-is_kid : goal.returns-then-not-is_kid
returns-then-not-is_kid c = (
  λ h. absurd (false≢true h),
  λ h. sym c.if-not-is_kid.true ∙ c.is_kid.ensures.1
      (subst (λ (x : Kid). (get_or c.args.kids.now c.loop-k.k 0 < c.args.n) × StandsFor c.args.units.now (get_or c.args.kids.now c.loop-k.k 0) x)
      (sym c.index-children-k.is)
      (zip_at (λ kid child. (kid < c.args.n) × StandsFor c.args.units.now kid child) c.args.kids.now c.args.children.now c.loop-k.k 0
      c.index-children-k.result h c.loop-k-test.true)),
)

pub loop-k-preserved : goal.loop-k-preserved
loop-k-preserved c = λ i d e inside. elim (cases_lt i c.loop-k.k) [
  | inl before ↦ c.loop-k.invariant i d e before
  | inr above ↦ (
      let kids = c.args.kids.now in
      let children = c.args.children.now in
      let k : ℕ = c.loop-k.k in
      let r : Kid = c.index-children-k.result in
      let same : k ≡ i = omega arith in
      let there : k < length children = omega (arith, c.if-kids-children.false) in
      subst (λ j. (get_or kids j d < c.args.n) × StandsFor c.args.units.now (get_or kids j d) (get_or children j e)) same
      (subst (λ (x : Kid). (get_or kids k d < c.args.n) × StandsFor c.args.units.now (get_or kids k d) x)
      (c.index-children-k.is ∙ get_or_default children k r e there)
      (subst (λ x. (x < c.args.n) × StandsFor c.args.units.now x r) (get_or_default kids k 0 d c.loop-k-test.true)
      (c.is_kid.ensures.0 c.if-not-is_kid.false))))
]

pub returns : goal.returns
returns c = (
  λ _. zip_each (λ kid child. (kid < c.args.n) × StandsFor c.args.units.now kid child) c.args.kids.now c.args.children.now c.if-kids-children.false
      (λ i d e inside. c.loop-k.invariant i d e (omega arith)),
  λ _. refl,
)
