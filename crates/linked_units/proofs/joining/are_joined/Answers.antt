use Rattle.std.proofs.Common.{◌≡◌, ℕ, ◌<◌, List, Some, length, refl, sym, ◌∙◌, ap, subst, inl, inr, arith}
use Rattle.std.specs.Prelude.{slice_get}
use Rattle.std.specs.List.{AllZip}
use Rattle.std.proofs.lemmas.Bool.{cases_lt, false≢true}
use Rattle.std.proofs.lemmas.Option.{slice_get_read}
use Rattle.code_isa.specs.declared.machine.Kid.{Kid}
use Rattle.code_isa.specs.declared.machine.Machine.{Machine}
use Rattle.linked_units.specs.declared.unit.Unit as declared
use Rattle.linked_units.specs.Units.{HasCode, kids_of, StandsFor}
use Rattle.linked_units.proofs.Places.{code_is, kids_are, one_code, code_within}
use Rattle.linked_units.proofs.joining.are_joined.Goals as goal

pub returns-then-not-are_kids : goal.returns-then-not-are_kids
returns-then-not-are_kids c =
    let units = c.args.units.now in
    let n : ℕ = c.loop-n.n in
    let u : declared.Unit = c.index-units-n.result in
    let is : slice_get units n ≡ Some u = slice_get_read units (length units) n u refl c.loop-n-test.true c.index-units-n.is in
    let same : u.code ≡ c.machine.result.now = sym c.machine.ensures.same in
    let kids : kids_of units n ≡ c.as_slice.result.now = kids_are units n u is ∙ sym c.as_slice.ensures in
    let children : u.code.kids ≡ c.as_slice-in-loop-n.result.now = ap (λ (m : Machine). m.kids) same ∙ sym c.as_slice-in-loop-n.ensures in (
      λ h. absurd (false≢true h),
      λ joined. sym c.if-not-are_kids.true ∙ c.are_kids.ensures.1
          (subst (λ (ks : List ℕ). AllZip (λ kid child. (kid < n) × StandsFor units kid child) ks c.as_slice-in-loop-n.result.now) kids
          (subst (λ (cs : List Kid). AllZip (λ kid child. (kid < n) × StandsFor units kid child) (kids_of units n) cs) children
          (joined n u.code (code_is units n u is)))),
    )

pub loop-n-preserved : goal.loop-n-preserved
loop-n-preserved c = λ i m inside is_code. elim (cases_lt i c.loop-n.n) [
  | inl before ↦ c.loop-n.invariant i m before is_code
  | inr above ↦ (
      let units = c.args.units.now in
      let n : ℕ = c.loop-n.n in
      let u : declared.Unit = c.index-units-n.result in
      let is : slice_get units n ≡ Some u = slice_get_read units (length units) n u refl c.loop-n-test.true c.index-units-n.is in
      let same : u.code ≡ c.machine.result.now = sym c.machine.ensures.same in
      let kids : kids_of units n ≡ c.as_slice.result.now = kids_are units n u is ∙ sym c.as_slice.ensures in
      let here : n ≡ i = omega arith in
      let code : m ≡ u.code = one_code units n m u.code (subst (λ j. HasCode units j m) (sym here) is_code) (code_is units n u is) in
      let children : m.kids ≡ c.as_slice-in-loop-n.result.now = ap (λ (k : Machine). k.kids) (code ∙ same) ∙ sym c.as_slice-in-loop-n.ensures in
      subst (λ j. AllZip (λ kid child. (kid < j) × StandsFor units kid child) (kids_of units j) m.kids) here
      (subst (λ (cs : List Kid). AllZip (λ kid child. (kid < n) × StandsFor units kid child) (kids_of units n) cs) (sym children)
      (subst (λ (ks : List ℕ). AllZip (λ kid child. (kid < n) × StandsFor units kid child) ks c.as_slice-in-loop-n.result.now) (sym kids)
      (c.are_kids.ensures.0 c.if-not-are_kids.false))))
]

pub returns : goal.returns
returns c = (λ _ n m is. let inside = code_within c.args.units.now n m is in c.loop-n.invariant n m (omega arith) is, λ _. refl)
