use Rattle.std.proofs.Common.{◌≡◌, ℕ, ◌<◌, ◌++◌, [], ◌∷◌, List, Some, length, refl, ap, arith, subst, sym, ◌∙◌, inl, inr}
use Rattle.std.specs.Prelude.{slice_get, All}
use Rattle.std.proofs.lemmas.Bool.{cases_lt}
use Rattle.std.proofs.lemmas.Option.{slice_get_read}
use Rattle.code_isa.specs.Checks.{IsChecked}
use Rattle.linked_units.specs.declared.unit.Unit as declared
use Rattle.linked_units.specs.declared.figures.Figures.{Figures}
use Rattle.linked_units.specs.Figures.{factor_of}
use Rattle.linked_units.specs.Units.{HasCode}
use Rattle.linked_units.specs.code.Counting.{all_joined, with_factor, AreFigures}
use Rattle.linked_units.proofs.Places.{code_is, one_code, kids_lower, code_within}
use Rattle.linked_units.proofs.Counting.{figures_more}
use Rattle.linked_units.proofs.figures.all_figures.Goals as goal

pub figures_of-own-requires : goal.figures_of-own-requires
figures_of-own-requires c =
    let units = c.args.units.now in
    let u : declared.Unit = c.unit-item.result in
    let n : ℕ = c.loop-unit.unit-index in
    let is : slice_get units n ≡ Some u = slice_get_read units (length units) n u refl c.loop-unit-test.true c.unit-item.is in
    let long : n ≡ length c.as_slice.result.now = omega arith in
    subst (λ i. All (λ kid. kid < i) u.kids) long (kids_lower units n u c.requires.joined is)

pub loop-unit-preserved : goal.loop-unit-preserved
loop-unit-preserved c =
    let units = c.args.units.now in
    let u : declared.Unit = c.unit-item.result in
    let n : ℕ = c.loop-unit.unit-index in
    let figures = c.loop-unit.figures.items in
    let is : slice_get units n ≡ Some u = slice_get_read units (length units) n u refl c.loop-unit-test.true c.unit-item.is in
    let sized : length figures ≡ n = c.loop-unit.invariant.sized in
    let here : slice_get units (length figures) ≡ Some u = subst (λ i. slice_get units i ≡ Some u) (sym sized) is in
    let lower : All (λ kid. kid < length figures) u.kids = subst (λ i. All (λ kid. kid < i) u.kids) (sym sized) (kids_lower units n u c.requires.joined is) in
    let pushed : c.push.new.self.items ≡ figures ++ with_factor (factor_of u.code) (all_joined figures u.kids) ∷ [] =
    c.in_ok-push.ensures.items ∙ ap (λ (f : Figures). figures ++ f ∷ []) (c.figures_of-own.ensures.figures ∙
    ap (λ (fs : List Figures). with_factor (factor_of u.code) (all_joined fs u.kids)) c.as_slice.ensures.value) in
    let more = figures_more figures units u c.loop-unit.invariant.right here lower in
    record {
      sized = omega (arith, c.in_ok-push.ensures.len);
      right = subst (λ (fs : List Figures). AreFigures fs units) (sym pushed) more;
      checked = λ k m inside h. elim (cases_lt k n) [
        | inl before ↦ c.loop-unit.invariant.checked k m before h
        | inr above ↦ (
            let e : k ≡ n = omega arith in
            let same : u.code ≡ m = one_code units n u.code m (code_is units n u is) (subst (λ i. HasCode units i m) e h) in
            subst (λ x. IsChecked x) same c.figures_of-own.ensures.checked)
      ];
    }

pub returns-clause-checked : goal.returns-clause-checked
returns-clause-checked c = λ n m is.
    let inside = code_within c.args.units.now n m is in
    c.loop-unit.invariant.checked n m (omega arith) is
