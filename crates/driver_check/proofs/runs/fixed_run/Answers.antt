use Rattle.std.proofs.Common.{◌≡◌, ℕ, Bool, ℤ, pos, ◌-ℤ◌, ap, ◌∙◌, rules}
use Rattle.std.proofs.lemmas.Int.{to_z-of_z}
use mir.Val.{SFits, to_z, of_z}
use mir.Syntax.{w128}
use Rattle.net_ir.specs.Value.{whole_number, lowest_from}
use Rattle.driver_check.specs.code.Runs.{covered}
use Rattle.driver_check.proofs.runs.fixed_run.Goals as goal

-- the lowest place, from what its parts are
lowest_place : (signed down : Bool) (w low n m a b : ℕ) (z l f : ℤ) → n ≡ m → a ≡ b → z ≡ whole_number signed n a → l ≡ lowest_from down w z → f ≡ pos low →
    (l -ℤ f) ≡ (lowest_from down w (whole_number signed m b) -ℤ pos low)
lowest_place signed down w low n m a b z l f width word number lowest from =
    let same : z ≡ whole_number signed m b = number ∙ ap (λ k. whole_number signed k a) width ∙ ap (whole_number signed m) word in
    ap (λ x. x -ℤ f) (lowest ∙ ap (lowest_from down w) same) ∙ ap (λ x. lowest_from down w (whole_number signed m b) -ℤ x) from

pub returns : goal.returns
returns c =
    let p = c.args.position.now in
    let v = c.args.var.now in
    let number : SFits w128 c.whole_number-number.result = search rules in
    let lowest = simp to_z-of_z at c.lowest_from-lowest.ensures.lowest in
    let l = c.lowest_from-lowest.result in
    let f = c.from.result in
    let fits_l : SFits w128 l = search rules in
    let fits_f : SFits w128 f = search rules in
    let fits : SFits w128 (l -ℤ f) = search rules in
    let passed : to_z w128 (of_z w128 (to_z w128 (of_z w128 l) -ℤ to_z w128 (of_z w128 f))) ≡ l -ℤ f = simp to_z-of_z in
    c.covered.ensures
    ∙ ap (λ z. covered z p.width v.width)
    (passed ∙ lowest_place p.at_signed p.down p.width v.low _ _ _ _ _ _ _ c.value_at_zero.ensures.width c.value_at_zero.ensures.word c.whole_number-number.ensures.number lowest c.from.ensures)
