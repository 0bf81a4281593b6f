use Rattle.std.proofs.Common.{◌≡◌, ℕ, ◌+◌, ◌-◌, ◌≤◌, Bool, true, false, ℤ, pos, ◌-ℤ◌, sym, ap, ◌∙◌, arith}
use Rattle.std.specs.Prelude.{if◌then◌else◌}
use Rattle.std.proofs.lemmas.Int.{ints}
use Rattle.bit_ops.specs.Width.{IsWidth}
use Rattle.net_ir.specs.Value.{lowest_from, bits_from}
use Rattle.net_values.proofs.term.pick.Goals as goal
use Rattle.net_values.proofs.term.pick.Goals.{then-down, else-down}

-- how far above the lowest position the lowest of so many bits stands
lowest_place : (down : Bool) (z p : ℤ) (w low a b : ℕ) → IsWidth w → z ≡ p → a ≡ low → b ≡ (if down then w - 1 else 0) →
    z -ℤ pos (a + b) ≡ lowest_from down w p -ℤ pos low
lowest_place true z p w low a b width e f g = let h : 1 ≤ w = width.0 in omega (arith, ints)
lowest_place false z p w low a b width e f g = omega (arith, ints)

pub returns-clause-word : goal.returns-clause-word
returns-clause-word c =
    let w = c.args.width in
    let above : c.if-down.above ≡ (if c.args.down then w - 1 else 0) = elim c.if-down.branch [
      | then-down t ↦ t.above-is ∙ sym (ap (λ d. if d then w - 1 else 0) t.if-down.true)
      | else-down t ↦ t.above-is ∙ sym (ap (λ d. if d then w - 1 else 0) t.if-down.false)
    ] in
    c.bits_from.ensures.word
    ∙ ap (λ z. bits_from z w c.args.base.word)
    (lowest_place c.args.down _ _ w c.args.low _ _ c.requires c.number-position.ensures c.from.ensures (c.from-2.ensures ∙ above))
