use Rattle.std.proofs.Common.{◌≡◌, ◌∙◌, pos, ◌+ℤ◌, sym, ap, arith, rules}
use Rattle.std.specs.Prelude.{slice_index}
use Rattle.std.specs.Int.{bit_at}
use Rattle.std.proofs.lemmas.Int.{to_z-of_z}
use mir.Val.{SFits, to_z, of_z}
use mir.Syntax.{w128}
use Rattle.bit_ops.specs.Lists.{words, widths}
use Rattle.net_ir.specs.Target.{place_in, write_at, overlaid}
use Rattle.net_values.proofs.Stores.{bits_more}
use Rattle.net_values.proofs.target.write_bits.Goals as goal

pub loop-n-preserved : goal.loop-n-preserved
loop-n-preserved c =
    let old = c.args.values.now in
    let x = c.args.x in
    let w = slice_index (widths old) x in
    let inv = c.loop-n.invariant in
    let f = to_z w128 (of_z w128 c.args.first) in
    let n = c.from.result in
    let fits_first : SFits w128 c.args.first = search rules in
    let fits_n : SFits w128 n = search rules in
    let first : f ≡ c.args.first = simp to_z-of_z in
    let from : to_z w128 (of_z w128 n) ≡ n = simp to_z-of_z in
    let sum : f +ℤ to_z w128 (of_z w128 n) ≡ c.args.first +ℤ pos c.loop-n.n = ap (λ y. y +ℤ to_z w128 (of_z w128 n)) first ∙ ap (λ y. c.args.first +ℤ y) (from ∙ c.from.ensures) in
    let fits : SFits w128 (c.args.first +ℤ pos c.loop-n.n) = search rules in
    let place : to_z w128 (of_z w128 (f +ℤ to_z w128 (of_z w128 n))) ≡ f +ℤ pos c.loop-n.n =
    ap (λ y. to_z w128 (of_z w128 y)) sum ∙ to_z-of_z w128 (c.args.first +ℤ pos c.loop-n.n) fits ∙ sym (ap (λ y. y +ℤ pos c.loop-n.n) first) in
    record {
      counted = omega arith;
      same_widths = c.write_bit.ensures.widths ∙ inv.same_widths;
      so_far = c.write_bit.ensures.words
          ∙ ap (λ m. overlaid (words c.loop-n.values) (write_at x (place_in m (to_z w128 (of_z w128 (f +ℤ to_z w128 (of_z w128 n))))) c.truncated.result.word)) (ap (λ ws. slice_index ws x) inv.same_widths)
          ∙ ap (λ z. overlaid (words c.loop-n.values) (write_at x (place_in w z) c.truncated.result.word)) place
          ∙ ap (λ b. overlaid (words c.loop-n.values) (write_at x (place_in w (f +ℤ pos c.loop-n.n)) b)) c.truncated.ensures.word
          ∙ ap (λ u. overlaid u (write_at x (place_in w (f +ℤ pos c.loop-n.n)) (bit_at c.args.word c.loop-n.n))) inv.so_far
          ∙ sym (bits_more (words old) x w f c.loop-n.n c.args.word);
    }
