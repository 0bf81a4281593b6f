use Rattle.std.proofs.Common.{◌≡◌, ◌∙◌, true, pos, sym, ap, subst, rules}
use Rattle.std.specs.Prelude.{slice_index}
use Rattle.std.specs.Int.Signed.{lt_z, le_z}
use Rattle.std.proofs.lemmas.Int.{to_z-of_z}
use mir.Val.{SFits, to_z, of_z}
use mir.Syntax.{w128}
use Rattle.bit_ops.specs.Lists.{widths}
use Rattle.bit_ops.specs.Meaning.{insert_of}
use Rattle.std.specs.Prelude.{unsigned_abs}
use Rattle.net_ir.specs.Target.{place_in}
use Rattle.net_values.proofs.Stores.{stored_widths, stored_bit, place_there}
use Rattle.net_values.proofs.Layers.{read_width, read_word}
use Rattle.net_values.proofs.target.write_bit.Goals as goal

pub returns-then-place-from-clause-widths : goal.returns-then-place-from-clause-widths
returns-then-place-from-clause-widths c =
    stored_widths c.args.values.now c.args.x c.insert.result (c.insert.ensures.width ∙ sym (read_width c.args.values.now c.args.x c.index-values-x.result c.requires.there c.index-values-x.is))

pub returns-then-place-from-clause-words : goal.returns-then-place-from-clause-words
returns-then-place-from-clause-words c =
    let values = c.args.values.now in
    let x = c.args.x in
    let value = c.index-values-x.result in
    let b = c.args.bit in
    let z = c.args.place in
    let fits : SFits w128 z = search rules in
    let fits_end : SFits w128 c.from.result = search rules in
    let place : to_z w128 (of_z w128 z) ≡ z = simp to_z-of_z in
    let end : to_z w128 (of_z w128 c.from.result) ≡ c.from.result = simp to_z-of_z in
    let least : le_z (pos 0) z ≡ true = subst (λ y. le_z (pos 0) y ≡ true) place c.if-place-ge0.true in
    let most : lt_z z (to_z w128 (of_z w128 c.from.result)) ≡ true = subst (λ y. lt_z y (to_z w128 (of_z w128 c.from.result)) ≡ true) place c.if-place-from.true in
    let there : place_in (slice_index (widths values) x) z ≡ _ =
    ap (λ w. place_in w z) (read_width values x value c.requires.there c.index-values-x.is) ∙ place_there value.width z (to_z w128 (of_z w128 c.from.result)) least most (end ∙ c.from.ensures) in
    stored_bit values x (unsigned_abs z) b.word (place_in (slice_index (widths values) x) z) c.insert.result there
    (c.insert.ensures.value
    ∙ ap (λ y. insert_of (unsigned_abs y) b.width value.word b.word) place
    ∙ ap (λ n. insert_of (unsigned_abs z) n value.word b.word) c.requires.bit
    ∙ ap (λ word. insert_of (unsigned_abs z) 1 word b.word) (sym (read_word values x value c.requires.there c.index-values-x.is)))
