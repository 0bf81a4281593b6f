use Rattle.std.proofs.Common.{◌≡◌, ◌<◌, ◌∙◌, ℕ, List, [], ◌∷◌, ◌++◌, length, map, take, get_or, ap, sym, arith, append_assoc}
use Rattle.std.proofs.lemmas.List.{map_more}
use Rattle.code_check.proofs.Bits.{row_at}
use Rattle.code_check.proofs.reads.add_kid.Goals as goal

pub loop-row-preserved : goal.loop-row-preserved
loop-row-preserved c =
    let kid = c.args.kid.now in
    let rows = kid.summary.rows in
    let k = c.loop-row.row-index in
    let f = λ (row : List ℕ). map (λ p. get_or kid.ins p 0) row in
    let inside : k < length rows = omega (arith, ap length c.as_slice-row-items.ensures, c.loop-row-test.true) in
    let item : c.row-item.result ≡ get_or rows k [] =
    row_at rows k c.row-item.result inside (c.row-item.is ∙ ap (λ xs. get_or xs k c.row-item.result) c.as_slice-row-items.ensures) in
    let made : c.in_ok-joined_row.field-0 ≡ f (get_or rows k []) =
    c.in_ok-joined_row.ensures ∙ ap (λ ins. map (λ p. get_or ins p 0) c.as_slice-in-loop-row.result.now) c.as_slice.ensures ∙ ap f (c.as_slice-in-loop-row.ensures ∙ item) in
    c.in_ok-push.ensures.ok ∙ ap (λ xs. xs ++ c.in_ok-joined_row.field-0 ∷ []) c.loop-row.invariant
    ∙ append_assoc c.args.rows.now (map f (take k rows)) (c.in_ok-joined_row.field-0 ∷ [])
    ∙ ap (λ xs. c.args.rows.now ++ xs) (ap (λ r. map f (take k rows) ++ r ∷ []) made ∙ sym (map_more f rows k [] inside))
