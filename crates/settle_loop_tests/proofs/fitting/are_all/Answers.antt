use Rattle.std.proofs.Common.{◌≡◌, ◌++◌, ◌∷◌, [], ◌∙◌, get_or, replicate, ap, arith}
use Rattle.std.proofs.lemmas.List.{take_more, replicate_more}
use Rattle.settle_loop_tests.proofs.fitting.are_all.Goals as goal

pub loop-k-preserved : goal.loop-k-preserved
loop-k-preserved c =
    let ws = c.args.widths.now in
    let k = c.loop-k.k in
    let here : get_or ws k 0 ≡ c.args.width = omega arith in
    take_more ws k 0 c.loop-k-test.true ∙ ap (λ xs. xs ++ get_or ws k 0 ∷ []) c.loop-k.invariant
    ∙ ap (λ n. replicate k c.args.width ++ n ∷ []) here ∙ replicate_more k c.args.width
