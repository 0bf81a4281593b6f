use Rattle.std.proofs.Common.{◌++◌, [], ◌∷◌, take, get_or, sym, subst}
use Rattle.std.proofs.lemmas.List.{take_more}
use Rattle.code_check.specs.code.Flow.{IsDeepest}
use Rattle.code_check.proofs.Bits.{deepest_more}
use Rattle.code_check.proofs.flow.deepest.Goals as goal

pub loop-slot-preserved : goal.loop-slot-preserved
loop-slot-preserved c =
    let depths = c.args.depths.now in
    let slots = c.args.slots.now in
    let k = c.loop-slot.slot-index in
    subst (λ xs. IsDeepest depths xs c.max-most.result) (sym (take_more slots k 0 c.loop-slot-test.true))
    (subst (IsDeepest depths (take k slots ++ get_or slots k 0 ∷ [])) (sym c.max-most.ensures) (deepest_more depths (take k slots) (get_or slots k 0) c.loop-slot.most c.loop-slot.invariant))
