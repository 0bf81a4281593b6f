use Rattle.std.proofs.Common.{◌≡◌, ◌∙◌, ℕ, take, get_or, sym, subst, arith}
use Rattle.std.specs.Prelude.{◌↔◌, ◌⊎◌}
use Rattle.std.proofs.lemmas.List.{take_more, take_all}
use Rattle.code_check.specs.code.Sets.{IsIn, row_of, IsInSome}
use Rattle.code_check.proofs.Bits.{row_at, joined_more}
use Rattle.code_check.proofs.flow.joined.Goals as goal

pub loop-slot-preserved : goal.loop-slot-preserved
loop-slot-preserved c =
    let inputs = c.args.inputs.now in
    let slots = c.args.slots.now in
    let k = c.loop-slot.slot-index in
    let slot = get_or slots k 0 in
    let row : c.as_slice.result.now ≡ row_of inputs slot =
    c.as_slice.ensures ∙ row_at inputs slot c.index-inputs-slot.result (c.requires.inside k 0 c.loop-slot-test.true) c.index-inputs-slot.is in
    let old = c.loop-slot.row.items in
    let new = c.join.new.row.items in
    record {
      size = c.join.ensures.size ∙ c.loop-slot.invariant.size;
      exact = subst (λ xs. (p : ℕ) → IsIn new p ↔ IsInSome inputs xs p) (sym (take_more slots k 0 c.loop-slot-test.true))
          (joined_more inputs (take k slots) old new slot c.loop-slot.invariant.exact (subst (λ r. (p : ℕ) → IsIn new p ↔ (IsIn old p ⊎ IsIn r p)) row c.join.ensures.joined));
    }

pub returns-clause-exact : goal.returns-clause-exact
returns-clause-exact c =
    subst (λ xs. (p : ℕ) → IsIn c.loop-slot.row.items p ↔ IsInSome c.args.inputs.now xs p) (take_all c.loop-slot.slot-index c.args.slots.now (omega (arith, c.loop-slot-test.false))) c.loop-slot.invariant.exact
