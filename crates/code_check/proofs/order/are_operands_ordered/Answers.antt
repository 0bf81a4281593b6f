use Rattle.std.proofs.Common.{◌≡◌, ◌∙◌, ◌+◌, ◌<◌, true, refl, inl, inr, subst, sym, arith}
use Rattle.std.specs.Prelude.{slice_get, Some, All}
use Rattle.std.proofs.lemmas.Bool.{cases_lt}
use Rattle.std.proofs.lemmas.Option.{slice_get_within, get_or_from_slice_get}
use Rattle.code_isa.specs.declared.machine.Instr.{Instr}
use Rattle.code_isa.specs.Slots.{operand_slots}
use Rattle.code_check.proofs.order.are_operands_ordered.Goals as goal

pub loop-k-preserved : goal.loop-k-preserved
loop-k-preserved c j i low at =
    let code = c.args.code.now in
    let k = c.loop-k.k in
    let yes : c.has_operands_below.result ≡ true = c.if-not-has_operands_below.false in
    elim (cases_lt j k) [
      | inl before ↦ c.loop-k.invariant j i before at
      | inr here ↦
          let same : j ≡ k = omega arith in
          let item : c.index-code-k.result ≡ i = c.index-code-k.is ∙ get_or_from_slice_get code k i c.index-code-k.result (subst (λ n. slice_get code n ≡ Some i) same at) in
          subst (λ n. All (λ slot. slot < c.args.first + n) (operand_slots i)) (sym same)
          (subst (λ (x : Instr). All (λ slot. slot < c.args.first + k) (operand_slots x)) item (c.has_operands_below.ensures.0 yes))
    ]

pub returns : goal.returns
returns c = (λ _ k i at. c.loop-k.invariant k i (omega (arith, slice_get_within c.args.code.now k i at, c.loop-k-test.false)) at, λ _. refl)
