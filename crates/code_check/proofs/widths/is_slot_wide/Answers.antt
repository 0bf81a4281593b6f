use Rattle.std.proofs.Common.{◌≡◌, ◌∙◌, ℕ, List, map, get_or, subst, sym, true}
use Rattle.std.specs.Prelude.{All}
use Rattle.std.proofs.lemmas.Bool.{true≢false, false≢true}
use Rattle.bit_ops.specs.Width.{WidthsFit}
use Rattle.code_isa.specs.declared.machine.Reg.{Reg}
use Rattle.code_isa.specs.declared.machine.Kid.{Kid}
use Rattle.code_isa.specs.declared.machine.Instr.{Instr}
use Rattle.code_isa.specs.Faces.{input_widths, output_widths}
use Rattle.code_isa.specs.Slots.{slot_widths}
use Rattle.code_isa.specs.Values.{operand_widths}
use Rattle.code_check.proofs.widths.is_slot_wide.Goals as goal

abbrev IsWide : List ℕ → Instr → Type 0
IsWide widths i = WidthsFit i.op i.width i.lo (operand_widths widths i)

abbrev IsNextWide : List ℕ → Reg → Type 0
IsNextWide widths r = get_or widths r.next 0 ≡ r.width

abbrev AreInsWide : List ℕ → Kid → Type 0
AreInsWide widths kid = map (λ slot. get_or widths slot 0) kid.ins ≡ input_widths kid.face

abbrev HaveWidths : List ℕ → List ℕ → List ℕ → Type 0
HaveWidths widths slots wanted = map (λ slot. get_or widths slot 0) slots ≡ wanted

pub returns-then-not-have_widths : goal.returns-then-not-have_widths
returns-then-not-have_widths c =
    let m = c.args.m.now in
    let widths : c.as_slice-9.result.now ≡ slot_widths m = c.as_slice-9.ensures.value ∙ c.in_ok-widths.ensures in
    let wanted : c.as_slice-8.result.now ≡ output_widths m.face = c.as_slice-8.ensures.value ∙ c.in_ok-wanted.ensures in (
      λ holds. absurd (false≢true holds),
      λ wide.
          let outs : HaveWidths c.as_slice-9.result.now c.as_slice-7.result.now c.as_slice-8.result.now =
          subst (λ ws. HaveWidths ws c.as_slice-7.result.now c.as_slice-8.result.now) (sym widths)
          (subst (λ xs. HaveWidths (slot_widths m) xs c.as_slice-8.result.now) (sym c.as_slice-7.ensures) (subst (HaveWidths (slot_widths m) m.outs) (sym wanted) wide.outs)) in
          let holds : c.have_widths.result ≡ true = c.have_widths.ensures.1 outs in
          absurd (true≢false (sym holds ∙ c.if-not-have_widths.true)),
    )

pub returns : goal.returns
returns c =
    let m = c.args.m.now in
    let joined : c.as_slice-2.result.now ≡ slot_widths m = c.as_slice-2.ensures.value ∙ c.in_ok-widths.ensures in
    let operated : c.as_slice-4.result.now ≡ slot_widths m = c.as_slice-4.ensures.value ∙ c.in_ok-widths.ensures in
    let sampled : c.as_slice-6.result.now ≡ slot_widths m = c.as_slice-6.ensures.value ∙ c.in_ok-widths.ensures in
    let shown : c.as_slice-9.result.now ≡ slot_widths m = c.as_slice-9.ensures.value ∙ c.in_ok-widths.ensures in
    let wanted : c.as_slice-8.result.now ≡ output_widths m.face = c.as_slice-8.ensures.value ∙ c.in_ok-wanted.ensures in (
      λ holds. record {
        operations = subst (λ ws. All (IsWide ws) m.code) operated (subst (All (IsWide c.as_slice-4.result.now)) c.as_slice-3.ensures (c.is_code_wide.ensures.0 c.if-not-is_code_wide.false));
        nexts = subst (λ ws. All (IsNextWide ws) m.regs) sampled (subst (All (IsNextWide c.as_slice-6.result.now)) c.as_slice-5.ensures (c.are_nexts_wide.ensures.0 c.if-not-are_nexts_wide.false));
        outs = subst (λ ws. HaveWidths ws m.outs (output_widths m.face)) shown
            (subst (λ xs. HaveWidths c.as_slice-9.result.now xs (output_widths m.face)) c.as_slice-7.ensures
            (subst (HaveWidths c.as_slice-9.result.now c.as_slice-7.result.now) wanted (c.have_widths.ensures.0 c.if-not-have_widths.false)));
        ins = subst (λ ws. All (AreInsWide ws) m.kids) joined (subst (All (AreInsWide c.as_slice-2.result.now)) c.as_slice.ensures (c.in_ok-ins.ensures.0 holds));
      },
      λ wide. c.in_ok-ins.ensures.1 (subst (All (AreInsWide c.as_slice-2.result.now)) (sym c.as_slice.ensures) (subst (λ ws. All (AreInsWide ws) m.kids) (sym joined) wide.ins)),
    )
