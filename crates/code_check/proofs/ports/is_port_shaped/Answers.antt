use Rattle.std.proofs.Common.{◌≡◌, ◌<◌, ◌∙◌, ℕ, subst, sym, true}
use Rattle.std.specs.Prelude.{All}
use Rattle.std.proofs.lemmas.Bool.{true≢false, false≢true}
use Rattle.code_isa.specs.declared.machine.Reg.{Reg}
use Rattle.code_isa.specs.declared.machine.Kid.{Kid}
use Rattle.code_isa.specs.Checks.{IsFaceShape}
use Rattle.code_check.proofs.ports.is_port_shaped.Goals as goal

abbrev IsShaped : Kid → Type 0
IsShaped kid = IsFaceShape kid.face kid.summary

abbrev HasClock : ℕ → Reg → Type 0
HasClock count r = r.clock < count

abbrev HasClocks : ℕ → Kid → Type 0
HasClocks count kid = All (λ clock. clock < count) kid.clocks

pub returns-then-not-are_kids_shaped : goal.returns-then-not-are_kids_shaped
returns-then-not-are_kids_shaped c = (
  λ holds. absurd (false≢true holds),
  λ shaped.
      let holds : c.are_kids_shaped.result ≡ true = c.are_kids_shaped.ensures.1 (subst (All IsShaped) (sym c.as_slice.ensures) shaped.kids) in
      absurd (true≢false (sym holds ∙ c.if-not-are_kids_shaped.true)),
)

pub returns : goal.returns
returns c =
    let m = c.args.m.now in (
      λ holds. record {
        own = c.is_face_shape.ensures.0 c.if-not-is_face_shape.false;
        kids = subst (All IsShaped) c.as_slice.ensures (c.are_kids_shaped.ensures.0 c.if-not-are_kids_shaped.false);
        register_clocks = subst (λ n. All (HasClock n) m.regs) c.clock_count-count.ensures (subst (All (HasClock c.clock_count-count.result)) c.as_slice-2.ensures (c.have_clocks.ensures.0 c.if-not-have_clocks.false));
        kid_clocks = subst (λ n. All (HasClocks n) m.kids) c.clock_count-count.ensures (subst (All (HasClocks c.clock_count-count.result)) c.as_slice-3.ensures (c.are_kids_clocked.ensures.0 holds));
      },
      λ shaped. c.are_kids_clocked.ensures.1 (subst (All (HasClocks c.clock_count-count.result)) (sym c.as_slice-3.ensures) (subst (λ n. All (HasClocks n) m.kids) (sym c.clock_count-count.ensures) shaped.kid_clocks)),
    )
