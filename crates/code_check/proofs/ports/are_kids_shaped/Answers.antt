use Rattle.std.proofs.Common.{◌≡◌, ◌∙◌, get_or, refl, subst, sym, true, arith}
use Rattle.std.proofs.lemmas.Bool.{true≢false, false≢true}
use Rattle.code_isa.specs.declared.machine.Kid.{Kid}
use Rattle.code_isa.specs.Checks.{IsFaceShape}
use Rattle.code_check.proofs.Tests.{all_more}
use Rattle.code_check.proofs.ports.are_kids_shaped.Goals as goal

abbrev IsShaped : Kid → Type 0
IsShaped kid = IsFaceShape kid.face kid.summary

pub returns-then-not-is_face_shape : goal.returns-then-not-is_face_shape
returns-then-not-is_face_shape c = (
  λ holds. absurd (false≢true holds),
  λ all.
      let here : IsShaped c.kid-item.result = subst IsShaped (sym c.kid-item.is) (all c.loop-kid.kid-index c.kid-item.result c.loop-kid-test.true) in
      let holds : c.is_face_shape.result ≡ true = c.is_face_shape.ensures.1 here in
      absurd (true≢false (sym holds ∙ c.if-not-is_face_shape.true)),
)

pub loop-kid-preserved : goal.loop-kid-preserved
loop-kid-preserved c =
    all_more IsShaped c.args.kids.now c.loop-kid.kid-index c.kid-item.result c.loop-kid-test.true c.kid-item.is (c.is_face_shape.ensures.0 c.if-not-is_face_shape.false) c.loop-kid.invariant

pub returns : goal.returns
returns c = (λ _ k d inside. c.loop-kid.invariant k d (omega (arith, c.loop-kid-test.false)), λ _. refl)
