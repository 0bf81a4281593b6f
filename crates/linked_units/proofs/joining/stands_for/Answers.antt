use Rattle.std.proofs.Common.{◌≡◌, Some, refl, sym, ap, subst, ◌∙◌}
use Rattle.std.specs.Prelude.{slice_get}
use Rattle.std.proofs.lemmas.Option.{slice_get_read}
use Rattle.std.proofs.lemmas.Bool.{true≢false}
use Rattle.code_isa.specs.declared.machine.Machine.{Machine}
use Rattle.linked_units.specs.declared.unit.Unit as declared
use Rattle.linked_units.specs.Units.{HasCode}
use Rattle.linked_units.proofs.Places.{code_is}
use Rattle.linked_units.proofs.Zips.{stands, face_stands, summary_stands}
use Rattle.linked_units.proofs.joining.stands_for.Goals as goal

pub returns-then-is_same_face : goal.returns-then-is_same_face
returns-then-is_same_face c =
    let u : declared.Unit = c.index-units-kid.result in
    let is : slice_get c.args.units.now c.args.kid ≡ Some u = slice_get_read c.args.units.now _ c.args.kid u refl c.requires c.index-units-kid.is in
    let m : Machine = c.machine-m.result.now in
    let same : u.code ≡ m = ap (λ (x : declared.Unit). x.code) c.index-units-kid.is ∙ sym c.machine-m.ensures.same in
    let code : HasCode c.args.units.now c.args.kid m = subst (λ (k : Machine). HasCode c.args.units.now c.args.kid k) same (code_is c.args.units.now c.args.kid u is) in (
      λ h. stands c.args.units.now c.args.kid c.args.child.now m code (c.is_same_face.ensures.0 c.if-is_same_face.true) (c.is_same_summary.ensures.0 h),
      λ s. c.is_same_summary.ensures.1 (summary_stands c.args.units.now c.args.kid c.args.child.now m code s),
    )

pub returns-else-is_same_face : goal.returns-else-is_same_face
returns-else-is_same_face c =
    let u : declared.Unit = c.index-units-kid.result in
    let is : slice_get c.args.units.now c.args.kid ≡ Some u = slice_get_read c.args.units.now _ c.args.kid u refl c.requires c.index-units-kid.is in
    let m : Machine = c.machine-m.result.now in
    let same : u.code ≡ m = ap (λ (x : declared.Unit). x.code) c.index-units-kid.is ∙ sym c.machine-m.ensures.same in
    let code : HasCode c.args.units.now c.args.kid m = subst (λ (k : Machine). HasCode c.args.units.now c.args.kid k) same (code_is c.args.units.now c.args.kid u is) in (
      λ h. absurd (true≢false (sym h ∙ c.if-is_same_face.false)),
      λ s. c.is_same_face.ensures.1 (face_stands c.args.units.now c.args.kid c.args.child.now m code s),
    )
