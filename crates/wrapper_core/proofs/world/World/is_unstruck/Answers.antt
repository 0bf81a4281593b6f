use Rattle.std.proofs.Common.{◌≡◌, ◌<◌, ◌∙◌, Bool, true, false, length, refl, sym, ap, arith}
use Rattle.std.specs.Prelude.{slice_get, Some, not}
use Rattle.std.proofs.lemmas.Option.{same_Some}
use Rattle.wrapper_core.specs.declared.wrapped.Wrapped.{Wrapped}
use Rattle.wrapper_core.proofs.Cores.{found}
use Rattle.wrapper_core.proofs.world.World.is_unstruck.Goals as goal

not_true : (b : Bool) → not b ≡ true → b ≡ false
not_true true e = sym e
not_true false e = refl

not_from : (b : Bool) → b ≡ false → not b ≡ true
not_from true e = sym e
not_from false e = refl

pub returns : goal.returns
returns g c =
    let children = c.args.self.now.children.items in
    let child = c.index.result.now in
    let inside : c.args.i < length children = omega (arith, c.if-i-len.false, c.len.ensures, c.args.self.now.children.ok.0) in
    let at : slice_get children c.args.i ≡ Some child = found children c.args.i child inside c.index.ensures in (
      λ t. record { was = child; was_at = at; unstruck = not_true child.struck t },
      λ has. not_from child.struck (ap (λ (x : Wrapped g.row.C.Denot). x.struck) (same_Some child has.was (sym at ∙ has.was_at)) ∙ has.unstruck),
    )
