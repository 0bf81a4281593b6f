use Rattle.std.proofs.Common.{◌≡◌, ◌<◌, ◌∙◌, length, sym, ap, arith}
use Rattle.std.specs.Prelude.{slice_get, Some, None, if◌then◌else◌}
use Rattle.std.proofs.lemmas.Option.{same_Some}
use Rattle.bit_ops.specs.Lists.{words}
use Rattle.code_isa.specs.declared.machine.Machine.{Machine}
use Rattle.code_isa.specs.declared.machine.Kid.{Kid}
use Rattle.code_isa.specs.Faces.{input_count}
use Rattle.code_isa.specs.Tree.{held_of, words_at}
use Rattle.wrapper_core.specs.declared.wrapped.Wrapped.{Wrapped}
use Rattle.wrapper_core.proofs.Blocking.{item_at}
use Rattle.wrapper_core.proofs.Seats.{stands_ready}
use Rattle.wrapper_core.proofs.Cores.{found}
use Rattle.wrapper_core.proofs.Worlds.{calm_phase}
use Rattle.wrapper_core.proofs.world.World.is_stale.Goals as goal

pub differs-requires-clause-ready : goal.differs-requires-clause-ready
differs-requires-clause-ready g c =
    let w = c.args.self.now in
    let m = w.block.code.value in
    let children = w.children.items in
    let i = c.args.i in
    let kid = c.index-as_slice-i.result in
    let child = c.index.result.now in
    let world = c.requires.world in
    let inside : i < length children = omega (arith, c.if-i-len.false, c.len.ensures, w.children.ok.0) in
    let kids : c.as_slice.result.now ≡ m.kids = c.as_slice.ensures ∙ ap (λ (x : Machine). x.kids) (c.machine.ensures.same ∙ c.as_ref.ensures) in
    let kid_at : slice_get m.kids i ≡ Some kid = item_at m.kids c.as_slice.result.now i kid kids (omega (arith, inside, world.core.children_each, ap length kids)) c.index-as_slice-i.is in
    let child_at : slice_get children i ≡ Some child = found children i child inside c.index.ensures in
    let seat = world.core.seated i kid child kid_at child_at in
    (stands_ready g.C.Child.model g.C.Child.ready g.C.Child.struck kid child seat ((world.calm c.if-self.false).1 i child child_at)).ready_now

pub differs-requires-clause-sized : goal.differs-requires-clause-sized
differs-requires-clause-sized g c =
    let w = c.args.self.now in
    let m = w.block.code.value in
    let children = w.children.items in
    let i = c.args.i in
    let kid = c.index-as_slice-i.result in
    let child = c.index.result.now in
    let world = c.requires.world in
    let inside : i < length children = omega (arith, c.if-i-len.false, c.len.ensures, w.children.ok.0) in
    let kids : c.as_slice.result.now ≡ m.kids = c.as_slice.ensures ∙ ap (λ (x : Machine). x.kids) (c.machine.ensures.same ∙ c.as_ref.ensures) in
    let kid_at : slice_get m.kids i ≡ Some kid = item_at m.kids c.as_slice.result.now i kid kids (omega (arith, inside, world.core.children_each, ap length kids)) c.index-as_slice-i.is in
    let child_at : slice_get children i ≡ Some child = found children i child inside c.index.ensures in
    let seat = world.core.seated i kid child kid_at child_at in
    ap length (c.as_slice-places.ensures ∙ ap (λ (k : Kid). k.ins) (sym c.index-as_slice-i.is)) ∙ kid.all_joined ∙ ap input_count (sym seat.face)

pub returns : goal.returns
returns g c =
    let w = c.args.self.now in
    let m = w.block.code.value in
    let children = w.children.items in
    let i = c.args.i in
    let kid = c.index-as_slice-i.result in
    let child = c.index.result.now in
    let world = c.requires.world in
    let inside : i < length children = omega (arith, c.if-i-len.false, c.len.ensures, w.children.ok.0) in
    let kids : c.as_slice.result.now ≡ m.kids = c.as_slice.ensures ∙ ap (λ (x : Machine). x.kids) (c.machine.ensures.same ∙ c.as_ref.ensures) in
    let kid_at : slice_get m.kids i ≡ Some kid = item_at m.kids c.as_slice.result.now i kid kids (omega (arith, inside, world.core.children_each, ap length kids)) c.index-as_slice-i.is in
    let child_at : slice_get children i ≡ Some child = found children i child inside c.index.ensures in
    let seat = world.core.seated i kid child kid_at child_at in
    let slots : c.as_slice-2.result.now ≡ w.block.slots.items = c.as_slice-2.ensures.value in
    let places : c.as_slice-places.result.now ≡ kid.ins = c.as_slice-places.ensures ∙ ap (λ (k : Kid). k.ins) (sym c.index-as_slice-i.is) in
    let same : words_at (words c.as_slice-2.result.now) c.as_slice-places.result.now ≡ words_at (words w.block.slots.items) kid.ins =
    ap (λ xs. words_at (words xs) c.as_slice-places.result.now) slots ∙ ap (words_at (words w.block.slots.items)) places in (
      λ t. record {
        calm = calm_phase w.striking w.before.items (if w.sampled then Some (words w.sampling.next.items) else None) c.if-self.false;
        kid = kid;
        kid_at = kid_at;
        was = child;
        was_at = child_at;
        differs = λ e. c.differs.ensures.0 t (e ∙ sym same);
      },
      λ stale.
          let child_same : stale.was ≡ child = same_Some stale.was child (sym stale.was_at ∙ child_at) in
          let kid_same : stale.kid ≡ kid = same_Some stale.kid kid (sym stale.kid_at ∙ kid_at) in
          c.differs.ensures.1 (λ e. stale.differs (ap (λ (x : Wrapped g.row.C.Denot). held_of (g.C.Child.model x.child).state) child_same ∙ e ∙ same ∙ ap (λ (k : Kid). words_at (words w.block.slots.items) k.ins) (sym kid_same))),
    )
