use Rattle.std.proofs.Common.{◌≡◌, ◌<◌, ◌∙◌, length, refl, ap, arith}
use Rattle.std.specs.Prelude.{slice_get, Some}
use Rattle.code_isa.specs.declared.machine.Machine.{Machine}
use Rattle.wrapper_core.proofs.Blocking.{item_at}
use Rattle.wrapper_core.proofs.Cores.{found, core_same}
use Rattle.wrapper_core.proofs.unit.strike_at.Goals as goal

pub strike_child-requires-clause-seated : goal.strike_child-requires-clause-seated
strike_child-requires-clause-seated g c =
    let m = c.args.block.now.code.value in
    let children = c.args.children.now.items in
    let buffers = c.args.buffers.now.items in
    let i = c.args.i in
    let kid = c.index-as_slice-i.result in
    let child = c.index_mut.result.now in
    let buffer = c.index_mut-2.result.now in
    let code : c.machine.result.now ≡ m = c.machine.ensures.same ∙ c.as_ref.ensures in
    let kids : c.as_slice.result.now ≡ m.kids = c.as_slice.ensures ∙ ap (λ (x : Machine). x.kids) code in
    let kid_at : slice_get m.kids i ≡ Some kid = item_at m.kids c.as_slice.result.now i kid kids (omega (arith, c.requires.inside, c.requires.core.children_each, ap length kids)) c.index-as_slice-i.is in
    let child_at : slice_get children i ≡ Some child = found children i child c.requires.inside c.index_mut.ensures.value in
    let inside_too : i < length buffers = omega (arith, c.requires.inside, c.requires.core.children_each, c.requires.core.buffers_each) in
    let buffer_at : slice_get buffers i ≡ Some buffer = found buffers i buffer inside_too c.index_mut-2.ensures.value in
    c.requires.core.seated i kid child kid_at child_at

pub strike_child-requires-clause-unstruck : goal.strike_child-requires-clause-unstruck
strike_child-requires-clause-unstruck g c =
    let m = c.args.block.now.code.value in
    let children = c.args.children.now.items in
    let buffers = c.args.buffers.now.items in
    let i = c.args.i in
    let kid = c.index-as_slice-i.result in
    let child = c.index_mut.result.now in
    let buffer = c.index_mut-2.result.now in
    let code : c.machine.result.now ≡ m = c.machine.ensures.same ∙ c.as_ref.ensures in
    let kids : c.as_slice.result.now ≡ m.kids = c.as_slice.ensures ∙ ap (λ (x : Machine). x.kids) code in
    let kid_at : slice_get m.kids i ≡ Some kid = item_at m.kids c.as_slice.result.now i kid kids (omega (arith, c.requires.inside, c.requires.core.children_each, ap length kids)) c.index-as_slice-i.is in
    let child_at : slice_get children i ≡ Some child = found children i child c.requires.inside c.index_mut.ensures.value in
    let inside_too : i < length buffers = omega (arith, c.requires.inside, c.requires.core.children_each, c.requires.core.buffers_each) in
    let buffer_at : slice_get buffers i ≡ Some buffer = found buffers i buffer inside_too c.index_mut-2.ensures.value in
    c.requires.unstruck child child_at

pub strike_child-requires-clause-buffer : goal.strike_child-requires-clause-buffer
strike_child-requires-clause-buffer g c =
    let m = c.args.block.now.code.value in
    let children = c.args.children.now.items in
    let buffers = c.args.buffers.now.items in
    let i = c.args.i in
    let kid = c.index-as_slice-i.result in
    let child = c.index_mut.result.now in
    let buffer = c.index_mut-2.result.now in
    let code : c.machine.result.now ≡ m = c.machine.ensures.same ∙ c.as_ref.ensures in
    let kids : c.as_slice.result.now ≡ m.kids = c.as_slice.ensures ∙ ap (λ (x : Machine). x.kids) code in
    let kid_at : slice_get m.kids i ≡ Some kid = item_at m.kids c.as_slice.result.now i kid kids (omega (arith, c.requires.inside, c.requires.core.children_each, ap length kids)) c.index-as_slice-i.is in
    let child_at : slice_get children i ≡ Some child = found children i child c.requires.inside c.index_mut.ensures.value in
    let inside_too : i < length buffers = omega (arith, c.requires.inside, c.requires.core.children_each, c.requires.core.buffers_each) in
    let buffer_at : slice_get buffers i ≡ Some buffer = found buffers i buffer inside_too c.index_mut-2.ensures.value in
    (c.requires.core.buffers_fit i kid buffer kid_at buffer_at).has_room

pub strike_child-requires-clause-room : goal.strike_child-requires-clause-room
strike_child-requires-clause-room g c =
    let m = c.args.block.now.code.value in
    let children = c.args.children.now.items in
    let buffers = c.args.buffers.now.items in
    let i = c.args.i in
    let kid = c.index-as_slice-i.result in
    let child = c.index_mut.result.now in
    let buffer = c.index_mut-2.result.now in
    let code : c.machine.result.now ≡ m = c.machine.ensures.same ∙ c.as_ref.ensures in
    let kids : c.as_slice.result.now ≡ m.kids = c.as_slice.ensures ∙ ap (λ (x : Machine). x.kids) code in
    let kid_at : slice_get m.kids i ≡ Some kid = item_at m.kids c.as_slice.result.now i kid kids (omega (arith, c.requires.inside, c.requires.core.children_each, ap length kids)) c.index-as_slice-i.is in
    let child_at : slice_get children i ≡ Some child = found children i child c.requires.inside c.index_mut.ensures.value in
    let inside_too : i < length buffers = omega (arith, c.requires.inside, c.requires.core.children_each, c.requires.core.buffers_each) in
    let buffer_at : slice_get buffers i ≡ Some buffer = found buffers i buffer inside_too c.index_mut-2.ensures.value in
    c.requires.room child child_at

pub returns-clause-core : goal.returns-clause-core
returns-clause-core g c =
    let m = c.args.block.now.code.value in
    let children = c.args.children.now.items in
    let buffers = c.args.buffers.now.items in
    let i = c.args.i in
    let kid = c.index-as_slice-i.result in
    let child = c.index_mut.result.now in
    let buffer = c.index_mut-2.result.now in
    let code : c.machine.result.now ≡ m = c.machine.ensures.same ∙ c.as_ref.ensures in
    let kids : c.as_slice.result.now ≡ m.kids = c.as_slice.ensures ∙ ap (λ (x : Machine). x.kids) code in
    let kid_at : slice_get m.kids i ≡ Some kid = item_at m.kids c.as_slice.result.now i kid kids (omega (arith, c.requires.inside, c.requires.core.children_each, ap length kids)) c.index-as_slice-i.is in
    let child_at : slice_get children i ≡ Some child = found children i child c.requires.inside c.index_mut.ensures.value in
    let inside_too : i < length buffers = omega (arith, c.requires.inside, c.requires.core.children_each, c.requires.core.buffers_each) in
    let buffer_at : slice_get buffers i ≡ Some buffer = found buffers i buffer inside_too c.index_mut-2.ensures.value in
    core_same g.C.Child.model g.C.Child.ready g.C.Child.struck c.args.block.now children buffers i kid child c.strike_child.new.child buffer c.strike_child.new.buffer c.requires.core kid_at child_at buffer_at c.strike_child.ensures.seated c.strike_child.ensures.buffer c.strike_child.ensures.first c.strike_child.ensures.wrapper

pub returns-clause-strikes : goal.returns-clause-strikes
returns-clause-strikes g c =
    let m = c.args.block.now.code.value in
    let children = c.args.children.now.items in
    let buffers = c.args.buffers.now.items in
    let i = c.args.i in
    let kid = c.index-as_slice-i.result in
    let child = c.index_mut.result.now in
    let buffer = c.index_mut-2.result.now in
    let code : c.machine.result.now ≡ m = c.machine.ensures.same ∙ c.as_ref.ensures in
    let kids : c.as_slice.result.now ≡ m.kids = c.as_slice.ensures ∙ ap (λ (x : Machine). x.kids) code in
    let kid_at : slice_get m.kids i ≡ Some kid = item_at m.kids c.as_slice.result.now i kid kids (omega (arith, c.requires.inside, c.requires.core.children_each, ap length kids)) c.index-as_slice-i.is in
    let child_at : slice_get children i ≡ Some child = found children i child c.requires.inside c.index_mut.ensures.value in
    let inside_too : i < length buffers = omega (arith, c.requires.inside, c.requires.core.children_each, c.requires.core.buffers_each) in
    let buffer_at : slice_get buffers i ≡ Some buffer = found buffers i buffer inside_too c.index_mut-2.ensures.value in
    record {
      kid = kid;
      kid_at = kid_at;
      was = child;
      was_at = child_at;
      now = c.strike_child.new.child;
      strikes = c.strike_child.ensures.strikes;
      wrapper = c.strike_child.ensures.wrapper;
      struck = c.strike_child.ensures.struck;
      rest = refl;
    }
