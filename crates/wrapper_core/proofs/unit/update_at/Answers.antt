use Rattle.std.proofs.Common.{◌≡◌, ◌<◌, ◌∙◌, length, refl, sym, ap, subst, arith}
use Rattle.std.specs.Prelude.{slice_get, Some}
use Rattle.bit_ops.specs.Lists.{words, widths}
use Rattle.code_isa.specs.declared.machine.Machine.{Machine}
use Rattle.code_isa.specs.Checks.{IsChecked}
use Rattle.code_isa.specs.Tree.{words_at}
use Rattle.model_stage.specs.Model.{Updates}
use Rattle.sequence_select.specs.Shown.{shown}
use Rattle.wrapper_core.specs.declared.buffer.Buffer.{Buffer}
use Rattle.wrapper_core.proofs.Blocking.{item_at}
use Rattle.wrapper_core.proofs.Cores.{read_set, found, joined_widths, read_room, read_widths, read_placed}
use Rattle.wrapper_core.proofs.unit.update_at.Goals as goal

pub update_child-requires-clause-seated : goal.update_child-requires-clause-seated
update_child-requires-clause-seated g c =
    let m = c.args.block.now.code.value in
    let children = c.args.children.now.items in
    let buffers = c.args.buffers.now.items in
    let i = c.args.i in
    let kid = c.index-as_slice-i.result in
    let child = c.index_mut.result.now in
    let buffer = c.index_mut-2.result.now in
    let code : c.machine.result.now ≡ m = c.machine.ensures.same ∙ c.as_ref.ensures in
    let kids : c.as_slice.result.now ≡ m.kids = c.as_slice.ensures ∙ ap (λ (x : Machine). x.kids) code in
    let kid_at : slice_get m.kids i ≡ Some kid = item_at m.kids c.as_slice.result.now i kid kids (omega (arith, c.requires.inside, c.requires.core.children_each, ap length kids)) c.index-as_slice-i.is in
    let child_at : slice_get children i ≡ Some child = found children i child c.requires.inside c.index_mut.ensures.value in
    let inside_too : i < length buffers = omega (arith, c.requires.inside, c.requires.core.children_each, c.requires.core.buffers_each) in
    let buffer_at : slice_get buffers i ≡ Some buffer = found buffers i buffer inside_too c.index_mut-2.ensures.value in
    c.requires.core.seated i kid child kid_at child_at

pub update_child-requires-clause-unstruck : goal.update_child-requires-clause-unstruck
update_child-requires-clause-unstruck g c =
    let m = c.args.block.now.code.value in
    let children = c.args.children.now.items in
    let buffers = c.args.buffers.now.items in
    let i = c.args.i in
    let kid = c.index-as_slice-i.result in
    let child = c.index_mut.result.now in
    let buffer = c.index_mut-2.result.now in
    let code : c.machine.result.now ≡ m = c.machine.ensures.same ∙ c.as_ref.ensures in
    let kids : c.as_slice.result.now ≡ m.kids = c.as_slice.ensures ∙ ap (λ (x : Machine). x.kids) code in
    let kid_at : slice_get m.kids i ≡ Some kid = item_at m.kids c.as_slice.result.now i kid kids (omega (arith, c.requires.inside, c.requires.core.children_each, ap length kids)) c.index-as_slice-i.is in
    let child_at : slice_get children i ≡ Some child = found children i child c.requires.inside c.index_mut.ensures.value in
    let inside_too : i < length buffers = omega (arith, c.requires.inside, c.requires.core.children_each, c.requires.core.buffers_each) in
    let buffer_at : slice_get buffers i ≡ Some buffer = found buffers i buffer inside_too c.index_mut-2.ensures.value in
    c.requires.unstruck child child_at

pub update_child-requires-clause-wide : goal.update_child-requires-clause-wide
update_child-requires-clause-wide g c =
    let m = c.args.block.now.code.value in
    let children = c.args.children.now.items in
    let buffers = c.args.buffers.now.items in
    let i = c.args.i in
    let kid = c.index-as_slice-i.result in
    let child = c.index_mut.result.now in
    let buffer = c.index_mut-2.result.now in
    let code : c.machine.result.now ≡ m = c.machine.ensures.same ∙ c.as_ref.ensures in
    let kids : c.as_slice.result.now ≡ m.kids = c.as_slice.ensures ∙ ap (λ (x : Machine). x.kids) code in
    let kid_at : slice_get m.kids i ≡ Some kid = item_at m.kids c.as_slice.result.now i kid kids (omega (arith, c.requires.inside, c.requires.core.children_each, ap length kids)) c.index-as_slice-i.is in
    let child_at : slice_get children i ≡ Some child = found children i child c.requires.inside c.index_mut.ensures.value in
    let inside_too : i < length buffers = omega (arith, c.requires.inside, c.requires.core.children_each, c.requires.core.buffers_each) in
    let buffer_at : slice_get buffers i ≡ Some buffer = found buffers i buffer inside_too c.index_mut-2.ensures.value in
    let checked : IsChecked m = subst IsChecked c.as_ref.ensures c.machine.ensures.checked in
    ap (λ xs. words_at (widths xs) kid.ins) c.as_slice-2.ensures.value ∙ joined_widths m c.args.block.now.slots.items i kid checked c.requires.core.block.shape kid_at

pub update_child-requires-clause-buffer : goal.update_child-requires-clause-buffer
update_child-requires-clause-buffer g c =
    let m = c.args.block.now.code.value in
    let children = c.args.children.now.items in
    let buffers = c.args.buffers.now.items in
    let i = c.args.i in
    let kid = c.index-as_slice-i.result in
    let child = c.index_mut.result.now in
    let buffer = c.index_mut-2.result.now in
    let code : c.machine.result.now ≡ m = c.machine.ensures.same ∙ c.as_ref.ensures in
    let kids : c.as_slice.result.now ≡ m.kids = c.as_slice.ensures ∙ ap (λ (x : Machine). x.kids) code in
    let kid_at : slice_get m.kids i ≡ Some kid = item_at m.kids c.as_slice.result.now i kid kids (omega (arith, c.requires.inside, c.requires.core.children_each, ap length kids)) c.index-as_slice-i.is in
    let child_at : slice_get children i ≡ Some child = found children i child c.requires.inside c.index_mut.ensures.value in
    let inside_too : i < length buffers = omega (arith, c.requires.inside, c.requires.core.children_each, c.requires.core.buffers_each) in
    let buffer_at : slice_get buffers i ≡ Some buffer = found buffers i buffer inside_too c.index_mut-2.ensures.value in
    (c.requires.core.buffers_fit i kid buffer kid_at buffer_at).has_room

pub update_child-requires-clause-room : goal.update_child-requires-clause-room
update_child-requires-clause-room g c =
    let m = c.args.block.now.code.value in
    let children = c.args.children.now.items in
    let buffers = c.args.buffers.now.items in
    let i = c.args.i in
    let kid = c.index-as_slice-i.result in
    let child = c.index_mut.result.now in
    let buffer = c.index_mut-2.result.now in
    let code : c.machine.result.now ≡ m = c.machine.ensures.same ∙ c.as_ref.ensures in
    let kids : c.as_slice.result.now ≡ m.kids = c.as_slice.ensures ∙ ap (λ (x : Machine). x.kids) code in
    let kid_at : slice_get m.kids i ≡ Some kid = item_at m.kids c.as_slice.result.now i kid kids (omega (arith, c.requires.inside, c.requires.core.children_each, ap length kids)) c.index-as_slice-i.is in
    let child_at : slice_get children i ≡ Some child = found children i child c.requires.inside c.index_mut.ensures.value in
    let inside_too : i < length buffers = omega (arith, c.requires.inside, c.requires.core.children_each, c.requires.core.buffers_each) in
    let buffer_at : slice_get buffers i ≡ Some buffer = found buffers i buffer inside_too c.index_mut-2.ensures.value in
    c.requires.room child child_at

pub place-requires-clause-slots : goal.place-requires-clause-slots
place-requires-clause-slots g c =
    let m = c.args.block.now.code.value in
    let children = c.args.children.now.items in
    let buffers = c.args.buffers.now.items in
    let i = c.args.i in
    let kid = c.index-as_slice-i.result in
    let child = c.index_mut.result.now in
    let buffer = c.index_mut-2.result.now in
    let code : c.machine.result.now ≡ m = c.machine.ensures.same ∙ c.as_ref.ensures in
    let kids : c.as_slice.result.now ≡ m.kids = c.as_slice.ensures ∙ ap (λ (x : Machine). x.kids) code in
    let kid_at : slice_get m.kids i ≡ Some kid = item_at m.kids c.as_slice.result.now i kid kids (omega (arith, c.requires.inside, c.requires.core.children_each, ap length kids)) c.index-as_slice-i.is in
    let child_at : slice_get children i ≡ Some child = found children i child c.requires.inside c.index_mut.ensures.value in
    let inside_too : i < length buffers = omega (arith, c.requires.inside, c.requires.core.children_each, c.requires.core.buffers_each) in
    let buffer_at : slice_get buffers i ≡ Some buffer = found buffers i buffer inside_too c.index_mut-2.ensures.value in
    let d = c.update_child.new.child in
    let new_buffer = c.update_child.new.buffer in
    let d_is : c.index-2.result.now ≡ d = read_set children i d c.index-2.result.now c.requires.inside c.index-2.ensures in
    let f_is : c.index.result.now ≡ new_buffer = read_set buffers i new_buffer c.index.result.now inside_too c.index.ensures in
    let p_is : c.index.result.now.first ≡ buffer.first = ap (λ (x : Buffer). x.first) f_is ∙ c.update_child.ensures.first in
    let outs_are : c.outputs.result.now ≡ shown d.wrapper = c.outputs.ensures.shown ∙ ap (λ x. shown x.wrapper) d_is in
    read_room g.C.Child.model g.C.Child.ready g.C.Child.struck c.args.block.now c.args.block.now children buffers i kid child d buffer new_buffer c.requires.core kid_at child_at buffer_at c.update_child.ensures.seated c.update_child.ensures.buffer c.update_child.ensures.first c.index.result.now.first c.outputs.result.now p_is outs_are

pub place-requires-clause-wide : goal.place-requires-clause-wide
place-requires-clause-wide g c =
    let m = c.args.block.now.code.value in
    let children = c.args.children.now.items in
    let buffers = c.args.buffers.now.items in
    let i = c.args.i in
    let kid = c.index-as_slice-i.result in
    let child = c.index_mut.result.now in
    let buffer = c.index_mut-2.result.now in
    let code : c.machine.result.now ≡ m = c.machine.ensures.same ∙ c.as_ref.ensures in
    let kids : c.as_slice.result.now ≡ m.kids = c.as_slice.ensures ∙ ap (λ (x : Machine). x.kids) code in
    let kid_at : slice_get m.kids i ≡ Some kid = item_at m.kids c.as_slice.result.now i kid kids (omega (arith, c.requires.inside, c.requires.core.children_each, ap length kids)) c.index-as_slice-i.is in
    let child_at : slice_get children i ≡ Some child = found children i child c.requires.inside c.index_mut.ensures.value in
    let inside_too : i < length buffers = omega (arith, c.requires.inside, c.requires.core.children_each, c.requires.core.buffers_each) in
    let buffer_at : slice_get buffers i ≡ Some buffer = found buffers i buffer inside_too c.index_mut-2.ensures.value in
    let d = c.update_child.new.child in
    let new_buffer = c.update_child.new.buffer in
    let d_is : c.index-2.result.now ≡ d = read_set children i d c.index-2.result.now c.requires.inside c.index-2.ensures in
    let f_is : c.index.result.now ≡ new_buffer = read_set buffers i new_buffer c.index.result.now inside_too c.index.ensures in
    let p_is : c.index.result.now.first ≡ buffer.first = ap (λ (x : Buffer). x.first) f_is ∙ c.update_child.ensures.first in
    let outs_are : c.outputs.result.now ≡ shown d.wrapper = c.outputs.ensures.shown ∙ ap (λ x. shown x.wrapper) d_is in
    read_widths g.C.Child.model g.C.Child.ready g.C.Child.struck c.args.block.now c.args.block.now children buffers i kid child d buffer new_buffer c.requires.core kid_at child_at buffer_at c.update_child.ensures.seated c.update_child.ensures.buffer c.update_child.ensures.first c.index.result.now.first c.outputs.result.now p_is outs_are

pub returns-clause-core : goal.returns-clause-core
returns-clause-core g c =
    let m = c.args.block.now.code.value in
    let children = c.args.children.now.items in
    let buffers = c.args.buffers.now.items in
    let i = c.args.i in
    let kid = c.index-as_slice-i.result in
    let child = c.index_mut.result.now in
    let buffer = c.index_mut-2.result.now in
    let code : c.machine.result.now ≡ m = c.machine.ensures.same ∙ c.as_ref.ensures in
    let kids : c.as_slice.result.now ≡ m.kids = c.as_slice.ensures ∙ ap (λ (x : Machine). x.kids) code in
    let kid_at : slice_get m.kids i ≡ Some kid = item_at m.kids c.as_slice.result.now i kid kids (omega (arith, c.requires.inside, c.requires.core.children_each, ap length kids)) c.index-as_slice-i.is in
    let child_at : slice_get children i ≡ Some child = found children i child c.requires.inside c.index_mut.ensures.value in
    let inside_too : i < length buffers = omega (arith, c.requires.inside, c.requires.core.children_each, c.requires.core.buffers_each) in
    let buffer_at : slice_get buffers i ≡ Some buffer = found buffers i buffer inside_too c.index_mut-2.ensures.value in
    let d = c.update_child.new.child in
    let new_buffer = c.update_child.new.buffer in
    let d_is : c.index-2.result.now ≡ d = read_set children i d c.index-2.result.now c.requires.inside c.index-2.ensures in
    let f_is : c.index.result.now ≡ new_buffer = read_set buffers i new_buffer c.index.result.now inside_too c.index.ensures in
    let p_is : c.index.result.now.first ≡ buffer.first = ap (λ (x : Buffer). x.first) f_is ∙ c.update_child.ensures.first in
    let outs_are : c.outputs.result.now ≡ shown d.wrapper = c.outputs.ensures.shown ∙ ap (λ x. shown x.wrapper) d_is in
    (read_placed g.C.Child.model g.C.Child.ready g.C.Child.struck c.args.block.now c.place.new.self children buffers i kid child d buffer new_buffer c.requires.core kid_at child_at buffer_at c.update_child.ensures.seated c.update_child.ensures.buffer c.update_child.ensures.first c.index.result.now.first c.outputs.result.now p_is outs_are c.place.ensures.block c.place.ensures.keeps c.place.ensures.given).0

pub returns-clause-keeps : goal.returns-clause-keeps
returns-clause-keeps g c =
    let m = c.args.block.now.code.value in
    let children = c.args.children.now.items in
    let buffers = c.args.buffers.now.items in
    let i = c.args.i in
    let kid = c.index-as_slice-i.result in
    let child = c.index_mut.result.now in
    let buffer = c.index_mut-2.result.now in
    let code : c.machine.result.now ≡ m = c.machine.ensures.same ∙ c.as_ref.ensures in
    let kids : c.as_slice.result.now ≡ m.kids = c.as_slice.ensures ∙ ap (λ (x : Machine). x.kids) code in
    let kid_at : slice_get m.kids i ≡ Some kid = item_at m.kids c.as_slice.result.now i kid kids (omega (arith, c.requires.inside, c.requires.core.children_each, ap length kids)) c.index-as_slice-i.is in
    let child_at : slice_get children i ≡ Some child = found children i child c.requires.inside c.index_mut.ensures.value in
    let inside_too : i < length buffers = omega (arith, c.requires.inside, c.requires.core.children_each, c.requires.core.buffers_each) in
    let buffer_at : slice_get buffers i ≡ Some buffer = found buffers i buffer inside_too c.index_mut-2.ensures.value in
    let d = c.update_child.new.child in
    let new_buffer = c.update_child.new.buffer in
    let d_is : c.index-2.result.now ≡ d = read_set children i d c.index-2.result.now c.requires.inside c.index-2.ensures in
    let f_is : c.index.result.now ≡ new_buffer = read_set buffers i new_buffer c.index.result.now inside_too c.index.ensures in
    let p_is : c.index.result.now.first ≡ buffer.first = ap (λ (x : Buffer). x.first) f_is ∙ c.update_child.ensures.first in
    let outs_are : c.outputs.result.now ≡ shown d.wrapper = c.outputs.ensures.shown ∙ ap (λ x. shown x.wrapper) d_is in
    (read_placed g.C.Child.model g.C.Child.ready g.C.Child.struck c.args.block.now c.place.new.self children buffers i kid child d buffer new_buffer c.requires.core kid_at child_at buffer_at c.update_child.ensures.seated c.update_child.ensures.buffer c.update_child.ensures.first c.index.result.now.first c.outputs.result.now p_is outs_are c.place.ensures.block c.place.ensures.keeps c.place.ensures.given).1

pub returns-clause-updates : goal.returns-clause-updates
returns-clause-updates g c =
    let m = c.args.block.now.code.value in
    let children = c.args.children.now.items in
    let buffers = c.args.buffers.now.items in
    let i = c.args.i in
    let kid = c.index-as_slice-i.result in
    let child = c.index_mut.result.now in
    let buffer = c.index_mut-2.result.now in
    let code : c.machine.result.now ≡ m = c.machine.ensures.same ∙ c.as_ref.ensures in
    let kids : c.as_slice.result.now ≡ m.kids = c.as_slice.ensures ∙ ap (λ (x : Machine). x.kids) code in
    let kid_at : slice_get m.kids i ≡ Some kid = item_at m.kids c.as_slice.result.now i kid kids (omega (arith, c.requires.inside, c.requires.core.children_each, ap length kids)) c.index-as_slice-i.is in
    let child_at : slice_get children i ≡ Some child = found children i child c.requires.inside c.index_mut.ensures.value in
    let inside_too : i < length buffers = omega (arith, c.requires.inside, c.requires.core.children_each, c.requires.core.buffers_each) in
    let buffer_at : slice_get buffers i ≡ Some buffer = found buffers i buffer inside_too c.index_mut-2.ensures.value in
    record {
      kid = kid;
      kid_at = kid_at;
      was = child;
      was_at = child_at;
      now = c.update_child.new.child;
      updates = subst (λ xs. Updates (words_at (words xs) kid.ins) (g.C.Child.model child.child) (g.C.Child.model c.update_child.new.child.child)) c.as_slice-2.ensures.value c.update_child.ensures.updates;
      takes = c.update_child.ensures.takes;
      struck = c.update_child.ensures.unstruck ∙ sym (c.requires.unstruck child child_at);
      rest = refl;
    }
