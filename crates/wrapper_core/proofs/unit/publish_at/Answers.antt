use Rattle.std.proofs.Common.{◌≡◌, ◌<◌, ◌∙◌, length, true, refl, sym, ap, arith}
use Rattle.std.specs.Prelude.{slice_get, Some}
use Rattle.code_isa.specs.declared.machine.Kid.{Kid}
use Rattle.code_isa.specs.Faces.{output_widths}
use Rattle.sequence_select.specs.Shown.{shown}
use Rattle.wrapper_core.specs.declared.buffer.Buffer.{Buffer}
use Rattle.wrapper_core.specs.code.Cores.{IsSeated, HasBufferRoom}
use Rattle.wrapper_core.proofs.Seats.{stands_struck, seated_publish}
use Rattle.wrapper_core.proofs.Cores.{read_set, found, read_room, read_widths, read_placed, kid_for}
use Rattle.code_isa.specs.Faces.{output_count}
use Rattle.wrapper_core.proofs.unit.publish_at.Goals as goal

pub publish-requires-clause-struck : goal.publish-requires-clause-struck
publish-requires-clause-struck g c =
    let m = c.args.block.now.code.value in
    let children = c.args.children.now.items in
    let buffers = c.args.buffers.now.items in
    let i = c.args.i in
    let child = c.index_mut.result.now in
    let buffer = c.index_mut-2.result.now in
    let one = kid_for g.C.Child.model g.C.Child.ready g.C.Child.struck c.args.block.now children buffers i c.requires.core c.requires.inside in
    let kid : Kid = one.0 in
    let kid_at : slice_get m.kids i ≡ Some kid = one.1 in
    let child_at : slice_get children i ≡ Some child = found children i child c.requires.inside c.index_mut.ensures.value in
    let inside_too : i < length buffers = omega (arith, c.requires.inside, c.requires.core.children_each, c.requires.core.buffers_each) in
    let buffer_at : slice_get buffers i ≡ Some buffer = found buffers i buffer inside_too c.index_mut-2.ensures.value in
    let seat = c.requires.core.seated i kid child kid_at child_at in
    let set_so : child.struck ≡ true = c.requires.struck child child_at in
    let room : HasBufferRoom kid buffer = (c.requires.core.buffers_fit i kid buffer kid_at buffer_at).has_room in
    (stands_struck g.C.Child.model g.C.Child.ready g.C.Child.struck kid child seat set_so).struck_now

pub publish-requires-clause-outs : goal.publish-requires-clause-outs
publish-requires-clause-outs g c =
    let m = c.args.block.now.code.value in
    let children = c.args.children.now.items in
    let buffers = c.args.buffers.now.items in
    let i = c.args.i in
    let child = c.index_mut.result.now in
    let buffer = c.index_mut-2.result.now in
    let one = kid_for g.C.Child.model g.C.Child.ready g.C.Child.struck c.args.block.now children buffers i c.requires.core c.requires.inside in
    let kid : Kid = one.0 in
    let kid_at : slice_get m.kids i ≡ Some kid = one.1 in
    let child_at : slice_get children i ≡ Some child = found children i child c.requires.inside c.index_mut.ensures.value in
    let inside_too : i < length buffers = omega (arith, c.requires.inside, c.requires.core.children_each, c.requires.core.buffers_each) in
    let buffer_at : slice_get buffers i ≡ Some buffer = found buffers i buffer inside_too c.index_mut-2.ensures.value in
    let seat = c.requires.core.seated i kid child kid_at child_at in
    let set_so : child.struck ≡ true = c.requires.struck child child_at in
    let room : HasBufferRoom kid buffer = (c.requires.core.buffers_fit i kid buffer kid_at buffer_at).has_room in
    room.outs ∙ ap output_count (sym seat.face)

pub publish-requires-clause-wide : goal.publish-requires-clause-wide
publish-requires-clause-wide g c =
    let m = c.args.block.now.code.value in
    let children = c.args.children.now.items in
    let buffers = c.args.buffers.now.items in
    let i = c.args.i in
    let child = c.index_mut.result.now in
    let buffer = c.index_mut-2.result.now in
    let one = kid_for g.C.Child.model g.C.Child.ready g.C.Child.struck c.args.block.now children buffers i c.requires.core c.requires.inside in
    let kid : Kid = one.0 in
    let kid_at : slice_get m.kids i ≡ Some kid = one.1 in
    let child_at : slice_get children i ≡ Some child = found children i child c.requires.inside c.index_mut.ensures.value in
    let inside_too : i < length buffers = omega (arith, c.requires.inside, c.requires.core.children_each, c.requires.core.buffers_each) in
    let buffer_at : slice_get buffers i ≡ Some buffer = found buffers i buffer inside_too c.index_mut-2.ensures.value in
    let seat = c.requires.core.seated i kid child kid_at child_at in
    let set_so : child.struck ≡ true = c.requires.struck child child_at in
    let room : HasBufferRoom kid buffer = (c.requires.core.buffers_fit i kid buffer kid_at buffer_at).has_room in
    seat.seq_wide ∙ ap output_widths (sym seat.face)

pub publish-requires-clause-numbers : goal.publish-requires-clause-numbers
publish-requires-clause-numbers g c =
    let m = c.args.block.now.code.value in
    let children = c.args.children.now.items in
    let buffers = c.args.buffers.now.items in
    let i = c.args.i in
    let child = c.index_mut.result.now in
    let buffer = c.index_mut-2.result.now in
    let one = kid_for g.C.Child.model g.C.Child.ready g.C.Child.struck c.args.block.now children buffers i c.requires.core c.requires.inside in
    let kid : Kid = one.0 in
    let kid_at : slice_get m.kids i ≡ Some kid = one.1 in
    let child_at : slice_get children i ≡ Some child = found children i child c.requires.inside c.index_mut.ensures.value in
    let inside_too : i < length buffers = omega (arith, c.requires.inside, c.requires.core.children_each, c.requires.core.buffers_each) in
    let buffer_at : slice_get buffers i ≡ Some buffer = found buffers i buffer inside_too c.index_mut-2.ensures.value in
    let seat = c.requires.core.seated i kid child kid_at child_at in
    let set_so : child.struck ≡ true = c.requires.struck child child_at in
    let room : HasBufferRoom kid buffer = (c.requires.core.buffers_fit i kid buffer kid_at buffer_at).has_room in
    (stands_struck g.C.Child.model g.C.Child.ready g.C.Child.struck kid child seat set_so).numbers

pub place-requires-clause-slots : goal.place-requires-clause-slots
place-requires-clause-slots g c =
    let m = c.args.block.now.code.value in
    let children = c.args.children.now.items in
    let buffers = c.args.buffers.now.items in
    let i = c.args.i in
    let child = c.index_mut.result.now in
    let buffer = c.index_mut-2.result.now in
    let one = kid_for g.C.Child.model g.C.Child.ready g.C.Child.struck c.args.block.now children buffers i c.requires.core c.requires.inside in
    let kid : Kid = one.0 in
    let kid_at : slice_get m.kids i ≡ Some kid = one.1 in
    let child_at : slice_get children i ≡ Some child = found children i child c.requires.inside c.index_mut.ensures.value in
    let inside_too : i < length buffers = omega (arith, c.requires.inside, c.requires.core.children_each, c.requires.core.buffers_each) in
    let buffer_at : slice_get buffers i ≡ Some buffer = found buffers i buffer inside_too c.index_mut-2.ensures.value in
    let seat = c.requires.core.seated i kid child kid_at child_at in
    let set_so : child.struck ≡ true = c.requires.struck child child_at in
    let room : HasBufferRoom kid buffer = (c.requires.core.buffers_fit i kid buffer kid_at buffer_at).has_room in
    let d = c.publish.new.self in
    let new_buffer : Buffer = record { first = buffer.first; ins = buffer.ins; outs = c.publish.new.outs; levels = buffer.levels } in
    let new_seat : IsSeated g.C.Child.model g.C.Child.ready g.C.Child.struck kid d = seated_publish g.C.Child.model g.C.Child.ready g.C.Child.struck kid child d seat set_so c.publish.ensures.ready c.publish.ensures.published c.publish.ensures.shown in
    let new_room : HasBufferRoom kid new_buffer = record { ins = room.ins; outs = c.publish.ensures.outs ∙ room.outs; clocks = room.clocks } in
    let d_is : c.index-2.result.now ≡ d = read_set children i d c.index-2.result.now c.requires.inside c.index-2.ensures in
    let f_is : c.index.result.now ≡ new_buffer = read_set buffers i new_buffer c.index.result.now inside_too c.index.ensures in
    let p_is : c.index.result.now.first ≡ buffer.first = ap (λ (x : Buffer). x.first) f_is in
    let outs_are : c.outputs.result.now ≡ shown d.wrapper = c.outputs.ensures.shown ∙ ap (λ x. shown x.wrapper) d_is in
    read_room g.C.Child.model g.C.Child.ready g.C.Child.struck c.args.block.now c.args.block.now children buffers i kid child d buffer new_buffer c.requires.core kid_at child_at buffer_at new_seat new_room refl c.index.result.now.first c.outputs.result.now p_is outs_are

pub place-requires-clause-wide : goal.place-requires-clause-wide
place-requires-clause-wide g c =
    let m = c.args.block.now.code.value in
    let children = c.args.children.now.items in
    let buffers = c.args.buffers.now.items in
    let i = c.args.i in
    let child = c.index_mut.result.now in
    let buffer = c.index_mut-2.result.now in
    let one = kid_for g.C.Child.model g.C.Child.ready g.C.Child.struck c.args.block.now children buffers i c.requires.core c.requires.inside in
    let kid : Kid = one.0 in
    let kid_at : slice_get m.kids i ≡ Some kid = one.1 in
    let child_at : slice_get children i ≡ Some child = found children i child c.requires.inside c.index_mut.ensures.value in
    let inside_too : i < length buffers = omega (arith, c.requires.inside, c.requires.core.children_each, c.requires.core.buffers_each) in
    let buffer_at : slice_get buffers i ≡ Some buffer = found buffers i buffer inside_too c.index_mut-2.ensures.value in
    let seat = c.requires.core.seated i kid child kid_at child_at in
    let set_so : child.struck ≡ true = c.requires.struck child child_at in
    let room : HasBufferRoom kid buffer = (c.requires.core.buffers_fit i kid buffer kid_at buffer_at).has_room in
    let d = c.publish.new.self in
    let new_buffer : Buffer = record { first = buffer.first; ins = buffer.ins; outs = c.publish.new.outs; levels = buffer.levels } in
    let new_seat : IsSeated g.C.Child.model g.C.Child.ready g.C.Child.struck kid d = seated_publish g.C.Child.model g.C.Child.ready g.C.Child.struck kid child d seat set_so c.publish.ensures.ready c.publish.ensures.published c.publish.ensures.shown in
    let new_room : HasBufferRoom kid new_buffer = record { ins = room.ins; outs = c.publish.ensures.outs ∙ room.outs; clocks = room.clocks } in
    let d_is : c.index-2.result.now ≡ d = read_set children i d c.index-2.result.now c.requires.inside c.index-2.ensures in
    let f_is : c.index.result.now ≡ new_buffer = read_set buffers i new_buffer c.index.result.now inside_too c.index.ensures in
    let p_is : c.index.result.now.first ≡ buffer.first = ap (λ (x : Buffer). x.first) f_is in
    let outs_are : c.outputs.result.now ≡ shown d.wrapper = c.outputs.ensures.shown ∙ ap (λ x. shown x.wrapper) d_is in
    read_widths g.C.Child.model g.C.Child.ready g.C.Child.struck c.args.block.now c.args.block.now children buffers i kid child d buffer new_buffer c.requires.core kid_at child_at buffer_at new_seat new_room refl c.index.result.now.first c.outputs.result.now p_is outs_are

pub returns-clause-core : goal.returns-clause-core
returns-clause-core g c =
    let m = c.args.block.now.code.value in
    let children = c.args.children.now.items in
    let buffers = c.args.buffers.now.items in
    let i = c.args.i in
    let child = c.index_mut.result.now in
    let buffer = c.index_mut-2.result.now in
    let one = kid_for g.C.Child.model g.C.Child.ready g.C.Child.struck c.args.block.now children buffers i c.requires.core c.requires.inside in
    let kid : Kid = one.0 in
    let kid_at : slice_get m.kids i ≡ Some kid = one.1 in
    let child_at : slice_get children i ≡ Some child = found children i child c.requires.inside c.index_mut.ensures.value in
    let inside_too : i < length buffers = omega (arith, c.requires.inside, c.requires.core.children_each, c.requires.core.buffers_each) in
    let buffer_at : slice_get buffers i ≡ Some buffer = found buffers i buffer inside_too c.index_mut-2.ensures.value in
    let seat = c.requires.core.seated i kid child kid_at child_at in
    let set_so : child.struck ≡ true = c.requires.struck child child_at in
    let room : HasBufferRoom kid buffer = (c.requires.core.buffers_fit i kid buffer kid_at buffer_at).has_room in
    let d = c.publish.new.self in
    let new_buffer : Buffer = record { first = buffer.first; ins = buffer.ins; outs = c.publish.new.outs; levels = buffer.levels } in
    let new_seat : IsSeated g.C.Child.model g.C.Child.ready g.C.Child.struck kid d = seated_publish g.C.Child.model g.C.Child.ready g.C.Child.struck kid child d seat set_so c.publish.ensures.ready c.publish.ensures.published c.publish.ensures.shown in
    let new_room : HasBufferRoom kid new_buffer = record { ins = room.ins; outs = c.publish.ensures.outs ∙ room.outs; clocks = room.clocks } in
    let d_is : c.index-2.result.now ≡ d = read_set children i d c.index-2.result.now c.requires.inside c.index-2.ensures in
    let f_is : c.index.result.now ≡ new_buffer = read_set buffers i new_buffer c.index.result.now inside_too c.index.ensures in
    let p_is : c.index.result.now.first ≡ buffer.first = ap (λ (x : Buffer). x.first) f_is in
    let outs_are : c.outputs.result.now ≡ shown d.wrapper = c.outputs.ensures.shown ∙ ap (λ x. shown x.wrapper) d_is in
    (read_placed g.C.Child.model g.C.Child.ready g.C.Child.struck c.args.block.now c.place.new.self children buffers i kid child d buffer new_buffer c.requires.core kid_at child_at buffer_at new_seat new_room refl c.index.result.now.first c.outputs.result.now p_is outs_are c.place.ensures.block c.place.ensures.keeps c.place.ensures.given).0

pub returns-clause-keeps : goal.returns-clause-keeps
returns-clause-keeps g c =
    let m = c.args.block.now.code.value in
    let children = c.args.children.now.items in
    let buffers = c.args.buffers.now.items in
    let i = c.args.i in
    let child = c.index_mut.result.now in
    let buffer = c.index_mut-2.result.now in
    let one = kid_for g.C.Child.model g.C.Child.ready g.C.Child.struck c.args.block.now children buffers i c.requires.core c.requires.inside in
    let kid : Kid = one.0 in
    let kid_at : slice_get m.kids i ≡ Some kid = one.1 in
    let child_at : slice_get children i ≡ Some child = found children i child c.requires.inside c.index_mut.ensures.value in
    let inside_too : i < length buffers = omega (arith, c.requires.inside, c.requires.core.children_each, c.requires.core.buffers_each) in
    let buffer_at : slice_get buffers i ≡ Some buffer = found buffers i buffer inside_too c.index_mut-2.ensures.value in
    let seat = c.requires.core.seated i kid child kid_at child_at in
    let set_so : child.struck ≡ true = c.requires.struck child child_at in
    let room : HasBufferRoom kid buffer = (c.requires.core.buffers_fit i kid buffer kid_at buffer_at).has_room in
    let d = c.publish.new.self in
    let new_buffer : Buffer = record { first = buffer.first; ins = buffer.ins; outs = c.publish.new.outs; levels = buffer.levels } in
    let new_seat : IsSeated g.C.Child.model g.C.Child.ready g.C.Child.struck kid d = seated_publish g.C.Child.model g.C.Child.ready g.C.Child.struck kid child d seat set_so c.publish.ensures.ready c.publish.ensures.published c.publish.ensures.shown in
    let new_room : HasBufferRoom kid new_buffer = record { ins = room.ins; outs = c.publish.ensures.outs ∙ room.outs; clocks = room.clocks } in
    let d_is : c.index-2.result.now ≡ d = read_set children i d c.index-2.result.now c.requires.inside c.index-2.ensures in
    let f_is : c.index.result.now ≡ new_buffer = read_set buffers i new_buffer c.index.result.now inside_too c.index.ensures in
    let p_is : c.index.result.now.first ≡ buffer.first = ap (λ (x : Buffer). x.first) f_is in
    let outs_are : c.outputs.result.now ≡ shown d.wrapper = c.outputs.ensures.shown ∙ ap (λ x. shown x.wrapper) d_is in
    (read_placed g.C.Child.model g.C.Child.ready g.C.Child.struck c.args.block.now c.place.new.self children buffers i kid child d buffer new_buffer c.requires.core kid_at child_at buffer_at new_seat new_room refl c.index.result.now.first c.outputs.result.now p_is outs_are c.place.ensures.block c.place.ensures.keeps c.place.ensures.given).1

pub returns-clause-publishes : goal.returns-clause-publishes
returns-clause-publishes g c =
    let m = c.args.block.now.code.value in
    let children = c.args.children.now.items in
    let buffers = c.args.buffers.now.items in
    let i = c.args.i in
    let child = c.index_mut.result.now in
    let buffer = c.index_mut-2.result.now in
    let one = kid_for g.C.Child.model g.C.Child.ready g.C.Child.struck c.args.block.now children buffers i c.requires.core c.requires.inside in
    let kid : Kid = one.0 in
    let kid_at : slice_get m.kids i ≡ Some kid = one.1 in
    let child_at : slice_get children i ≡ Some child = found children i child c.requires.inside c.index_mut.ensures.value in
    let inside_too : i < length buffers = omega (arith, c.requires.inside, c.requires.core.children_each, c.requires.core.buffers_each) in
    let buffer_at : slice_get buffers i ≡ Some buffer = found buffers i buffer inside_too c.index_mut-2.ensures.value in
    let seat = c.requires.core.seated i kid child kid_at child_at in
    let set_so : child.struck ≡ true = c.requires.struck child child_at in
    let room : HasBufferRoom kid buffer = (c.requires.core.buffers_fit i kid buffer kid_at buffer_at).has_room in
    record { was = child; was_at = child_at; now = c.publish.new.self; published = c.publish.ensures.published; rest = refl }
