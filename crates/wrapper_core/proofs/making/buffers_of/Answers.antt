use Rattle.std.proofs.Common.{◌≡◌, ◌+◌, ◌∙◌, length, take, ap, arith}
use Rattle.std.specs.Prelude.{slice_get, Some}
use Rattle.std.specs.List.{flat_map}
use Rattle.std.proofs.lemmas.List.{length_push}
use Rattle.code_isa.specs.Slots.{first_kid_output}
use Rattle.wrapper_core.proofs.Blocking.{item_at}
use Rattle.wrapper_core.proofs.Cores.{kid_widths, kid_size, outputs_after, piece_room, total_more, buffer_more}
use Rattle.wrapper_core.proofs.making.buffers_of.Goals as goal

pub overflow_add-first : goal.overflow_add-first
overflow_add-first c =
    let m = c.args.m.now in
    let k = c.loop-kid.kid-index in
    let kid = c.kid-item.result in
    let at : slice_get m.kids k ≡ Some kid = item_at m.kids c.as_slice-kid-items.result.now k kid c.as_slice-kid-items.ensures c.loop-kid-test.true c.kid-item.is in
    let rows : c.len.result ≡ length kid.summary.rows = c.len.ensures in
    omega (arith, c.loop-kid.invariant.first, rows, kid_size kid, outputs_after m, piece_room kid_widths m.kids k kid at, c.requires.few)

pub loop-kid-preserved : goal.loop-kid-preserved
loop-kid-preserved c =
    let m = c.args.m.now in
    let k = c.loop-kid.kid-index in
    let kid = c.kid-item.result in
    let bs = c.loop-kid.buffers.items in
    let b = c.in_ok-new_buffer.field-0 in
    let at : slice_get m.kids k ≡ Some kid = item_at m.kids c.as_slice-kid-items.result.now k kid c.as_slice-kid-items.ensures c.loop-kid-test.true c.kid-item.is in
    let rows : c.len.result ≡ length kid.summary.rows = c.len.ensures in
    let step = c.in_ok-push.ensures.items in
    record {
      each = ap length step ∙ length_push bs b ∙ ap (λ n. n + 1) c.loop-kid.invariant.each;
      first = let e : c.loop-kid.first + c.len.result ≡ first_kid_output m + length (flat_map kid_widths (take (k + 1) m.kids)) = omega (arith, c.loop-kid.invariant.first, rows, kid_size kid, total_more m.kids k kid at) in e;
      fit = buffer_more m bs c.push.new.self.items k kid b at c.loop-kid.invariant.each step (record { first = c.in_ok-new_buffer.ensures.first ∙ c.loop-kid.invariant.first; has_room = c.in_ok-new_buffer.ensures.room }) c.loop-kid.invariant.fit;
    }
