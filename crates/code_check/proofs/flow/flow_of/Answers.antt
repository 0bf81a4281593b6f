use Rattle.std.proofs.Common.{◌≡◌, ◌<◌, ◌≤◌, ◌∙◌, ℕ, List, [], length, take, get_or, ap, subst, sym, arith}
use Rattle.std.specs.Prelude.{All, Contains}
use Rattle.std.proofs.lemmas.List.{take_more}
use Rattle.code_isa.specs.Slots.{slot_count}
use Rattle.code_isa.specs.Dependence.{reads_of}
use Rattle.code_check.specs.code.Sets.{row_of}
use Rattle.code_check.specs.code.Flow.{AreKnown, Takes}
use Rattle.code_check.proofs.Rows.{row_total}
use Rattle.code_check.proofs.Known.{known_more}
use Rattle.code_check.proofs.Ends.{known_none, all_known, reads_read, reads_inside, reads_sized}
use Rattle.code_check.proofs.flow.flow_of.Goals as goal

pub loop-slot-init : goal.loop-slot-init
loop-slot-init c =
    let m = c.args.m.now in
    known_none m c.regions_of-regions.result.words c.len.result c.in_ok-flow.flow (c.len.ensures ∙ ap length c.requires.reads ∙ row_total m) c.in_ok-flow.ensures.inputs c.in_ok-flow.ensures.depths

pub take-requires-clause-slot : goal.take-requires-clause-slot
take-requires-clause-slot c =
    let slot = get_or c.args.order.now c.loop-slot.slot-index 0 in
    let low : slot < length (reads_of c.args.m.now) = c.requires.order.only_nodes c.loop-slot.slot-index 0 c.loop-slot-test.true in
    omega (arith, low, row_total c.args.m.now, c.loop-slot.invariant.rows_each)

pub take-requires-clause-inside : goal.take-requires-clause-inside
take-requires-clause-inside c =
    let m = c.args.m.now in
    let slot = get_or c.args.order.now c.loop-slot.slot-index 0 in
    let low : slot < length (reads_of m) = c.requires.order.only_nodes c.loop-slot.slot-index 0 c.loop-slot-test.true in
    let row = reads_read m slot c.args.graph.now.reads c.as_slice.result.now c.as_slice-reads.result.now c.index-as_slice-slot.result low c.requires.reads c.as_slice.ensures c.as_slice-reads.ensures c.index-as_slice-slot.is in
    reads_inside m slot c.as_slice-reads.result.now (length c.loop-slot.flow.inputs.items) low c.requires.inside (c.loop-slot.invariant.rows_each ∙ sym (row_total m)) row

pub take-requires-clause-sized : goal.take-requires-clause-sized
take-requires-clause-sized c =
    let m = c.args.m.now in
    let k = c.loop-slot.slot-index in
    let slot = get_or c.args.order.now k 0 in
    let low : slot < length (reads_of m) = c.requires.order.only_nodes k 0 c.loop-slot-test.true in
    let row = reads_read m slot c.args.graph.now.reads c.as_slice.result.now c.as_slice-reads.result.now c.index-as_slice-slot.result low c.requires.reads c.as_slice.ensures c.as_slice-reads.ensures c.index-as_slice-slot.is in
    reads_sized m c.regions_of-regions.result.words c.loop-slot.flow (take k c.args.order.now) slot c.as_slice-reads.result.now row (c.requires.order.after_reads k c.loop-slot-test.true) c.loop-slot.invariant

pub loop-slot-preserved : goal.loop-slot-preserved
loop-slot-preserved c =
    let m = c.args.m.now in
    let regions = c.regions_of-regions.result in
    let order = c.args.order.now in
    let k = c.loop-slot.slot-index in
    let slot = get_or order k 0 in
    let low : slot < length (reads_of m) = c.requires.order.only_nodes k 0 c.loop-slot-test.true in
    let row = reads_read m slot c.args.graph.now.reads c.as_slice.result.now c.as_slice-reads.result.now c.index-as_slice-slot.result low c.requires.reads c.as_slice.ensures c.as_slice-reads.ensures c.index-as_slice-slot.is in
    let takes : Takes regions c.loop-slot.flow c.take.new.self slot (row_of (reads_of m) slot) = subst (Takes regions c.loop-slot.flow c.take.new.self slot) row c.in_ok-take.ensures in
    subst (AreKnown m regions.words c.take.new.self) (sym (take_more order k 0 c.loop-slot-test.true))
    (known_more m regions c.loop-slot.flow c.take.new.self (take k order) slot c.regions_of-regions.ensures (omega (arith, low, row_total m)) (c.requires.order.after_reads k c.loop-slot-test.true) c.loop-slot.invariant takes)

pub returns : goal.returns
returns c = all_known c.args.m.now c.regions_of-regions.result.words c.loop-slot.slot-index c.loop-slot.flow c.args.order.now c.requires.order (omega (arith, c.loop-slot-test.false)) c.loop-slot.invariant
