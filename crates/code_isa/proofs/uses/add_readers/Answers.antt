use Rattle.std.proofs.Common.{subst, sym, take, get_or}
use Rattle.std.proofs.lemmas.List.{take_more}
use Rattle.code_isa.specs.Uses.{AddsReader}
use Rattle.code_isa.proofs.Readers.{still_up_to, added_more}
use Rattle.code_isa.proofs.uses.add_readers.Goals as goal

pub add_reader-requires-clause-below : goal.add_reader-requires-clause-below
add_reader-requires-clause-below c = still_up_to c.args.rows.now.items c.loop-slot.rows.items _ c.args.reader c.requires.below c.loop-slot.invariant

pub loop-slot-preserved : goal.loop-slot-preserved
loop-slot-preserved c =
    let slots = take c.operands-count.result.1 c.operands-count.result.0 in
    subst (λ xs. AddsReader c.args.rows.now.items c.add_reader.new.rows.items xs c.args.reader) (sym (take_more slots c.loop-slot.slot-index 0 c.loop-slot-test.true))
    (added_more c.args.rows.now.items c.loop-slot.rows.items c.add_reader.new.rows.items (take c.loop-slot.slot-index slots) (get_or slots c.loop-slot.slot-index 0) c.args.reader c.loop-slot.invariant c.in_ok-add_reader.ensures)
