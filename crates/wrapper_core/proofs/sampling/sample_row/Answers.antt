use Rattle.std.proofs.Common.{take, sym, subst}
use Rattle.std.specs.Prelude.{slice_index}
use Rattle.std.proofs.lemmas.List.{take_more}
use Rattle.wrapper_core.specs.code.Samplings.{SamplesRow}
use Rattle.wrapper_core.proofs.Clocking.{row_more}
use Rattle.wrapper_core.proofs.sampling.sample_row.Goals as goal

pub loop-r-preserved : goal.loop-r-preserved
loop-r-preserved c =
    let row = c.args.row.now in
    let k = c.loop-r.r-index in
    let regs = c.args.regs.now in
    let slots = c.args.slots.now in
    subst (λ xs. SamplesRow xs regs slots c.args.from c.args.to c.args.next.now.items c.sample_one.new.next.items c.args.due.now c.sample_one.new.due) (sym (take_more row k 0 c.loop-r-test.true))
    (row_more (take k row) (slice_index row k) regs slots c.args.from c.args.to c.args.next.now.items c.loop-r.next.items c.sample_one.new.next.items c.args.due.now c.loop-r.due c.sample_one.new.due c.loop-r.invariant c.sample_one.ensures)
