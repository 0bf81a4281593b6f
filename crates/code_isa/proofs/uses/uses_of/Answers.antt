use Rattle.std.proofs.Common.{◌≡◌, ◌∙◌, ◌+◌, ap, subst, sym, arith, length}
use Rattle.std.specs.Prelude.{slice_get, Some}
use Rattle.code_isa.specs.Slots.{first_instruction, slot_count}
use Rattle.code_isa.specs.Uses.{AreUsesOf, AreUsesUpTo}
use Rattle.code_isa.specs.declared.machine.Machine.{Machine}
use Rattle.code_isa.proofs.Running.{item_at}
use Rattle.code_isa.proofs.Readers.{uses_none, uses_below, uses_more, uses_all, slot_total, all_there}
use Rattle.code_isa.proofs.uses.uses_of.Goals as goal

pub overflow_add-first : goal.overflow_add-first
overflow_add-first c = omega (arith, c.first_instruction-first.ensures.few, c.as_slice.type_inv)

pub loop-i-init : goal.loop-i-init
loop-i-init c =
    let m = c.args.m.now in
    let code : length c.as_slice.result.now ≡ length m.code = ap length (c.as_slice.ensures ∙ ap (λ (x : Machine). x.code) c.machine-m.ensures.same) in
    let first : c.first_instruction-first.result ≡ first_instruction m = c.first_instruction-first.ensures.count ∙ ap first_instruction c.machine-m.ensures.same in
    let size : c.first_instruction-first.result + length c.as_slice.result.now ≡ slot_count m = omega (arith, code, first, slot_total m) in
    record {
      place = omega (arith, first);
      uses = subst (λ rows. AreUsesUpTo m rows 0) (sym c.in_ok-rows.ensures) (uses_none m (c.first_instruction-first.result + length c.as_slice.result.now) size);
    }

pub add_readers-requires-clause-inside : goal.add_readers-requires-clause-inside
add_readers-requires-clause-inside c =
    let m = c.args.m.now in
    let at : slice_get m.code c.loop-i.i-index ≡ Some c.i-item.result =
    item_at m.code c.as_slice-i-items.result.now c.loop-i.i-index c.i-item.result (c.as_slice-i-items.ensures ∙ ap (λ (x : Machine). x.code) c.machine-m.ensures.same) c.loop-i-test.true c.i-item.is in
    all_there m c.loop-i.rows.items c.loop-i.i-index c.i-item.result c.machine-m.ensures.checked.slot_order at c.loop-i.invariant.uses.sized

pub add_readers-requires-clause-below : goal.add_readers-requires-clause-below
add_readers-requires-clause-below c =
    uses_below c.args.m.now c.loop-i.rows.items c.loop-i.i-index c.loop-i.reader c.loop-i.invariant.place c.loop-i.invariant.uses

pub loop-i-preserved : goal.loop-i-preserved
loop-i-preserved c =
    let m = c.args.m.now in
    let at : slice_get m.code c.loop-i.i-index ≡ Some c.i-item.result =
    item_at m.code c.as_slice-i-items.result.now c.loop-i.i-index c.i-item.result (c.as_slice-i-items.ensures ∙ ap (λ (x : Machine). x.code) c.machine-m.ensures.same) c.loop-i-test.true c.i-item.is in
    record {
      place = omega (arith, c.loop-i.invariant.place);
      uses = uses_more m c.loop-i.rows.items c.add_readers.new.rows.items c.loop-i.i-index c.loop-i.reader c.i-item.result c.loop-i.invariant.place at c.loop-i.invariant.uses c.in_ok-add_readers.ensures;
    }

pub returns : goal.returns
returns c =
    let m = c.args.m.now in
    let code : length c.as_slice-i-items.result.now ≡ length m.code = ap length (c.as_slice-i-items.ensures ∙ ap (λ (x : Machine). x.code) c.machine-m.ensures.same) in
    subst (AreUsesOf m) (sym c.from_vec.ensures) (uses_all m c.loop-i.rows.items c.loop-i.i-index (omega (arith, c.loop-i-test.false)) c.loop-i.invariant.uses)
