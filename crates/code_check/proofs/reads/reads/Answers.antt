use Rattle.std.proofs.Common.{subst, sym}
use Rattle.std.specs.Prelude.{All}
use Rattle.code_isa.specs.declared.machine.Instr.{Instr}
use Rattle.code_isa.specs.Slots.{operand_slots}
use Rattle.code_check.specs.code.Reads.{IsNarrow, AreJoinedWithin}
use Rattle.code_check.proofs.Rows.{all_joined, narrow_code}
use Rattle.code_check.proofs.reads.reads.Goals as goal

pub add_kids-requires-clause-inside : goal.add_kids-requires-clause-inside
add_kids-requires-clause-inside c = subst (All AreJoinedWithin) (sym c.as_slice-2.ensures) (all_joined c.args.m.now c.requires.ports)

pub add_code-requires : goal.add_code-requires
add_code-requires c = subst (All (λ (i : Instr). IsNarrow (operand_slots i))) (sym c.as_slice-3.ensures) (narrow_code c.args.m.now c.requires.few c.requires.order)
