use Rattle.bit_ops.proofs.Positions.{bit_at-slice, bit_at-concat_low, bit_at-concat_high, bit_at-insert_below, bit_at-insert_inside, bit_at-insert_above, bit_at-sext_low, bit_at-sext_high}
use Rattle.bit_ops.proofs.laws.moved_bits.Goals as goal

pub returns-clause-slice : goal.returns-clause-slice
returns-clause-slice c = bit_at-slice

pub returns-clause-concat_lower : goal.returns-clause-concat_lower
returns-clause-concat_lower c = bit_at-concat_low

pub returns-clause-concat_upper : goal.returns-clause-concat_upper
returns-clause-concat_upper c = bit_at-concat_high

pub returns-clause-insert_below : goal.returns-clause-insert_below
returns-clause-insert_below c = bit_at-insert_below

pub returns-clause-insert_inside : goal.returns-clause-insert_inside
returns-clause-insert_inside c = bit_at-insert_inside

pub returns-clause-insert_above : goal.returns-clause-insert_above
returns-clause-insert_above c = bit_at-insert_above

pub returns-clause-sext_kept : goal.returns-clause-sext_kept
returns-clause-sext_kept c = bit_at-sext_low

pub returns-clause-sext_new : goal.returns-clause-sext_new
returns-clause-sext_new c = bit_at-sext_high
