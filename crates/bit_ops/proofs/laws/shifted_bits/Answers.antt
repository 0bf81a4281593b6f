use Rattle.bit_ops.proofs.Positions.{bit_at-shl_below, bit_at-shl_above, bit_at-shr_u, bit_at-shr_s_inside, bit_at-shr_s_past}
use Rattle.bit_ops.proofs.laws.shifted_bits.Goals as goal

pub returns-clause-shl_below : goal.returns-clause-shl_below
returns-clause-shl_below c = bit_at-shl_below

pub returns-clause-shl_above : goal.returns-clause-shl_above
returns-clause-shl_above c = bit_at-shl_above

pub returns-clause-shr_u : goal.returns-clause-shr_u
returns-clause-shr_u c = bit_at-shr_u

pub returns-clause-shr_s_inside : goal.returns-clause-shr_s_inside
returns-clause-shr_s_inside c = bit_at-shr_s_inside

pub returns-clause-shr_s_past : goal.returns-clause-shr_s_past
returns-clause-shr_s_past c = bit_at-shr_s_past
