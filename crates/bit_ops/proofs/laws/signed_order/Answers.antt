use Rattle.bit_ops.proofs.Algebra.{lt_s_low, lt_s_high, lt_s_negative, lt_s_positive}
use Rattle.bit_ops.proofs.laws.signed_order.Goals as goal

pub returns-clause-both_clear : goal.returns-clause-both_clear
returns-clause-both_clear c = lt_s_low

pub returns-clause-both_set : goal.returns-clause-both_set
returns-clause-both_set c = lt_s_high

pub returns-clause-left_set : goal.returns-clause-left_set
returns-clause-left_set c = lt_s_negative

pub returns-clause-right_set : goal.returns-clause-right_set
returns-clause-right_set c = lt_s_positive
