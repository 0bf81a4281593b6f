use Rattle.bit_ops.proofs.Algebra.{slice-slice, slice-concat_low, slice-concat_high, slice-concat_across, slice-shr_u}
use Rattle.bit_ops.proofs.laws.slices.Goals as goal

pub returns-clause-of_slice : goal.returns-clause-of_slice
returns-clause-of_slice c = slice-slice

pub returns-clause-of_lower : goal.returns-clause-of_lower
returns-clause-of_lower c = slice-concat_low

pub returns-clause-of_upper : goal.returns-clause-of_upper
returns-clause-of_upper c = slice-concat_high

pub returns-clause-of_both : goal.returns-clause-of_both
returns-clause-of_both c = slice-concat_across

pub returns-clause-of_shifted : goal.returns-clause-of_shifted
returns-clause-of_shifted c = slice-shr_u
