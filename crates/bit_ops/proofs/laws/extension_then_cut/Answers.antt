use Rattle.bit_ops.proofs.Algebra.{slice_lowest, slice-zext, slice-sext, sext-sext}
use Rattle.bit_ops.proofs.laws.extension_then_cut.Goals as goal

pub returns-clause-cut : goal.returns-clause-cut
returns-clause-cut c = slice_lowest

pub returns-clause-zext_then_cut : goal.returns-clause-zext_then_cut
returns-clause-zext_then_cut c = slice-zext

pub returns-clause-sext_then_cut : goal.returns-clause-sext_then_cut
returns-clause-sext_then_cut c = slice-sext

pub returns-clause-sext_twice : goal.returns-clause-sext_twice
returns-clause-sext_twice c = sext-sext
