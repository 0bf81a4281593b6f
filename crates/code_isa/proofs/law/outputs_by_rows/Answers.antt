use Rattle.code_isa.proofs.One.{outs_agree}
use Rattle.code_isa.proofs.law.outputs_by_rows.Goals as goal

pub returns : goal.returns
returns c = outs_agree
