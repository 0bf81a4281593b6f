use Rattle.dpi_wrapper.proofs.Candidate.{candidate_alone, no_candidate, IfNone-weaker}
use Rattle.dpi_wrapper.proofs.reading.read_wrapper.Goals as goal

pub returns-in-Ok-clause-none : goal.returns-in-Ok-clause-none
returns-in-Ok-clause-none c =
    IfNone-weaker c.confirmed.result _ _ (λ refused. candidate_alone c.args.bytes.now c.in-Ok.w c.in-Ok.ensures refused) c.confirmed.ensures.none

pub returns-in-Err-NoFace-clause-none : goal.returns-in-Err-NoFace-clause-none
returns-in-Err-NoFace-clause-none c = no_candidate c.args.bytes.now (rw c.in-Err-NoFace.field-0-is at c.in-Err-NoFace.ensures)
