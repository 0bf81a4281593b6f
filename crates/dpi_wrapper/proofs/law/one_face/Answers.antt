use Rattle.dpi_wrapper.proofs.Candidate.{one_good_face}
use Rattle.dpi_wrapper.proofs.law.one_face.Goals as goal

pub returns : goal.returns
returns c = one_good_face
