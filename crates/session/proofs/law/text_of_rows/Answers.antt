use Rattle.session.proofs.Texts.{text-snoc}
use Rattle.session.proofs.law.text_of_rows.Goals as goal

pub returns : goal.returns
returns c = text-snoc
