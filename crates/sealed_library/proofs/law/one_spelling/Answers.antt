use Rattle.std.proofs.Common.{sym, ◌∙◌}
use Rattle.sealed_library.proofs.law.one_spelling.Goals as goal

pub returns : goal.returns
returns c = λ a b m p q. p.text ∙ sym q.text
