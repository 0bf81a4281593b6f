use Rattle.elaborate.proofs.LawfulItems.{specialised_lawful, specialised_names, specialised_ports}
use Rattle.elaborate.proofs.law.specialisations_are_lawful.Goals as goal

pub returns-clause-lawful : goal.returns-clause-lawful
returns-clause-lawful c = specialised_lawful c.terms.ensures.measured

pub returns-clause-names : goal.returns-clause-names
returns-clause-names c = specialised_names c.terms.ensures.measured

pub returns-clause-ports : goal.returns-clause-ports
returns-clause-ports c = specialised_ports c.terms.ensures.measured
