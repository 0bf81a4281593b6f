use Rattle.width_rules.proofs.Sizings.{terms_sized, terms_lawful, measured_lawful, terms_short}
use Rattle.width_rules.proofs.law.terms.Goals as goal

pub returns-clause-lawful : goal.returns-clause-lawful
returns-clause-lawful c = terms_lawful c.lawful_values.ensures c.signed_numbers.ensures.word c.sizes_and_values.ensures c.extension_then_cut.ensures.cut

pub returns-clause-sized : goal.returns-clause-sized
returns-clause-sized c = terms_sized c.lawful_values.ensures c.signed_numbers.ensures.word c.sizes_and_values.ensures c.extension_then_cut.ensures.cut

pub returns-clause-measured : goal.returns-clause-measured
returns-clause-measured c = measured_lawful c.lawful_values.ensures c.signed_numbers.ensures.word c.sizes_and_values.ensures c.extension_then_cut.ensures.cut

pub returns-clause-nodes : goal.returns-clause-nodes
returns-clause-nodes c = terms_short
