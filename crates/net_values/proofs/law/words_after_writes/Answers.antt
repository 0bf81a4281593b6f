use Rattle.net_values.proofs.Overlays.{overlaid_length, overlaid_fits, overlaid_bits, overlaid-append}
use Rattle.net_values.proofs.law.words_after_writes.Goals as goal

pub returns-clause-length : goal.returns-clause-length
returns-clause-length c = overlaid_length

pub returns-clause-fits : goal.returns-clause-fits
returns-clause-fits c = overlaid_fits

pub returns-clause-bits : goal.returns-clause-bits
returns-clause-bits c = λ ws u writes x k long within there. overlaid_bits ws u writes x k long within

pub returns-clause-joined : goal.returns-clause-joined
returns-clause-joined c = overlaid-append
