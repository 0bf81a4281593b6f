use Rattle.lib_create.proofs.Ending.{end_once}
use Rattle.lib_create.proofs.law.one_end.Goals as goal

pub returns : goal.returns
returns c =
    end_once (λ spec steps a b one. c.one_trace.ensures spec steps a b one)
    (record { designs = c.one_source.ensures.designs; solution = c.one_source.ensures.solution; refusals = c.one_source.ensures.refusals; apart = c.one_source.ensures.apart })
