use Rattle.sealer.proofs.Sources.{Laws, designs_once, refusals_once, apart}
use Rattle.sealer.proofs.Fronts.{design_plain}
use Rattle.sealer.proofs.law.one_source.Goals as goal

pub returns-clause-designs : goal.returns-clause-designs
returns-clause-designs c =
    let laws : Laws = record { lists = c.one_list.ensures; refusals = c.one_refusal.ensures; either = c.not_both.ensures; files = c.one_reading.ensures; faults = c.one_refusal-2.ensures; alone = c.not_both-2.ensures } in
    designs_once laws

pub returns-clause-solution : goal.returns-clause-solution
returns-clause-solution c = λ top bytes spec has. c.plain_solution.ensures spec (design_plain top bytes spec has)

pub returns-clause-refusals : goal.returns-clause-refusals
returns-clause-refusals c =
    let laws : Laws = record { lists = c.one_list.ensures; refusals = c.one_refusal.ensures; either = c.not_both.ensures; files = c.one_reading.ensures; faults = c.one_refusal-2.ensures; alone = c.not_both-2.ensures } in
    refusals_once laws

pub returns-clause-apart : goal.returns-clause-apart
returns-clause-apart c =
    let laws : Laws = record { lists = c.one_list.ensures; refusals = c.one_refusal.ensures; either = c.not_both.ensures; files = c.one_reading.ensures; faults = c.one_refusal-2.ensures; alone = c.not_both-2.ensures } in
    apart laws
