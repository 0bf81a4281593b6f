use Rattle.std.proofs.Common.{sym, ap, ◌∙◌, ◌++◌, map}
use Rattle.std.proofs.lemmas.Result.{on_ok_weaker}
use Rattle.driver_check.specs.Driven.{port_bound, sources_in}
use Rattle.driver_check.specs.Taking.{taken_source, taken_below}
use Rattle.driver_check.proofs.PortOrder.{below_taken}
use Rattle.driver_check.proofs.sources.push_driver.Goals as goal

pub returns-in-Instance : goal.returns-in-Instance
returns-in-Instance c =
    let vars = c.args.vars.now in
    let outputs = c.in-Instance.instance.outputs in
    on_ok_weaker c.push_outputs.result (λ added. added ∙ ap (λ xs. c.args.sources.now.items ++ xs)
    (ap (λ os. taken_below vars os (port_bound os)) c.as_slice.ensures
    ∙ sym (below_taken vars outputs (port_bound outputs))
    ∙ ap (λ d. map (taken_source vars) (sources_in d)) (sym c.in-Instance.is))) c.push_outputs.ensures
