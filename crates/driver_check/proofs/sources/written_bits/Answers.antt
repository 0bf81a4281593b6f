use Rattle.std.proofs.Common.{sym, ap, ◌∙◌, ◌++◌, map}
use Rattle.std.specs.List.{flat_map}
use Rattle.std.proofs.lemmas.List.{append-nil, drop_all}
use Rattle.net_ir.specs.declared.design.Driver.{Driver}
use Rattle.driver_check.specs.Driven.{sources_in}
use Rattle.driver_check.specs.Taking.{taken_source}
use Rattle.driver_check.proofs.Opened.{map_of_flat}
use Rattle.driver_check.proofs.sources.written_bits.Goals as goal

pub returns : goal.returns
returns c =
    let vars = c.args.spec.now.vars in
    let items = c.loop-driver.sources.items in
    c.from_vec.ensures
    ∙ sym (append-nil items)
    ∙ sym (ap (λ ds. items ++ flat_map (λ (d : Driver). map (taken_source vars) (sources_in d)) ds) (drop_all c.loop-driver.driver-index c.as_slice-driver-items.result.now c.loop-driver-test.false))
    ∙ c.loop-driver.invariant
    ∙ sym (map_of_flat (taken_source vars) sources_in c.args.spec.now.drivers)
