use Rattle.std.proofs.Common.{◌≡◌, sym, ap, ◌∙◌, true, false, List, Bool}
use Rattle.std.specs.List.{list_all}
use Rattle.net_ir.specs.declared.design.Var.{Var}
use Rattle.net_ir.specs.declared.design.Driver.{Driver}
use Rattle.plain_run.specs.code.Marks.{has_clocks}
use Rattle.plain_run.proofs.Marking.{each_fails, each_done}
use Rattle.plain_run.proofs.PlainClocks.{clocks_decided}
use Rattle.plain_run.proofs.plain.have_clocks.Goals as goal

-- variables and drivers as they are read
as_read : (vars vs : List Var) (drivers ds : List Driver) (read : List Bool) → vs ≡ vars → ds ≡ drivers →
    list_all (has_clocks vs read) ds ≡ list_all (has_clocks vars read) drivers
as_read vars vs drivers ds read same_vars same_drivers =
    ap (list_all (has_clocks vs read)) same_drivers ∙ ap (λ v. list_all (has_clocks v read) drivers) same_vars

pub returns-then-not-has_clocks : goal.returns-then-not-has_clocks
returns-then-not-has_clocks c =
    let vars = c.as_slice-vars.result.now in
    let read = c.in_ok-read.read.items in
    let fails : has_clocks vars read c.driver-item.result ≡ false =
    ap (λ m. has_clocks vars m c.driver-item.result) (sym c.deref.ensures.value) ∙ sym c.has_clocks.ensures ∙ c.if-not-has_clocks.true in
    clocks_decided c.args.spec.now read false c.in_ok-read.ensures
    (each_fails (has_clocks vars read) c.as_slice-driver-items.result.now c.loop-driver.driver-index c.driver-item.result _
    c.loop-driver-test.true c.driver-item.is fails c.loop-driver.invariant
    ∙ as_read c.args.spec.now.vars vars c.args.spec.now.drivers c.as_slice-driver-items.result.now read c.as_slice-vars.ensures c.as_slice-driver-items.ensures)

pub returns : goal.returns
returns c =
    let vars = c.as_slice-vars.result.now in
    let read = c.in_ok-read.read.items in
    clocks_decided c.args.spec.now read true c.in_ok-read.ensures
    (each_done (has_clocks vars read) c.as_slice-driver-items.result.now c.loop-driver.driver-index _ c.loop-driver-test.false c.loop-driver.invariant
    ∙ as_read c.args.spec.now.vars vars c.args.spec.now.drivers c.as_slice-driver-items.result.now read c.as_slice-vars.ensures c.as_slice-driver-items.ensures)
