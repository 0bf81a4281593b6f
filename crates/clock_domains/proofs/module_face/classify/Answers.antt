use Rattle.std.proofs.Common.{◌≡◌, [], List, ◌++◌, sym, ◌∙◌, ap, rules}
use Rattle.std.specs.Result.{IsErrAnd}
use Rattle.sv_base.specs.declared.face.Port.{Port}
use Rattle.clock_domains.specs.Each.{of_each}
use Rattle.clock_domains.specs.Clocks.{joins_refused}
use Rattle.clock_domains.specs.Reads.{reads_refused}
use Rattle.clock_domains.specs.Order.{clocks_of, reads_of, IsRefused}
use Rattle.clock_domains.specs.Classes.{ports_in}
use Rattle.clock_domains.specs.code.Walking.{driver_refusals}
use Rattle.clock_domains.proofs.Walks.{found_behind, error_refuses}
use Rattle.clock_domains.proofs.Told.{joins_are, clocks_tell, reads_are, reads_tell, ports_are}
use Rattle.clock_domains.proofs.module_face.classify.Goals as goal

pub returns-in_err-read-clause-refused : goal.returns-in_err-read-clause-refused
returns-in_err-read-clause-refused c =
    let s = c.args.s.now in
    let faces = c.args.children.now.items in
    let same : IsErrAnd c.from_residual-in_err-read.result (λ e. e ≡ c.in_err-read.field-0.0) = search rules in
    error_refuses (IsRefused s faces) c.from_residual-in_err-read.result c.in_err-read.field-0.0 same
    (found_behind (of_each (joins_refused s.vars) s.drivers faces)
    (of_each (driver_refusals c.as_slice-vars.result.now c.as_slice-marked.result.now) c.as_slice-drivers.result.now c.as_slice-faces.result.now)
    (of_each (reads_refused s.vars (clocks_of s faces)) s.drivers faces) c.in_err-read.field-0.0
    (sym (joins_are s faces c.as_slice-faces.result.now c.as_slice-vars.result.now c.as_slice-drivers.result.now c.as_slice-vars.ensures
    c.as_slice-drivers.ensures c.as_slice-faces.ensures.value)
    ∙ c.in_ok-check_joins.ensures)
    (reads_are s faces c.as_slice-faces.result.now c.as_slice-vars.result.now c.as_slice-drivers.result.now c.in_ok-clocks.clocks.items
    c.as_slice-marked.result.now
    c.as_slice-vars.ensures c.as_slice-drivers.ensures c.as_slice-faces.ensures.value c.as_slice-marked.ensures.value
    (clocks_tell s faces c.as_slice-faces.result.now c.in_ok-clocks.clocks.items c.as_slice-faces.ensures.value c.in_ok-clocks.ensures))
    c.in_err-read.ensures.refused)

pub returns-clause-classified : goal.returns-clause-classified
returns-clause-classified c =
    let s = c.args.s.now in
    let faces = c.args.children.now.items in
    let clocks = clocks_tell s faces c.as_slice-faces.result.now c.in_ok-clocks.clocks.items c.as_slice-faces.ensures.value c.in_ok-clocks.ensures in
    let read = reads_tell s faces c.as_slice-faces.result.now c.as_slice-vars.result.now c.as_slice-drivers.result.now c.in_ok-read.read.items
    c.as_slice-vars.ensures c.as_slice-drivers.ensures c.as_slice-faces.ensures.value c.in_ok-read.ensures.marks in
    let joins : of_each (joins_refused s.vars) s.drivers faces ≡ [] =
    sym (joins_are s faces c.as_slice-faces.result.now c.as_slice-vars.result.now c.as_slice-drivers.result.now c.as_slice-vars.ensures
    c.as_slice-drivers.ensures c.as_slice-faces.ensures.value)
    ∙ c.in_ok-check_joins.ensures in
    let reads : of_each (reads_refused s.vars (clocks_of s faces)) s.drivers faces ≡ [] =
    sym (reads_are s faces c.as_slice-faces.result.now c.as_slice-vars.result.now c.as_slice-drivers.result.now c.in_ok-clocks.clocks.items
    c.as_slice-marked.result.now
    c.as_slice-vars.ensures c.as_slice-drivers.ensures c.as_slice-faces.ensures.value c.as_slice-marked.ensures.value clocks)
    ∙ c.in_ok-read.ensures.refused in
    let name : c.in_ok-name.name ≡ s.«module» = c.in_ok-name.ensures ∙ c.bytes.ensures in
    let ports : c.from_vec.result ≡ ports_in (clocks_of s faces) (reads_of s faces) 0 s.vars =
    c.from_vec.ensures ∙ c.in_ok-ports.ensures
    ∙ ports_are s faces c.as_slice-vars.result.now c.in_ok-clocks.clocks.items c.as_slice-marked.result.now c.in_ok-read.read.items c.as_slice.result.now
    c.as_slice-vars.ensures c.as_slice-marked.ensures.value c.as_slice.ensures.value clocks read in
    record {
      clean = ap (λ xs. xs ++ of_each (reads_refused s.vars (clocks_of s faces)) s.drivers faces) joins ∙ reads;
      is = ap (λ n. record { name = n; ports = c.from_vec.result }) name ∙ ap (λ (ps : List Port). record { name = s.«module»; ports = ps }) ports;
    }
