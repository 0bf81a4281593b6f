use Rattle.std.proofs.Common.{◌≡◌, ◌+◌, ◌-◌, ◌++◌, ◌∷◌, [], List, length, take, drop, sym, ap, subst, ◌∙◌}
use Rattle.std.specs.Prelude.{OnOk}
use Rattle.std.proofs.lemmas.List.{append-nil, take_rest}
use Rattle.sv_base.specs.Classes.{is_clock}
use Rattle.sv_base.specs.declared.face.Port.{Port}
use Rattle.dpi_wrapper.specs.WrapperText.{ports_of, clocked}
use Rattle.dpi_wrapper.proofs.Pieces.{filter_none, filter_first}
use Rattle.dpi_wrapper.proofs.processes.push_clocked.Goals as goal

pub returns-in-None : goal.returns-in-None
unfolding clocked
returns-in-None c =
    let none : ports_of is_clock c.args.face.now.ports ≡ [] = ap (ports_of is_clock) (sym c.as_slice-ports.ensures)
    ∙ filter_none (λ (p : Port). is_clock p.class) c.as_slice-ports.result.now (sym c.in-None.ensures) in
    sym (ap (λ ports. c.args.into.now.items ++ clocked c.args.face.now ports) none ∙ append-nil c.args.into.now.items)

pub returns-in-Some : goal.returns-in-Some
returns-in-Some c =
    let is = λ (p : Port). is_clock p.class in
    let ports = c.as_slice-ports.result.now in
    let at = c.in-Some.at in
    let port = c.index-ports-at.result in
    let kept : ports_of is_clock c.args.face.now.ports ≡ port ∷ ports_of is_clock (take (length ports - (at + 1)) (drop (at + 1) ports)) =
    ap (ports_of is_clock) (sym c.as_slice-ports.ensures)
    ∙ filter_first is ports at port (sym c.in-Some.ensures)
    ∙ ap (λ (p : Port). p ∷ ports_of is_clock (drop (at + 1) ports)) (sym c.index-ports-at.is)
    ∙ ap (λ (ps : List Port). port ∷ ports_of is_clock ps) (sym (take_rest ports (at + 1))) in
    subst (λ (ps : List Port). OnOk c.push_process.result (c.push_process.new.into.items ≡ c.args.into.now.items ++ clocked c.args.face.now ps)) (sym kept)
    c.push_process.ensures
