use Rattle.std.proofs.Common.{◌≡◌, ◌∙◌, [], refl, sym, ap, subst, length, map, arith}
use Rattle.std.proofs.lemmas.List.{length-map}
use Rattle.std.proofs.lemmas.Result.{err_from_is_err_and}
use Rattle.net_ir.specs.Value.{widths_of}
use Rattle.driver_check.specs.Driven.{sources_of, overlaps, IsDriverMap}
use Rattle.driver_check.specs.Taking.{taken_source}
use Rattle.driver_check.specs.code.Marks.{undriven, AreInside, flaws_of}
use Rattle.driver_check.proofs.Driving.{HasDrivers, none_driven}
use Rattle.driver_check.proofs.Turns.{item_at, item_inside, item_in_rows, first_turn, refused_more, driven_more, all_told}
use Rattle.driver_check.proofs.driven.driven_once.Goals as goal

pub loop-number-init : goal.loop-number-init
loop-number-init c =
    let vars = c.args.spec.now.vars in
    record {
      rows = subst (HasDrivers vars []) (sym (c.in_ok-rows.ensures ∙ ap (map undriven) c.as_slice-vars.ensures)) (none_driven vars);
      refused = refl;
    }

pub judge_source-requires-clause-inside : goal.judge_source-requires-clause-inside
judge_source-requires-clause-inside c =
    let vars = c.args.spec.now.vars in
    let all = sources_of c.args.spec.now in
    let at = item_at vars all c.loop-number.number c.len-number-end.result c.index-as_slice-number.result c.in_ok-sources.sources c.as_slice.result.now c.in_ok-sources.ensures c.as_slice.ensures c.len-number-end.ensures c.loop-number-test.true c.index-as_slice-number.is in
    subst (λ vs. AreInside (widths_of vs) c.index-as_slice-number.result.taken) (sym c.as_slice-vars.ensures)
    (item_inside vars all c.loop-number.number c.index-as_slice-number.result at c.loop-number.rows.items c.loop-number.invariant.rows (overlaps c.args.spec.now) c.loop-number.invariant.refused)

pub returns-in_err-judge_source-clause-judged : goal.returns-in_err-judge_source-clause-judged
returns-in_err-judge_source-clause-judged c =
    let vars = c.args.spec.now.vars in
    let all = sources_of c.args.spec.now in
    let item = c.index-as_slice-number.result in
    let at = item_at vars all c.loop-number.number c.len-number-end.result c.index-as_slice-number.result c.in_ok-sources.sources c.as_slice.result.now c.in_ok-sources.ensures c.as_slice.ensures c.len-number-end.ensures c.loop-number-test.true c.index-as_slice-number.is in
    let p = err_from_is_err_and c.from_residual-in_err-judge_source.result c.from_residual-in_err-judge_source.ensures.1 in
    rw (p.1, p.2)
    (first_turn vars all c.loop-number.number item at c.loop-number.rows.items c.loop-number.invariant.rows (overlaps c.args.spec.now) c.loop-number.invariant.refused
    c.as_slice-vars.result.now c.as_slice-in-loop-number.result.now _ c.as_slice-vars.ensures c.as_slice-in-loop-number.ensures.value c.in_err-judge_source.ensures)

pub mark_source-requires : goal.mark_source-requires
mark_source-requires c =
    let vars = c.args.spec.now.vars in
    let all = sources_of c.args.spec.now in
    let item = c.index-as_slice-number.result in
    let at = item_at vars all c.loop-number.number c.len-number-end.result c.index-as_slice-number.result c.in_ok-sources.sources c.as_slice.result.now c.in_ok-sources.ensures c.as_slice.ensures c.len-number-end.ensures c.loop-number-test.true c.index-as_slice-number.is in
    item_in_rows vars all c.loop-number.number item at c.loop-number.rows.items c.loop-number.invariant.rows (overlaps c.args.spec.now) c.loop-number.invariant.refused

pub loop-number-preserved : goal.loop-number-preserved
loop-number-preserved c =
    let vars = c.args.spec.now.vars in
    let all = sources_of c.args.spec.now in
    let item = c.index-as_slice-number.result in
    let rows = c.loop-number.rows.items in
    let at = item_at vars all c.loop-number.number c.len-number-end.result c.index-as_slice-number.result c.in_ok-sources.sources c.as_slice.result.now c.in_ok-sources.ensures c.as_slice.ensures c.len-number-end.ensures c.loop-number-test.true c.index-as_slice-number.is in
    let none : flaws_of vars rows item ≡ [] =
    sym (ap (λ vs. flaws_of vs rows item) c.as_slice-vars.ensures) ∙ sym (ap (λ rs. flaws_of c.as_slice-vars.result.now rs item) c.as_slice-in-loop-number.ensures.value) ∙ c.in_ok-judge_source.ensures
    in record {
      rows = driven_more vars all c.loop-number.number item at rows c.loop-number.invariant.rows (overlaps c.args.spec.now) c.loop-number.invariant.refused c.mark_source.new.rows.items none c.mark_source.ensures;
      refused = refused_more vars all c.loop-number.number item at rows c.loop-number.invariant.rows (overlaps c.args.spec.now) c.loop-number.invariant.refused none;
    }

pub returns-clause-map : goal.returns-clause-map
returns-clause-map c =
    let spec = c.args.spec.now in
    let count = ap length c.in_ok-sources.ensures ∙ length-map (sources_of spec) (taken_source spec.vars) in
    subst (λ rows. IsDriverMap spec rows) (sym c.from_vec.ensures)
    (all_told spec c.loop-number.number c.loop-number.rows.items (omega (arith, count, c.len-number-end.ensures, c.loop-number-test.false)) c.loop-number.invariant.rows)
