use Rattle.std.proofs.Common.{◌+◌, true, List, map, Ok, Err, ap, subst, ◌∙◌, drop}
use Rattle.std.proofs.lemmas.Result.{err_from_is_err_and}
use Rattle.sv_base.specs.declared.fault.Fault.TheVariants.{Refused}
use Rattle.sv_ast.specs.declared.expression.Sel.{Sel}
use Rattle.const_eval.specs.Constant.{names_of, constant_named}
use Rattle.const_eval.specs.Expressions.{meaning_of, meanings_of, select_of, selected, second_select}
use Rattle.const_eval.specs.code.Agreeing.{Agrees, Matches, IsJoined}
use Rattle.const_eval.proofs.Matching.{own_matches}
use Rattle.const_eval.proofs.Parts.{begins, next_part, goes_on, is_refused, all_joined}
use Rattle.const_eval.proofs.Opened.{read_agrees, choice_agrees, choice_refused, repeat_agrees, two_selects, twice_refused, twice_told}
use Rattle.const_eval.proofs.measure.+measuring.Goals as goal

pub join-loop-part-init : goal.join-loop-part-init
join-loop-part-init t c = begins (names_of c.args.env.now) c.args.parts.now

pub join-returns-in_err-part : goal.join-returns-in_err-part
join-returns-in_err-part t c =
    let names = names_of c.args.env.now in
    let p = err_from_is_err_and c.from_residual.result c.from_residual.ensures.1 in
    rw (p.1, p.2) (is_refused names c.loop-part.joined c.in_err-part.field-0.0 c.part-item.result (drop (c.loop-part.part-index + 1) c.args.parts.now) c.args.parts.now
    (next_part names c.loop-part.joined c.args.parts.now c.loop-part.part-index c.part-item.result c.loop-part-test.true c.part-item.is c.loop-part.invariant) c.in_err-part.ensures)

pub join-loop-part-preserved : goal.join-loop-part-preserved
join-loop-part-preserved t c =
    let names = names_of c.args.env.now in
    goes_on names c.loop-part.joined c.with-joined.result c.in_ok-part.part c.part-item.result (drop (c.loop-part.part-index + 1) c.args.parts.now) c.args.parts.now
    (next_part names c.loop-part.joined c.args.parts.now c.loop-part.part-index c.part-item.result c.loop-part-test.true c.part-item.is c.loop-part.invariant) c.in_ok-part.ensures
    (λ ms m a j. c.with-joined.ensures ms m j (c.own.ensures.width ∙ a.size) (c.own.ensures.word ∙ own_matches c.in_ok-part.part m a))

pub join-returns : goal.join-returns
join-returns t c = all_joined (names_of c.args.env.now) c.loop-part.joined c.args.parts.now c.loop-part.part-index c.loop-part-test.false c.loop-part.invariant

pub measure-returns-in_ok-constant-in-Read : goal.measure-returns-in_ok-constant-in-Read
measure-returns-in_ok-constant-in-Read t c =
    let names = names_of c.args.env.now in
    rw c.in-Read.is (read_agrees names c.in-Read.name c.in-Read.selects c.in_ok-constant-in-Read.constant c.read.result c.in_ok-constant-in-Read.ensures
    (subst (λ (s : List Sel). Agrees Matches c.read.result (selected (map (select_of names) s) true (constant_named c.in_ok-constant-in-Read.constant.value c.in_ok-constant-in-Read.constant.low) c.in-Read.name))
    c.as_slice.ensures c.read.ensures))

pub measure-returns-in_ok-b-in-Choice : goal.measure-returns-in_ok-b-in-Choice
measure-returns-in_ok-b-in-Choice t c =
    let names = names_of c.args.env.now in
    let first : Agrees Matches (Ok c.in_ok-condition-in-Choice.condition) (meaning_of names true c.get-in-Choice.result.now) = c.in_ok-condition-in-Choice.ensures in
    let second : Agrees Matches (Ok c.in_ok-a-in-Choice.a) (meaning_of names true c.get-in-Choice-2.result.now) = c.in_ok-a-in-Choice.ensures in
    let third : Agrees Matches (Ok c.in_ok-b-in-Choice.b) (meaning_of names true c.get-in-Choice-3.result.now) = c.in_ok-b-in-Choice.ensures in
    rw (c.in-Choice.is) (choice_agrees names c.in-Choice.field-0 c.in-Choice.test c.in-Choice.first c.in-Choice.second
    c.in_ok-condition-in-Choice.condition c.in_ok-a-in-Choice.a c.in_ok-b-in-Choice.b c.chosen.result
    (rw (c.get-in-Choice.ensures) at first) (rw (c.get-in-Choice-2.ensures) at second) (rw (c.get-in-Choice-3.ensures) at third) c.chosen.ensures)

pub measure-returns-in_err-b-in-Choice : goal.measure-returns-in_err-b-in-Choice
measure-returns-in_err-b-in-Choice t c =
    let names = names_of c.args.env.now in
    let first : Agrees Matches (Ok c.in_ok-condition-in-Choice.condition) (meaning_of names true c.get-in-Choice.result.now) = c.in_ok-condition-in-Choice.ensures in
    let second : Agrees Matches (Ok c.in_ok-a-in-Choice.a) (meaning_of names true c.get-in-Choice-2.result.now) = c.in_ok-a-in-Choice.ensures in
    let third : Agrees Matches (Err c.in_err-b-in-Choice.field-0.0) (meaning_of names true c.get-in-Choice-3.result.now) = c.in_err-b-in-Choice.ensures in
    let p = err_from_is_err_and c.from_residual-in_err-b-in-Choice.result c.from_residual-in_err-b-in-Choice.ensures.1 in
    rw (p.1, p.2, c.in-Choice.is) (choice_refused names c.in-Choice.field-0 c.in-Choice.test c.in-Choice.first c.in-Choice.second
    c.in_ok-condition-in-Choice.condition c.in_ok-a-in-Choice.a c.in_err-b-in-Choice.field-0.0 (rw (c.get-in-Choice.ensures) at first) (rw (c.get-in-Choice-2.ensures) at second) (rw (c.get-in-Choice-3.ensures) at third))

pub measure-returns-in_ok-joined-in-Repeat : goal.measure-returns-in_ok-joined-in-Repeat
measure-returns-in_ok-joined-in-Repeat t c =
    let names = names_of c.args.env.now in
    let first : Agrees Matches (Ok c.in_ok-count-in-Repeat.count) (meaning_of names true c.get-in-Repeat.result.now) = c.in_ok-count-in-Repeat.ensures in
    let rest : Agrees IsJoined (Ok c.in_ok-joined-in-Repeat.joined) (meanings_of names true c.as_slice-in-Repeat.result.now) = c.in_ok-joined-in-Repeat.ensures in
    rw (c.in-Repeat.is) (repeat_agrees names c.in-Repeat.place c.in-Repeat.count c.in-Repeat.parts
    c.in_ok-count-in-Repeat.count c.in_ok-joined-in-Repeat.joined c.repeated.result (rw (c.get-in-Repeat.ensures) at first) (rw (c.as_slice-in-Repeat.ensures) at rest) c.repeated.ensures)

pub read-returns-in_err-positions-in-len2-up-2 : goal.read-returns-in_err-positions-in-len2-up-2
read-returns-in_err-positions-in-len2-up-2 t c =
    let f = select_of (names_of c.args.env.now) in
    let p = err_from_is_err_and c.from_residual-in_err-positions-in-len2-up-2.result c.from_residual-in_err-positions-in-len2-up-2.ensures.1 in
    rw (p.1, p.2, two_selects f c.args.selects.now c.first-item.result c.second-item.result (constant_named c.args.constant.value c.args.constant.low) c.args.name.now c.in-len2-up.len_at_least c.first-item.is c.second-item.is)
    (twice_refused (f c.first-item.result) (f c.second-item.result) c.in_ok-positions-in-len2-up.field-0 c.in_err-positions-in-len2-up-2.field-0.0 c.in_ok-positions-in-len2-up.ensures c.in_err-positions-in-len2-up-2.ensures)

pub read-returns-in_ok-second_select-in-len2-up : goal.read-returns-in_ok-second_select-in-len2-up
read-returns-in_ok-second_select-in-len2-up t c =
    let f = select_of (names_of c.args.env.now) in
    rw (two_selects f c.args.selects.now c.first-item.result c.second-item.result (constant_named c.args.constant.value c.args.constant.low) c.args.name.now c.in-len2-up.len_at_least c.first-item.is c.second-item.is)
    (twice_told (f c.first-item.result) (f c.second-item.result) c.in_ok-positions-in-len2-up.field-0 c.in_ok-positions-in-len2-up-2.field-0 c.in_ok-second_select-in-len2-up.field-0 c.in_ok-positions-in-len2-up.ensures c.in_ok-positions-in-len2-up-2.ensures (c.in_ok-second_select-in-len2-up.ensures ∙ ap (λ place. Refused (second_select place)) (c.place_of.ensures (names_of c.args.env.now))))
