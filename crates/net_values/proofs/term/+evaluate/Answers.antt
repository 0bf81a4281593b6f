use Rattle.std.proofs.Common.{◌≡◌, ◌<◌, ◌≤◌, length, map, take, get_or, ◌+◌, [], rules, arith, subst, sym, ap, ◌∙◌, refl}
use Rattle.std.specs.Prelude.{slice_set}
use Rattle.std.proofs.lemmas.List.{length-map, length-set}
use Rattle.net_ir.specs.declared.term.Term.{Pick, Apply}
use Rattle.net_ir.specs.declared.term.Term.TheFolds.{the_lemmas}
use borrow.Author.Rules.{get_or_read}
use Rattle.bit_ops.specs.Lists.{words, widths}
use Rattle.net_ir.specs.Value.{operands, operand_of, size, val}
use Rattle.net_ir.specs.Lawful.{IsLawful}
use Rattle.net_values.proofs.Terms.{width_is_size}
use Rattle.net_values.proofs.Layers.{lawful_pick, pick_width, lawful_apply, lawful_arg, few_operands, operand_read, read_width, read_word, more_operands, all_fit, all_value, read_there}
use Rattle.net_values.proofs.term.+evaluate.Goals as goal

pub bounds-values-var : goal.bounds-values-var
bounds-values-var t c = read_there c.args.values.now c.in-Read.var c.in-Read.place c.args.term.now c.in-Read.is c.requires

pub evaluate-base-requires : goal.evaluate-base-requires
evaluate-base-requires t c =
    let ws = widths c.args.values.now in
    let pick = c.in-Pick in
    let lawful : IsLawful ws (Pick pick.base pick.low pick.at pick.at_signed pick.down pick.width) = subst (IsLawful ws) pick.is c.requires in (
      search (rules, the_lemmas, c.well_formed),
      subst (IsLawful ws) (sym c.get.ensures) (lawful_pick ws pick.base pick.low pick.at pick.at_signed pick.down pick.width lawful).0,
    )

pub evaluate-at-requires : goal.evaluate-at-requires
evaluate-at-requires t c =
    let ws = widths c.args.values.now in
    let pick = c.in-Pick in
    let lawful : IsLawful ws (Pick pick.base pick.low pick.at pick.at_signed pick.down pick.width) = subst (IsLawful ws) pick.is c.requires in (
      search (rules, the_lemmas, c.well_formed),
      subst (IsLawful ws) (sym c.get-in-Pick.ensures) (lawful_pick ws pick.base pick.low pick.at pick.at_signed pick.down pick.width lawful).1,
    )

pub pick-requires : goal.pick-requires
pick-requires t c =
    let ws = widths c.args.values.now in
    let pick = c.in-Pick in
    pick_width ws pick.base pick.low pick.at pick.at_signed pick.down pick.width (subst (IsLawful ws) pick.is c.requires)

pub loop-arg-init : goal.loop-arg-init
loop-arg-init t c =
    let ws = widths c.args.values.now in
    let lawful : IsLawful ws (Apply c.in-Apply.op c.in-Apply.width c.in-Apply.lo c.in-Apply.args) = subst (IsLawful ws) c.in-Apply.is c.requires in
    let row = lawful_apply ws c.in-Apply.op c.in-Apply.width c.in-Apply.lo c.in-Apply.args lawful in
    let few : length (map (size ws) c.in-Apply.args) ≤ 3 = few_operands c.in-Apply.op c.in-Apply.width c.in-Apply.lo (map (size ws) c.in-Apply.args) row.1 in
    let few_args : length c.in-Apply.args ≤ 3 = subst (λ n. n ≤ 3) (length-map c.in-Apply.args (size ws)) few in
    record { count = refl; room = refl; few = subst (λ xs. length xs ≤ 3) (sym c.as_slice-arg-items.ensures) few_args; so_far = refl }

pub evaluate-requires : goal.evaluate-requires
evaluate-requires t c =
    let ws = widths c.args.values.now in
    let lawful : IsLawful ws (Apply c.in-Apply.op c.in-Apply.width c.in-Apply.lo c.in-Apply.args) = subst (IsLawful ws) c.in-Apply.is c.requires in
    let same = c.as_slice-arg-items.ensures in (
      search (rules, the_lemmas, get_or_read, c.well_formed),
      lawful_arg ws c.in-Apply.op c.in-Apply.width c.in-Apply.lo c.in-Apply.args c.loop-arg.arg-index c.arg-item.result lawful
          (subst (λ xs. c.loop-arg.arg-index < length xs) same c.loop-arg-test.true)
          (c.arg-item.is ∙ ap (λ xs. get_or xs c.loop-arg.arg-index c.arg-item.result) same),
    )

pub loop-arg-preserved : goal.loop-arg-preserved
loop-arg-preserved t c =
    let ws = widths c.args.values.now in
    let u = words c.args.values.now in
    let inv = c.loop-arg.invariant in
    let here : c.loop-arg.arg-index < length c.loop-arg.given = omega arith in
    let value : (c.evaluate.result.width, c.evaluate.result.word) ≡ operand_of ws u c.arg-item.result =
    ap (λ w. (w, c.evaluate.result.word)) (c.evaluate.ensures.width ∙ sym (width_is_size ws u c.arg-item.result))
    ∙ ap (λ n. ((operand_of ws u c.arg-item.result).0, n)) c.evaluate.ensures.word in
    let index : c.loop-arg.count ≡ c.loop-arg.arg-index = inv.count in
    record {
      count = omega arith;
      room = length-set c.loop-arg.given c.loop-arg.count c.evaluate.result ∙ inv.room;
      few = inv.few;
      so_far = subst (λ k. operands (take (c.loop-arg.arg-index + 1) (slice_set c.loop-arg.given k c.evaluate.result)) ≡ map (operand_of ws u) (take (c.loop-arg.arg-index + 1) c.as_slice-arg-items.result.now)) (sym index)
          (more_operands ws u c.loop-arg.given c.as_slice-arg-items.result.now c.loop-arg.arg-index c.evaluate.result c.arg-item.result here c.loop-arg-test.true c.arg-item.is value inv.so_far);
    }

pub apply-requires-clause-width : goal.apply-requires-clause-width
apply-requires-clause-width t c =
    let ws = widths c.args.values.now in
    (lawful_apply ws c.in-Apply.op c.in-Apply.width c.in-Apply.lo c.in-Apply.args (subst (IsLawful ws) c.in-Apply.is c.requires)).0

pub apply-requires-clause-fits : goal.apply-requires-clause-fits
apply-requires-clause-fits t c =
    let ws = widths c.args.values.now in
    all_fit ws (words c.args.values.now) c.in-Apply.op c.in-Apply.width c.in-Apply.lo c.loop-arg.given c.as_slice-arg-items.result.now c.in-Apply.args c.loop-arg.count c.loop-arg.arg-index
    (subst (IsLawful ws) c.in-Apply.is c.requires) c.as_slice-arg-items.ensures c.loop-arg.invariant.count c.loop-arg-test.false c.loop-arg.invariant.so_far

pub returns-in-Read-clause-width : goal.returns-in-Read-clause-width
returns-in-Read-clause-width t c =
    let ws = widths c.args.values.now in
    sym (read_width c.args.values.now c.in-Read.var c.index-values-var.result (read_there c.args.values.now c.in-Read.var c.in-Read.place c.args.term.now c.in-Read.is c.requires) c.index-values-var.is)
    ∙ sym (ap (λ p. p.0) (operand_read ws [] c.in-Read.var c.in-Read.place)) ∙ ap (size ws) (sym c.in-Read.is)

pub returns-in-Read-clause-word : goal.returns-in-Read-clause-word
returns-in-Read-clause-word t c =
    let ws = widths c.args.values.now in
    let u = words c.args.values.now in
    sym (read_word c.args.values.now c.in-Read.var c.index-values-var.result (read_there c.args.values.now c.in-Read.var c.in-Read.place c.args.term.now c.in-Read.is c.requires) c.index-values-var.is)
    ∙ sym (ap (λ p. p.1) (operand_read ws u c.in-Read.var c.in-Read.place)) ∙ ap (val ws u) (sym c.in-Read.is)

pub returns-after-loop-arg-clause-word : goal.returns-after-loop-arg-clause-word
returns-after-loop-arg-clause-word t c =
    let ws = widths c.args.values.now in
    let u = words c.args.values.now in
    c.apply.ensures.word
    ∙ all_value ws u c.in-Apply.op c.in-Apply.width c.in-Apply.lo c.loop-arg.given c.as_slice-arg-items.result.now c.in-Apply.args c.loop-arg.count c.loop-arg.arg-index c.as_slice-arg-items.ensures c.loop-arg.invariant.count c.loop-arg-test.false c.loop-arg.invariant.so_far
    ∙ ap (val ws u) (sym c.in-Apply.is)
