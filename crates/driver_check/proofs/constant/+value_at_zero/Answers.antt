use Rattle.std.proofs.Common.{◌≡◌, ◌<◌, ◌≤◌, length, map, take, get_or, ◌+◌, [], rules, arith, subst, sym, ap, ◌∙◌, refl}
use Rattle.std.specs.Prelude.{slice_set}
use Rattle.std.proofs.lemmas.List.{length-map, length-set}
use Rattle.net_ir.specs.declared.term.Term.{Pick, Apply}
use Rattle.net_ir.specs.declared.term.Term.TheFolds.{the_lemmas}
use borrow.Author.Rules.{get_or_read}
use Rattle.net_ir.specs.Value.{operands, operand_of, widths_of, size, val}
use Rattle.net_ir.specs.Lawful.{IsLawful}
use Rattle.driver_check.proofs.Sizes.{width_is_size}
use Rattle.driver_check.proofs.Layers.{lawful_read, lawful_pick, pick_width, lawful_apply, lawful_arg, few_operands, more_operands, all_fit, all_value}
use Rattle.driver_check.proofs.constant.+value_at_zero.Goals as goal

pub zero_of-requires-clause-there : goal.zero_of-requires-clause-there
zero_of-requires-clause-there t c =
    let ws = widths_of c.args.vars.now in
    subst (λ n. c.in-Read.var < n) (length-map c.args.vars.now (λ v. v.width)) (lawful_read ws c.in-Read.var c.in-Read.place (subst (IsLawful ws) c.in-Read.is c.requires.term))

pub value_at_zero-base-requires : goal.value_at_zero-base-requires
value_at_zero-base-requires t c =
    let ws = widths_of c.args.vars.now in
    let pick = c.in-Pick in
    let lawful : IsLawful ws (Pick pick.base pick.low pick.at pick.at_signed pick.down pick.width) = subst (IsLawful ws) pick.is c.requires.term in (
      search (rules, the_lemmas, c.well_formed),
      (c.requires.vars, subst (IsLawful ws) (sym c.get.ensures) (lawful_pick ws pick.base pick.low pick.at pick.at_signed pick.down pick.width lawful).0),
    )

pub value_at_zero-at-requires : goal.value_at_zero-at-requires
value_at_zero-at-requires t c =
    let ws = widths_of c.args.vars.now in
    let pick = c.in-Pick in
    let lawful : IsLawful ws (Pick pick.base pick.low pick.at pick.at_signed pick.down pick.width) = subst (IsLawful ws) pick.is c.requires.term in (
      search (rules, the_lemmas, c.well_formed),
      (c.requires.vars, subst (IsLawful ws) (sym c.get-in-Pick.ensures) (lawful_pick ws pick.base pick.low pick.at pick.at_signed pick.down pick.width lawful).1),
    )

pub pick-requires : goal.pick-requires
pick-requires t c =
    let ws = widths_of c.args.vars.now in
    let pick = c.in-Pick in
    pick_width ws pick.base pick.low pick.at pick.at_signed pick.down pick.width (subst (IsLawful ws) pick.is c.requires.term)

pub loop-arg-init : goal.loop-arg-init
loop-arg-init t c =
    let ws = widths_of c.args.vars.now in
    let lawful : IsLawful ws (Apply c.in-Apply.op c.in-Apply.width c.in-Apply.lo c.in-Apply.args) = subst (IsLawful ws) c.in-Apply.is c.requires.term in
    let row = lawful_apply ws c.in-Apply.op c.in-Apply.width c.in-Apply.lo c.in-Apply.args lawful in
    let few : length (map (size ws) c.in-Apply.args) ≤ 3 = few_operands c.in-Apply.op c.in-Apply.width c.in-Apply.lo (map (size ws) c.in-Apply.args) row.1 in
    let few_args : length c.in-Apply.args ≤ 3 = subst (λ n. n ≤ 3) (length-map c.in-Apply.args (size ws)) few in
    record { count = refl; room = refl; few = subst (λ xs. length xs ≤ 3) (sym c.as_slice-arg-items.ensures) few_args; so_far = refl }

pub value_at_zero-requires : goal.value_at_zero-requires
value_at_zero-requires t c =
    let ws = widths_of c.args.vars.now in
    let lawful : IsLawful ws (Apply c.in-Apply.op c.in-Apply.width c.in-Apply.lo c.in-Apply.args) = subst (IsLawful ws) c.in-Apply.is c.requires.term in
    let same = c.as_slice-arg-items.ensures in (
      search (rules, the_lemmas, get_or_read, c.well_formed),
      (
        c.requires.vars,
        lawful_arg ws c.in-Apply.op c.in-Apply.width c.in-Apply.lo c.in-Apply.args c.loop-arg.arg-index c.arg-item.result lawful
            (subst (λ xs. c.loop-arg.arg-index < length xs) same c.loop-arg-test.true)
            (c.arg-item.is ∙ ap (λ xs. get_or xs c.loop-arg.arg-index c.arg-item.result) same),
      ),
    )

pub loop-arg-preserved : goal.loop-arg-preserved
loop-arg-preserved t c =
    let ws = widths_of c.args.vars.now in
    let inv = c.loop-arg.invariant in
    let here : c.loop-arg.arg-index < length c.loop-arg.given = omega arith in
    let value : (c.value_at_zero.result.width, c.value_at_zero.result.word) ≡ operand_of ws [] c.arg-item.result =
    ap (λ w. (w, c.value_at_zero.result.word)) (c.value_at_zero.ensures.width ∙ sym (width_is_size ws [] c.arg-item.result))
    ∙ ap (λ n. ((operand_of ws [] c.arg-item.result).0, n)) c.value_at_zero.ensures.word in
    let index : c.loop-arg.count ≡ c.loop-arg.arg-index = inv.count in
    record {
      count = omega arith;
      room = length-set c.loop-arg.given c.loop-arg.count c.value_at_zero.result ∙ inv.room;
      few = inv.few;
      so_far = subst (λ k. operands (take (c.loop-arg.arg-index + 1) (slice_set c.loop-arg.given k c.value_at_zero.result)) ≡ map (operand_of ws []) (take (c.loop-arg.arg-index + 1) c.as_slice-arg-items.result.now)) (sym index)
          (more_operands ws [] c.loop-arg.given c.as_slice-arg-items.result.now c.loop-arg.arg-index c.value_at_zero.result c.arg-item.result here c.loop-arg-test.true c.arg-item.is value inv.so_far);
    }

pub apply-requires-clause-width : goal.apply-requires-clause-width
apply-requires-clause-width t c =
    let ws = widths_of c.args.vars.now in
    (lawful_apply ws c.in-Apply.op c.in-Apply.width c.in-Apply.lo c.in-Apply.args (subst (IsLawful ws) c.in-Apply.is c.requires.term)).0

pub apply-requires-clause-fits : goal.apply-requires-clause-fits
apply-requires-clause-fits t c =
    let ws = widths_of c.args.vars.now in
    all_fit ws [] c.in-Apply.op c.in-Apply.width c.in-Apply.lo c.loop-arg.given c.as_slice-arg-items.result.now c.in-Apply.args c.loop-arg.count c.loop-arg.arg-index
    (subst (IsLawful ws) c.in-Apply.is c.requires.term) c.as_slice-arg-items.ensures c.loop-arg.invariant.count c.loop-arg-test.false c.loop-arg.invariant.so_far

pub returns-after-loop-arg-clause-word : goal.returns-after-loop-arg-clause-word
returns-after-loop-arg-clause-word t c =
    let ws = widths_of c.args.vars.now in
    c.apply.ensures.word
    ∙ all_value ws [] c.in-Apply.op c.in-Apply.width c.in-Apply.lo c.loop-arg.given c.as_slice-arg-items.result.now c.in-Apply.args c.loop-arg.count c.loop-arg.arg-index c.as_slice-arg-items.ensures c.loop-arg.invariant.count c.loop-arg-test.false c.loop-arg.invariant.so_far
    ∙ ap (val ws []) (sym c.in-Apply.is)
