use Rattle.std.proofs.Common.{◌<◌, ◌/◌, ◌^◌, ◌∙◌, length, get_or, ap, subst, rules}
use Rattle.net_ir.specs.declared.statement.Target.TheFolds.{the_lemmas}
use borrow.Author.Rules.{get_or_read}
use Rattle.bit_ops.specs.Lists.{words}
use Rattle.net_ir.specs.Value.{widths_of}
use Rattle.net_ir.specs.Lawful.{IsLawfulTarget}
use Rattle.net_values.proofs.LawfulParts.{all_at, target_parts, target_pos}
use Rattle.net_values.proofs.Stores.{width_more, parts_more, part_narrow, part_within, rest_behind, rest_narrow}
use Rattle.net_values.proofs.target.+store_word.Goals as goal

pub store_named-requires-clause-var : goal.store_named-requires-clause-var
store_named-requires-clause-var t c =
    let ws = widths_of c.args.vars.now in
    (target_pos ws c.in-Of.var c.in-Of.name c.in-Of.place c.in-Of.pos (subst (IsLawfulTarget ws) c.in-Of.is c.requires.target)).0

pub store_named-requires-clause-pos : goal.store_named-requires-clause-pos
store_named-requires-clause-pos t c =
    let ws = widths_of c.args.vars.now in
    (target_pos ws c.in-Of.var c.in-Of.name c.in-Of.place c.in-Of.pos (subst (IsLawfulTarget ws) c.in-Of.is c.requires.target)).1

pub target_width-rest-requires-in-loop-part : goal.target_width-rest-requires-in-loop-part
target_width-rest-requires-in-loop-part t c =
    part_narrow _ _ _ _ _ c.loop-part.invariant.behind
    (width_more c.args.vars.now c.as_slice-part-items.result.now c.loop-part.part-index c.part-item.result c.loop-part-test.true c.part-item.is) c.loop-part.invariant.narrow

pub overflow_sub-rest : goal.overflow_sub-rest
overflow_sub-rest t c =
    part_within _ _ _ _ _ c.loop-part.invariant.behind
    (width_more c.args.vars.now c.as_slice-part-items.result.now c.loop-part.part-index c.part-item.result c.loop-part-test.true c.part-item.is)
    c.target_width-rest-in-loop-part.ensures

pub store_word-requires : goal.store_word-requires
store_word-requires t c =
    let ws = widths_of c.args.vars.now in
    let all = target_parts ws c.in-List.parts (subst (IsLawfulTarget ws) c.in-List.is c.requires.target) in
    let same = c.as_slice-part-items.ensures in
    let inv = c.loop-part.invariant in (
      search (rules, the_lemmas, get_or_read, c.well_formed),
      (
        all_at (IsLawfulTarget ws) c.in-List.parts c.loop-part.part-index c.part-item.result all
            (subst (λ xs. c.loop-part.part-index < length xs) same c.loop-part-test.true)
            (c.part-item.is ∙ ap (λ xs. get_or xs c.loop-part.part-index c.part-item.result) same),
        (
          part_narrow _ _ _ _ _ inv.behind
              (width_more c.args.vars.now c.as_slice-part-items.result.now c.loop-part.part-index c.part-item.result c.loop-part-test.true c.part-item.is) inv.narrow,
          (c.requires.seen, inv.same_widths ∙ c.requires.values),
        ),
      ),
    )

pub loop-part-preserved : goal.loop-part-preserved
loop-part-preserved t c =
    let vars = c.args.vars.now in
    let items = c.as_slice-part-items.result.now in
    let i = c.loop-part.part-index in
    let inv = c.loop-part.invariant in
    let more = width_more vars items i c.part-item.result c.loop-part-test.true c.part-item.is in
    let behind = rest_behind _ _ _ _ _ inv.behind more c.target_width-rest-in-loop-part.ensures in
    record {
      behind = behind;
      narrow = rest_narrow _ _ _ inv.narrow;
      same_widths = c.store_word.ensures.widths ∙ inv.same_widths;
      so_far = parts_more vars (words c.args.seen.now) (words c.loop-part.values) (words c.store_word.new.values) items i c.part-item.result c.args.word c.without_lowest.result c.loop-part-test.true c.part-item.is
          (c.without_lowest.ensures ∙ ap (λ n. c.args.word / 2 ^ n) behind) c.store_word.ensures.words ∙ inv.so_far;
    }
