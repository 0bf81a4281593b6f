use Rattle.std.proofs.Common.{◌<◌, ◌++◌, length, get_or, rules, subst, sym, ap, ◌∙◌}
use Rattle.std.specs.List.{flat_map}
use Rattle.net_ir.specs.declared.statement.Target.TheFolds.{the_lemmas}
use borrow.Author.Rules.{get_or_read}
use Rattle.net_ir.specs.Value.{widths_of}
use Rattle.net_ir.specs.Lawful.{IsLawfulTarget}
use Rattle.driver_check.specs.code.Runs.{taken_by}
use Rattle.driver_check.proofs.LawfulParts.{all_at, target_parts, target_pos}
use Rattle.driver_check.proofs.Takings.{parts_taken}
use Rattle.driver_check.proofs.runs.+push_target.Goals as goal

pub taken_of-requires-clause-pos : goal.taken_of-requires-clause-pos
taken_of-requires-clause-pos t c =
    let ws = widths_of c.args.vars.now in
    (target_pos ws c.in-Of.var c.in-Of.name c.in-Of.place c.in-Of.pos (subst (IsLawfulTarget ws) c.in-Of.is c.requires.target)).1

pub loop-part-init : goal.loop-part-init
loop-part-init t c =
    let f = taken_by c.args.vars.now in
    ap (λ xs. c.args.taken.now.items ++ flat_map f xs) c.as_slice-part-items.ensures
    ∙ sym (ap (λ xs. c.args.taken.now.items ++ xs) (ap f c.in-List.is ∙ parts_taken c.args.vars.now c.in-List.parts))

pub push_target-requires : goal.push_target-requires
push_target-requires t c =
    let ws = widths_of c.args.vars.now in
    let all = target_parts ws c.in-List.parts (subst (IsLawfulTarget ws) c.in-List.is c.requires.target) in
    let same = c.as_slice-part-items.ensures in (
      search (rules, the_lemmas, get_or_read, c.well_formed),
      (
        c.requires.vars,
        all_at (IsLawfulTarget ws) c.in-List.parts c.loop-part.part-index c.part-item.result all
            (subst (λ xs. c.loop-part.part-index < length xs) same c.loop-part-test.true)
            (c.part-item.is ∙ ap (λ xs. get_or xs c.loop-part.part-index c.part-item.result) same),
      ),
    )
