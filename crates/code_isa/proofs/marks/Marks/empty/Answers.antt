use Rattle.std.proofs.Common.{◌/◌, ◌+◌, replicate, subst, sym}
use Rattle.code_isa.specs.Marks.{IsLayered}
use Rattle.code_isa.proofs.Members.{empty_layered, members_size, none_members}
use Rattle.code_isa.proofs.marks.Marks.empty.Goals as goal

pub invariant_of-result : goal.invariant_of-result
invariant_of-result c =
    let low = c.args.count / 64 + 1 in
    let middle = low / 64 + 1 in
    let high = middle / 64 + 1 in
    subst (λ ws. IsLayered c.args.count ws c.in_ok-zeros-2.field-0.items c.in_ok-zeros-3.field-0.items) (sym c.in_ok-zeros.ensures)
    (subst (λ ws. IsLayered c.args.count (replicate low 0) ws c.in_ok-zeros-3.field-0.items) (sym c.in_ok-zeros-2.ensures)
    (subst (λ ws. IsLayered c.args.count (replicate low 0) (replicate middle 0) ws) (sym c.in_ok-zeros-3.ensures) (empty_layered c.args.count c.requires)))

pub returns-clause-size : goal.returns-clause-size
returns-clause-size c = members_size c.in_ok-zeros.field-0.items c.args.count

pub returns-clause-none : goal.returns-clause-none
returns-clause-none c = none_members c.in_ok-zeros.field-0.items c.args.count (c.args.count / 64 + 1) c.in_ok-zeros.ensures
