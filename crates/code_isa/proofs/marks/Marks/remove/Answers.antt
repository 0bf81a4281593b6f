use Rattle.std.proofs.Common.{◌≡◌, ◌<◌, ◌*◌, ◌/◌, ◌∙◌, ap, sym, subst, arith, length, false, true, set}
use Rattle.code_isa.specs.Marks.{is_member, members_of, bit_of, IsSummary, IsSummaryBut}
use Rattle.code_isa.proofs.Bits.{set_inside, summary_cleared}
use Rattle.code_isa.proofs.Members.{member_bit, member_below, members_written, removed, top_but, branch_set}
use Rattle.code_isa.proofs.marks.Marks.remove.Goals as goal

pub clear_bit-requires : goal.clear_bit-requires
clear_bit-requires c =
    let member : is_member (members_of c.self.inside.leaves.items c.self.inside.count) c.args.k ≡ true = ap (λ xs. is_member xs c.args.k) c.self.view_is ∙ c.requires.member in
    set_inside c.self.inside.leaves.items c.args.k (member_bit c.self.inside.count c.self.inside.leaves.items c.self.inside.branches.items c.self.inside.roots.items c.self.invariant c.args.k member)

pub drop_empty-requires-clause-inside : goal.drop_empty-requires-clause-inside
drop_empty-requires-clause-inside c =
    let leaves = c.self.inside.leaves.items in
    let branches = c.self.inside.branches.items in
    let roots = c.self.inside.roots.items in
    let member : is_member (members_of leaves c.self.inside.count) c.args.k ≡ true = ap (λ xs. is_member xs c.args.k) c.self.view_is ∙ c.requires.member in
    let bit : bit_of leaves c.args.k ≡ 1 = member_bit c.self.inside.count leaves branches roots c.self.invariant c.args.k member in
    let room : c.args.k < 64 * length leaves = set_inside leaves c.args.k bit in
    omega (arith, c.clear_bit.ensures.size, ap length c.as_slice.ensures.value)

pub drop_empty-requires-clause-but : goal.drop_empty-requires-clause-but
drop_empty-requires-clause-but c =
    let leaves = c.self.inside.leaves.items in
    let branches = c.self.inside.branches.items in
    let member : is_member (members_of leaves c.self.inside.count) c.args.k ≡ true = ap (λ xs. is_member xs c.args.k) c.self.view_is ∙ c.requires.member in
    subst (λ ws. IsSummaryBut branches ws (c.args.k / 64)) (sym c.as_slice.ensures.value)
    (summary_cleared branches leaves c.clear_bit.new.words.items c.args.k c.self.invariant.branches_sum (member_bit c.self.inside.count leaves branches c.self.inside.roots.items c.self.invariant c.args.k member) c.clear_bit.ensures)

pub drop_empty-requires-2-clause-inside : goal.drop_empty-requires-2-clause-inside
drop_empty-requires-2-clause-inside c =
    let leaves = c.self.inside.leaves.items in
    let branches = c.self.inside.branches.items in
    let roots = c.self.inside.roots.items in
    let member : is_member (members_of leaves c.self.inside.count) c.args.k ≡ true = ap (λ xs. is_member xs c.args.k) c.self.view_is ∙ c.requires.member in
    let bit : bit_of leaves c.args.k ≡ 1 = member_bit c.self.inside.count leaves branches roots c.self.invariant c.args.k member in
    let room : c.args.k / 64 < 64 * length branches = set_inside branches (c.args.k / 64) (branch_set c.self.inside.count leaves branches roots c.self.invariant c.args.k bit) in
    omega (arith, c.drop_empty.ensures.size, ap length c.as_slice-2.ensures.value)

pub drop_empty-requires-2-clause-but : goal.drop_empty-requires-2-clause-but
drop_empty-requires-2-clause-but c =
    let leaves = c.self.inside.leaves.items in
    let branches = c.self.inside.branches.items in
    let roots = c.self.inside.roots.items in
    let member : is_member (members_of leaves c.self.inside.count) c.args.k ≡ true = ap (λ xs. is_member xs c.args.k) c.self.view_is ∙ c.requires.member in
    let bit = member_bit c.self.inside.count leaves branches roots c.self.invariant c.args.k member in
    subst (λ ws. IsSummaryBut roots ws (c.args.k / 64 / 64)) (sym c.as_slice-2.ensures.value)
    (top_but c.self.inside.count leaves branches roots c.self.invariant c.drop_empty.new.upper.items c.args.k bit c.drop_empty.ensures.words)

pub invariant_of-self : goal.invariant_of-self
invariant_of-self c =
    let leaves = c.self.inside.leaves.items in
    let branches = c.self.inside.branches.items in
    let roots = c.self.inside.roots.items in
    let member : is_member (members_of leaves c.self.inside.count) c.args.k ≡ true = ap (λ xs. is_member xs c.args.k) c.self.view_is ∙ c.requires.member in
    let low : IsSummary c.drop_empty.new.upper.items c.clear_bit.new.words.items = subst (IsSummary c.drop_empty.new.upper.items) c.as_slice.ensures.value c.drop_empty.ensures.sums in
    let high : IsSummary c.drop_empty-2.new.upper.items c.drop_empty.new.upper.items = subst (IsSummary c.drop_empty-2.new.upper.items) c.as_slice-2.ensures.value c.drop_empty-2.ensures.sums in
    removed c.self.inside.count leaves branches roots c.self.invariant c.clear_bit.new.words.items c.drop_empty.new.upper.items c.drop_empty-2.new.upper.items c.args.k (member_below leaves c.self.inside.count c.args.k member) c.clear_bit.ensures c.drop_empty.ensures.size c.drop_empty-2.ensures.size low high

pub returns : goal.returns
returns c =
    let leaves = c.self.inside.leaves.items in
    let member : is_member (members_of leaves c.self.inside.count) c.args.k ≡ true = ap (λ xs. is_member xs c.args.k) c.self.view_is ∙ c.requires.member in
    members_written leaves c.clear_bit.new.words.items c.self.inside.count c.args.k 0 c.clear_bit.ensures (member_below leaves c.self.inside.count c.args.k member)
    ∙ ap (λ xs. set xs c.args.k false) c.self.view_is
