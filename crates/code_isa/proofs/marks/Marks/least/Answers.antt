use Rattle.std.proofs.Common.{ap, subst, ◌∙◌, sym}
use Rattle.std.specs.Prelude.{slice_index, MatchOption}
use Rattle.code_isa.specs.Marks.{IsEmpty, IsFirstWord, IsLowestIn, IsLeast, HasNone}
use Rattle.code_isa.proofs.Bits.{least_first, least_below}
use Rattle.code_isa.proofs.Members.{none_member, least_member}
use Rattle.code_isa.proofs.marks.Marks.least.Goals as goal

pub returns-in_err-root : goal.returns-in_err-root
returns-in_err-root c =
    let empty : IsEmpty c.self.inside.roots.items = subst IsEmpty c.as_slice.ensures.value c.in_err-root.ensures in
    let none : HasNone c.args.self.now = subst HasNone c.self.view_is (none_member c.self.inside.count c.self.inside.leaves.items c.self.inside.branches.items c.self.inside.roots.items c.self.invariant empty) in
    subst (λ r. MatchOption r (HasNone c.args.self.now) (IsLeast c.args.self.now)) (sym c.from_residual.ensures) none

pub lowest-leaf-requires-clause-some : goal.lowest-leaf-requires-clause-some
lowest-leaf-requires-clause-some c = λ e.
    let roots = c.self.inside.roots.items in
    let low : IsLowestIn roots c.in_ok-root.root c.lowest-branch.result = subst (λ ws. IsLowestIn ws c.in_ok-root.root c.lowest-branch.result) c.as_slice-2.ensures.value c.lowest-branch.ensures in
    (c.self.invariant.roots_sum c.lowest-branch.result).0 low.set (ap (λ ws. slice_index ws c.lowest-branch.result) (sym c.as_slice-3.ensures.value) ∙ e)

pub lowest-requires-clause-some : goal.lowest-requires-clause-some
lowest-requires-clause-some c = λ e.
    let branches = c.self.inside.branches.items in
    let low : IsLowestIn branches c.lowest-branch.result c.lowest-leaf.result = subst (λ ws. IsLowestIn ws c.lowest-branch.result c.lowest-leaf.result) c.as_slice-3.ensures.value c.lowest-leaf.ensures in
    (c.self.invariant.branches_sum c.lowest-leaf.result).0 low.set (ap (λ ws. slice_index ws c.lowest-leaf.result) (sym c.as_slice-4.ensures.value) ∙ e)

pub returns : goal.returns
returns c =
    let leaves = c.self.inside.leaves.items in
    let branches = c.self.inside.branches.items in
    let roots = c.self.inside.roots.items in
    let first : IsFirstWord roots c.in_ok-root.root = subst (λ ws. IsFirstWord ws c.in_ok-root.root) c.as_slice.ensures.value c.in_ok-root.ensures in
    let root : IsLowestIn roots c.in_ok-root.root c.lowest-branch.result = subst (λ ws. IsLowestIn ws c.in_ok-root.root c.lowest-branch.result) c.as_slice-2.ensures.value c.lowest-branch.ensures in
    let branch : IsLowestIn branches c.lowest-branch.result c.lowest-leaf.result = subst (λ ws. IsLowestIn ws c.lowest-branch.result c.lowest-leaf.result) c.as_slice-3.ensures.value c.lowest-leaf.ensures in
    let leaf : IsLowestIn leaves c.lowest-leaf.result c.lowest.result = subst (λ ws. IsLowestIn ws c.lowest-leaf.result c.lowest.result) c.as_slice-4.ensures.value c.lowest.ensures in
    let top = least_first roots c.in_ok-root.root c.lowest-branch.result first root in
    let middle = least_below roots branches c.lowest-branch.result c.lowest-leaf.result c.self.invariant.roots_sum top branch in
    let bottom = least_below branches leaves c.lowest-leaf.result c.lowest.result c.self.invariant.branches_sum middle leaf in
    subst (λ members. IsLeast members c.lowest.result) c.self.view_is (least_member c.self.inside.count leaves branches roots c.self.invariant c.lowest.result bottom)
