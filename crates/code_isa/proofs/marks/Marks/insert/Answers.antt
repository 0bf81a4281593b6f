use Rattle.std.proofs.Common.{◌≡◌, ◌∙◌, length, ap, sym, arith, true, set}
use Rattle.code_isa.proofs.Members.{members_size, members_written, inserted}
use Rattle.code_isa.proofs.marks.Marks.insert.Goals as goal

pub set_bit-requires : goal.set_bit-requires
set_bit-requires c =
    let size : length c.args.self.now ≡ c.self.inside.count = ap length (sym c.self.view_is) ∙ members_size c.self.inside.leaves.items c.self.inside.count in
    omega (arith, c.requires, c.self.invariant.leaf_room)

pub invariant_of-self : goal.invariant_of-self
invariant_of-self c =
    let size : length c.args.self.now ≡ c.self.inside.count = ap length (sym c.self.view_is) ∙ members_size c.self.inside.leaves.items c.self.inside.count in
    inserted c.self.inside.count c.self.inside.leaves.items c.self.inside.branches.items c.self.inside.roots.items c.self.invariant c.set_bit.new.words.items c.set_bit-2.new.words.items c.set_bit-3.new.words.items c.args.k (omega (arith, c.requires)) c.set_bit.ensures c.set_bit-2.ensures c.set_bit-3.ensures

pub returns : goal.returns
returns c =
    let size : length c.args.self.now ≡ c.self.inside.count = ap length (sym c.self.view_is) ∙ members_size c.self.inside.leaves.items c.self.inside.count in
    members_written c.self.inside.leaves.items c.set_bit.new.words.items c.self.inside.count c.args.k 1 c.set_bit.ensures (omega (arith, c.requires))
    ∙ ap (λ xs. set xs c.args.k true) c.self.view_is
