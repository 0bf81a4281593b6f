use Rattle.std.proofs.Common.{ℕ, ◌≡◌, ◌<◌, []}
use Rattle.levelise.specs.declared.search.Mark.TheVariants.{New}
use Rattle.levelise.specs.Search.{IsSound, mark_of}
use Rattle.levelise.proofs.search.Search.visit_all.Given as goal

abbrev pub invariant-loop-node : goal.invariant-loop-node
invariant-loop-node l = record {
  sound : IsSound l.g.reads l.self;
  empty : l.self.path.items ≡ [];
  met : (a : ℕ) → a < l.node → mark_of l.self.marks.items a ≡ New → ⊥;
}
