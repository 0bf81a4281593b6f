use Rattle.std.proofs.Common.{ℕ, ◌≡◌, ◌++◌, length, take, Contains}
use Rattle.levelise.specs.declared.search.Mark.TheVariants.{Done}
use Rattle.levelise.specs.Search.{mark_of}
use Rattle.levelise.proofs.search.settle.Given as goal

abbrev pub invariant-loop-node : goal.invariant-loop-node
invariant-loop-node l = record {
  size : length l.marks.items ≡ length l.initial.marks.items;
  settled : (a : ℕ) → Contains (take l.node-index l.part) a → mark_of l.marks.items a ≡ Done;
  others : (a : ℕ) → (Contains (take l.node-index l.part) a → ⊥) →
      mark_of l.marks.items a ≡ mark_of l.initial.marks.items a;
  list : l.done.items ≡ l.initial.done.items ++ take l.node-index l.part;
}
