use Rattle.std.proofs.Common.{◌≡◌, ◌<◌, ℕ, true, length}
use Rattle.code_isa.specs.Marks.{is_member}
use Rattle.wrapper_core.proofs.block.all_of.Given as goal

abbrev pub invariant-loop-k : goal.invariant-loop-k
invariant-loop-k l = record {
  sized : length l.marks ≡ l.count;
  all : (j : ℕ) → j < l.k → is_member l.marks j ≡ true;
}
