use Rattle.std.proofs.Common.{ℕ, ◌-◌, length}
use Rattle.bit_ops.specs.Lists.{words}
use Rattle.code_isa.proofs.Active.{IsActive, first_member}
use Rattle.code_isa.proofs.activity.run_marked.Given as goal

abbrev pub invariant-loop-k : goal.invariant-loop-k
invariant-loop-k l = (p : ℕ) × IsActive l.m l.fn.marks (words l.fn.slots.items) l.slots.items l.marks l.done p

abbrev pub decreases-loop-k : goal.decreases-loop-k
decreases-loop-k l = length l.marks - first_member l.marks
