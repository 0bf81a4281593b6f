use Rattle.std.proofs.Common.{arith}
use Rattle.const_eval.proofs.Joining.{total_more, joined_more}
use Rattle.const_eval.proofs.joined.Joined.with.Goals as goal

pub returns-in-Whole : goal.returns-in-Whole
returns-in-Whole c = λ ms m is size word. let h = rw c.in-Whole.is at is in
    (omega (arith, total_more ms m), rw (joined_more ms m, ← word, ← size, ← h.1) c.concat.ensures.value)

pub returns-in_default : goal.returns-in_default
returns-in_default c = λ ms m is size word. let h = rw c.in-Whole.is at is in omega (arith, total_more ms m)

pub returns-in_default-2 : goal.returns-in_default-2
returns-in_default-2 c = λ ms m is size word. let h = rw c.in_default.is at is in omega (arith, total_more ms m)
