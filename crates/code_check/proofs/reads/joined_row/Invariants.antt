use Rattle.std.proofs.Common.{◌≡◌, map, take, get_or}
use Rattle.code_check.proofs.reads.joined_row.Given as goal

abbrev pub invariant-loop-p : goal.invariant-loop-p
invariant-loop-p l = l.slots.items ≡ map (λ p. get_or l.ins p 0) (take l.p-index l.row)
