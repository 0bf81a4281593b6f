use Rattle.std.proofs.Common.{◌≡◌, map, drop}
use Rattle.elaborate.specs.Statements as spec
use Rattle.elaborate.specs.code.Walking.{reached, IsSound}
use Rattle.elaborate.proofs.Sequences.{behind_given}
use Rattle.elaborate.proofs.statement.+statements.Given as goal

-- those that were found and what the rest gives are what all give
abbrev pub invariant-arms-loop-item : goal.invariant-arms-loop-item
invariant-arms-loop-item l =
    (behind_given l.found (spec.sequence (map spec.arm_of (drop l.item-index l.items)) (reached l.walk)) ≡ spec.sequence (map spec.arm_of l.items) (reached l.fn.walk))
    × IsSound (reached l.walk)

-- so of statements
abbrev pub invariant-statements-loop-part : goal.invariant-statements-loop-part
invariant-statements-loop-part l =
    (behind_given l.found (spec.sequence (map spec.statement (drop l.part-index l.parts)) (reached l.walk)) ≡ spec.sequence (map spec.statement l.parts) (reached l.fn.walk))
    × IsSound (reached l.walk)
