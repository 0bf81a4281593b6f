use Rattle.std.proofs.Common.{◌≡◌, length}
use Rattle.elaborate.specs.Reached.{in_turn}
use Rattle.elaborate.specs.Declaration as spec
use Rattle.elaborate.specs.code.Walking.{reached, IsSound, integers_of}
use Rattle.elaborate.proofs.declaration.declared_names.Given as goal

-- what the rest makes of what was reached is what the whole makes of the start
abbrev pub invariant-loop-rest : goal.invariant-loop-rest
invariant-loop-rest l =
    (in_turn (spec.declared_name l.first l.shape (integers_of l.span)) l.rest (reached l.walk)
    ≡ in_turn (spec.declared_name l.first l.shape (integers_of l.span)) l.decls (reached l.initial.walk))
    × IsSound (reached l.walk)

abbrev pub decreases-loop-rest : goal.decreases-loop-rest
decreases-loop-rest l = length l.rest
