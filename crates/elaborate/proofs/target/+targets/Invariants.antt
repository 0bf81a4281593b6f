use Rattle.std.proofs.Common.{◌≡◌, map, drop}
use Rattle.elaborate.specs.Targets as spec
use Rattle.elaborate.specs.code.Walking.{seen_in}
use Rattle.elaborate.proofs.Parts.{in_front}
use Rattle.elaborate.proofs.target.+targets.Given as goal

-- those that were found and those that are left are all
abbrev pub invariant-targets-loop-part : goal.invariant-targets-loop-part
invariant-targets-loop-part l =
    in_front l.found (spec.all_of (map (spec.target_of l.needed (seen_in l.walk) l.walk.scope.vars) (drop l.part-index l.parts)))
    ≡ spec.all_of (map (spec.target_of l.needed (seen_in l.walk) l.walk.scope.vars) l.parts)
