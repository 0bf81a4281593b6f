use Rattle.std.proofs.Common.{◌≡◌, map, drop}
use Rattle.elaborate.specs.Targets as spec
use Rattle.elaborate.proofs.target.+first_names.Given as goal

-- the first name of those that are left is that of all
abbrev pub invariant-first_of-loop-part : goal.invariant-first_of-loop-part
invariant-first_of-loop-part l = spec.first_of (map spec.first_name (drop l.part-index l.parts)) ≡ spec.first_of (map spec.first_name l.parts)
