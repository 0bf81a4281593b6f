use Rattle.std.proofs.Common.{◌≡◌, drop, map}
use Rattle.const_eval.specs.Env.{bound_of}
use Rattle.width_rules.specs.declared.joined.Joined.TheVariants.{Nothing}
use Rattle.width_rules.specs.Built.{built_of, joined_after}
use Rattle.width_rules.proofs.measure.+measuring.Given as goal

-- what was joined, with the parts that are left, is what the parts are
abbrev pub invariant-join-loop-part : goal.invariant-join-loop-part
invariant-join-loop-part l =
    joined_after Nothing (map (built_of (bound_of l.scope.names) l.scope.vars) l.parts) ≡ joined_after l.joined (map (built_of (bound_of l.scope.names) l.scope.vars) (drop l.part-index l.parts))
