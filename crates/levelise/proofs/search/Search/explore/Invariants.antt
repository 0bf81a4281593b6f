use Rattle.levelise.specs.Search.{IsSound, KeepsMet, steps_left}
use Rattle.levelise.proofs.search.Search.explore.Given as goal

abbrev pub invariant-loop-start : goal.invariant-loop-start
invariant-loop-start l = record {
  sound : IsSound l.g.reads l.self;
  kept : KeepsMet l.initial.self.marks.items l.self.marks.items;
}

abbrev pub decreases-loop-start : goal.decreases-loop-start
decreases-loop-start l = steps_left l.g.reads l.self
