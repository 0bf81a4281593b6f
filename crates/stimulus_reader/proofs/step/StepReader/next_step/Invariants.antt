use Rattle.std.proofs.Common.{◌≡◌, ◌-◌, ◌≤◌, List, ℕ, None}
use Rattle.io_edge.specs.Told.{Took}
use Rattle.stimulus_reader.specs.declared.found.TheConstants.{FILE_LIMIT}
use Rattle.stimulus_reader.specs.Reading.{SawEnd}
use Rattle.stimulus_reader.specs.code.Judging.{reading_with, IsPast}
use Rattle.stimulus_reader.proofs.step.StepReader.next_step.Given as goal

abbrev pub invariant-lines : goal.invariant-lines
invariant-lines g l = record {
  so_far : (taken : List ℕ) × Took (g.S.Source.left l.initial.source) (g.S.Source.left l.source) taken × IsPast l.fn.self (reading_with l.self-inside.judge l.self-inside.piece) taken;
  end : SawEnd l.fn.self (g.S.Source.left l.initial.source) → SawEnd (reading_with l.self-inside.judge l.self-inside.piece) (g.S.Source.left l.source);
  good : l.self-inside.judge.bad ≡ None;
  ground : g.S.Source.same_ground l.initial.source l.source;
  later : g.S.Source.faults l.initial.source ≤ g.S.Source.faults l.source;
}

abbrev pub decreases-lines : goal.decreases-lines
decreases-lines g l = FILE_LIMIT - l.self-inside.judge.at
