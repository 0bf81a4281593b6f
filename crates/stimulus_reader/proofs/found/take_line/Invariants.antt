use Rattle.std.proofs.Common.{◌≡◌, ◌-◌, ◌≤◌, ◌++◌, length}
use Rattle.std.specs.Vec.{vec_capacity}
use Rattle.stimulus_reader.specs.declared.found.TheConstants.{LINE_LIMIT}
use Rattle.stimulus_reader.specs.code.LineSource.{TakesSo, EndSeen, IsOpenLine}
use Rattle.stimulus_reader.proofs.found.take_line.Given as goal

abbrev pub invariant-bytes : goal.invariant-bytes
invariant-bytes g l = record {
  so_far : TakesSo (g.S.Source.left l.initial.source) (g.S.Source.left l.source) l.initial.piece l.piece (λ bytes rest. l.initial.line.items ++ bytes ≡ l.line.items ++ rest);
  end : EndSeen l.initial.piece (g.S.Source.left l.initial.source) → EndSeen l.piece (g.S.Source.left l.source);
  open_line : IsOpenLine l.at l.line.items;
  capacity : vec_capacity l.line ≡ vec_capacity l.initial.line;
  ground : g.S.Source.same_ground l.initial.source l.source;
  later : g.S.Source.faults l.initial.source ≤ g.S.Source.faults l.source;
}

abbrev pub decreases-bytes : goal.decreases-bytes
decreases-bytes g l = LINE_LIMIT - length l.line.items
