use Rattle.std.proofs.Common.{◌≡◌, [], eqb, length}
use Rattle.std.specs.List.{AllByRecursion, IsDistinct}
use Rattle.std.specs.Vec.{vec_capacity}
use Rattle.stimulus_reader.specs.code.LineReading.{HasPart, IsFitting, ports_set}
use Rattle.stimulus_reader.proofs.StimulusLines.{ReadSoFar}
use Rattle.stimulus_reader.proofs.line.read_settings.Given as goal

abbrev pub invariant-loop-word : goal.invariant-loop-word
invariant-loop-word l = record {
  so_far : ReadSoFar l.ports l.kind l.settings.items l.left l.text;
  fitting : AllByRecursion (IsFitting l.ports l.kind) l.settings.items;
  apart : IsDistinct eqb (ports_set l.settings.items);
  passed : HasPart l.text [] l.left;
  capacity : vec_capacity l.settings ≡ vec_capacity l.fn.settings;
}

abbrev pub decreases-loop-word : goal.decreases-loop-word
decreases-loop-word l = length l.left
