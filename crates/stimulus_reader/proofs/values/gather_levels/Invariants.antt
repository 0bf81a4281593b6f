use Rattle.std.proofs.Common.{◌≡◌, ◌≤◌, ◌++◌, map, drop, length}
use Rattle.std.specs.Vec.{vec_capacity}
use Rattle.sv_base.specs.Classes.{is_clock, level_word, words_of_class}
use Rattle.stimulus_reader.proofs.values.gather_levels.Given as goal

abbrev pub invariant-loop-i : goal.invariant-loop-i
invariant-loop-i l = record {
  levels : map level_word l.levels.items ++ words_of_class is_clock (drop l.i l.ports) (drop l.i (map (λ v. v.word) l.values)) ≡ words_of_class is_clock l.ports (map (λ v. v.word) l.values);
  few : length l.levels.items ≤ l.i;
  capacity : vec_capacity l.levels ≡ vec_capacity l.fn.levels;
}
