use Rattle.std.proofs.Common.{◌≡◌, ◌≤◌, ◌++◌, map, drop, length}
use Rattle.std.specs.Vec.{vec_capacity}
use Rattle.sv_base.specs.Classes.{is_value, words_of_class}
use Rattle.stimulus_reader.proofs.values.gather_inputs.Given as goal

abbrev pub invariant-loop-i : goal.invariant-loop-i
invariant-loop-i l = record {
  words : map (λ v. v.word) l.inputs.items ++ words_of_class is_value (drop l.i l.ports) (drop l.i (map (λ v. v.word) l.values)) ≡ words_of_class is_value l.ports (map (λ v. v.word) l.values);
  widths : map (λ v. v.width) l.inputs.items ++ words_of_class is_value (drop l.i l.ports) (drop l.i (map (λ p. p.width) l.ports)) ≡ words_of_class is_value l.ports (map (λ p. p.width) l.ports);
  few : length l.inputs.items ≤ l.i;
  capacity : vec_capacity l.inputs ≡ vec_capacity l.fn.inputs;
}
