use Rattle.std.proofs.Common.{◌≡◌, ◌≤◌, ◌++◌, map, drop, vec_len, vec_capacity}
use Rattle.bit_ops.specs.Lists.{words, widths}
use Rattle.sv_base.specs.declared.face.Port.{Port}
use Rattle.sv_base.specs.Classes.{is_output}
use Rattle.sv_base.specs.Meaning.{row_of, widths_of_class}
use Rattle.session.proofs.showing.collect_values.Given as goal

-- the values so far and what is left of the row are the row
abbrev pub invariant-loop-place : goal.invariant-loop-place
invariant-loop-place g l = record {
  outputs : drop l.outputs (widths_of_class is_output l.ports) ≡ widths_of_class is_output (drop l.place l.ports);
  few : l.outputs ≤ l.place;
  len : vec_len l.values ≡ l.place;
  row_words : words l.values.items ++ row_of (drop l.place l.ports) (drop l.place l.reader.values) (drop l.outputs (g.B.Bench.outputs l.bench))
      ≡ row_of l.ports l.reader.values (g.B.Bench.outputs l.bench);
  row_widths : widths l.values.items ++ map (λ (p : Port). p.width) (drop l.place l.ports) ≡ map (λ (p : Port). p.width) l.ports;
  room : vec_capacity l.values ≡ vec_capacity l.fn.values;
}
