use Rattle.std.proofs.Common.{◌≡◌, map, drop}
use Rattle.sv_base.specs.Steps.{set_all}
use Rattle.stimulus_reader.specs.code.LineReading.{settings_seen}
use Rattle.stimulus_reader.proofs.values.set_values.Given as goal

abbrev pub invariant-loop-setting : goal.invariant-loop-setting
invariant-loop-setting l = record {
  words : set_all (settings_seen (drop l.setting-index l.settings)) (map (λ v. v.word) l.values.items) ≡ set_all (settings_seen l.settings) (map (λ v. v.word) l.initial.values.items);
  widths : map (λ v. v.width) l.values.items ≡ map (λ v. v.width) l.initial.values.items;
}
