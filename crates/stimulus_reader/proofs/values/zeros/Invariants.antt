use Rattle.std.proofs.Common.{◌≡◌, map, take}
use Rattle.stimulus_reader.proofs.values.zeros.Given as goal

abbrev pub invariant-loop-port : goal.invariant-loop-port
invariant-loop-port l = record {
  words : map (λ v. v.word) l.values.items ≡ map (λ _. 0) (take l.port-index l.ports);
  widths : map (λ v. v.width) l.values.items ≡ map (λ p. p.width) (take l.port-index l.ports);
}
