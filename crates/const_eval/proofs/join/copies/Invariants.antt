use Rattle.std.proofs.Common.{◌≡◌, ◌*◌}
use Rattle.const_eval.specs.Selects as selects
use Rattle.const_eval.proofs.join.copies.Given as goal

abbrev pub invariant-loop : goal.invariant-loop
invariant-loop l = record {
  width : l.result.width ≡ l.counter * l.bits.width;
  word : l.result.word ≡ selects.copies l.counter l.bits.width l.bits.word;
}
