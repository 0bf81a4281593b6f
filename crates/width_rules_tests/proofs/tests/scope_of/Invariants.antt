use Rattle.std.proofs.Common.{◌≡◌, length}
use Rattle.width_rules_tests.proofs.Scopes.{AreBelow, HaveWidths}
use Rattle.width_rules_tests.proofs.tests.scope_of.Given as goal

abbrev pub invariant-loop-number : goal.invariant-loop-number
invariant-loop-number g l = record {
  count : length l.vars ≡ l.number;
  below : AreBelow l.names (length l.vars);
  widths : HaveWidths l.vars;
}
