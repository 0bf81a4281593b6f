use Rattle.sealer.proofs.Repeats.{IsUntil}
use Rattle.sealer.proofs.modules.check_names.Given as goal

abbrev pub invariant-loop-module : goal.invariant-loop-module
invariant-loop-module l = IsUntil l.names l.module-index l.modules
