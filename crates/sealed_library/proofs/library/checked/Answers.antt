use Rattle.std.proofs.Common.{subst}
use Rattle.code_check.specs.Told.{TellsFirstFault}
use Rattle.sealed_library.proofs.library.checked.Goals as goal

pub returns-in-Err-Bad-clause-refused : goal.returns-in-Err-Bad-clause-refused
returns-in-Err-Bad-clause-refused c = (
  c.args.machine,
  c.requires.spelled,
  subst (TellsFirstFault c.args.machine) c.in-Err-Bad.field-0-is c.in-Err-Bad.ensures.fault,
)
