use Rattle.plain_run.proofs.PlainFaces.{plain_widths, plain_clocks}
use Rattle.plain_run.proofs.law.plain_ports.Goals as goal

pub returns-clause-widths : goal.returns-clause-widths
returns-clause-widths c = plain_widths

pub returns-clause-clocks : goal.returns-clause-clocks
returns-clause-clocks c = plain_clocks
