use Rattle.std.proofs.Common.{subst, arith}
use Rattle.sealed_library.specs.Library.{library_at}
use Rattle.sealed_library.specs.code.Reading.{Fails}
use Rattle.sealed_library.proofs.Sizes.{slots_few}
use Rattle.sealed_library.proofs.Whole.{spells_read, read_same, memory_alone, never_refused}
use Rattle.sealed_library.proofs.library.decode.Goals as goal

pub checked-requires-clause-spelled : goal.checked-requires-clause-spelled
checked-requires-clause-spelled c = spells_read c.args.bytes.now c.in-Ok.machine (λ i. omega (arith, c.type_inv.bytes i)) c.in-Ok.ensures

pub checked-requires-clause-few : goal.checked-requires-clause-few
checked-requires-clause-few c =
    slots_few c.args.bytes.now c.in-Ok.machine c.requires
    (spells_read c.args.bytes.now c.in-Ok.machine (λ i. omega (arith, c.type_inv.bytes i)) c.in-Ok.ensures)

pub returns-in-Ok-clause-same : goal.returns-in-Ok-clause-same
returns-in-Ok-clause-same c = λ m is. read_same c.args.bytes.now m c.checked.result is c.checked.ensures.ok

pub returns-in-Ok-clause-only : goal.returns-in-Ok-clause-only
returns-in-Ok-clause-only c = λ m is. memory_alone c.args.bytes.now m c.checked.result is c.checked.ensures.refused

pub returns-in-Err-Refused-clause-only : goal.returns-in-Err-Refused-clause-only
returns-in-Err-Refused-clause-only c = λ m is.
    absurd (never_refused c.args.bytes.now m c.in-Err-Refused.fault is
    (subst (λ e. Fails e (library_at c.args.bytes.now)) c.in-Err-Refused.field-0-is c.in-Err-Refused.ensures))
