use Rattle.std.proofs.Common.{◌≡◌, drop}
use Rattle.dpi_wrapper.specs.code.Reading.{number_from}
use Rattle.dpi_wrapper.proofs.fields.number_at.Given as goal

-- the digits so far and those to come make one number
abbrev pub invariant-loop-at : goal.invariant-loop-at
invariant-loop-at l = number_from l.number (drop l.at l.bytes) ≡ number_from 0 l.bytes
