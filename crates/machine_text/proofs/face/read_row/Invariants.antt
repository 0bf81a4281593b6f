use Rattle.std.proofs.Common.{◌≡◌, ◌<◌, ◌^◌, length}
use Rattle.std.specs.Prelude.{All}
use Rattle.machine_text.proofs.face.read_row.Given as goal

abbrev pub invariant-loop : goal.invariant-loop
invariant-loop l = (length l.row ≡ l.counter) × All (λ p. p < 2 ^ 16) l.row
