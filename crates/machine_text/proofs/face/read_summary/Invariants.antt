use Rattle.std.proofs.Common.{◌≡◌, ◌<◌, ◌^◌, length}
use Rattle.std.specs.Prelude.{All}
use Rattle.machine_text.proofs.face.read_summary.Given as goal

abbrev pub invariant-loop : goal.invariant-loop
invariant-loop l = (length l.rows ≡ l.counter) × All (λ row. length row < 2 ^ 16) l.rows × All (λ row. All (λ p. p < 2 ^ 16) row) l.rows
