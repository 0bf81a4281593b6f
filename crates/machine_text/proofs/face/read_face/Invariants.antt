use Rattle.std.proofs.Common.{◌≡◌, length}
use Rattle.std.specs.Prelude.{All}
use Rattle.code_isa.specs.Faces.{IsPort}
use Rattle.machine_text.proofs.face.read_face.Given as goal

abbrev pub invariant-loop : goal.invariant-loop
invariant-loop l = (length l.ports ≡ l.counter) × All IsPort l.ports
