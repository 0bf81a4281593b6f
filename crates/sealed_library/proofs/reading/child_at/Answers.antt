use Rattle.std.proofs.Common.{◌≡◌, Ok, subst, arith}
use Rattle.std.specs.Int.{w32}
use Rattle.sealed_library.specs.Fields.{number, repeated}
use Rattle.sealed_library.specs.Version1.{slot_field}
use Rattle.sealed_library.proofs.Facts.{child_read}
use Rattle.sealed_library.proofs.reading.child_at.Goals as goal

pub invariant_of-result : goal.invariant_of-result
invariant_of-result c =
    let known =
    child_read c.args.bytes.now c.in_ok-digest.digest c.in_ok-digest.rest.now c.in_ok-face.rest.now c.in_ok-summary.rest.now c.in_ok-ins.rest.now
    c.in_ok-clocks.rest.now c.in_ok-face.face c.in_ok-summary.summary c.in_ok-ins.ins c.in_ok-clocks.clocks
    (λ i. omega (arith, c.type_inv.bytes i)) c.in_ok-digest.ensures c.in_ok-face.ensures c.in_ok-summary.ensures
    (subst (λ n. (repeated slot_field n).read c.in_ok-summary.rest.now ≡ Ok (
      c.in_ok-ins.ins,
      c.in_ok-ins.rest.now,
    )) c.input_count.ensures c.in_ok-ins.ensures)
    (subst (λ n. (repeated (number w32) n).read c.in_ok-ins.rest.now ≡ Ok (
      c.in_ok-clocks.clocks,
      c.in_ok-clocks.rest.now,
    )) c.clock_count.ensures c.in_ok-clocks.ensures) in
    record { face_fits = known.face; summary_fits = known.summary; all_joined = known.joined; all_clocked = known.clocked }
