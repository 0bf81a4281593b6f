use Rattle.std.proofs.Common.{arith}
use Rattle.std.proofs.lemmas.List.{length-map}
use Rattle.sealed_library.specs.Version1.{child_fields}
use Rattle.sealed_library.specs.code.Parts.{parts_of}
use Rattle.sealed_library.proofs.Facts.{machine_read}
use Rattle.sealed_library.proofs.library.machine_at.Goals as goal

pub invariant_of-result : goal.invariant_of-result
invariant_of-result c =
    let known =
    machine_read c.args.bytes.now c.in_ok-face.rest.now c.in_ok-summary.rest.now c.in_ok-chain.rest.now c.in_ok-parts.rest.now c.in_ok-face.face
    c.in_ok-summary.summary c.in_ok-chain.chain (parts_of c.in_ok-parts.parts) (λ i. omega (arith, c.type_inv.bytes i)) c.in_ok-face.ensures
    c.in_ok-summary.ensures c.in_ok-chain.ensures.read c.in_ok-parts.ensures in
    record {
      face_fits = known.face;
      summary_fits = known.summary;
      chain_fits = known.chain_fits;
      few_kids = omega (arith, known.kids, length-map c.in_ok-parts.parts.kids child_fields);
      all_driven = known.outs;
    }
