-- What is known of what was read: a value that fits its field is in the ranges that a machine keeps.
use Rattle.std.proofs.Common.{◌≡◌, ℕ, ◌^◌, ◌<◌, ◌≤◌, List, length, get_or, Ok}
use Rattle.std.specs.Prelude.{nat_le}
use Rattle.std.specs.Int.{w32}
use Rattle.std.proofs.lemmas.Bool.{and_parts, leb-true}
use Rattle.bit_ops.specs.Width.{IsWidth}
use Rattle.bit_ops.specs.declared.value.TheConstants.{MAX_WIDTH}
use Rattle.sv_base.specs.declared.name.TheConstants.{NAME_LIMIT}
use Rattle.sv_base.specs.declared.face.Port.{Port}
use Rattle.sv_base.specs.declared.face.Face.{Face}
use Rattle.sv_base.specs.declared.face.Summary.{Summary}
use Rattle.code_isa.specs.Faces.{IsName, IsPort, IsFace, IsSummary, input_count, clock_count, output_count}
use Rattle.sealed_library.specs.declared.limits.TheConstants.{PORT_LIMIT, CHAIN_LIMIT, DIGEST_LENGTH}
use Rattle.sealed_library.specs.Fields.{number, bytes_of, repeated}
use Rattle.sealed_library.specs.Version1.{name_field, width_field, slot_field, port_field, face_field, row_field, summary_field, chain_field, Parts, parts_field}
use Rattle.sealed_library.proofs.Laws.{IsBytes, lawful_bytes, lawful_repeated}
use Rattle.sealed_library.proofs.Table.{lawful_face, lawful_summary, lawful_chain, lawful_parts, lawful32, lawful64}

name_is : (text : List ℕ) → name_field.Fits text → IsName text
unfolding name_field
name_is text h =
    let n : ℕ = length text in
    let parts = and_parts (nat_le 1 n) (nat_le n NAME_LIMIT) h.0.0.1 in
    record { form = h.1; short = leb-true n NAME_LIMIT parts.1 }

width_is : (n : ℕ) → width_field.Fits n → IsWidth n
unfolding width_field
width_is n h =
    let parts = and_parts (nat_le 1 n) (nat_le n MAX_WIDTH) h.1 in
    (leb-true 1 n parts.0, leb-true n MAX_WIDTH parts.1)

port_is : (p : Port) → port_field.Fits p → IsPort p
unfolding port_field
port_is p h = record { name = name_is p.name h.0; width = width_is p.width h.1.1.1 }

pub face_is : (f : Face) → face_field.Fits f → IsFace f
unfolding face_field
face_is f h = record {
  name = name_is f.name h.0;
  few = leb-true (length f.ports) PORT_LIMIT h.1.0.1;
  ports = λ k d inside. port_is (get_or f.ports k d) (h.1.1.1 k d inside);
}

pub summary_is : (f : Face) (s : Summary) → (summary_field f).Fits s → IsSummary f s
unfolding summary_field row_field
summary_is f s h = record {
  rows = h.0;
  short = λ k d inside. (h.1 k d inside).0;
  positions = λ k d inside. (h.1 k d inside).1.1;
}

-- what is known of a child
pub record IsChildRead (f : Face) (s : Summary) (ins clocks : List ℕ) : Type 0 where
  pub face : IsFace f
  pub summary : IsSummary f s
  pub joined : length ins ≡ input_count f
  pub clocked : length clocks ≡ clock_count f

pub child_read : (bytes digest r1 r2 r3 r4 r5 : List ℕ) (f : Face) (s : Summary) (ins clocks : List ℕ) → IsBytes bytes
    → (bytes_of DIGEST_LENGTH).read bytes ≡ Ok (digest, r1) → face_field.read r1 ≡ Ok (f, r2) → (summary_field f).read r2 ≡ Ok (s, r3)
    → (repeated slot_field (input_count f)).read r3 ≡ Ok (ins, r4) → (repeated (number w32) (clock_count f)).read r4 ≡ Ok (clocks, r5)
    → IsChildRead f s ins clocks
child_read bytes digest r1 r2 r3 r4 r5 f s ins clocks fits e1 e2 e3 e4 e5 =
    let t1 = (lawful_bytes DIGEST_LENGTH).takes bytes (digest, r1) fits e1 in
    let t2 = lawful_face.takes r1 (f, r2) t1.rest e2 in
    let t3 = (lawful_summary f).takes r2 (s, r3) t2.rest e3 in
    let t4 = (lawful_repeated slot_field (input_count f) lawful64).takes r3 (ins, r4) t3.rest e4 in
    let t5 = (lawful_repeated (number w32) (clock_count f) lawful32).takes r4 (clocks, r5) t4.rest e5 in
    record { face = face_is f t2.fits; summary = summary_is f s t3.fits; joined = t4.fits.0; clocked = t5.fits.0 }

-- what is known of a machine
pub record IsMachineRead (f : Face) (s : Summary) (chain : ℕ) (parts : Parts) : Type 0 where
  pub face : IsFace f
  pub summary : IsSummary f s
  pub chain_fits : chain ≤ 4294967294
  pub kids : length parts.1.0 < 2 ^ 32
  pub outs : length parts.1.1.1 ≡ output_count f

kids_fit : (f : Face) (parts : Parts) → (parts_field f).Fits parts → (length parts.1.0 < 2 ^ 32) × (length parts.1.1.1 ≡ output_count f)
unfolding parts_field
kids_fit f parts h = (h.1.0.0, h.1.1.1.0)

pub machine_read : (bytes r1 r2 r3 r4 : List ℕ) (f : Face) (s : Summary) (chain : ℕ) (parts : Parts) → IsBytes bytes
    → face_field.read bytes ≡ Ok (f, r1) → (summary_field f).read r1 ≡ Ok (s, r2) → chain_field.read r2 ≡ Ok (chain, r3)
    → (parts_field f).read r3 ≡ Ok (parts, r4) → IsMachineRead f s chain parts
machine_read bytes r1 r2 r3 r4 f s chain parts fits e1 e2 e3 e4 =
    let t1 = lawful_face.takes bytes (f, r1) fits e1 in
    let t2 = (lawful_summary f).takes r1 (s, r2) t1.rest e2 in
    let t3 = lawful_chain.takes r2 (chain, r3) t2.rest e3 in
    let t4 = (lawful_parts f).takes r3 (parts, r4) t3.rest e4 in
    let known = kids_fit f parts t4.fits in
    record { face = face_is f t1.fits; summary = summary_is f s t2.fits; chain_fits = leb-true chain CHAIN_LIMIT t3.fits.1; kids = known.0; outs = known.1 }
