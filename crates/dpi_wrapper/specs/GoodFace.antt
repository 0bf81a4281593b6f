-- The faces that a wrapper may have.
use Rattle.std.specs.Prelude.{◌≡◌, ◌≢◌, ℕ, ◌<◌, ◌≤◌, List, length, true, IsTrue}
use Rattle.std.specs.List.{All, AllPairs}
use Rattle.bit_ops.specs.Width.{IsWidth}
use Rattle.sv_base.specs.Classes.{is_value, is_clock, is_output}
use Rattle.sv_base.specs.Spelling.{is_name}
use Rattle.sv_base.specs.declared.face.Port.{Port}
use Rattle.sv_base.specs.declared.face.Face.{Face}
use Rattle.sv_base.specs.declared.face.Summary.{Summary}
use Rattle.sv_base.specs.declared.face.WrapperFace.{WrapperFace}
use Rattle.sv_base.specs.declared.name.TheConstants.{NAME_LIMIT}
use Rattle.dpi_wrapper.specs.declared.good.TheConstants.{PORT_LIMIT, DIGEST_LENGTH}
use Rattle.dpi_wrapper.specs.WrapperText.{ports_of}

-- a name by its form (IEEE 1800-2017, 5.6), of at most `NAME_LIMIT` bytes; it may be a reserved word
pub record IsShortName (bytes : List ℕ) : Type 0 where
  pub form : IsTrue (is_name bytes)
  pub short : length bytes ≤ NAME_LIMIT

-- a port with a name and a width, which is 1 for a clock
pub record IsGoodPort (p : Port) : Type 0 where
  pub name : IsShortName p.name
  pub width : IsWidth p.width
  pub clock : is_clock p.class ≡ true → p.width ≡ 1

-- a face with a name and few ports, no two of which have one name
pub record IsGoodFace (face : Face) : Type 0 where
  pub name : IsShortName face.name
  pub few : length face.ports ≤ PORT_LIMIT
  pub ports : All IsGoodPort face.ports
  pub apart : AllPairs (λ p q. p.name ≢ q.name) face.ports

-- a summary with a row for each output, whose positions rise and are those of data inputs
pub record IsGoodSummary (face : Face) (summary : Summary) : Type 0 where
  pub rows : length summary.rows ≡ length (ports_of is_output face.ports)
  pub rise : All (λ row. AllPairs (λ p q. p < q) row) summary.rows
  pub within : All (λ row. All (λ p. p < length (ports_of is_value face.ports)) row) summary.rows

-- the bytes of a SHA-256
pub record IsDigest (bytes : List ℕ) : Type 0 where
  pub size : length bytes ≡ DIGEST_LENGTH
  pub small : All (λ b. b < 256) bytes

-- a face with a summary and a digest that a wrapper may have
pub record IsGoodWrapper (w : WrapperFace) : Type 0 where
  pub face : IsGoodFace w.face
  pub summary : IsGoodSummary w.face w.summary
  pub digest : IsDigest w.digest
