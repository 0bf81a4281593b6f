-- What a machine may name of the outside: ports by class, and the ranges of a face and of a summary.
use Rattle.std.specs.Prelude.{◌≡◌, ℕ, ◌^◌, ◌<◌, ◌≤◌, Bool, List, length, map, filter, All, IsTrue}
use Rattle.sv_base.specs.Classes.{is_value, is_clock, is_output}
use Rattle.sv_base.specs.Spelling.{is_name}
use Rattle.sv_base.specs.declared.face.Class.{Class}
use Rattle.sv_base.specs.declared.face.Port.{Port}
use Rattle.sv_base.specs.declared.face.Face.{Face}
use Rattle.sv_base.specs.declared.face.Summary.{Summary}
use Rattle.sv_base.specs.declared.name.TheConstants.{NAME_LIMIT}
use Rattle.bit_ops.specs.Width.{IsWidth}

-- the ports of a class, in the order of the face
abbrev pub ports_of : (Class → Bool) → Face → List Port
ports_of is_of face = filter (λ p. is_of p.class) face.ports

-- the widths of ports
abbrev pub port_widths : List Port → List ℕ
port_widths ports = map (λ p. p.width) ports

-- the widths of the data inputs, and those of the outputs
abbrev pub input_widths : Face → List ℕ
input_widths face = port_widths (ports_of is_value face)

abbrev pub output_widths : Face → List ℕ
output_widths face = port_widths (ports_of is_output face)

-- how many data inputs, clocks and outputs a face has
abbrev pub input_count : Face → ℕ
input_count face = length (ports_of is_value face)

abbrev pub clock_count : Face → ℕ
clock_count face = length (ports_of is_clock face)

abbrev pub output_count : Face → ℕ
output_count face = length (ports_of is_output face)

-- a name by its form (IEEE 1800-2017, 5.6), of at most `NAME_LIMIT` bytes
pub record IsName (bytes : List ℕ) : Type 0 where
  pub form : IsTrue (is_name bytes)
  pub short : length bytes ≤ NAME_LIMIT

-- a port whose name and width are in their ranges
pub record IsPort (port : Port) : Type 0 where
  pub name : IsName port.name
  pub width : IsWidth port.width

-- a face whose name, number of ports and ports are in their ranges
pub record IsFace (face : Face) : Type 0 where
  pub name : IsName face.name
  pub few : length face.ports ≤ 1024
  pub ports : All IsPort face.ports

-- a summary with a row for each output of the face; each row's length and each position has at most 16 bits
pub record IsSummary (face : Face) (summary : Summary) : Type 0 where
  pub rows : length summary.rows ≡ output_count face
  pub short : All (λ row. length row < 2 ^ 16) summary.rows
  pub positions : All (λ row. All (λ p. p < 2 ^ 16) row) summary.rows
