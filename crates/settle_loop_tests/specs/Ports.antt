-- The ports of the machines that are tested.
use Rattle.std.specs.Prelude.{ℕ, false, List, [], ◌∷◌, codes}
use Rattle.sv_base.specs.declared.face.Class.TheVariants as class
use Rattle.sv_base.specs.declared.face.Port.{Port}

-- a clock, a data input of four bits, and an output of four bits
abbrev pub clock_port : List ℕ → Port
clock_port name = record { name = name; class = class.Clock; signed = false; width = 1 }

abbrev pub input_port : List ℕ → Port
input_port name = record { name = name; class = class.Value; signed = false; width = 4 }

abbrev pub output_port : List ℕ → Port
output_port name = record { name = name; class = class.Output; signed = false; width = 4 }

-- p(input [3:0] i, output [3:0] o)
abbrev pub adder_ports : List Port
adder_ports = input_port (codes "i") ∷ output_port (codes "o") ∷ []

-- g(input clk, input [3:0] d, output [3:0] q)
abbrev pub sampler_ports : List Port
sampler_ports = clock_port (codes "clk") ∷ input_port (codes "d") ∷ output_port (codes "q") ∷ []

-- t(input clk, input [3:0] x, output [3:0] y)
abbrev pub small_ports : List Port
small_ports = clock_port (codes "clk") ∷ input_port (codes "x") ∷ output_port (codes "y") ∷ []

-- t(input c, d, input [3:0] a, b, output [3:0] y, z)
abbrev pub board_ports : List Port
board_ports = clock_port (codes "c") ∷ clock_port (codes "d") ∷ input_port (codes "a") ∷ input_port (codes "b") ∷ output_port (codes "y") ∷ output_port (codes "z") ∷ []
