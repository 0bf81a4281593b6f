-- The text of a wrapper, line by line. Every line ends with LF.
use Rattle.std.specs.Prelude.{ℕ, ◌-◌, Bool, true, false, List, [], ◌∷◌, ◌++◌, codes, if◌then◌else◌}
use Rattle.std.specs.List.{flat_map, filter, enumerate_from}
use Rattle.std.specs.Fmt.{decimal}
use Rattle.hex.specs.Hex.{encode_lower}
use Rattle.sv_base.specs.Classes.{is_value, is_clock, is_output}
use Rattle.sv_base.specs.declared.face.Class.{Class}
use Rattle.sv_base.specs.declared.face.Class.TheVariants.{Value, Clock, Idle, Output}
use Rattle.sv_base.specs.declared.face.Port.{Port}
use Rattle.sv_base.specs.declared.face.Face.{Face}
use Rattle.sv_base.specs.declared.face.WrapperFace.{WrapperFace}

-- the ports of a class, in the order of the face
abbrev pub ports_of : (Class → Bool) → List Port → List Port
ports_of is_of ports = filter (λ p. is_of p.class) ports

-- ---- what the comments say: the version, the digest, the ports and the dependences

-- `// hier_wrapper 1`
unfoldable pub version_line : List ℕ
version_line = codes "// hier_wrapper 1\n"

-- `// digest H`, the digest in lower case
unfoldable pub digest_line : List ℕ → List ℕ
digest_line digest = codes "// digest " ++ encode_lower digest ++ codes "\n"

-- the word of a class
abbrev pub class_word : Class → List ℕ
class_word Value = codes "data"
class_word Clock = codes "clock"
class_word Idle = codes "idle"
class_word Output = codes "output"

-- `s` where a port is signed, else `u`
abbrev pub sign_word : Bool → List ℕ
sign_word true = codes "s"
sign_word false = codes "u"

-- `// port N C S w`
unfoldable pub port_line : Port → List ℕ
port_line p =
    codes "// port " ++ p.name ++ codes " " ++ class_word p.class ++ codes " " ++ sign_word p.signed ++ codes " "
    ++ decimal p.width ++ codes "\n"

-- ` I` for a position of a row
unfoldable pub position_word : ℕ → List ℕ
position_word position = codes " " ++ decimal position

-- `// depends O` with the positions of the row of the output O
unfoldable pub depends_line : ℕ × List ℕ → List ℕ
depends_line row = codes "// depends " ++ decimal row.0 ++ flat_map position_word row.1 ++ codes "\n"

-- all that the comments say; outputs are counted from 0
unfoldable pub comments : WrapperFace → List ℕ
comments w =
    version_line ++ digest_line w.digest ++ flat_map port_line w.face.ports
    ++ flat_map depends_line (enumerate_from 0 w.summary.rows)

-- ---- the header of the module

-- `module M (`
unfoldable pub module_line : List ℕ → List ℕ
module_line name = codes "module " ++ name ++ codes " (\n"

-- `[w-1:0] ` with the number printed
unfoldable pub range : ℕ → List ℕ
range width = codes "[" ++ decimal (width - 1) ++ codes ":0] "

-- the direction of a port of a class
abbrev pub direction : Class → List ℕ
direction class = if is_output class then codes "output" else codes "input"

-- `signed ` where a port is signed
abbrev pub signed_word : Bool → List ℕ
signed_word true = codes "signed "
signed_word false = []

-- `  input logic [w-1:0] N`
unfoldable pub declaration : Port → List ℕ
declaration p = codes "  " ++ direction p.class ++ codes " logic " ++ signed_word p.signed ++ range p.width ++ p.name

-- a declaration behind another one
unfoldable pub next_declaration : Port → List ℕ
next_declaration p = codes ",\n" ++ declaration p

-- the declarations, each on a line of its own, with a comma after each but the last
unfoldable pub declarations : List Port → List ℕ
declarations [] = []
declarations (p ∷ ports) = declaration p ++ flat_map next_declaration ports ++ codes "\n"

-- from `module M (` to `);`
unfoldable pub header : Face → List ℕ
header face = module_line face.name ++ declarations face.ports ++ codes ");\n"

-- ---- the imported functions

-- the parameter of a data input
unfoldable pub input_parameter : Port → List ℕ
input_parameter p = codes ", input bit " ++ range p.width ++ p.name

-- the parameter of a clock
unfoldable pub clock_parameter : Port → List ℕ
clock_parameter p = codes ", input bit [0:0] " ++ p.name

-- the parameter of an output
unfoldable pub output_parameter : Port → List ℕ
output_parameter p = codes ", output bit " ++ range p.width ++ p.name

-- the function that makes a model
unfoldable pub create_import : List ℕ → List ℕ
create_import name = codes "  import \"DPI-C\" function chandle " ++ name ++ codes "_create();\n"

-- the function that gives the outputs for data inputs
unfoldable pub combo_import : Face → List ℕ
combo_import face =
    codes "  import \"DPI-C\" function longint " ++ face.name ++ codes "_combo(input chandle h"
    ++ flat_map input_parameter (ports_of is_value face.ports)
    ++ flat_map output_parameter (ports_of is_output face.ports) ++ codes ");\n"

-- the function that gives the outputs for levels of clocks
unfoldable pub seq_import : Face → List ℕ
seq_import face =
    codes "  import \"DPI-C\" function longint " ++ face.name ++ codes "_seq(input chandle h"
    ++ flat_map clock_parameter (ports_of is_clock face.ports)
    ++ flat_map output_parameter (ports_of is_output face.ports) ++ codes ");\n"

-- the function that drops a model
unfoldable pub final_import : List ℕ → List ℕ
final_import name = codes "  import \"DPI-C\" function void " ++ name ++ codes "_final(input chandle h);\n"

-- the four functions
unfoldable pub imports : Face → List ℕ
imports face = create_import face.name ++ combo_import face ++ seq_import face ++ final_import face.name

-- ---- the variables

-- the model
unfoldable pub handle_line : List ℕ → List ℕ
handle_line name = codes "  chandle hw_h = " ++ name ++ codes "_create();\n"

-- the numbers of the outputs that were taken
unfoldable pub numbers_line : List ℕ
numbers_line = codes "  longint hw_combo_no, hw_seq_no, hw_next_no;\n"

-- what was taken for an output
unfoldable pub variables_line : Port → List ℕ
variables_line p =
    codes "  bit " ++ range p.width ++ codes "hw_combo_" ++ p.name ++ codes ", hw_seq_" ++ p.name
    ++ codes ", hw_next_" ++ p.name ++ codes ";\n"

-- all variables
unfoldable pub variables : Face → List ℕ
variables face = handle_line face.name ++ numbers_line ++ flat_map variables_line (ports_of is_output face.ports)

-- ---- the calls, and what is shown

-- the argument of a data input or of a clock
unfoldable pub port_argument : Port → List ℕ
port_argument p = codes ", " ++ p.name

-- the argument for an output of `M_combo`
unfoldable pub combo_argument : Port → List ℕ
combo_argument p = codes ", hw_combo_" ++ p.name

-- the argument for an output of `M_seq`
unfoldable pub next_argument : Port → List ℕ
next_argument p = codes ", hw_next_" ++ p.name

-- outputs are taken at once for data inputs
unfoldable pub combo_line : Face → List ℕ
combo_line face =
    codes "  always_comb hw_combo_no = " ++ face.name ++ codes "_combo(hw_h"
    ++ flat_map port_argument (ports_of is_value face.ports)
    ++ flat_map combo_argument (ports_of is_output face.ports) ++ codes ");\n"

-- a clock behind another one
unfoldable pub or_clock : Port → List ℕ
or_clock p = codes " or " ++ p.name

-- the clocks, with ` or ` between each two
unfoldable pub clock_names : List Port → List ℕ
clock_names [] = []
clock_names (p ∷ clocks) = p.name ++ flat_map or_clock clocks

-- a process for all clocks
unfoldable pub always_line : List Port → List ℕ
always_line clocks = codes "  always @(" ++ clock_names clocks ++ codes ") begin\n"

-- outputs are taken where a clock changes
unfoldable pub seq_line : Face → List ℕ
seq_line face =
    codes "    hw_next_no = " ++ face.name ++ codes "_seq(hw_h"
    ++ flat_map port_argument (ports_of is_clock face.ports)
    ++ flat_map next_argument (ports_of is_output face.ports) ++ codes ");\n"

-- the number of the outputs that were taken there, and the outputs, go to what is shown
unfoldable pub number_assignment : List ℕ
number_assignment = codes "    hw_seq_no <= hw_next_no;\n"

-- the same for an output
unfoldable pub seq_assignment : Port → List ℕ
seq_assignment p = codes "    hw_seq_" ++ p.name ++ codes " <= hw_next_" ++ p.name ++ codes ";\n"

-- the process, where there are clocks
unfoldable pub clocked : Face → List Port → List ℕ
clocked face [] = []
clocked face (p ∷ clocks) =
    always_line (p ∷ clocks) ++ seq_line face ++ number_assignment
    ++ flat_map seq_assignment (ports_of is_output face.ports)
    ++ codes "  end\n"

-- an output shows what was taken last
unfoldable pub shown_line : Port → List ℕ
shown_line p =
    codes "  assign " ++ p.name ++ codes " = hw_seq_no > hw_combo_no ? hw_seq_" ++ p.name
    ++ codes " : hw_combo_" ++ p.name ++ codes ";\n"

-- the model is dropped at the end
unfoldable pub final_line : List ℕ → List ℕ
final_line name = codes "  final " ++ name ++ codes "_final(hw_h);\n"

-- from the processes to the end of the module
unfoldable pub processes : Face → List ℕ
processes face =
    combo_line face ++ clocked face (ports_of is_clock face.ports)
    ++ flat_map shown_line (ports_of is_output face.ports)
    ++ final_line face.name ++ codes "endmodule\n"

-- ---- the whole

-- from the header of the module to its end
unfoldable pub module_text : Face → List ℕ
module_text face = header face ++ imports face ++ variables face ++ processes face

-- the text of a wrapper
unfoldable pub wrapper_text : WrapperFace → List ℕ
wrapper_text w = comments w ++ module_text w.face
