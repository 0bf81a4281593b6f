-- The pieces that stand once for each port of a class.
use Rattle.std.specs.Prelude.{ℕ, Bool, List, [], ◌++◌, codes, if◌then◌else◌}
use Rattle.std.specs.List.{flat_map}
use Rattle.sv_base.specs.Classes.{is_value, is_clock, is_output}
use Rattle.sv_base.specs.declared.face.Class.{Class}
use Rattle.sv_base.specs.declared.face.Port.{Port}
use Rattle.dpi_wrapper.specs.declared.piece.Piece.{Piece}
use Rattle.dpi_wrapper.specs.declared.piece.Piece.TheVariants.{InputParameter, ClockParameter, OutputParameter, Variables, InputArgument, ClockArgument, ComboArgument, NextArgument, OrClock, SeqAssignment, Shown}
use Rattle.dpi_wrapper.specs.WrapperText.{ports_of, input_parameter, clock_parameter, output_parameter, variables_line, port_argument, combo_argument, next_argument, or_clock, seq_assignment, shown_line}

-- the class of ports for which a piece stands
abbrev pub is_for : Piece → Class → Bool
is_for InputParameter = is_value
is_for ClockParameter = is_clock
is_for OutputParameter = is_output
is_for Variables = is_output
is_for InputArgument = is_value
is_for ClockArgument = is_clock
is_for ComboArgument = is_output
is_for NextArgument = is_output
is_for OrClock = is_clock
is_for SeqAssignment = is_output
is_for Shown = is_output

-- what stands there for a port
abbrev pub piece_text : Piece → Port → List ℕ
piece_text InputParameter = input_parameter
piece_text ClockParameter = clock_parameter
piece_text OutputParameter = output_parameter
piece_text Variables = variables_line
piece_text InputArgument = port_argument
piece_text ClockArgument = port_argument
piece_text ComboArgument = combo_argument
piece_text NextArgument = next_argument
piece_text OrClock = or_clock
piece_text SeqAssignment = seq_assignment
piece_text Shown = shown_line

-- what stands there for the ports of its class
abbrev pub pieces_text : Piece → List Port → List ℕ
pieces_text piece ports = flat_map (piece_text piece) (ports_of (is_for piece) ports)

-- what stands there for a port of any class: nothing where it is another class
abbrev pub piece_where_for : Piece → Port → List ℕ
piece_where_for piece p = if is_for piece p.class then piece_text piece p else []

-- the arguments or the parameters of a call, and the end of its line
abbrev pub arguments_text : Piece → Piece → List Port → List ℕ
arguments_text inputs outputs ports = pieces_text inputs ports ++ pieces_text outputs ports ++ codes ");\n"
