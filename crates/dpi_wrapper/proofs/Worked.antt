-- A worked value: the text of a wrapper of a module `inv` with an input `a` of 1 bit and a signed output `y` of 12.
use Rattle.std.proofs.Common.{◌≡◌, ℕ, true, false, List, [], ◌∷◌, ◌++◌, replicate, refl}
use Rattle.std.specs.Prelude.{codes}
use Rattle.std.specs.List.{flat_map}
use Rattle.std.specs.Fmt.{digits}
use Rattle.hex.specs.Hex.{encode_with}
use Rattle.sv_base.specs.declared.face.Class.TheVariants.{Value, Output}
use Rattle.sv_base.specs.declared.face.WrapperFace.{WrapperFace}
use Rattle.dpi_wrapper.specs.WrapperText.{version_line, digest_line, port_line, position_word, depends_line, comments, module_line, range, declaration, next_declaration, declarations, header, input_parameter, output_parameter, create_import, combo_import, seq_import, final_import, imports, handle_line, numbers_line, variables_line, variables, port_argument, combo_argument, combo_line, clocked, shown_line, final_line, processes, module_text, wrapper_text}

abbrev inverter : WrapperFace
inverter = record {
  face = record {
    name = codes "inv";
    ports = record { name = codes "a"; class = Value; signed = false; width = 1 } ∷ record { name = codes "y"; class = Output; signed = true; width = 12 } ∷ [];
  };
  summary = record { rows = (0 ∷ []) ∷ [] };
  digest = replicate 32 171;
}

abbrev lines : List (List ℕ)
lines =
    codes "// hier_wrapper 1"
    ∷ codes "// digest abababababababababababababababababababababababababababababababab"
    ∷ codes "// port a data u 1"
    ∷ codes "// port y output s 12"
    ∷ codes "// depends 0 0"
    ∷ codes "module inv ("
    ∷ codes "  input logic [0:0] a,"
    ∷ codes "  output logic signed [11:0] y"
    ∷ codes ");"
    ∷ codes "  import \"DPI-C\" function chandle inv_create();"
    ∷ codes "  import \"DPI-C\" function longint inv_combo(input chandle h, input bit [0:0] a, output bit [11:0] y);"
    ∷ codes "  import \"DPI-C\" function longint inv_seq(input chandle h, output bit [11:0] y);"
    ∷ codes "  import \"DPI-C\" function void inv_final(input chandle h);"
    ∷ codes "  chandle hw_h = inv_create();"
    ∷ codes "  longint hw_combo_no, hw_seq_no, hw_next_no;"
    ∷ codes "  bit [11:0] hw_combo_y, hw_seq_y, hw_next_y;"
    ∷ codes "  always_comb hw_combo_no = inv_combo(hw_h, a, hw_combo_y);"
    ∷ codes "  assign y = hw_seq_no > hw_combo_no ? hw_seq_y : hw_combo_y;"
    ∷ codes "  final inv_final(hw_h);"
    ∷ codes "endmodule" ∷ []

pub inverter_text : wrapper_text inverter ≡ flat_map (λ line. line ++ codes "\n") lines
unfolding version_line digest_line port_line position_word depends_line comments module_line range declaration next_declaration declarations header input_parameter output_parameter create_import combo_import seq_import final_import imports handle_line numbers_line variables_line variables port_argument combo_argument combo_line clocked shown_line final_line processes module_text wrapper_text digits encode_with
inverter_text = refl
