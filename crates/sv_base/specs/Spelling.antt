-- Names, and the words that no name may be.
use Rattle.std.specs.Prelude.{ℕ, Bool, false, not, ◌&&◌, ◌||◌, ◌==◌, nat_le, List, [], ◌∷◌, codes}
use Rattle.std.specs.List.{list_all, list_any}
use Rattle.std.specs.Str.{bytes_eq}

-- a letter or `_`, with which a name begins
abbrev pub begins_name : ℕ → Bool
begins_name b = (nat_le 65 b && nat_le b 90) || (nat_le 97 b && nat_le b 122) || b == 95

-- a letter, a digit, `_` or `$`, which stands inside a name
abbrev pub continues_name : ℕ → Bool
continues_name b = begins_name b || (nat_le 48 b && nat_le b 57) || b == 36

-- a name by its form (IEEE 1800-2017, 5.6)
abbrev pub is_name : List ℕ → Bool
is_name [] = false
is_name (b ∷ bytes) = begins_name b && list_all continues_name bytes

-- the words that the language uses (IEEE 1800-2017, annex B)
abbrev pub used_words : List (List ℕ)
used_words = codes "module" ∷ codes "endmodule" ∷ codes "input" ∷ codes "output" ∷ codes "wire" ∷ codes "logic" ∷ codes "reg" ∷ codes "bit" ∷ codes "int" ∷ codes "integer" ∷ codes "signed" ∷ codes "unsigned" ∷ codes "parameter" ∷ codes "localparam" ∷ codes "genvar" ∷ codes "generate" ∷ codes "endgenerate" ∷ codes "assign" ∷ codes "always" ∷ codes "always_comb" ∷ codes "always_ff" ∷ codes "posedge" ∷ codes "negedge" ∷ codes "begin" ∷ codes "end" ∷ codes "if" ∷ codes "else" ∷ codes "case" ∷ codes "endcase" ∷ codes "default" ∷ codes "for" ∷ []

-- the words of the standard outside the subset
abbrev pub refused_words : List (List ℕ)
refused_words = codes "inout" ∷ codes "tri" ∷ codes "tri0" ∷ codes "tri1" ∷ codes "triand" ∷ codes "trior" ∷ codes "trireg" ∷ codes "wand" ∷ codes "wor" ∷ codes "supply0" ∷ codes "supply1" ∷ codes "uwire" ∷ codes "initial" ∷ codes "final" ∷ codes "task" ∷ codes "endtask" ∷ codes "function" ∷ codes "endfunction" ∷ codes "class" ∷ codes "endclass" ∷ codes "package" ∷ codes "endpackage" ∷ codes "import" ∷ codes "export" ∷ codes "interface" ∷ codes "endinterface" ∷ codes "modport" ∷ codes "program" ∷ codes "endprogram" ∷ codes "struct" ∷ codes "union" ∷ codes "enum" ∷ codes "typedef" ∷ codes "packed" ∷ codes "casez" ∷ codes "casex" ∷ codes "unique" ∷ codes "unique0" ∷ codes "priority" ∷ codes "while" ∷ codes "repeat" ∷ codes "do" ∷ codes "forever" ∷ codes "break" ∷ codes "continue" ∷ codes "return" ∷ codes "always_latch" ∷ codes "defparam" ∷ codes "specify" ∷ codes "endspecify" ∷ codes "primitive" ∷ codes "endprimitive" ∷ codes "force" ∷ codes "release" ∷ codes "deassign" ∷ codes "real" ∷ codes "shortreal" ∷ codes "realtime" ∷ codes "time" ∷ codes "string" ∷ codes "event" ∷ codes "chandle" ∷ codes "byte" ∷ codes "shortint" ∷ codes "longint" ∷ codes "var" ∷ codes "automatic" ∷ codes "static" ∷ codes "const" ∷ codes "void" ∷ codes "or" ∷ codes "iff" ∷ codes "inside" ∷ codes "assert" ∷ codes "assume" ∷ codes "cover" ∷ codes "property" ∷ codes "sequence" ∷ codes "bind" ∷ codes "fork" ∷ codes "join" ∷ codes "wait" ∷ codes "disable" ∷ []

-- a word of either kind, which names nothing
abbrev pub is_reserved : List ℕ → Bool
is_reserved word = list_any (bytes_eq word) used_words || list_any (bytes_eq word) refused_words

-- a name by its form that no word of the language is; its length is not asked
abbrev pub is_free_name : List ℕ → Bool
is_free_name word = is_name word && not (is_reserved word)
