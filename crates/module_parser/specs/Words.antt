-- The sorts of tokens that the grammar of a file tells apart.
use Rattle.std.specs.Prelude.{ℕ, true, not, ◌&&◌, ◌||◌, List, [], ◌∷◌, codes}
use Rattle.std.specs.Str.{bytes_eq}
use Rattle.expr_parser.specs.Spelling.{is_word, is_sign, is_among, is_identifier, is_this}
use Rattle.module_parser.specs.Rule.{Test}

-- this reserved word
unfoldable pub is_keyword : List ℕ → Test
is_keyword text token = is_word token.kind && bytes_eq token.text text

-- one of these reserved words
unfoldable pub is_keyword_of : List (List ℕ) → Test
is_keyword_of texts token = is_word token.kind && is_among texts token.text

-- one of these signs
unfoldable pub is_sign_of : List (List ℕ) → Test
is_sign_of texts token = is_sign token.kind && is_among texts token.text

-- this name
unfoldable pub is_named : List ℕ → Test
is_named name token = is_word token.kind && bytes_eq token.text name

-- any token but this reserved word
unfoldable pub is_no_keyword : List ℕ → Test
is_no_keyword text token = not (is_keyword text token)

-- any token but this sign
unfoldable pub is_no_sign : List ℕ → Test
is_no_sign text token = not (is_this text token)

-- any token
abbrev pub is_any : Test
is_any token = true

-- what a target begins with
unfoldable pub begins_target : Test
begins_target token = is_identifier token || is_this (codes "{") token

-- types of one bit that may have a range, and types of 32 bits (6.11)
abbrev pub vector_types : List (List ℕ)
vector_types = codes "logic" ∷ codes "reg" ∷ codes "bit" ∷ []

abbrev pub integer_types : List (List ℕ)
integer_types = codes "int" ∷ codes "integer" ∷ []

abbrev pub signs : List (List ℕ)
signs = codes "signed" ∷ codes "unsigned" ∷ []

abbrev pub parameter_words : List (List ℕ)
parameter_words = codes "parameter" ∷ codes "localparam" ∷ []

abbrev pub directions : List (List ℕ)
directions = codes "input" ∷ codes "output" ∷ []

abbrev pub edges : List (List ℕ)
edges = codes "posedge" ∷ codes "negedge" ∷ []
