-- Declarations: what is read of them is what their rules say.
use Rattle.std.proofs.Common.{◌≡◌, ◌∷◌, ℕ, true, false, List, [], Option, Some, None, refl, codes}
use Rattle.sv_lexer.specs.declared.token.Token.{Token}
use Rattle.sv_ast.specs.declared.expression.Id.{Id}
use Rattle.sv_ast.specs.declared.item.Item.TheVariants as item
use Rattle.sv_base.specs.Operators as operators
use Rattle.expr_parser.specs.Spelling as spelling
use Rattle.expr_parser.specs.Spelling.{is_this, is_identifier, binds}
use Rattle.expr_parser.specs.Steady.{ends_expression}
use Rattle.expr_parser.specs.Reading.{any}
use Rattle.module_parser.specs.Rule.{Test, meets, expression}
use Rattle.module_parser.specs.Words.{is_keyword, is_keyword_of, vector_types, integer_types, signs, parameter_words}
use Rattle.module_parser.specs.Grammar as grammar
use Rattle.module_parser.specs.Grammar.{declaring_words, net_words, process_of, no_shape}
use Rattle.module_parser.specs.Reading as reading
use Rattle.module_parser.proofs.Rules.{Stop}
use Rattle.module_parser.proofs.Spares.{comma, no_select, spare_sign, spare_word, spare_number, spare_name, anything, but, also, not_of, left_of, right_of}
use Rattle.module_parser.proofs.Expressions.{ends}
use Rattle.module_parser.proofs.Readings.{Reading, reads_weaken, reads_give, reads_one, reads_then, reads_bind, reads_map, reads_when, reads_opened}
use Rattle.module_parser.proofs.Targets.{sign_reads, word_reads, identifier_reads, first_then, ended, listed_reads, target_reads}

abbrev pub bracket : Test
bracket = is_this (codes "[")

abbrev pub a_vector : Test
a_vector = is_keyword_of vector_types

abbrev pub an_integer : Test
an_integer = is_keyword_of integer_types

abbrev pub a_sign : Test
a_sign = is_keyword_of signs

abbrev pub a_wire : Test
a_wire = is_keyword (codes "wire")

abbrev pub a_logic : Test
a_logic = is_keyword (codes "logic")

-- what may stand behind a type
abbrev pub no_type : Stop
no_type = also (but a_vector) (also (but an_integer) (also (but a_wire) (also (but a_logic) (also (but a_sign) no_select))))

abbrev pub equals : Test
equals = is_this (codes "=")

abbrev pub behind_value : Stop
behind_value = also ends (but equals)

abbrev pub a_parameter : Test
a_parameter = is_keyword_of parameter_words

abbrev pub in_values : Stop
in_values = also ends (but comma)

abbrev pub in_declared : Stop
in_declared = also behind_value (but comma)

module _ (E : (floor : ℕ) → Reading floor ends (Some spare_number) true (λ _. expression) any) where
  -- ---- ranges and types

  range_reads : {floor : ℕ} {stop : Stop} → Reading floor stop (Some (spare_sign (codes "["))) true (λ _. grammar.range) reading.range
  unfolding is_this ends_expression binds spelling.precedence operators.binary_of reading.range
  range_reads =
      reads_then (reads_opened {stop = ends} bracket (spare_sign (codes "[")) refl refl
      (λ _. reads_then (E _) (λ high. first_then E (sign_reads E (codes ":") refl) (λ _. reads_map (λ low. record { high = high; low = low }) (E _))) (λ v s. refl)))
      (λ inner. ended E (sign_reads E (codes "]") refl) inner) (λ v s. refl)

  no_vector : (v : Option Token) → no_type v ≡ true → meets a_vector v ≡ false
  no_vector v s = not_of _ (left_of _ _ s)

  no_integer : (v : Option Token) → no_type v ≡ true → meets an_integer v ≡ false
  no_integer v s = not_of _ (left_of _ _ (right_of (but a_vector v) _ s))

  no_wire : (v : Option Token) → no_type v ≡ true → meets a_wire v ≡ false
  no_wire v s = not_of _ (left_of _ _ (right_of (but an_integer v) _ (right_of (but a_vector v) _ s)))

  no_logic : (v : Option Token) → no_type v ≡ true → meets a_logic v ≡ false
  no_logic v s = not_of _ (left_of _ _ (right_of (but a_wire v) _ (right_of (but an_integer v) _ (right_of (but a_vector v) _ s))))

  no_sign : (v : Option Token) → no_type v ≡ true → meets a_sign v ≡ false
  no_sign v s = not_of _ (left_of _ _ (right_of (but a_logic v) _ (right_of (but a_wire v) _ (right_of (but an_integer v) _ (right_of (but a_vector v) _ s)))))

  no_range : (v : Option Token) → no_type v ≡ true → meets bracket v ≡ false
  no_range v s = not_of _ (right_of (but a_sign v) _ (right_of (but a_logic v) _ (right_of (but a_wire v) _ (right_of (but an_integer v) _ (right_of (but a_vector v) _ s)))))

  sign_word_reads : {floor : ℕ} → Reading floor no_type None false (λ _. grammar.sign_word) reading.sign_word
  unfolding is_keyword_of reading.sign_word
  sign_word_reads = reads_when a_sign (reads_map Some (reads_one a_sign (spare_word (codes "signed")) refl refl)) (reads_give None) (λ _. no_sign) no_sign

  bare_reads : {floor : ℕ} (words : List Id) → Reading floor no_type None false (λ _. grammar.bare words) (reading.bare words)
  unfolding reading.bare
  bare_reads words =
      reads_bind sign_word_reads
      (λ signed. reads_map (λ bounds. record { words = words; sign = signed; range = bounds }) (reads_when bracket (reads_map Some range_reads) (reads_give None) (λ _. no_range) no_range)) (λ v s. s) (λ v s. s)

  vector_reads : {floor : ℕ} → Reading floor no_type (Some (spare_word (codes "logic"))) true (λ _. grammar.vector_shape) reading.vector_shape
  unfolding is_keyword_of reading.vector_shape
  vector_reads = reads_bind (reads_one {stop = anything} a_vector (spare_word (codes "logic")) refl refl) (λ type. bare_reads (type ∷ [])) (λ v s. refl) (λ v s. refl)

  integer_reads : {floor : ℕ} → Reading floor no_type (Some (spare_word (codes "int"))) true (λ _. grammar.integer_shape) reading.integer_shape
  unfolding is_keyword_of reading.integer_shape
  integer_reads =
      reads_bind (reads_one {stop = anything} an_integer (spare_word (codes "int")) refl refl)
      (λ type. reads_map (λ signed. record { words = type ∷ []; sign = signed; range = None }) sign_word_reads) (λ v s. refl) (λ v s. refl)

  net_reads : {floor : ℕ} → Reading floor no_type (Some (spare_word (codes "wire"))) true (λ _. grammar.net_shape) reading.net_shape
  unfolding is_keyword reading.net_shape
  net_reads =
      reads_bind (reads_one {stop = anything} a_wire (spare_word (codes "wire")) refl refl)
      (λ wire. reads_bind (reads_when a_logic (reads_map Some (reads_one a_logic (spare_word (codes "logic")) refl refl)) (reads_give None) (λ _. no_logic) no_logic)
      (λ logic. bare_reads (net_words wire logic)) (λ v s. s) (λ v s. s)) (λ v s. refl) (λ v s. refl)

  pub variable_reads : {floor : ℕ} → Reading floor no_type None false (λ _. grammar.variable_shape) reading.variable_shape
  unfolding reading.variable_shape
  variable_reads = reads_when a_vector vector_reads (reads_when an_integer integer_reads (bare_reads []) (λ _. no_integer) no_integer) (λ _. no_vector) no_vector

  pub port_shape_reads : {floor : ℕ} → Reading floor no_type None false (λ _. grammar.port_shape) reading.port_shape
  unfolding reading.port_shape
  port_shape_reads = reads_when a_wire net_reads variable_reads (λ _. no_wire) no_wire

  -- ---- declarations

  pub value_reads : {floor : ℕ} → Reading floor ends (Some (spare_sign (codes "="))) true (λ _. grammar.value) reading.value
  unfolding is_this reading.value
  value_reads = first_then E (sign_reads E (codes "=") refl) (λ _. E _)

  declared_reads : {floor : ℕ} → Reading floor behind_value (Some spare_name) true (λ _. grammar.declared) reading.declared
  unfolding reading.declared
  declared_reads =
      reads_bind (identifier_reads E)
      (λ name. reads_map (λ first. record { name = name; value = first })
      (reads_when equals (reads_map Some (reads_weaken behind_value (λ v s. left_of (ends v) _ s) value_reads)) (reads_give None) (λ _ v s. not_of _ (right_of (ends v) _ s)) (λ v s. not_of _ (right_of (ends v) _ s))))
      (λ v s. refl) (λ v s. refl)

  pub parameter_reads : {floor : ℕ} → Reading floor ends (Some spare_name) true (λ _. grammar.parameter) reading.parameter
  unfolding reading.parameter
  parameter_reads = first_then E (identifier_reads E) (λ name. reads_map (λ first. record { name = name; value = Some first }) value_reads)

  pub parameters_reads : {floor : ℕ} {stop : Stop} → Reading floor stop (Some (spare_word (codes "parameter"))) true (λ _. grammar.parameters) reading.parameters
  unfolding is_this is_keyword is_keyword_of ends_expression binds spelling.precedence operators.binary_of reading.parameters
  parameters_reads =
      first_then E (reads_one a_parameter (spare_word (codes "parameter")) refl refl)
      (λ keyword. reads_then variable_reads
      (λ shape. reads_then (listed_reads E in_values (λ v s. not_of _ (right_of (ends v) _ s)) (reads_weaken in_values (λ v s. left_of (ends v) _ s) parameter_reads))
      (λ found. ended E (sign_reads E (codes ";") refl) (item.Param keyword shape found)) (λ v s. refl)) (λ v s. refl))

  pub declaration_reads : {floor : ℕ} {stop : Stop} → Reading floor stop (Some spare_name) true (λ _. grammar.declaration) reading.declaration
  unfolding is_this is_keyword is_keyword_of ends_expression binds spelling.precedence operators.binary_of reading.declaration
  declaration_reads =
      reads_then port_shape_reads
      (λ shape. reads_then (listed_reads E in_declared (λ v s. not_of _ (right_of (behind_value v) _ s)) (reads_weaken in_declared (λ v s. left_of (behind_value v) _ s) declared_reads))
      (λ found. ended E (sign_reads E (codes ";") refl) (item.Declare shape found)) (λ v s. refl)) (λ v s. refl)

  pub genvars_reads : {floor : ℕ} {stop : Stop} → Reading floor stop (Some (spare_word (codes "genvar"))) true (λ _. grammar.genvars) reading.genvars
  unfolding is_this is_keyword reading.genvars
  genvars_reads =
      first_then E (word_reads E (codes "genvar") refl)
      (λ _. reads_then (listed_reads E (but comma) (λ v s. not_of _ s) (reads_weaken (but comma) (λ v s. refl) (identifier_reads E)))
      (λ names. ended E (sign_reads E (codes ";") refl) (item.Genvar names)) (λ v s. refl))

  pair_reads : {floor : ℕ} → Reading floor ends (Some spare_name) true (λ _. grammar.pair) reading.pair
  unfolding is_this reading.pair
  pair_reads =
      reads_then (target_reads E) (λ written. first_then E (sign_reads E (codes "=") refl) (λ _. reads_map (λ found. record { target = written; value = found }) (E _))) (λ v s. refl)

  pub assignments_reads : {floor : ℕ} {stop : Stop} → Reading floor stop (Some (spare_word (codes "assign"))) true (λ _. grammar.assignments) reading.assignments
  unfolding is_this is_keyword ends_expression binds spelling.precedence operators.binary_of reading.assignments
  assignments_reads =
      first_then E (word_reads E (codes "assign") refl)
      (λ _. reads_then (listed_reads E in_values (λ v s. not_of _ (right_of (ends v) _ s)) (reads_weaken in_values (λ v s. left_of (ends v) _ s) pair_reads))
      (λ pairs. ended E (sign_reads E (codes ";") refl) (item.Assign pairs)) (λ v s. refl))
