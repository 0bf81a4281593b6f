-- Modules and files: what is read of them is what their rules say.
use Rattle.std.proofs.Common.{◌≡◌, ◌∷◌, ℕ, true, false, [], Option, Some, None, refl, codes}
use Rattle.sv_lexer.specs.declared.token.Token.{Token}
use Rattle.sv_base.specs.Operators as operators
use Rattle.expr_parser.specs.Spelling as spelling
use Rattle.expr_parser.specs.Spelling.{is_this, is_identifier, binds}
use Rattle.expr_parser.specs.Steady.{ends_expression}
use Rattle.expr_parser.specs.Reading.{any}
use Rattle.module_parser.specs.Rule.{Test, expression}
use Rattle.module_parser.specs.Words.{is_keyword, is_keyword_of, is_no_keyword, is_no_sign, directions}
use Rattle.module_parser.specs.Grammar as grammar
use Rattle.module_parser.specs.Grammar.{declaring_words, net_words, process_of, no_shape}
use Rattle.module_parser.specs.Reading as reading
use Rattle.module_parser.proofs.Rules.{Stop}
use Rattle.module_parser.proofs.Spares.{comma, spare_sign, spare_word, spare_number, spare_name, anything, but, also, closes, not_of, left_of, right_of}
use Rattle.module_parser.proofs.Expressions.{ends}
use Rattle.module_parser.proofs.Readings.{Reading, reads_weaken, reads_give, reads_one, reads_then, reads_bind, reads_map, reads_when, reads_many}
use Rattle.module_parser.proofs.Targets.{sign_reads, word_reads, identifier_reads, first_then, ended, listed_reads, parenthesised_reads}
use Rattle.module_parser.specs.Words.{is_any}
use Rattle.module_parser.proofs.Readings.{reads_watched}
use Rattle.module_parser.proofs.Statements.{no_colon, end_label_reads}
use Rattle.module_parser.proofs.Declarations.{variable_reads, port_shape_reads, value_reads, a_parameter}
use Rattle.module_parser.proofs.Processes.{hash, paren, no_closing}
use Rattle.module_parser.proofs.Items.{item_reads}

-- what may stand behind a list in parentheses
abbrev pub in_header : Stop
in_header = also ends (but comma)

abbrev pub in_ports : Stop
in_ports = also (but comma) (but no_closing)

abbrev pub no_endmodule : Test
no_endmodule = is_no_keyword (codes "endmodule")

abbrev pub in_module : Stop
in_module = also closes (but no_endmodule)

-- a file ends at the end of the list
abbrev pub at_end : Stop
at_end = but is_any

module _ (E : (floor : ℕ) → Reading floor ends (Some spare_number) true (λ _. expression) any) where
  -- ---- headers

  header_parameter_reads : {floor : ℕ} → Reading floor ends (Some spare_name) true (λ _. grammar.header_parameter) reading.header_parameter
  unfolding is_this is_keyword is_keyword_of reading.header_parameter
  header_parameter_reads =
      reads_then (reads_when {stop = but a_parameter} a_parameter (reads_map Some (reads_one a_parameter (spare_word (codes "parameter")) refl refl)) (reads_give None) (λ _ v s. not_of _ s) (λ v s. not_of _ s))
      (λ keyword. reads_then (variable_reads E)
      (λ shape. first_then E (identifier_reads E) (λ name. reads_map (λ found. record { keyword = keyword; shape = shape; name = name; value = found }) (value_reads E))) (λ v s. refl)) (λ v s. refl)

  in_header_reads : {floor : ℕ} {stop : Stop} → Reading floor stop (Some (spare_sign (codes "("))) true (λ _. grammar.parenthesised (grammar.listed grammar.header_parameter)) (reading.parenthesised (reading.listed reading.header_parameter))
  unfolding is_this ends_expression binds spelling.precedence operators.binary_of
  in_header_reads =
      parenthesised_reads E in_header refl (listed_reads E in_header (λ v s. not_of _ (right_of (ends v) _ s)) (reads_weaken in_header (λ v s. left_of (ends v) _ s) header_parameter_reads))

  header_parameters_reads : {floor : ℕ} → Reading floor (but hash) None false (λ _. grammar.header_parameters) reading.header_parameters
  unfolding is_this reading.header_parameters
  header_parameters_reads = reads_when hash (first_then E (sign_reads E (codes "#") refl) (λ _. in_header_reads)) (reads_give []) (λ _ v s. not_of _ s) (λ v s. not_of _ s)

  whole_port_reads : {floor : ℕ} → Reading floor anything (Some (spare_word (codes "input"))) true (λ _. grammar.whole_port) reading.whole_port
  unfolding is_this is_keyword is_keyword_of reading.whole_port
  whole_port_reads =
      first_then E (reads_one (is_keyword_of directions) (spare_word (codes "input")) refl refl)
      (λ direction. reads_then (port_shape_reads E)
      (λ shape. reads_map (λ name. record { direction = Some direction; shape = shape; name = name }) (identifier_reads E)) (λ v s. refl))

  further_port_reads : {floor : ℕ} → Reading floor anything (Some (spare_word (codes "input"))) true (λ _. grammar.further_port) reading.further_port
  unfolding is_identifier reading.further_port
  further_port_reads =
      reads_when is_identifier (reads_map (λ name. record { direction = None; shape = no_shape; name = name }) (identifier_reads E)) whole_port_reads (λ is. absurd cc) (λ v s. refl)

  ports_reads : {floor : ℕ} → Reading floor in_ports (Some (spare_word (codes "input"))) true (λ _. grammar.ports) reading.ports
  unfolding is_this reading.ports
  ports_reads =
      reads_bind whole_port_reads
      (λ first. reads_map (λ rest. first ∷ rest) (reads_many comma (λ _. reads_weaken in_ports (λ v s. refl) (first_then E {stop = anything} (sign_reads E (codes ",") refl) (λ _. further_port_reads)))
      (λ v s. not_of _ (left_of _ _ s)))) (λ v s. refl) (λ v s. refl)

  header_ports_reads : {floor : ℕ} → Reading floor (but paren) None false (λ _. grammar.header_ports) reading.header_ports
  unfolding is_this is_no_sign reading.header_ports
  header_ports_reads =
      reads_when paren
      (parenthesised_reads E in_ports refl (reads_when no_closing ports_reads (reads_give []) (λ _ v s. not_of _ (right_of (but comma v) _ s)) (λ v s. not_of _ (right_of (but comma v) _ s))))
      (reads_give []) (λ _ v s. not_of _ s) (λ v s. not_of _ s)

  -- ---- modules

  body_reads : {floor : ℕ} → Reading floor anything (Some (spare_word (codes "endmodule"))) true (λ _. grammar.body) reading.body
  unfolding is_this is_keyword is_no_keyword reading.body
  body_reads =
      reads_watched
      (reads_then (reads_many {stop = in_module} no_endmodule (λ _. reads_weaken in_module (λ v s. left_of (closes v) _ s) (item_reads E)) (λ v s. not_of _ (right_of (closes v) _ s)))
      (λ items. ended E (word_reads E (codes "endmodule") refl) items) (λ v s. refl))

  module_reads : {floor : ℕ} → Reading floor no_colon (Some (spare_word (codes "module"))) true (λ _. grammar.module_of) reading.module_of
  unfolding is_this is_keyword reading.module_of
  module_reads =
      first_then E (word_reads E (codes "module") refl)
      (λ _. first_then E (identifier_reads E)
      (λ name. reads_then header_parameters_reads
      (λ params. reads_then header_ports_reads
      (λ found. reads_bind (sign_reads E (codes ";") refl)
      (λ _. reads_bind body_reads
      (λ inner. reads_map (λ _. record { name = name; marked = inner.1; params = params; ports = found; items = inner.0 }) (end_label_reads E (Some name)))
      (λ v s. refl) (λ v s. refl)) (λ v s. refl) (λ v s. refl)) (λ v s. refl)) (λ v s. refl)))

  ends_no_colon : (v : Option Token) → at_end v ≡ true → no_colon v ≡ true
  ends_no_colon None s = refl
  ends_no_colon (Some t) s = absurd cc

  pub file_reads : Reading 0 at_end None false (λ _. grammar.file) reading.file
  unfolding reading.file
  file_reads = reads_many is_any (λ _. reads_weaken at_end ends_no_colon module_reads) (λ v s. not_of _ s)
