-- Instances, processes and items: what is read of them is what their rules say.
use Rattle.std.proofs.Common.{◌≡◌, ◌∷◌, ◌+◌, ℕ, true, false, [], Option, Some, None, refl, codes}
use Rattle.sv_lexer.specs.declared.token.Token.{Token}
use Rattle.sv_ast.specs.declared.expression.Id.{Id}
use Rattle.sv_ast.specs.declared.item.Edge.{Edge}
use Rattle.sv_ast.specs.declared.item.Item.TheVariants as item
use Rattle.sv_ast.specs.declared.expression.Expr.TheVariants as e
use Rattle.sv_base.specs.Operators as operators
use Rattle.expr_parser.specs.Spelling as spelling
use Rattle.expr_parser.specs.Spelling.{is_this, is_identifier, binds}
use Rattle.expr_parser.specs.Steady.{ends_expression}
use Rattle.expr_parser.specs.Input as parser
use Rattle.expr_parser.specs.Input.{Parser, pure}
use Rattle.expr_parser.specs.Reading.{any}
use Rattle.module_parser.specs.Rule as rule
use Rattle.module_parser.specs.Rule.{Rule, Test, meets, lead, give, expression}
use Rattle.module_parser.specs.Words.{is_keyword, is_keyword_of, is_no_sign, edges}
use Rattle.module_parser.specs.Grammar as grammar
use Rattle.module_parser.specs.Grammar.{declaring_words, net_words, process_of, no_shape}
use Rattle.module_parser.specs.Reading as reading
use Rattle.module_parser.proofs.Rules.{Stop}
use Rattle.module_parser.proofs.Spares.{comma, spare_sign, spare_word, spare_number, spare_name, anything, but, also, closes, not_of, left_of, right_of}
use Rattle.module_parser.proofs.Expressions.{ends}
use Rattle.module_parser.proofs.Readings.{Reading, reads_weaken, reads_give, reads_one, reads_then, reads_bind, reads_map, reads_when}
use Rattle.module_parser.proofs.Targets.{sign_reads, identifier_reads, first_then, ended, listed_reads, parenthesised_reads}
use Rattle.module_parser.proofs.Statements.{statement_reads}

abbrev pub paren : Test
paren = is_this (codes "(")

abbrev pub dot : Test
dot = is_this (codes ".")

abbrev pub no_closing : Test
no_closing = is_no_sign (codes ")")

abbrev pub in_parens : Stop
in_parens = also ends (also (but paren) (also (but comma) (but no_closing)))

abbrev pub hash : Test
hash = is_this (codes "#")

abbrev pub star : Test
star = is_this (codes "*")

module _ (E : (floor : ℕ) → Reading floor ends (Some spare_number) true (λ _. expression) any) where
  -- ---- instances

  in_ends : (v : Option Token) → in_parens v ≡ true → ends v ≡ true
  in_ends v s = left_of _ _ s

  in_paren : (v : Option Token) → in_parens v ≡ true → but paren v ≡ true
  in_paren v s = left_of _ _ (right_of (ends v) _ s)

  in_comma : (v : Option Token) → in_parens v ≡ true → meets comma v ≡ false
  in_comma v s = not_of _ (left_of _ _ (right_of (but paren v) _ (right_of (ends v) _ s)))

  in_closing : (v : Option Token) → in_parens v ≡ true → meets no_closing v ≡ false
  in_closing v s = not_of _ (right_of (but comma v) _ (right_of (but paren v) _ (right_of (ends v) _ s)))

  connected_reads : {floor : ℕ} (port : Id) → Reading floor (but paren) None false (λ _. grammar.connected port) (reading.connected port)
  unfolding is_this is_no_sign ends_expression binds spelling.precedence operators.binary_of reading.connected
  connected_reads {floor} port =
      reads_when paren
      (reads_map (λ joined. record { port = Some port; value = joined })
      (parenthesised_reads E in_parens refl (reads_when no_closing (reads_map Some (reads_weaken in_parens in_ends (E (floor + 1)))) (reads_give None) (λ _. in_closing) in_closing)))
      (reads_give (record { port = Some port; value = Some (e.Read port []) })) (λ _ v s. not_of _ s) (λ v s. not_of _ s)

  named_reads : {floor : ℕ} → Reading floor (but paren) (Some (spare_sign (codes "."))) true (λ _. grammar.named_arg) reading.named_arg
  unfolding is_this reading.named_arg
  named_reads = reads_bind (first_then E {stop = anything} (sign_reads E (codes ".") refl) (λ _. identifier_reads E)) connected_reads (λ v s. refl) (λ v s. refl)

  ordered_reads : {floor : ℕ} → Reading floor ends (Some spare_number) true (λ _. grammar.ordered_arg) reading.ordered_arg
  unfolding reading.ordered_arg
  ordered_reads = reads_map (λ found. record { port = None; value = Some found }) (E _)

  args_reads : {floor : ℕ} → Reading floor in_parens None false (λ _. grammar.args) reading.args
  unfolding is_this is_no_sign reading.args
  args_reads =
      reads_when no_closing
      (reads_when dot (listed_reads E in_parens in_comma (reads_weaken in_parens in_paren named_reads)) (listed_reads E in_parens in_comma (reads_weaken in_parens in_ends ordered_reads)) (λ is. absurd cc) (λ v s. refl))
      (reads_give []) (λ _. in_closing) in_closing

  in_args_reads : {floor : ℕ} {stop : Stop} → Reading floor stop (Some (spare_sign (codes "("))) true (λ _. grammar.parenthesised grammar.args) (reading.parenthesised reading.args)
  unfolding is_this is_no_sign ends_expression binds spelling.precedence operators.binary_of
  in_args_reads = parenthesised_reads E in_parens refl args_reads

  instance_reads : {floor : ℕ} {stop : Stop} → Reading floor stop (Some spare_name) true (λ _. grammar.instance) reading.instance
  unfolding reading.instance
  instance_reads = first_then E (identifier_reads E) (λ name. reads_map (λ joined. record { name = name; args = joined }) in_args_reads)

  pub instances_reads : {floor : ℕ} {stop : Stop} → Reading floor stop (Some spare_name) true (λ _. grammar.instances) reading.instances
  unfolding is_this reading.instances
  instances_reads =
      first_then E (identifier_reads E)
      (λ of_module. reads_then (reads_when {stop = but hash} hash (first_then E (sign_reads E (codes "#") refl) (λ _. in_args_reads)) (reads_give []) (λ _ v s. not_of _ s) (λ v s. not_of _ s))
      (λ values. reads_then (listed_reads E (but comma) (λ v s. not_of _ s) instance_reads)
      (λ found. ended E (sign_reads E (codes ";") refl) (item.Instance of_module values found)) (λ v s. refl)) (λ v s. refl))

  -- ---- processes

  pub combinational_reads : {floor : ℕ} → Reading floor closes (Some (spare_word (codes "always_comb"))) true (λ _. grammar.combinational) reading.combinational
  unfolding is_keyword reading.combinational
  combinational_reads =
      first_then E (reads_one (is_keyword (codes "always_comb")) (spare_word (codes "always_comb")) refl refl) (λ keyword. reads_map (item.Comb keyword.place) (statement_reads E))

  edge_reads : {floor : ℕ} → Reading floor anything (Some (spare_word (codes "posedge"))) true (λ _. grammar.edge) reading.edge
  unfolding is_keyword_of reading.edge
  edge_reads =
      first_then E (reads_one (is_keyword_of edges) (spare_word (codes "posedge")) refl refl) (λ keyword. reads_map (λ name. record { word = keyword; name = name }) (identifier_reads E))

  pub clocked_reads : {floor : ℕ} → Reading floor closes (Some (spare_word (codes "always_ff"))) true (λ _. grammar.clocked) reading.clocked
  unfolding is_this is_keyword reading.clocked
  clocked_reads =
      first_then E (reads_one (is_keyword (codes "always_ff")) (spare_word (codes "always_ff")) refl refl)
      (λ keyword. first_then E (sign_reads E (codes "@") refl)
      (λ _. first_then E (parenthesised_reads E anything refl edge_reads) (λ found. reads_map (item.Clocked keyword.place (found ∷ [])) (statement_reads E))))

  star_reads : {floor : ℕ} → Reading floor anything (Some (spare_sign (codes "*"))) true (λ _. rule.◌>>◌ (grammar.sign (codes "*")) (give None)) (parser.◌>>◌ (reading.sign (codes "*")) (pure {A = Option Edge} None))
  unfolding is_this
  star_reads = ended E (sign_reads E (codes "*") refl) None

  control_reads : {floor : ℕ} → Reading floor anything (Some (spare_sign (codes "("))) true (λ _. grammar.control) reading.control
  unfolding is_this reading.control
  control_reads =
      reads_when star star_reads
      (parenthesised_reads E anything refl (reads_when star star_reads (reads_map Some edge_reads) (λ is. absurd cc) (λ v s. refl))) (λ is. absurd cc) (λ v s. refl)

  pub always_reads : {floor : ℕ} → Reading floor closes (Some (spare_word (codes "always"))) true (λ _. grammar.always) reading.always
  unfolding is_this is_keyword reading.always
  always_reads =
      first_then E (reads_one (is_keyword (codes "always")) (spare_word (codes "always")) refl refl)
      (λ keyword. first_then E (sign_reads E (codes "@") refl)
      (λ _. first_then E control_reads (λ found. reads_map (process_of keyword found) (statement_reads E))))
