-- Blocks, loops and statements: what is read of them is what their rules say.
use Rattle.std.proofs.Common.{◌≡◌, ◌∷◌, ◌+◌, ◌≤◌, ℕ, suc, zero, true, false, List, [], Option, Some, None, refl, ap, arith, codes}
use Rattle.sv_lexer.specs.declared.token.Token.{Token}
use Rattle.sv_ast.specs.declared.expression.Id.{Id}
use Rattle.sv_ast.specs.declared.statement.CaseItem.{CaseItem}
use Rattle.sv_ast.specs.declared.statement.Stmt.{Stmt}
use Rattle.sv_ast.specs.declared.statement.Stmt.TheVariants as stmt
use Rattle.sv_base.specs.Operators as operators
use Rattle.expr_parser.specs.Spelling as spelling
use Rattle.expr_parser.specs.Spelling.{is_this, is_identifier, binds}
use Rattle.expr_parser.specs.Steady.{ends_expression}
use Rattle.expr_parser.specs.Nesting.{greatest_nesting}
use Rattle.expr_parser.specs.Input as parser
use Rattle.expr_parser.specs.Input.{Parser, pure}
use Rattle.expr_parser.specs.Reading.{any}
use Rattle.module_parser.specs.Rule as rule
use Rattle.module_parser.specs.Rule.{Rule, Test, meets, lead, give, expression}
use Rattle.module_parser.specs.Words.{is_keyword, is_no_keyword, is_sign_of, is_named, begins_target}
use Rattle.module_parser.specs.Grammar as grammar
use Rattle.module_parser.specs.Grammar.{is_first_default}
use Rattle.module_parser.specs.Reading as reading
use Rattle.module_parser.proofs.Rules.{Family, Stop, Spare}
use Rattle.module_parser.proofs.Spares.{bytes_same, comma, spare_sign, spare_word, spare_number, spare_name, anything, but, also, closes, colon, otherwise, not_of, left_of, right_of}
use Rattle.module_parser.proofs.Expressions.{ends}
use Rattle.module_parser.proofs.Readings.{Reading, reads_weaken, reads_give, reads_one, reads_skip, reads_then, reads_bind, reads_map, reads_when, reads_many, reads_opened, reads_depths, Lawful, lawful, lawful_weaken, lawful_give, lawful_skip, lawful_then, lawful_bind, lawful_map, lawful_when, lawful_many, lawful_opened, lawful_void, lawful_void_right, spare_when, reads_depth}
use Rattle.module_parser.proofs.Targets.{sign_reads, word_reads, identifier_reads, expression_reads, first_then, ended, listed_reads, parenthesised_reads, target_reads}

abbrev pub no_colon : Stop
no_colon = but colon

abbrev pub no_end : Test
no_end = is_no_keyword (codes "end")

abbrev pub in_block : Stop
in_block = also closes (but no_end)

abbrev pub begins : Test
begins = is_keyword (codes "begin")

abbrev pub counts : Test
counts = is_sign_of (codes "++" ∷ codes "--" ∷ [])

abbrev pub sets : Test
sets = is_sign_of (codes "=" ∷ codes "+=" ∷ codes "-=" ∷ [])

abbrev pub condition : Test
condition = is_keyword (codes "if")

abbrev pub in_labels : Stop
in_labels = also ends (but comma)

abbrev pub case_word : Test
case_word = is_keyword (codes "case")

abbrev pub no_endcase : Test
no_endcase = is_no_keyword (codes "endcase")

abbrev pub in_case : Stop
in_case = also closes (but no_endcase)

abbrev pub for_word : Test
for_word = is_keyword (codes "for")

abbrev pub assigns : Test
assigns = is_sign_of (codes "=" ∷ codes "<=" ∷ [])

module _ (E : (floor : ℕ) → Reading floor ends (Some spare_number) true (λ _. expression) any) where
  -- ---- labels and blocks

  label_reads : {floor : ℕ} → Reading floor no_colon None false (λ _. grammar.label) reading.label
  unfolding is_this reading.label
  label_reads =
      reads_when colon (reads_weaken no_colon (λ v s. refl) (reads_map Some (first_then E (sign_reads E (codes ":") refl) (λ _. identifier_reads E)))) (reads_give None) (λ _ v s. not_of _ s) (λ v s. not_of _ s)

  pub end_label_reads : {floor : ℕ} (name : Option Id) → Reading floor no_colon None false (λ _. grammar.end_label name) (reading.end_label name)
  unfolding is_this is_named reading.end_label
  end_label_reads None = reads_give tt
  end_label_reads (Some name) =
      reads_when colon (reads_weaken no_colon (λ v s. refl) (first_then E (sign_reads E (codes ":") refl) (λ _. reads_skip {stop = anything} (is_named name.name) (spare_word name.name) refl (bytes_same name.name))))
      (reads_give tt) (λ _ v s. not_of _ s) (λ v s. not_of _ s)

  pub block_of_reads : {A : Type 0} {floor : ℕ} {h : Option Token} {us : Family A} {p : Parser A} → Reading (floor + 1) closes h true us p
      → Reading floor no_colon (Some (spare_word (codes "begin"))) true (λ k. grammar.block_of (us k)) (reading.block_of p)
  unfolding is_this is_keyword is_no_keyword reading.block_of
  block_of_reads r =
      reads_then (reads_opened {stop = in_block} begins (spare_word (codes "begin")) refl refl
      (λ _. reads_bind (label_reads) (λ name. reads_map (λ parts. (name, parts)) (reads_many no_end (λ _. reads_weaken in_block (λ v s. left_of (closes v) _ s) r) (λ v s. not_of _ (right_of (closes v) _ s))))
      (λ v s. left_of _ _ (left_of (closes v) _ s)) (λ v s. left_of _ _ (left_of (closes v) _ s))))
      (λ inner. reads_bind (word_reads E (codes "end") refl) (λ _. reads_bind (end_label_reads inner.0) (λ _. reads_give inner) (λ v s. s) (λ v s. s)) (λ v s. refl) (λ v s. refl)) (λ v s. refl)

  pub block_of_lawful : {A : Type 0} {r s : Rule A} → Lawful closes true r s → Lawful no_colon true (grammar.block_of r) (grammar.block_of s)
  block_of_lawful l =
      lawful_then (lawful_opened {stop = in_block} begins
      (λ _. lawful_bind (lawful (label_reads {floor = 0}) 0 0) (λ name. lawful_map (λ parts. (name, parts)) (lawful_many no_end (λ _. lawful_weaken in_block (λ v s. left_of (closes v) _ s) l) (λ v s. not_of _ (right_of (closes v) _ s))))
      (λ v s. left_of _ _ (left_of (closes v) _ s))))
      (λ inner. lawful_bind (lawful_skip {stop = anything} (is_keyword (codes "end"))) (λ _. lawful_bind (lawful (end_label_reads {floor = 0} inner.0) 0 0) (λ _. lawful_give inner) (λ v s. s)) (λ v s. refl))

  -- ---- loops

  step_reads : {floor : ℕ} (variable : Id) → Reading floor ends (Some (spare_word variable.name)) true (λ _. grammar.step variable) (reading.step variable)
  unfolding is_sign_of is_named reading.step
  step_reads variable =
      first_then E (reads_one (is_named variable.name) (spare_word variable.name) refl (bytes_same variable.name))
      (λ name. reads_when counts
      (reads_weaken ends (λ v s. refl) (reads_map (λ by. record { name = name; sign = by; value = None }) (reads_one {stop = anything} counts (spare_sign (codes "++")) refl refl)))
      (first_then E (reads_one sets (spare_sign (codes "=")) refl refl) (λ by. reads_map (λ value. record { name = name; sign = by; value = Some value }) (expression_reads E ends (λ v s. s))))
      (λ is. absurd cc) (λ v s. refl))

  pub loop_reads : {floor : ℕ} → Reading floor ends (Some spare_name) true (λ _. grammar.loop) reading.loop
  unfolding is_this ends_expression binds spelling.precedence operators.binary_of reading.loop
  loop_reads =
      first_then E (identifier_reads E) (λ name. first_then E (sign_reads E (codes "=") refl)
      (λ _. reads_then (E _) (λ first. first_then E (sign_reads E (codes ";") refl)
      (λ _. reads_then (E _) (λ test. first_then E (sign_reads E (codes ";") refl)
      (λ _. reads_map (λ by. record { name = name; first = first; test = test; step = by }) (step_reads name))) (λ v s. refl))) (λ v s. refl)))

  -- ---- statements

  block_reads : {floor : ℕ} {h : Option Token} {us : Family Stmt} {p : Parser Stmt} → Reading (floor + 1) closes h true us p
      → Reading floor closes (Some (spare_word (codes "begin"))) true (λ k. grammar.block (us k)) (reading.block p)
  unfolding reading.block
  block_reads r = reads_map (λ inner. stmt.Block inner.0 inner.1) (reads_weaken closes (λ v s. left_of (no_colon v) _ s) (block_of_reads r))

  block_lawful : {r s : Rule Stmt} → Lawful closes true r s → Lawful closes true (grammar.block r) (grammar.block s)
  block_lawful l = lawful_map (λ inner. stmt.Block inner.0 inner.1) (lawful_weaken closes (λ v s. left_of (no_colon v) _ s) (block_of_lawful l))

  pub tested_reads : {floor : ℕ} {stop : Stop} → Reading floor stop (Some (spare_sign (codes "("))) true (λ _. grammar.parenthesised expression) (reading.parenthesised any)
  unfolding is_this ends_expression binds spelling.precedence operators.binary_of
  tested_reads {floor} = parenthesised_reads E ends refl (E (floor + 1))

  conditional_reads : {floor : ℕ} {h : Option Token} {us : Family Stmt} {p : Parser Stmt} → Reading (floor + 1) closes h true us p
      → Reading floor closes (Some (spare_word (codes "if"))) true (λ k. grammar.conditional (us k)) (reading.conditional p)
  unfolding is_keyword reading.conditional
  conditional_reads r =
      reads_bind (reads_opened {stop = closes} condition (spare_word (codes "if")) refl refl (λ opens. first_then E tested_reads (λ test. reads_map (stmt.If opens.place test) r)))
      (λ front. reads_map front
      (reads_when otherwise (reads_map Some (reads_opened {stop = closes} otherwise (spare_word (codes "else")) refl refl (λ _. r))) (reads_give None)
      (λ _ v s. not_of _ (right_of (no_colon v) _ s)) (λ v s. not_of _ (right_of (no_colon v) _ s)))) (λ v s. s) (λ v s. s)

  conditional_lawful : {r s : Rule Stmt} → Lawful closes true r s → Lawful closes true (grammar.conditional r) (grammar.conditional s)
  conditional_lawful l =
      lawful_bind (lawful_opened {stop = closes} condition (λ opens. lawful_then (lawful (tested_reads {floor = 0} {stop = anything}) 0 0) (λ test. lawful_map (stmt.If opens.place test) l)))
      (λ front. lawful_map front
      (lawful_when otherwise (lawful_map Some (lawful_opened {stop = closes} otherwise (λ _. l))) (lawful_give None) (λ _ v s. not_of _ (right_of (no_colon v) _ s)))) (λ v s. s)

  default_reads : {floor : ℕ} {us : Family Stmt} {p : Parser Stmt} → Reading floor closes (Some (spare_sign (codes ";"))) true us p
      → Reading floor closes (Some (spare_word (codes "default"))) true (λ k. grammar.default_item (us k)) (reading.default_item p)
  unfolding is_this is_keyword reading.default_item
  default_reads r =
      reads_bind (word_reads E (codes "default") refl)
      (λ _. reads_then (reads_when {stop = no_colon} colon (reads_map Some (reads_weaken no_colon (λ v s. refl) (sign_reads E (codes ":") refl))) (reads_give None) (λ _ v s. not_of _ s) (λ v s. not_of _ s))
      (λ _. reads_map (λ body. record { labels = []; body = body }) r) (λ v s. refl)) (λ v s. refl) (λ v s. refl)

  default_lawful : {r s : Rule Stmt} → Lawful closes true r s → Lawful closes true (grammar.default_item r) (grammar.default_item s)
  default_lawful l =
      lawful_then (lawful_skip {stop = anything} (is_keyword (codes "default")))
      (λ _. lawful_then (lawful_when {stop = no_colon} colon (lawful_map Some (lawful_skip colon)) (lawful_give None) (λ _ v s. not_of _ s))
      (λ _. lawful_map (λ body. record { labels = []; body = body }) l))

  labels_reads : {floor : ℕ} → Reading floor in_labels (Some spare_number) true (λ _. grammar.listed expression) (reading.listed any)
  labels_reads {floor} = listed_reads E in_labels (λ v s. not_of _ (right_of (ends v) _ s)) (reads_weaken in_labels (λ v s. left_of (ends v) _ s) (E floor))

  labelled_reads : {floor : ℕ} {us : Family Stmt} {p : Parser Stmt} → Reading floor closes (Some (spare_sign (codes ";"))) true us p
      → Reading floor closes (Some spare_number) true (λ k. grammar.labelled_item (us k)) (reading.labelled_item p)
  unfolding is_this ends_expression binds spelling.precedence operators.binary_of reading.labelled_item
  labelled_reads r =
      reads_then labels_reads (λ labels. first_then E (sign_reads E (codes ":") refl) (λ _. reads_map (λ body. record { labels = labels; body = body }) r)) (λ v s. refl)

  labelled_lawful : {r s : Rule Stmt} → Lawful closes true r s → Lawful closes true (grammar.labelled_item r) (grammar.labelled_item s)
  labelled_lawful l =
      lawful_then (lawful (labels_reads {floor = 0}) 0 0) (λ labels. lawful_then (lawful_skip {stop = anything} (is_this (codes ":"))) (λ _. lawful_map (λ body. record { labels = labels; body = body }) l))

  item_reads : {floor : ℕ} {us : Family Stmt} {p : Parser Stmt} → Reading floor closes (Some (spare_sign (codes ";"))) true us p → (found : List CaseItem)
      → Reading floor closes (Some spare_number) true (λ k. grammar.case_item (us k) found) (reading.case_item p found)
  unfolding is_keyword reading.case_item
  item_reads r found = reads_when (is_first_default found) (default_reads r) (labelled_reads r) (λ is. absurd cc) (λ v s. refl)

  item_lawful : {r s : Rule Stmt} → Lawful closes true r s → (found : List CaseItem) → Lawful closes true (grammar.case_item r found) (grammar.case_item s found)
  item_lawful l found = lawful_when (is_first_default found) (default_lawful l) (labelled_lawful l) (λ is. absurd cc)

  choice_reads : {floor : ℕ} {us : Family Stmt} {p : Parser Stmt} → Reading (floor + 1) closes (Some (spare_sign (codes ";"))) true us p
      → Reading floor closes (Some (spare_word (codes "case"))) true (λ k. grammar.choice (us k)) (reading.choice p)
  unfolding is_this is_keyword is_no_keyword reading.choice
  choice_reads r =
      reads_then (reads_opened {stop = in_case} case_word (spare_word (codes "case")) refl refl
      (λ opens. first_then E tested_reads (λ test. reads_bind (reads_weaken in_case (λ v s. left_of (closes v) _ s) (item_reads r []))
      (λ first. reads_map (λ rest. stmt.Case opens.place test (first ∷ rest)) (reads_many no_endcase (λ found. reads_weaken in_case (λ v s. left_of (closes v) _ s) (item_reads r (first ∷ found))) (λ v s. not_of _ (right_of (closes v) _ s))))
      (λ v s. s) (λ v s. s))))
      (λ inner. ended E (word_reads E (codes "endcase") refl) inner) (λ v s. refl)

  choice_lawful : {r s : Rule Stmt} → Lawful closes true r s → Lawful closes true (grammar.choice r) (grammar.choice s)
  choice_lawful l =
      lawful_then (lawful_opened {stop = in_case} case_word
      (λ opens. lawful_then (lawful (tested_reads {floor = 0} {stop = anything}) 0 0) (λ test. lawful_bind (lawful_weaken in_case (λ v s. left_of (closes v) _ s) (item_lawful l []))
      (λ first. lawful_map (λ rest. stmt.Case opens.place test (first ∷ rest)) (lawful_many no_endcase (λ found. lawful_weaken in_case (λ v s. left_of (closes v) _ s) (item_lawful l (first ∷ found))) (λ v s. not_of _ (right_of (closes v) _ s))))
      (λ v s. s))))
      (λ inner. lawful_bind (lawful_skip {stop = anything} (is_keyword (codes "endcase"))) (λ _. lawful_give inner) (λ v s. refl))

  head_reads : {floor : ℕ} {stop : Stop} → Reading floor stop (Some (spare_sign (codes "("))) true (λ _. grammar.parenthesised (rule.◌>>◌ (grammar.word (codes "int")) grammar.loop)) (reading.parenthesised (parser.◌>>◌ (reading.word (codes "int")) reading.loop))
  unfolding is_this is_keyword ends_expression binds spelling.precedence operators.binary_of
  head_reads = parenthesised_reads E ends refl (first_then E (word_reads E (codes "int") refl) (λ _. loop_reads))

  repetition_reads : {floor : ℕ} {us : Family Stmt} {p : Parser Stmt} → Reading (floor + 1) closes (Some (spare_sign (codes ";"))) true us p
      → Reading floor closes (Some (spare_word (codes "for"))) true (λ k. grammar.repetition (us k)) (reading.repetition p)
  unfolding is_keyword reading.repetition
  repetition_reads r = reads_opened {stop = closes} for_word (spare_word (codes "for")) refl refl (λ opens. first_then E head_reads (λ head. reads_map (stmt.For opens.place head) r))

  repetition_lawful : {r s : Rule Stmt} → Lawful closes true r s → Lawful closes true (grammar.repetition r) (grammar.repetition s)
  repetition_lawful l = lawful_opened {stop = closes} for_word (λ opens. lawful_then (lawful (head_reads {floor = 0} {stop = anything}) 0 0) (λ head. lawful_map (stmt.For opens.place head) l))

  assignment_reads : {floor : ℕ} {stop : Stop} (us : Family Stmt) (p : Parser Stmt) → Reading floor stop (Some spare_name) true (λ k. grammar.assignment (us k)) (reading.assignment p)
  unfolding is_this is_sign_of ends_expression binds spelling.precedence operators.binary_of reading.assignment
  assignment_reads us p =
      reads_then (target_reads E) (λ written. first_then E (reads_one assigns (spare_sign (codes "=")) refl refl)
      (λ by. reads_then (E _) (λ value. ended E (sign_reads E (codes ";") refl) (stmt.Assign written by value)) (λ v s. refl))) (λ v s. refl)

  empty_reads : {floor : ℕ} {stop : Stop} → Reading floor stop (Some (spare_sign (codes ";"))) true (λ _. rule.◌>>◌ (grammar.sign (codes ";")) (give stmt.Empty)) (parser.◌>>◌ (reading.sign (codes ";")) (pure stmt.Empty))
  unfolding is_this
  empty_reads = ended E (sign_reads E (codes ";") refl) stmt.Empty

  level_reads : {floor : ℕ} {us : Family Stmt} {p : Parser Stmt} → Reading (floor + 1) closes (Some (spare_sign (codes ";"))) true us p
      → Reading floor closes (Some (spare_sign (codes ";"))) true (λ k. grammar.statement_level (us k)) (reading.statement_level p)
  unfolding is_this is_identifier is_keyword begins_target reading.statement_level
  level_reads {us} {p} r =
      reads_when begins (block_reads r)
      (reads_when condition (conditional_reads r)
      (reads_when case_word (choice_reads r)
      (reads_when for_word (repetition_reads r)
      (reads_when begins_target (assignment_reads us p) empty_reads (λ is. absurd cc) (λ v s. refl)) (λ is. absurd cc) (λ v s. refl)) (λ is. absurd cc) (λ v s. refl)) (λ is. absurd cc) (λ v s. refl)) (λ is. absurd cc) (λ v s. refl)

  either_of : Rule Stmt → Rule Stmt → Family Stmt
  either_of r s zero = r
  either_of r s (suc n) = s

  level_lawful : (r s : Rule Stmt) → Lawful closes true r s → Lawful closes true (grammar.statement_level r) (grammar.statement_level s)
  level_lawful r s l =
      lawful_when begins (block_lawful l)
      (lawful_when condition (conditional_lawful l)
      (lawful_when case_word (choice_lawful l)
      (lawful_when for_word (repetition_lawful l)
      (lawful_when begins_target (lawful (assignment_reads {floor = 0} {stop = closes} (either_of r s) parser.refuse) 0 1) (lawful (empty_reads {floor = 0} {stop = closes}) 0 0) (λ is. absurd cc)) (λ is. absurd cc)) (λ is. absurd cc)) (λ is. absurd cc)) (λ is. absurd cc)

  -- ---- statements inside one another

  statement_diagonal : (k : ℕ) → Lawful closes true (grammar.statement_to k) (grammar.statement_to k)
  statement_diagonal zero = lawful_void (λ a xs n h. h) (λ a xs n h. absurd h)
  statement_diagonal (suc k) = level_lawful (grammar.statement_to k) (grammar.statement_to k) (statement_diagonal k)

  statement_lawful : (n k : ℕ) → Lawful closes true (grammar.statement_to n) (grammar.statement_to k)
  statement_lawful zero k = lawful_void (λ a xs n h. h) (statement_diagonal k).law.clean
  statement_lawful (suc n) zero = lawful_void_right (λ a xs n h. h) (statement_diagonal (suc n))
  statement_lawful (suc n) (suc k) = level_lawful (grammar.statement_to n) (grammar.statement_to k) (statement_lawful n k)

  -- no keyword and no target begins with `;`
  semicolon_is : (v : Option Token) → lead (empty_reads {floor = 0} {stop = closes}).fact.spare.text v ≡ Some (spare_sign (codes ";"))
  semicolon_is v = (empty_reads {floor = 0} {stop = closes}).heads v

  spare_statement : Spare closes (λ k. grammar.statement_to (suc k))
  unfolding is_this is_identifier is_keyword begins_target spare_when
  spare_statement =
      spare_when begins (spare_when condition (spare_when case_word (spare_when for_word (spare_when begins_target (empty_reads {floor = 0} {stop = closes}).fact.spare
      (λ v s. ap (meets begins_target) (semicolon_is v))) (λ v s. ap (meets for_word) (semicolon_is v))) (λ v s. ap (meets case_word) (semicolon_is v)))
      (λ v s. ap (meets condition) (semicolon_is v))) (λ v s. ap (meets begins) (semicolon_is v))

  statement_at_reads : (floor n : ℕ) → greatest_nesting + 1 ≤ floor + n → Reading floor closes (Some (spare_sign (codes ";"))) true grammar.statement_to (reading.statement_to n)
  unfolding spare_when spare_statement reading.statement_to
  statement_at_reads =
      reads_depth grammar.statement_to reading.statement_to (λ a xs n h. h) statement_lawful spare_statement semicolon_is (λ floor n r. level_reads r)

  pub statement_reads : {floor : ℕ} → Reading floor closes (Some (spare_sign (codes ";"))) true (λ _. grammar.statement) reading.statement
  unfolding reading.statement
  statement_reads {floor} = reads_depths (statement_at_reads floor (greatest_nesting + 1) (omega arith))
