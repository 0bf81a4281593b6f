-- Items and what is generated: what is read of them is what their rules say.
use Rattle.std.proofs.Common.{◌≡◌, ◌∙◌, ◌∷◌, ◌+◌, ◌≤◌, ℕ, suc, zero, true, false, [], Option, Some, None, refl, ap, arith, codes}
use Rattle.sv_lexer.specs.declared.token.Token.{Token}
use Rattle.sv_ast.specs.declared.item.Item.{Item}
use Rattle.sv_ast.specs.declared.item.Item.TheVariants as item
use Rattle.sv_base.specs.Operators as operators
use Rattle.expr_parser.specs.Spelling as spelling
use Rattle.expr_parser.specs.Spelling.{is_this, is_identifier, binds}
use Rattle.expr_parser.specs.Steady.{ends_expression}
use Rattle.expr_parser.specs.Nesting.{greatest_nesting}
use Rattle.expr_parser.specs.Input as parser
use Rattle.expr_parser.specs.Input.{Parser, pure}
use Rattle.expr_parser.specs.Reading.{any}
use Rattle.module_parser.specs.Rule as rule
use Rattle.module_parser.specs.Rule.{Rule, Test, meets, lead, give, expression}
use Rattle.module_parser.specs.Words.{is_keyword, is_keyword_of, is_no_keyword}
use Rattle.module_parser.specs.Grammar as grammar
use Rattle.module_parser.specs.Grammar.{declaring_words, net_words, process_of, no_shape}
use Rattle.module_parser.specs.Reading as reading
use Rattle.module_parser.proofs.Rules.{Family, Stop, Spare}
use Rattle.module_parser.proofs.Spares.{spare_sign, spare_word, spare_number, anything, but, also, closes, otherwise, not_of, left_of, right_of}
use Rattle.module_parser.proofs.Expressions.{ends}
use Rattle.module_parser.proofs.Readings.{Reading, reads_weaken, reads_floor, reads_give, reads_then, reads_bind, reads_map, reads_when, reads_many, reads_opened, reads_depths, Lawful, lawful, lawful_weaken, lawful_give, lawful_skip, lawful_then, lawful_bind, lawful_map, lawful_when, lawful_many, lawful_opened, lawful_void, lawful_void_right, spare_when, reads_depth}
use Rattle.module_parser.proofs.Targets.{sign_reads, word_reads, first_then, ended, parenthesised_reads}
use Rattle.module_parser.proofs.Statements.{no_colon, begins, condition, for_word, tested_reads, loop_reads, block_of_reads, block_of_lawful}
use Rattle.module_parser.proofs.Declarations.{a_parameter, parameters_reads, declaration_reads, genvars_reads, assignments_reads}
use Rattle.module_parser.proofs.Processes.{instances_reads, combinational_reads, clocked_reads, always_reads}

abbrev pub no_endgenerate : Test
no_endgenerate = is_no_keyword (codes "endgenerate")

abbrev pub in_generate : Stop
in_generate = also closes (but no_endgenerate)

abbrev pub generate_word : Test
generate_word = is_keyword (codes "generate")

abbrev pub semicolon : Token
semicolon = spare_sign (codes ";")

abbrev pub genvar_word : Test
genvar_word = is_keyword (codes "genvar")

abbrev pub declares : Test
declares = is_keyword_of declaring_words

module _ (E : (floor : ℕ) → Reading floor ends (Some spare_number) true (λ _. expression) any) where
  generated_reads : {floor : ℕ} {h : Option Token} {us : Family Item} {p : Parser Item} → Reading (floor + 1) closes h true us p
      → Reading floor closes (Some (spare_word (codes "generate"))) true (λ k. grammar.generated (us k)) (reading.generated p)
  unfolding is_this is_keyword is_no_keyword reading.generated
  generated_reads r =
      reads_then (reads_opened {stop = in_generate} generate_word (spare_word (codes "generate")) refl refl
      (λ _. reads_many no_endgenerate (λ _. reads_weaken in_generate (λ v s. left_of (closes v) _ s) r) (λ v s. not_of _ (right_of (closes v) _ s))))
      (λ inner. ended E (word_reads E (codes "endgenerate") refl) (item.Generate inner)) (λ v s. refl)

  generated_lawful : {r s : Rule Item} → Lawful closes true r s → Lawful closes true (grammar.generated r) (grammar.generated s)
  generated_lawful l =
      lawful_then (lawful_opened {stop = in_generate} generate_word (λ _. lawful_many no_endgenerate (λ _. lawful_weaken in_generate (λ v s. left_of (closes v) _ s) l) (λ v s. not_of _ (right_of (closes v) _ s))))
      (λ inner. lawful_bind (lawful_skip {stop = anything} (is_keyword (codes "endgenerate"))) (λ _. lawful_give (item.Generate inner)) (λ v s. refl))

  -- a block stands in the same brackets as the item that it stands for
  block_reads : {floor : ℕ} {us : Family Item} {p : Parser Item} → Reading floor closes (Some semicolon) true us p
      → Reading floor closes (Some semicolon) true (λ k. grammar.generate_block (us k)) (reading.generate_block p)
  unfolding is_keyword reading.generate_block
  block_reads {floor} r =
      reads_when begins (reads_map (λ inner. record { label = inner.0; items = inner.1 }) (reads_weaken closes (λ v s. left_of (no_colon v) _ s) (block_of_reads E (reads_floor (floor + 1) (omega arith) r))))
      (reads_map (λ found. record { label = None; items = found ∷ [] }) r) (λ is. absurd cc) (λ v s. refl)

  block_lawful : {r s : Rule Item} → Lawful closes true r s → Lawful closes true (grammar.generate_block r) (grammar.generate_block s)
  block_lawful l =
      lawful_when begins (lawful_map (λ inner. record { label = inner.0; items = inner.1 }) (lawful_weaken closes (λ v s. left_of (no_colon v) _ s) (block_of_lawful E l)))
      (lawful_map (λ found. record { label = None; items = found ∷ [] }) l) (λ is. absurd cc)

  head_reads : {floor : ℕ} {stop : Stop} (us : Family Item) (p : Parser Item) → Reading floor stop (Some (spare_sign (codes "("))) true (λ k. grammar.parenthesised (grammar.loop_head (us k))) (reading.parenthesised (reading.loop_head p))
  unfolding is_this is_keyword ends_expression binds spelling.precedence operators.binary_of reading.loop_head
  head_reads us p =
      parenthesised_reads E ends refl
      (reads_when genvar_word (first_then E (word_reads E (codes "genvar") refl) (λ _. reads_map (λ head. (true, head)) (loop_reads E))) (reads_map (λ head. (false, head)) (loop_reads E)) (λ is. absurd cc) (λ v s. refl))

  loop_item_reads : {floor : ℕ} {us : Family Item} {p : Parser Item} → Reading (floor + 1) closes (Some semicolon) true us p
      → Reading floor closes (Some (spare_word (codes "for"))) true (λ k. grammar.generate_loop (us k)) (reading.generate_loop p)
  unfolding is_keyword reading.generate_loop
  loop_item_reads {us} {p} r =
      reads_opened {stop = closes} for_word (spare_word (codes "for")) refl refl (λ opens. first_then E (head_reads us p) (λ head. reads_map (item.For opens.place head.0 head.1) (block_reads r)))

  either_of : Rule Item → Rule Item → Family Item
  either_of r s zero = r
  either_of r s (suc n) = s

  loop_item_lawful : (r s : Rule Item) → Lawful closes true r s → Lawful closes true (grammar.generate_loop r) (grammar.generate_loop s)
  loop_item_lawful r s l =
      lawful_opened {stop = closes} for_word
      (λ opens. lawful_then (lawful (head_reads {floor = 0} {stop = anything} (either_of r s) parser.refuse) 0 1) (λ head. lawful_map (item.For opens.place head.0 head.1) (block_lawful l)))

  conditional_reads : {floor : ℕ} {us : Family Item} {p : Parser Item} → Reading (floor + 1) closes (Some semicolon) true us p
      → Reading floor closes (Some (spare_word (codes "if"))) true (λ k. grammar.generate_conditional (us k)) (reading.generate_conditional p)
  unfolding is_keyword reading.generate_conditional
  conditional_reads r =
      reads_bind (reads_opened {stop = closes} condition (spare_word (codes "if")) refl refl (λ opens. first_then E (tested_reads E) (λ test. reads_map (item.If opens.place test) (block_reads r))))
      (λ front. reads_map front
      (reads_when otherwise (reads_map Some (reads_opened {stop = closes} otherwise (spare_word (codes "else")) refl refl (λ _. block_reads r))) (reads_give None)
      (λ _ v s. not_of _ (right_of (no_colon v) _ s)) (λ v s. not_of _ (right_of (no_colon v) _ s)))) (λ v s. s) (λ v s. s)

  conditional_lawful : {r s : Rule Item} → Lawful closes true r s → Lawful closes true (grammar.generate_conditional r) (grammar.generate_conditional s)
  conditional_lawful l =
      lawful_bind (lawful_opened {stop = closes} condition (λ opens. lawful_then (lawful (tested_reads E {floor = 0} {stop = anything}) 0 0) (λ test. lawful_map (item.If opens.place test) (block_lawful l))))
      (λ front. lawful_map front
      (lawful_when otherwise (lawful_map Some (lawful_opened {stop = closes} otherwise (λ _. block_lawful l))) (lawful_give None) (λ _ v s. not_of _ (right_of (no_colon v) _ s)))) (λ v s. s)

  empty_reads : {floor : ℕ} {stop : Stop} → Reading floor stop (Some semicolon) true (λ _. rule.◌>>◌ (grammar.sign (codes ";")) (give item.Empty)) (parser.◌>>◌ (reading.sign (codes ";")) (pure item.Empty))
  unfolding is_this
  empty_reads = ended E (sign_reads E (codes ";") refl) item.Empty

  level_reads : {floor : ℕ} {us : Family Item} {p : Parser Item} → Reading (floor + 1) closes (Some semicolon) true us p
      → Reading floor closes (Some semicolon) true (λ k. grammar.item_level (us k)) (reading.item_level p)
  unfolding is_identifier is_keyword is_keyword_of reading.item_level
  level_reads r =
      reads_when a_parameter (parameters_reads E)
      (reads_when declares (declaration_reads E)
      (reads_when genvar_word (genvars_reads E)
      (reads_when (is_keyword (codes "assign")) (assignments_reads E)
      (reads_when (is_keyword (codes "always_comb")) (combinational_reads E)
      (reads_when (is_keyword (codes "always_ff")) (clocked_reads E)
      (reads_when (is_keyword (codes "always")) (always_reads E)
      (reads_when generate_word (generated_reads r)
      (reads_when for_word (loop_item_reads r)
      (reads_when condition (conditional_reads r)
      (reads_when is_identifier (instances_reads E) empty_reads (λ is. absurd cc) (λ v s. refl)) (λ is. absurd cc) (λ v s. refl)) (λ is. absurd cc) (λ v s. refl)) (λ is. absurd cc) (λ v s. refl)) (λ is. absurd cc) (λ v s. refl)) (λ is. absurd cc) (λ v s. refl)) (λ is. absurd cc) (λ v s. refl)) (λ is. absurd cc) (λ v s. refl)) (λ is. absurd cc) (λ v s. refl)) (λ is. absurd cc) (λ v s. refl)) (λ is. absurd cc) (λ v s. refl)

  level_lawful : (r s : Rule Item) → Lawful closes true r s → Lawful closes true (grammar.item_level r) (grammar.item_level s)
  level_lawful r s l =
      lawful_when a_parameter (lawful (parameters_reads E {floor = 0}) 0 0)
      (lawful_when declares (lawful (declaration_reads E {floor = 0}) 0 0)
      (lawful_when genvar_word (lawful (genvars_reads E {floor = 0}) 0 0)
      (lawful_when (is_keyword (codes "assign")) (lawful (assignments_reads E {floor = 0}) 0 0)
      (lawful_when (is_keyword (codes "always_comb")) (lawful (combinational_reads E {floor = 0}) 0 0)
      (lawful_when (is_keyword (codes "always_ff")) (lawful (clocked_reads E {floor = 0}) 0 0)
      (lawful_when (is_keyword (codes "always")) (lawful (always_reads E {floor = 0}) 0 0)
      (lawful_when generate_word (generated_lawful l)
      (lawful_when for_word (loop_item_lawful r s l)
      (lawful_when condition (conditional_lawful l)
      (lawful_when is_identifier (lawful (instances_reads E {floor = 0}) 0 0) (lawful (empty_reads {floor = 0}) 0 0) (λ is. absurd cc)) (λ is. absurd cc)) (λ is. absurd cc)) (λ is. absurd cc)) (λ is. absurd cc)) (λ is. absurd cc)) (λ is. absurd cc)) (λ is. absurd cc)) (λ is. absurd cc)) (λ is. absurd cc)) (λ is. absurd cc)

  -- ---- items inside one another

  item_diagonal : (k : ℕ) → Lawful closes true (grammar.item_to k) (grammar.item_to k)
  item_diagonal zero = lawful_void (λ a xs n h. h) (λ a xs n h. absurd h)
  item_diagonal (suc k) = level_lawful (grammar.item_to k) (grammar.item_to k) (item_diagonal k)

  item_lawful : (n k : ℕ) → Lawful closes true (grammar.item_to n) (grammar.item_to k)
  item_lawful zero k = lawful_void (λ a xs n h. h) (item_diagonal k).law.clean
  item_lawful (suc n) zero = lawful_void_right (λ a xs n h. h) (item_diagonal (suc n))
  item_lawful (suc n) (suc k) = level_lawful (grammar.item_to n) (grammar.item_to k) (item_lawful n k)

  semicolon_is : (v : Option Token) → lead (empty_reads {floor = 0} {stop = closes}).fact.spare.text v ≡ Some semicolon
  semicolon_is v = (empty_reads {floor = 0} {stop = closes}).heads v

  none_at : (test : Test) → test semicolon ≡ false → (v : Option Token) → closes v ≡ true → meets test (lead (empty_reads {floor = 0} {stop = closes}).fact.spare.text v) ≡ false
  none_at test is v s = ap (meets test) (semicolon_is v) ∙ is

  spare_item : Spare closes (λ k. grammar.item_to (suc k))
  unfolding is_identifier is_keyword is_keyword_of spare_when
  spare_item =
      spare_when a_parameter (spare_when declares (spare_when genvar_word (spare_when (is_keyword (codes "assign")) (spare_when (is_keyword (codes "always_comb"))
      (spare_when (is_keyword (codes "always_ff")) (spare_when (is_keyword (codes "always")) (spare_when generate_word (spare_when for_word (spare_when condition
      (spare_when is_identifier (empty_reads {floor = 0} {stop = closes}).fact.spare
      (none_at is_identifier refl)) (none_at condition refl)) (none_at for_word refl)) (none_at generate_word refl)) (none_at (is_keyword (codes "always")) refl))
      (none_at (is_keyword (codes "always_ff")) refl)) (none_at (is_keyword (codes "always_comb")) refl)) (none_at (is_keyword (codes "assign")) refl)) (none_at genvar_word refl)) (none_at declares refl)) (none_at a_parameter refl)

  item_at_reads : (floor n : ℕ) → greatest_nesting + 1 ≤ floor + n → Reading floor closes (Some semicolon) true grammar.item_to (reading.item_to n)
  unfolding spare_when spare_item reading.item_to
  item_at_reads = reads_depth grammar.item_to reading.item_to (λ a xs n h. h) item_lawful spare_item semicolon_is (λ floor n r. level_reads r)

  pub item_reads : {floor : ℕ} → Reading floor closes (Some semicolon) true (λ _. grammar.item_of) reading.item_of
  unfolding reading.item_of
  item_reads {floor} = reads_depths (item_at_reads floor (greatest_nesting + 1) (omega arith))
