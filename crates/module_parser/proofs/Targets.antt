-- Small parts, selects and targets: what is read of them is what their rules say.
use Rattle.std.proofs.Common.{◌≡◌, ◌∙◌, ◌∷◌, ◌+◌, ◌≤◌, ℕ, suc, zero, Bool, true, false, List, [], Option, Some, None, refl, ap, arith, codes}
use Rattle.sv_lexer.specs.declared.token.Token.{Token}
use Rattle.sv_ast.specs.declared.expression.Id.{Id}
use Rattle.sv_ast.specs.declared.expression.Sel.{Sel}
use Rattle.sv_ast.specs.declared.expression.Sel.TheVariants as sel
use Rattle.sv_ast.specs.declared.expression.Expr.{Expr}
use Rattle.sv_ast.specs.declared.expression.Lval.{Lval}
use Rattle.sv_ast.specs.declared.expression.Lval.TheVariants as lval
use Rattle.sv_base.specs.Operators as operators
use Rattle.expr_parser.specs.Spelling as spelling
use Rattle.expr_parser.specs.Spelling.{is_this, is_identifier, binds}
use Rattle.expr_parser.specs.Steady.{ends_expression}
use Rattle.module_parser.specs.Words.{is_keyword}
use Rattle.expr_parser.specs.Nesting.{greatest_nesting}
use Rattle.expr_parser.specs.Input as parser
use Rattle.expr_parser.specs.Input.{Parser, pure}
use Rattle.expr_parser.specs.Reading.{any}
use Rattle.module_parser.specs.Rule as rule
use Rattle.module_parser.specs.Rule.{Rule, Test, meets, give, expression}
use Rattle.module_parser.specs.Grammar as grammar
use Rattle.module_parser.specs.Reading as reading
use Rattle.module_parser.proofs.Rules.{Family, Stop, Spare}
use Rattle.module_parser.proofs.Spares.{comma, no_select, spare_sign, spare_word, spare_number, spare_name, spare_is_name, anything, but, also, not_of, left_of, right_of}
use Rattle.module_parser.proofs.Expressions.{ends}
use Rattle.module_parser.proofs.Readings.{or_next, Reading, reads_weaken, reads_give, reads_one, reads_skip, reads_then, reads_bind, reads_map, reads_when, reads_many, reads_opened, reads_depths, Lawful, lawful, lawful_weaken, lawful_give, lawful_skip, lawful_then, lawful_bind, lawful_map, lawful_when, lawful_many, lawful_opened, lawful_void, lawful_void_right, spare_when, reads_depth}

abbrev pub in_select : Stop
in_select = also ends (also (but (is_this (codes ":"))) (also (but (is_this (codes "+:"))) (but (is_this (codes "-:")))))

abbrev pub brace : Test
brace = is_this (codes "{")

abbrev pub in_list : Stop
in_list = also no_select (but comma)

module _ (E : (floor : ℕ) → Reading floor ends (Some spare_number) true (λ _. expression) any) where
  pub sign_reads : {floor : ℕ} (text : List ℕ) → is_this text (spare_sign text) ≡ true → Reading floor anything (Some (spare_sign text)) true (λ _. grammar.sign text) (reading.sign text)
  sign_reads text is = reads_skip (is_this text) (spare_sign text) refl is

  pub word_reads : {floor : ℕ} (text : List ℕ) → is_keyword text (spare_word text) ≡ true → Reading floor anything (Some (spare_word text)) true (λ _. grammar.word text) (reading.word text)
  word_reads text is = reads_skip (is_keyword text) (spare_word text) refl is

  pub identifier_reads : {floor : ℕ} → Reading floor anything (Some spare_name) true (λ _. grammar.identifier) reading.identifier
  identifier_reads = reads_one is_identifier spare_name refl spare_is_name

  pub expression_reads : {floor : ℕ} (stop : Stop) → ((v : Option Token) → stop v ≡ true → ends v ≡ true) → Reading floor stop (Some spare_number) true (λ _. expression) any
  expression_reads {floor} stop w = reads_weaken stop w (E floor)

  -- a first part that anything may stand behind
  pub first_then : {A B : Type 0} {floor : ℕ} {stop : Stop} {h g : Option Token} {e : Bool} {us : Family A} {p : Parser A} {fs : A → Family B} {f : A → Parser B}
      → Reading floor anything h e us p → ((x : A) → Reading floor stop g true (fs x) (f x))
      → Reading floor stop (or_next h g) true (λ k. rule.◌>>=◌ (us k) (λ x. fs x k)) (parser.◌>>=◌ p f)
  first_then a b = reads_then a b (λ v s. refl)

  -- a last part that leaves the tree as it is
  pub ended : {A : Type 0} {floor : ℕ} {stop : Stop} {h : Option Token} {us : Family (Unit {0})} {p : Parser (Unit {0})} → Reading floor anything h true us p → (x : A)
      → Reading floor stop (or_next h None) true (λ k. rule.◌>>=◌ (us k) (λ _. give x)) (parser.◌>>=◌ p (λ _. pure x))
  ended r x = reads_bind r (λ _. reads_give x) (λ v s. refl) (λ v s. refl)

  pub listed_reads : {A : Type 0} {floor : ℕ} {t : Token} {us : Family A} {p : Parser A} (stop : Stop) → ((v : Option Token) → stop v ≡ true → meets comma v ≡ false)
      → Reading floor stop (Some t) true us p → Reading floor stop (Some t) true (λ k. grammar.listed (us k)) (reading.listed p)
  unfolding is_this
  listed_reads stop stops r =
      reads_bind r
      (λ first. reads_map (λ rest. first ∷ rest) (reads_many comma (λ found. first_then (sign_reads (codes ",") refl) (λ _. r)) stops))
      (λ v s. s) (λ v s. s)

  pub parenthesised_reads : {A : Type 0} {floor : ℕ} {stop : Stop} {h : Option Token} {e : Bool} {us : Family A} {p : Parser A} (inside : Stop) → inside (Some (spare_sign (codes ")"))) ≡ true
      → Reading (floor + 1) inside h e us p → Reading floor stop (Some (spare_sign (codes "("))) true (λ k. grammar.parenthesised (us k)) (reading.parenthesised p)
  unfolding is_this
  parenthesised_reads inside closing r =
      reads_then (reads_opened (is_this (codes "(")) (spare_sign (codes "(")) refl refl (λ _. r)) (λ x. ended (sign_reads (codes ")") refl) x) (λ v s. closing)

  -- ---- selects

  part_reads : {floor : ℕ} (text : List ℕ) → is_this text (spare_sign text) ≡ true → (f : Expr → Sel)
      → Reading floor in_select (Some (spare_sign text)) true (λ _. rule.◌>>◌ (grammar.sign text) (rule.◌<$>◌ f expression)) (parser.◌>>◌ (reading.sign text) (parser.◌<$>◌ f any))
  part_reads text is f = first_then (sign_reads text is) (λ _. reads_map f (expression_reads in_select (λ v s. left_of (ends v) _ s)))

  first_stops : (v : Option Token) → in_select v ≡ true → meets (is_this (codes ":")) v ≡ false
  first_stops v s = not_of _ (left_of _ _ (right_of (ends v) _ s))

  second_stops : (v : Option Token) → in_select v ≡ true → meets (is_this (codes "+:")) v ≡ false
  second_stops v s = not_of _ (left_of _ _ (right_of (but (is_this (codes ":")) v) _ (right_of (ends v) _ s)))

  third_stops : (v : Option Token) → in_select v ≡ true → meets (is_this (codes "-:")) v ≡ false
  third_stops v s = not_of _ (right_of (but (is_this (codes "+:")) v) _ (right_of (but (is_this (codes ":")) v) _ (right_of (ends v) _ s)))

  select_from_reads : {floor : ℕ} (opens : Id) (first : Expr) → Reading floor in_select None false (λ _. grammar.select_from opens first) (reading.select_from opens first)
  unfolding is_this
  select_from_reads opens first =
      reads_when (is_this (codes ":")) (part_reads (codes ":") refl (sel.Part opens.place first))
      (reads_when (is_this (codes "+:")) (part_reads (codes "+:") refl (sel.Up opens.place first))
      (reads_when (is_this (codes "-:")) (part_reads (codes "-:") refl (sel.Down opens.place first))
      (reads_give (sel.Bit opens.place first)) (λ _. third_stops) third_stops) (λ _. second_stops) second_stops) (λ _. first_stops) first_stops

  select_reads : {floor : ℕ} → Reading floor anything (Some (spare_sign (codes "["))) true (λ _. grammar.select) reading.select
  unfolding is_this ends_expression binds reading.select spelling.precedence operators.binary_of
  select_reads =
      reads_then (reads_opened {stop = in_select} (is_this (codes "[")) (spare_sign (codes "[")) refl refl
      (λ opens. reads_bind (expression_reads in_select (λ v s. left_of (ends v) _ s)) (select_from_reads opens) (λ v s. s) (λ v s. s)))
      (λ x. ended (sign_reads (codes "]") refl) x) (λ v s. refl)

  selects_reads : {floor : ℕ} → Reading floor no_select None false (λ _. grammar.selects) reading.selects
  unfolding reading.selects
  selects_reads =
      reads_when (is_this (codes "[")) (reads_weaken no_select (λ v s. refl) (reads_map (λ found. found ∷ []) select_reads)) (reads_give []) (λ _ v s. not_of _ s) (λ v s. not_of _ s)

  named_target_reads : {floor : ℕ} → Reading floor no_select (Some spare_name) true (λ _. grammar.named_target) reading.named_target
  unfolding reading.named_target
  named_target_reads = reads_bind identifier_reads (λ x. reads_map (lval.Of x) selects_reads) (λ v s. refl) (λ v s. refl)

  -- ---- targets

  target_list_reads : {floor : ℕ} {us : Family Lval} {p : Parser Lval} → Reading (floor + 1) no_select (Some spare_name) true us p
      → Reading floor no_select (Some (spare_sign (codes "{"))) true (λ k. grammar.target_list (us k)) (reading.target_list p)
  unfolding is_this reading.target_list
  target_list_reads r =
      reads_then (reads_opened {stop = in_list} brace (spare_sign (codes "{")) refl refl
      (λ opens. reads_map (lval.List opens.place) (listed_reads in_list (λ v s. not_of _ (right_of (no_select v) _ s)) (reads_weaken in_list (λ v s. left_of (no_select v) _ s) r))))
      (λ x. ended (sign_reads (codes "}") refl) x) (λ v s. refl)

  target_level_reads : {floor : ℕ} {us : Family Lval} {p : Parser Lval} → Reading (floor + 1) no_select (Some spare_name) true us p
      → Reading floor no_select (Some spare_name) true (λ k. grammar.target_level (us k)) (reading.target_level p)
  unfolding is_this reading.target_level
  target_level_reads r = reads_when brace (target_list_reads r) named_target_reads (λ is. absurd cc) (λ v s. refl)

  target_level_lawful : (r s : Rule Lval) → Lawful no_select true r s → Lawful no_select true (grammar.target_level r) (grammar.target_level s)
  target_level_lawful r s l = lawful_when brace
      (lawful_then (lawful_opened {stop = in_list} brace
      (λ opens. lawful_map (lval.List opens.place) (lawful_bind (lawful_weaken in_list (λ v s. left_of (no_select v) _ s) l)
      (λ first. lawful_map (λ rest. first ∷ rest) (lawful_many comma (λ found. lawful_then (lawful_skip {stop = anything} comma) (λ _. lawful_weaken in_list (λ v s. left_of (no_select v) _ s) l)) (λ v s. not_of _ (right_of (no_select v) _ s)))) (λ v s. s))))
      (λ x. lawful_bind (lawful_skip {stop = anything} (is_this (codes "}"))) (λ _. lawful_give x) (λ v s. refl)))
      (lawful (named_target_reads {floor = 0}) 0 0) (λ is. absurd cc)

  target_diagonal : (k : ℕ) → Lawful no_select true (grammar.target_to k) (grammar.target_to k)
  target_diagonal zero = lawful_void (λ a xs n h. h) (λ a xs n h. absurd h)
  target_diagonal (suc k) = target_level_lawful (grammar.target_to k) (grammar.target_to k) (target_diagonal k)

  target_lawful : (n k : ℕ) → Lawful no_select true (grammar.target_to n) (grammar.target_to k)
  target_lawful zero k = lawful_void (λ a xs n h. h) (target_diagonal k).law.clean
  target_lawful (suc n) zero = lawful_void_right (λ a xs n h. h) (target_diagonal (suc n))
  target_lawful (suc n) (suc k) = target_level_lawful (grammar.target_to n) (grammar.target_to k) (target_lawful n k)

  -- what a target that is a name alone reads, at every depth but the first
  no_brace : meets brace (Some spare_name) ≡ false
  unfolding is_this
  no_brace = refl

  spare_target : Spare no_select (λ k. grammar.target_to (suc k))
  spare_target = spare_when brace (named_target_reads {floor = 0}).fact.spare (λ v s. ap (meets brace) ((named_target_reads {floor = 0}).heads v) ∙ no_brace)

  target_at_reads : (floor n : ℕ) → greatest_nesting + 1 ≤ floor + n → Reading floor no_select (Some spare_name) true grammar.target_to (reading.target_to n)
  unfolding spare_when spare_target reading.target_to
  target_at_reads =
      reads_depth grammar.target_to reading.target_to (λ a xs n h. h) target_lawful spare_target (named_target_reads {floor = 0}).heads (λ floor n r. target_level_reads r)

  pub target_reads : {floor : ℕ} → Reading floor no_select (Some spare_name) true (λ _. grammar.target) reading.target
  unfolding reading.target
  target_reads {floor} = reads_depths (target_at_reads floor (greatest_nesting + 1) (omega arith))
