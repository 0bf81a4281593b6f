-- What reading gives for expressions, from what it gives for operands without signs.
use Rattle.std.proofs.Common.{◌≡◌, ◌∙◌, ℕ, zero, suc, ◌+◌, ◌≤◌, ◌==◌, Bool, true, false, List, [], Option, Some, None, Ok, refl, sym, ap, subst, arith, codes, append-nil, if◌then◌else◌}
use Rattle.std.proofs.lemmas.Bool.{eqb-true, eqb-false}
use Rattle.sv_lexer.specs.declared.token.Token.{Token}
use Rattle.sv_ast.specs.declared.expression.Expr.{Expr}
use Rattle.expr_parser.specs.Spelling.{is_unary}
use Rattle.expr_parser.specs.Grammar.{tokens_of, signed_strength}
use Rattle.expr_parser.specs.Nesting.{nesting, greatest_nesting}
use Rattle.expr_parser.specs.Input.{Input, Parser, past_marks, front_of, next, ahead, sees}
use Rattle.expr_parser.specs.Reading.{prefixed, chosen, level, operand, operations, primary, expr, whole, is_unary_next}
use Rattle.expr_parser.proofs.Machine.{Frame}
use Rattle.expr_parser.proofs.Took.{Took-none}
use Rattle.expr_parser.proofs.Spot.{Judged, judged_then, Spot}
use Rattle.expr_parser.proofs.Part.{Next, Good, spot-small, sees-yes, sees-no}
use Rattle.expr_parser.proofs.Inners.{nesting-zero}
use Rattle.expr_parser.proofs.Operators.{IsReader, IsOperand, IsClimbed, judged_prefixed, judged_operations, judged_chosen}

-- no sign that may stand before an operand comes next
abbrev pub NoSign : Input → Type 0
NoSign i = (t : Token) → Next i.rest t → is_unary t ≡ false

-- what is asked of operands without signs
abbrev pub PrimaryIs : Input → Type 0
PrimaryIs top = (expr : ℕ → Parser Expr) (depth : ℕ) → IsReader top expr depth → (least : ℕ) → least ≤ signed_strength → (i : Input) (fs : List Frame) → Spot top least i fs
    → greatest_nesting + 1 ≤ i.nested + suc depth → NoSign i → Judged top (IsOperand fs i) (primary expr i)

level_end : (top : Input) (expr : ℕ → Parser Expr) (depth : ℕ) → IsReader top expr depth → (least : ℕ) (i : Input) (fs : List Frame) → Spot top least i fs
    → greatest_nesting + 1 ≤ i.nested + suc depth → (tree : Expr) (j : Input) → IsClimbed least fs i tree j → (c : Bool) → (least == 0) ≡ c
    → (d : Bool) → sees (codes "?") j ≡ d
    → Judged top (Good least fs i) (if c then (if d then chosen expr tree j else Ok (tree, j)) else Ok (tree, j))
level_end top expr depth reader least i fs s enough tree j climbed true is true sees_it =
    let none : least ≡ 0 = eqb-true least 0 is in
    let found = sees-yes (codes "?") j sees_it in
    let P : ℕ → Type 0 = λ l. Spot top l i fs → Judged top (Good l fs i) (chosen expr tree j) in
    subst P (sym none) (λ s0. judged_chosen top expr depth reader i fs s0 enough tree j climbed.tighter.part climbed.tighter.some found.0 found.1.0 found.1.1) s
level_end top expr depth reader least i fs s enough tree j climbed true is false sees_it =
    record { part = climbed.tighter.part; fits = climbed.tighter.fits; stops = climbed.stops; no_question = λ none t is_next. sees-no (codes "?") j sees_it t is_next }
level_end top expr depth reader least i fs s enough tree j climbed false is d sees_it =
    record { part = climbed.tighter.part; fits = climbed.tighter.fits; stops = climbed.stops; no_question = λ none t is_next. absurd (eqb-false least 0 is none) }

signed_by : (o : Option Token) (t : Token) (c : Bool) → is_unary_next o ≡ c → o ≡ Some t → is_unary t ≡ c
signed_by None t c h is = absurd cc
signed_by (Some u) t c h is = let same : u ≡ t = cc in ap is_unary (sym same) ∙ h

sign_there : (o : Option Token) → is_unary_next o ≡ true → (t : Token) × (o ≡ Some t)
sign_there None h = absurd cc
sign_there (Some t) h = (t, refl)

operand_by : (top : Input) → PrimaryIs top → (expr : ℕ → Parser Expr) (depth : ℕ) → IsReader top expr depth → (least : ℕ) → least ≤ signed_strength → (i : Input) (fs : List Frame)
    → Spot top least i fs → greatest_nesting + 1 ≤ i.nested + suc depth → (c : Bool) → is_unary_next (front_of (past_marks i.rest)) ≡ c
    → Judged top (IsOperand fs i) (if c then prefixed expr i else primary expr i)
operand_by top primary_is expr depth reader least small i fs s enough true h =
    let found = sign_there (front_of (past_marks i.rest)) h in
    judged_prefixed top expr depth reader least small i fs s enough found.0 found.1 (signed_by (front_of (past_marks i.rest)) found.0 true h found.1)
operand_by top primary_is expr depth reader least small i fs s enough false h =
    primary_is expr depth reader least small i fs s enough (λ t is_next. signed_by (front_of (past_marks i.rest)) t false h is_next)

judged_operand : (top : Input) → PrimaryIs top → (expr : ℕ → Parser Expr) (depth : ℕ) → IsReader top expr depth → (least : ℕ) → least ≤ signed_strength → (i : Input) (fs : List Frame)
    → Spot top least i fs → greatest_nesting + 1 ≤ i.nested + suc depth → Judged top (IsOperand fs i) (operand expr i)
unfolding operand next ahead
judged_operand top primary_is expr depth reader least small i fs s enough = operand_by top primary_is expr depth reader least small i fs s enough _ refl

judged_level : (top : Input) → PrimaryIs top → (expr : ℕ → Parser Expr) (depth : ℕ) → IsReader top expr depth → (least : ℕ) → least ≤ signed_strength → (i : Input) (fs : List Frame)
    → Spot top least i fs → greatest_nesting + 1 ≤ i.nested + suc depth → Judged top (Good least fs i) (level expr least i)
unfolding level
judged_level top primary_is expr depth reader least small i fs s enough =
    judged_then top (IsOperand fs i) (Good least fs i) (operand expr i) _ (judged_operand top primary_is expr depth reader least small i fs s enough)
    (λ x j o.
    judged_then top (IsClimbed least fs i) (Good least fs i) (operations expr least x j) _
    (judged_operations top expr depth reader least small i fs s enough x j
    (record { part = o.part; fits = let strong = o.strong in omega (arith, strong); some = let strong = o.strong in omega (arith, strong) }))
    (λ y k climbed. level_end top expr depth reader least i fs s enough y k climbed _ refl _ refl))

judged_expr : (top : Input) → PrimaryIs top → (depth : ℕ) → IsReader top (expr depth) depth
unfolding expr
judged_expr top primary_is zero least small i fs s enough = absurd (let fine = spot-small top least i fs s in omega (arith, fine))
judged_expr top primary_is (suc depth) least small i fs s enough =
    judged_level top primary_is (expr depth) depth (judged_expr top primary_is depth) least small i fs s enough

-- a whole expression was read, and its operators no longer count
pub record IsWhole (fs : List Frame) (i : Input) (tree : Expr) (k : Input) : Type 0 where
  pub there : Input
  pub good : Good 0 fs i tree there
  pub is : k ≡ record there { nested = i.nested }

pub judged_whole : (top : Input) (expr : ℕ → Parser Expr) (depth : ℕ) → IsReader top expr depth → (i : Input) (fs : List Frame) → Spot top 0 i fs
    → greatest_nesting + 1 ≤ i.nested + depth → Judged top (IsWhole fs i) (whole expr i)
unfolding whole
judged_whole top expr depth reader i fs s enough =
    judged_then top (Good 0 fs i) (IsWhole fs i) (expr 0 i) _ (reader 0 (omega arith) i fs s enough)
    (λ x j g. record { there = j; good = g; is = refl })

-- the place of the whole text
pub top_spot : (top : Input) → top.nested ≤ greatest_nesting → Spot top 0 top []
top_spot top fine = record {
  before = [];
  after_it = [];
  wrap = λ q. q;
  tokens = λ q. sym (append-nil (tokens_of q));
  grammar = λ q h f. h;
  nest = λ q m le. let none : 0 + m ≡ m = omega arith in ap (λ x. top.nested + nesting q x) none;
  shallow = λ q k le. let none : k ≡ 0 = omega arith in let P : ℕ → Type 0 = λ x. top.nested + nesting q x ≤ greatest_nesting in
      subst P (sym none) (let here = nesting-zero q in omega (arith, here));
  took = Took-none top.rest;
  last_is = refl;
  state = refl;
  holds = λ q f. tt;
}

pub judged_any : (top : Input) → PrimaryIs top → top.nested ≤ greatest_nesting → Judged top (IsWhole [] top) (whole (expr (greatest_nesting + 1)) top)
judged_any top primary_is fine = judged_whole top (expr (greatest_nesting + 1)) (greatest_nesting + 1) (judged_expr top primary_is (greatest_nesting + 1)) top [] (top_spot top fine) (omega arith)
