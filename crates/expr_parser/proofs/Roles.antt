-- What tokens of the grammar are to the machine.
use Rattle.std.proofs.Common.{◌≡◌, ◌∙◌, inl, inr, ℕ, ◌+◌, ◌<◌, ◌≤◌, Bool, true, false, ◌&&◌, List, Option, None, Some, refl, sym, arith, codes, if◌then◌else◌}
use Rattle.std.proofs.lemmas.Bool.{false_from_ne_true, cases_lt}
use Rattle.std.specs.Str.{bytes_eq}
use Rattle.std.proofs.lemmas.Slice.Eq.{bytes_eq-Decides}
use Rattle.sv_base.specs.declared.operator.Binary.{Binary}
use Rattle.sv_base.specs.declared.operator.Level.{Level}
use Rattle.sv_base.specs.declared.operator.Level.TheVariants.{LogicalOr}
use Rattle.sv_base.specs.declared.operator.Grouping.{Grouping}
use Rattle.sv_base.specs.declared.operator.Grouping.TheVariants.{ToTheLeft, ToTheRight}
use Rattle.sv_base.specs.declared.operator.TheConstants.{TIGHTEST}
use Rattle.sv_base.specs.Operators.{unary_of, binary_of, level_of, tightness, grouping_of}
use Rattle.sv_base.specs.declared.refusal.Place.{Place}
use Rattle.sv_lexer.specs.declared.token.TokenKind.{TokenKind}
use Rattle.sv_lexer.specs.declared.token.TokenKind.TheVariants as kind
use Rattle.sv_lexer.specs.declared.token.Token.{Token}
use Rattle.expr_parser.specs.Spelling.{is_identifier, is_function, is_unary, is_this, is_sign, tightness_of, grouping_by, precedence, binds, grouping, least_left, least_right, left_least, right_least}
use Rattle.expr_parser.proofs.Machine.{a_sign, a_number, a_fill, a_name, a_function, a_group, a_brace, start_of, start_by}

pub both : (a b : Bool) → (a && b) ≡ true → (a ≡ true) × (b ≡ true)
both true b h = (refl, h)
both false b h = absurd cc

pub same_text : (text : List ℕ) (t : Token) → is_this text t ≡ true → (is_sign t.kind ≡ true) × (t.text ≡ text)
unfolding is_this
same_text text t h = let b = both _ _ h in (b.0, (bytes_eq-Decides t.text text).0 b.1)

-- a sign is no other
pub not_this : (text other : List ℕ) (t : Token) → is_this text t ≡ true → bytes_eq text other ≡ false → is_this other t ≡ false
unfolding is_this
not_this text other t h differ = let b = same_text text t h in rw (b.0, b.1) differ

-- a sign that binds so between operands
pub binds-this : (text : List ℕ) (t : Token) → is_this text t ≡ true → binds t ≡ precedence text
unfolding binds
binds-this text t h = let b = same_text text t h in rw (b.0, b.1) refl

-- a text that stands between operands is no other sign
pub binds-not_this : (other : List ℕ) (t : Token) → 0 < binds t → precedence other ≡ 0 → is_this other t ≡ false
binds-not_this other t some none =
    false_from_ne_true (is_this other t) (λ same. let zero_there : binds t ≡ 0 = binds-this other t same ∙ none in omega arith)

-- ---- where an operand is wanted

start_of-name_by : (k : TokenKind) (text : List ℕ) (place : Place)
    → is_identifier (record { kind = k; text = text; place = place }) ≡ true → start_of (record { kind = k; text = text; place = place }) ≡ a_name
unfolding is_identifier start_of
start_of-name_by kind.Word text place h = rw h refl
start_of-name_by kind.System text place h = absurd cc
start_of-name_by kind.Number text place h = absurd cc
start_of-name_by kind.Fill text place h = absurd cc
start_of-name_by kind.Sign text place h = absurd cc
start_of-name_by kind.Mark text place h = absurd cc

pub start_of-name : (t : Token) → is_identifier t ≡ true → start_of t ≡ a_name
start_of-name t h = start_of-name_by t.kind t.text t.place h

start_of-function_by : (k : TokenKind) (text : List ℕ) (place : Place)
    → is_function (record { kind = k; text = text; place = place }) ≡ true → start_of (record { kind = k; text = text; place = place }) ≡ a_function
unfolding is_function start_of
start_of-function_by kind.System text place h = rw h refl
start_of-function_by kind.Word text place h = absurd cc
start_of-function_by kind.Number text place h = absurd cc
start_of-function_by kind.Fill text place h = absurd cc
start_of-function_by kind.Sign text place h = absurd cc
start_of-function_by kind.Mark text place h = absurd cc

pub start_of-function : (t : Token) → is_function t ≡ true → start_of t ≡ a_function
start_of-function t h = start_of-function_by t.kind t.text t.place h

start_of-sign_by : (k : TokenKind) (text : List ℕ) (place : Place)
    → is_unary (record { kind = k; text = text; place = place }) ≡ true → start_of (record { kind = k; text = text; place = place }) ≡ a_sign
unfolding is_unary start_of
start_of-sign_by kind.Sign text place h = rw h refl
start_of-sign_by kind.System text place h = absurd cc
start_of-sign_by kind.Word text place h = absurd cc
start_of-sign_by kind.Number text place h = absurd cc
start_of-sign_by kind.Fill text place h = absurd cc
start_of-sign_by kind.Mark text place h = absurd cc

pub start_of-sign : (t : Token) → is_unary t ≡ true → start_of t ≡ a_sign
start_of-sign t h = start_of-sign_by t.kind t.text t.place h

pub start_of-number : (t : Token) → t.kind ≡ kind.Number → start_of t ≡ a_number
unfolding start_of
start_of-number t h = rw h refl

pub start_of-fill : (t : Token) → t.kind ≡ kind.Fill → start_of t ≡ a_fill
unfolding start_of
start_of-fill t h = rw h refl

kind_of_sign_by : (k : TokenKind) → is_sign k ≡ true → k ≡ kind.Sign
kind_of_sign_by kind.Sign h = refl
kind_of_sign_by kind.System h = absurd cc
kind_of_sign_by kind.Word h = absurd cc
kind_of_sign_by kind.Number h = absurd cc
kind_of_sign_by kind.Fill h = absurd cc
kind_of_sign_by kind.Mark h = absurd cc

pub start_of-group : (t : Token) → is_this (codes "(") t ≡ true → start_of t ≡ a_group
unfolding start_of is_unary is_this unary_of
start_of-group t h = let b = same_text (codes "(") t h in let k = kind_of_sign_by t.kind b.0 in rw (k, b.1) refl

pub start_of-brace : (t : Token) → is_this (codes "{") t ≡ true → start_of t ≡ a_brace
unfolding start_of is_unary is_this unary_of
start_of-brace t h = let b = same_text (codes "{") t h in let k = kind_of_sign_by t.kind b.0 in rw (k, b.1) refl

-- ---- how tightly signs bind

level-small : (l : Level) → tightness l ≤ TIGHTEST
level-small LogicalOr = omega arith
level-small _ = omega arith

operator-small : (o : Option Binary) → tightness_of o ≤ TIGHTEST
operator-small None = omega arith
operator-small (Some operator) = level-small (level_of operator)

choice-small : (b : Bool) (n : ℕ) → n ≤ TIGHTEST → (if b then n else 0) ≤ TIGHTEST
choice-small true n h = h
choice-small false n h = omega arith

pub binds-small : (t : Token) → binds t ≤ TIGHTEST
unfolding binds precedence
binds-small t = choice-small (is_sign t.kind) _ (operator-small (binary_of t.text))

pub select-none : precedence (codes "[") ≡ 0
unfolding precedence binary_of
select-none = refl

pub question-none : precedence (codes "?") ≡ 0
unfolding precedence binary_of
question-none = refl

-- ---- how tightly operands hold together

least_left-over : (g : Grouping) (n : ℕ) → n ≤ least_left g n
least_left-over ToTheLeft n = omega arith
least_left-over ToTheRight n = omega arith

least_left-under : (g : Grouping) (n : ℕ) → least_left g n ≤ n + 1
least_left-under ToTheLeft n = omega arith
least_left-under ToTheRight n = omega arith

least_right-over : (g : Grouping) (n : ℕ) → n ≤ least_right g n
least_right-over ToTheLeft n = omega arith
least_right-over ToTheRight n = omega arith

least_right-under : (g : Grouping) (n : ℕ) → least_right g n ≤ n + 1
least_right-under ToTheLeft n = omega arith
least_right-under ToTheRight n = omega arith

pub left_least-over : (t : Token) → binds t ≤ left_least t
unfolding left_least
left_least-over t = least_left-over (grouping t) (binds t)

pub left_least-small : (t : Token) → left_least t ≤ TIGHTEST + 1
unfolding left_least
left_least-small t = omega (arith, least_left-under (grouping t) (binds t), binds-small t)

pub right_least-over : (t : Token) → binds t ≤ right_least t
unfolding right_least
right_least-over t = least_right-over (grouping t) (binds t)

pub right_least-small : (t : Token) → right_least t ≤ TIGHTEST + 1
unfolding right_least
right_least-small t = omega (arith, least_right-under (grouping t) (binds t), binds-small t)

-- ---- two operators beside each other

level-some : (l : Level) → 1 ≤ tightness l
level-some LogicalOr = omega arith
level-some _ = omega arith

-- levels that bind the same are one
level-grouping : (a b : Level) → tightness a ≡ tightness b → grouping_of a ≡ grouping_of b
level-grouping LogicalOr LogicalOr same = refl
level-grouping _ _ same = first_of (cc, grind (arith, same))

operator-grouping : (a b : Option Binary) → tightness_of a ≡ tightness_of b → grouping_by a ≡ grouping_by b
operator-grouping None None same = refl
operator-grouping None (Some b) same = absurd (omega (arith, level-some (level_of b), same))
operator-grouping (Some a) None same = absurd (omega (arith, level-some (level_of a), same))
operator-grouping (Some a) (Some b) same = level-grouping (level_of a) (level_of b) same

choice-grouping : (c d : Bool) (a b : Option Binary) → (if c then tightness_of a else 0) ≡ (if d then tightness_of b else 0)
    → (if c then grouping_by a else ToTheLeft) ≡ (if d then grouping_by b else ToTheLeft)
choice-grouping true true a b same = operator-grouping a b same
choice-grouping true false a b same = operator-grouping a None same
choice-grouping false true a b same = operator-grouping None b same
choice-grouping false false a b same = refl

-- tokens that bind the same are grouped the same
same_grouping : (s t : Token) → binds s ≡ binds t → grouping s ≡ grouping t
unfolding binds precedence grouping
same_grouping s t same = choice-grouping (is_sign s.kind) (is_sign t.kind) (binary_of s.text) (binary_of t.text) same

apart : ToTheLeft ≡ ToTheRight → ⊥
apart h = cc

left_by : (g h : Grouping) (n m : ℕ) → (n ≡ m → g ≡ h) → m < least_right g n → least_left h m ≤ n
left_by ToTheLeft ToTheLeft n m same less = omega arith
left_by ToTheLeft ToTheRight n m same less =
    elim (cases_lt m n) [
      | inl low ↦ omega arith
      | inr high ↦ absurd (apart (same (omega arith)))
    ]
left_by ToTheRight ToTheLeft n m same less = omega arith
left_by ToTheRight ToTheRight n m same less = omega arith

right_by : (g h : Grouping) (n m : ℕ) → (n ≡ m → g ≡ h) → least_right g n ≤ m → n < least_left h m
right_by ToTheLeft ToTheLeft n m same more = omega arith
right_by ToTheLeft ToTheRight n m same more = omega arith
right_by ToTheRight ToTheLeft n m same more =
    elim (cases_lt n m) [
      | inl low ↦ omega arith
      | inr high ↦ absurd (apart (sym (same (omega arith))))
    ]
right_by ToTheRight ToTheRight n m same more = omega arith

-- an operator that is too loose for the right operand of one before it has that whole operation on its left
pub left_first : (s t : Token) → binds t < right_least s → left_least t ≤ binds s
unfolding left_least right_least
left_first s t less = left_by (grouping s) (grouping t) (binds s) (binds t) (same_grouping s t) less

-- an operator that is tight enough for it has the right operand alone on its left
pub right_first : (s t : Token) → right_least s ≤ binds t → binds s < left_least t
unfolding left_least right_least
right_first s t more = right_by (grouping s) (grouping t) (binds s) (binds t) (same_grouping s t) more

pub start_is : (t : Token) → start_of t ≡ start_by t.kind t
unfolding start_of
start_is t = refl
