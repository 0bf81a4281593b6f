-- What an expression means where names mean something, or its first refusal.
use Rattle.std.specs.Prelude.{ℕ, ◌*◌, ◌==◌, Bool, true, false, not, ◌&&◌, nat_lt, ℤ, pos, ◌+ℤ◌, ◌-ℤ◌, int_lt, unsigned_abs, if◌then◌else◌, List, [], ◌∷◌, map, Option, None, Some, Result, Ok, Err, codes}
use Rattle.bit_ops.specs.declared.value.TheConstants.{MAX_WIDTH}
use Rattle.sv_base.specs.declared.kind.Kind.{Kind}
use Rattle.sv_base.specs.declared.kind.Kind.TheVariants as kind
use Rattle.sv_base.specs.declared.refusal.Place.{Place}
use Rattle.sv_base.specs.declared.refusal.Refusal.{Refusal}
use Rattle.sv_base.specs.declared.operator.Binary.{Binary}
use Rattle.sv_base.specs.declared.operator.Binary.TheVariants as operator
use Rattle.sv_base.specs.declared.operator.Function.{Function}
use Rattle.sv_base.specs.declared.operator.Function.TheVariants as function
use Rattle.sv_base.specs.Operators.{unary_of, binary_of, function_of}
use Rattle.sv_ast.specs.declared.expression.Id.{Id}
use Rattle.sv_ast.specs.declared.expression.Sel.{Sel}
use Rattle.sv_ast.specs.declared.expression.Expr.{Expr}
use Rattle.sv_ast.specs.declared.expression.Expr.TheOpen as expr
use Rattle.sv_ast.specs.declared.expression.Expr.TheOpen.{Expr-F, Sel-F}
use Rattle.sv_ast.specs.declared.expression.Expr.TheFolds.{fold-Expr, fold-Sel}
use Rattle.const_eval.specs.Literal.{number_of, fill_of}
use Rattle.const_eval.specs.Meaning.{Meaning, number, alone, fill, chosen}
use Rattle.const_eval.specs.Operators.{unary_by, binary_by, function_by}
use Rattle.const_eval.specs.Selects.{Named, part, total, joined, copies}

-- what each visible name means
abbrev pub Names : Type 0
Names = List ℕ → Option Named

-- what an expression means, or why it is refused
abbrev pub Judged : Type 0
Judged = Result Meaning Refusal

infixl 10 ◌>>=◌
-- a part behind a part, where the first is not refused
abbrev pub ◌>>=◌ : {A B : Type 0} → Result A Refusal → (A → Result B Refusal) → Result B Refusal
(Ok a) >>= f = f a
(Err refusal) >>= f = Err refusal

-- a refusal at a name, a sign or a number
abbrev pub refused_at : Kind → Id → Refusal
refused_at kind id = record { kind = kind; place = id.place; name = id.name }

-- a refusal that has no name
abbrev pub unnamed_at : Kind → Place → Refusal
unnamed_at kind place = record { kind = kind; place = place; name = [] }

abbrev pub or_refused : {A : Type 0} → Refusal → Option A → Result A Refusal
or_refused refusal None = Err refusal
or_refused refusal (Some a) = Ok a

-- ---- widths

-- a width of at most the greatest one, for an expression at this place
abbrev pub not_too_wide : Place → ℕ → Result ℕ Refusal
not_too_wide place w = if nat_lt MAX_WIDTH w then Err (unnamed_at kind.TooWide place) else Ok w

-- a whole number as a width: below 1 it has the first refusal, and above the greatest width the second
abbrev pub as_width : Refusal → Place → ℤ → Result ℕ Refusal
as_width below place z = if int_lt z (pos 1) then Err below else not_too_wide place (unsigned_abs z)

-- ---- names and selects

-- what a name means, where a constant is needed or not
abbrev pub named_by : Names → Bool → Id → Result Named Refusal
named_by names needed name = or_refused (refused_at kind.UnknownName name) (names name.name) >>= λ named.
    if needed && not named.constant then Err (refused_at kind.NotConstant name) else Ok named

-- so many bits of a name from a position on, where it has a range and the width is one that a value may have
abbrev pub taken : ℤ → (ℕ → ℤ) → Named → Id → Judged
taken width position named name =
    if named.ranged
    then (as_width (refused_at kind.BadRange name) name.place width >>= λ w. Ok (part named (position w) w))
    else Err (refused_at kind.BadRange name)

-- the positions of a select, by what they mean: one, or two with `:`, `+:` or `-:` between (11.5.1)
pub data Positions : Type 0 where
  At : (p : Meaning) → Positions
  DownTo : (high low : Meaning) → Positions
  UpFrom : (p width : Meaning) → Positions
  DownFrom : (p width : Meaning) → Positions

-- what a select takes of a name: the bit at a position, the bits from one position down to another, so many bits from a
-- position up, or so many from a position down
abbrev pub take : Positions → Named → Id → Judged
take (At p) = taken (pos 1) (λ w. number p)
take (DownTo high low) = taken (number high -ℤ number low +ℤ pos 1) (λ w. number low)
take (UpFrom p width) = taken (number width) (λ w. number p)
take (DownFrom p width) = taken (number width) (λ w. number p -ℤ pos w +ℤ pos 1)

-- A select behind a name: where its `[` stands, and its positions. A position is a constant where one is needed; both bounds
-- of a part and the width of an indexed part are always constants.
pub record Select : Type 0 where
  pub place : Place
  pub positions : Bool → Result Positions Refusal

abbrev pub select_layer : Sel-F (Bool → Judged) Select → Select
select_layer (expr.Bit place at) = record { place = place; positions = λ needed. at needed >>= λ p. Ok (At p) }
select_layer (expr.Part place high low) = record { place = place; positions = λ needed. high true >>= λ m. low true >>= λ l. Ok (DownTo m l) }
select_layer (expr.Up place at width) = record { place = place; positions = λ needed. at needed >>= λ p. width true >>= λ w. Ok (UpFrom p w) }
select_layer (expr.Down place at width) = record { place = place; positions = λ needed. at needed >>= λ p. width true >>= λ w. Ok (DownFrom p w) }

-- a whole name
abbrev pub whole : Named → Meaning
whole named = alone named.size named.signed named.word

-- the refusal of a second select, at its `[`
abbrev pub second_select : Place → Refusal
second_select place = record { kind = kind.Unexpected; place = place; name = codes "[" }

-- what one select takes of a name
abbrev pub selected_by : Select → Bool → Named → Id → Judged
selected_by s needed named name = s.positions needed >>= λ positions. take positions named name

-- the refusal of two selects, behind the positions of both
abbrev pub twice_selected : Select → Select → Bool → Judged
twice_selected s t needed = s.positions needed >>= λ _. t.positions needed >>= λ _. Err (second_select t.place)

-- a name with its selects: none, or one; a second one is refused
abbrev pub selected : List Select → Bool → Named → Id → Judged
selected [] needed named name = Ok (whole named)
selected (s ∷ []) needed named name = selected_by s needed named name
selected (s ∷ t ∷ more) needed named name = twice_selected s t needed

abbrev pub read : Names → Id → List Select → Bool → Judged
read names name selects needed = named_by names needed name >>= λ named. selected selects needed named name

-- ---- operators

-- an operator or function that only constants have, by its sign or name
abbrev pub for_constants : Bool → Id → Result (Unit {0}) Refusal
for_constants needed sign = if needed then Ok tt else Err (refused_at kind.NotConstant sign)

-- whether a meaning stands for a number below 0
abbrev pub is_negative : Meaning → Bool
is_negative m = int_lt (number m) (pos 0)

-- a power of constants, whose exponent is not negative
abbrev pub raised : Bool → Id → Meaning → Meaning → Judged
raised needed sign a b = for_constants needed sign >>= λ _.
    if is_negative b then Err (unnamed_at kind.BadRange sign.place) else Ok (binary_by operator.Power a b)

-- an operator between operands that mean these: a power asks something of them, the others nothing
abbrev pub binary_judged : Binary → Bool → Id → Meaning → Meaning → Judged
binary_judged operator.Power needed sign a b = raised needed sign a b
binary_judged other needed sign a b = Ok (binary_by other a b)

-- what a text between operands that mean these makes of them
abbrev pub binary_on : Bool → Id → Meaning → Meaning → Judged
binary_on needed sign a b = or_refused (refused_at kind.Unexpected sign) (binary_of sign.name) >>= λ found. binary_judged found needed sign a b

abbrev pub binary : Id → (Bool → Judged) → (Bool → Judged) → Bool → Judged
binary sign left right needed = left needed >>= λ a. right needed >>= λ b. binary_on needed sign a b

-- an operator before an operand that means this
abbrev pub unary_on : Id → Meaning → Judged
unary_on sign a = or_refused (refused_at kind.Unexpected sign) (unary_of sign.name) >>= λ found. Ok (unary_by found a)

abbrev pub unary : Id → (Bool → Judged) → Bool → Judged
unary sign operand needed = operand needed >>= λ a. unary_on sign a

-- a choice, all of whose parts must mean something
abbrev pub choice : (Bool → Judged) → (Bool → Judged) → (Bool → Judged) → Bool → Judged
choice test first second needed = test needed >>= λ c. first needed >>= λ a. second needed >>= λ b. Ok (chosen c a b)

-- a system function of an argument that means this; a logarithm only constants have
abbrev pub function_judged : Function → Bool → Id → Meaning → Judged
function_judged function.Signed needed name a = Ok (function_by function.Signed a)
function_judged function.Unsigned needed name a = Ok (function_by function.Unsigned a)
function_judged function.Logarithm needed name a = for_constants needed name >>= λ _. Ok (function_by function.Logarithm a)

-- what a system name makes of an argument that means this
abbrev pub system_on : Bool → Id → Meaning → Judged
system_on needed name a = or_refused (refused_at kind.Unexpected name) (function_of name.name) >>= λ found. function_judged found needed name a

abbrev pub system : Id → (Bool → Judged) → Bool → Judged
system name argument needed = argument needed >>= λ a. system_on needed name a

-- ---- parts that are joined

-- what each of some parts means
abbrev pub each : List (Bool → Judged) → Bool → Result (List Meaning) Refusal
each [] needed = Ok []
each (p ∷ ps) needed = p needed >>= λ m. each ps needed >>= λ ms. Ok (m ∷ ms)

-- a number of bits as a width, for what is joined at this place
abbrev pub fitting : Place → ℕ → Result ℕ Refusal
fitting place w = if w == 0 then Err (unnamed_at kind.BadRange place) else not_too_wide place w

abbrev pub concatenation : Place → List Meaning → Judged
concatenation place ms = fitting place (total ms) >>= λ w. Ok (alone w false (joined ms))

-- so many copies, a constant number, of parts joined
abbrev pub repeated : Place → Meaning → List Meaning → Judged
repeated place count ms =
    if int_lt (number count) (pos 1) then Err (unnamed_at kind.BadRange place)
    else (fitting place (unsigned_abs (number count) * total ms) >>= λ w.
    Ok (alone w false (copies (unsigned_abs (number count)) (total ms) (joined ms))))

abbrev pub concatenated : Place → List (Bool → Judged) → Bool → Judged
concatenated place parts needed = each parts needed >>= λ ms. concatenation place ms

abbrev pub replication : Place → (Bool → Judged) → List (Bool → Judged) → Bool → Judged
replication place count parts needed = count true >>= λ n. each parts needed >>= λ ms. repeated place n ms

-- ---- expressions

abbrev pub literal : Id → Judged
literal text = or_refused (refused_at kind.BadNumber text) (number_of text.name) >>= λ l. Ok (alone l.size l.signed l.word)

abbrev pub filled : Id → Judged
filled text = or_refused (refused_at kind.BadNumber text) (fill_of text.name) >>= λ one. Ok (fill one)

-- an expression, from what its parts mean
abbrev pub expression_layer : Names → Expr-F (Bool → Judged) Select → Bool → Judged
expression_layer names (expr.Number text) needed = literal text
expression_layer names (expr.Fill text) needed = filled text
expression_layer names (expr.Read name selects) needed = read names name selects needed
expression_layer names (expr.Unary sign operand) needed = unary sign operand needed
expression_layer names (expr.Binary sign left right) needed = binary sign left right needed
expression_layer names (expr.Choice sign test first second) needed = choice test first second needed
expression_layer names (expr.Concat place parts) needed = concatenated place parts needed
expression_layer names (expr.Repeat place count parts) needed = replication place count parts needed
expression_layer names (expr.System name argument) needed = system name argument needed

-- What an expression means where these names mean something, or its first refusal: its parts are walked through from left to
-- right, and each part before the whole. Where a constant is needed, no net or variable is read.
abbrev pub meaning_of : Names → Bool → Expr → Judged
meaning_of names needed e = fold-Expr (Bool → Judged) Select (expression_layer names) select_layer e needed

-- a select, where these names mean something
abbrev pub select_of : Names → Sel → Select
select_of names s = fold-Sel (Bool → Judged) Select (expression_layer names) select_layer s

-- the meanings of several expressions, from the left
abbrev pub meanings_of : Names → Bool → List Expr → Result (List Meaning) Refusal
meanings_of names needed es = each (map (fold-Expr (Bool → Judged) Select (expression_layer names) select_layer) es) needed
