-- Selects of targets: the constants and positions that the code finds are those that the definitions say.
use Rattle.std.proofs.Common.{◌≡◌, ℕ, ◌-◌, ◌^◌, ◌<◌, ◌≤◌, Bool, true, false, List, Option, None, Some, option_map, Result, Ok, Err, refl, sym, ◌∙◌, ap, subst, arith}
use Rattle.std.specs.Prelude.{min, pos, ◌+ℤ◌, ◌-ℤ◌, if◌then◌else◌, IfOk, IfSome}
use Rattle.std.proofs.Math.Nat.{mod-eq_of_lt}
use Rattle.std.proofs.lemmas.Bool.{le-leb}
use Rattle.bit_ops.specs.declared.value.TheConstants.{MAX_WIDTH}
use Rattle.bit_ops.specs.Width.{IsWidth}
use Rattle.bit_ops.specs.Meaning.{signed_of}
use Rattle.sv_base.specs.declared.refusal.Place.{Place}
use Rattle.sv_base.specs.declared.refusal.Refusal.{Refusal}
use Rattle.sv_base.specs.declared.fault.Fault.{Fault}
use Rattle.sv_ast.specs.declared.expression.Expr.{Expr}
use Rattle.sv_ast.specs.declared.expression.Sel.{Part}
use Rattle.sv_ast.specs.declared.item.Range.{Range}
use Rattle.sv_ast.specs.declared.expression.Sel.TheVariants.{outs-Part}
use Rattle.const_eval.specs.declared.env.Const.{Const}
use Rattle.const_eval.specs.declared.env.Bound.{Bound}
use Rattle.const_eval.specs.declared.env.Bound.TheVariants.{Constant, Variable}
use Rattle.const_eval.specs.Meaning.{Meaning, own, number}
use Rattle.const_eval.specs.Literal.{is_width}
use Rattle.const_eval.specs.Selects.{Named}
use Rattle.const_eval.specs.Constant.{named_of}
use Rattle.const_eval.specs.Sized.{IsSized, AreSized}
use Rattle.const_eval.specs.declared.whole_number.WholeNumber.{WholeNumber}
use Rattle.const_eval.specs.WholeNumbers.{count_of, integer_of, whole_number_of}
use Rattle.const_eval.specs.Expressions.{Judged, ◌>>=◌}
use Rattle.const_eval.specs.Expressions as spec
use Rattle.const_eval.specs.code.Agreeing.{Agrees}
use Rattle.const_eval.proofs.Judging.{agrees_behind, refused_first}
use Rattle.net_ir.specs.declared.term.Term.{Term}
use Rattle.net_ir.specs.declared.design.Var.{Var}
use Rattle.width_rules.specs.Values.{bits_where, const_of}
use Rattle.elaborate.specs.declared.target.Selected.{Selected}
use Rattle.elaborate.specs.Names.{Names, bounds, constant_at}
use Rattle.elaborate.specs.Extent.{span_of}
use Rattle.elaborate.specs.code.Walking.{integers_of}
use Rattle.elaborate.specs.Targets.{position_at, constant_term, indexed, select_layer, select_at}
use Rattle.elaborate.specs.code.Selecting.{IsSelected}

-- ---- constants that were found

-- what was found is the constant of a meaning
abbrev pub IsFound : Const → Meaning → Type 0
IsFound found m = found ≡ const_of m

-- a position that was found is the one that is said
abbrev pub IsAt : Term × Bool → Term × Bool → Type 0
IsAt found at = found ≡ at

sized_as : (o : Option Bound) (named : Named) → option_map named_of o ≡ Some named → IsWidth named.size × (named.word < 2 ^ named.size)
sized_as None named h = absurd (cc h)
sized_as (Some (Constant value low)) named h = subst (λ (o : Option Named). IfSome o (λ n. IsWidth n.size × (n.word < 2 ^ n.size))) h ((value.value.positive, value.value.within), value.value.fits)
sized_as (Some (Variable x)) named h = subst (λ (o : Option Named). IfSome o (λ n. IsWidth n.size × (n.word < 2 ^ n.size))) h ((omega arith, omega arith), omega arith)

-- the names that have a value have sizes and words of values
pub names_sized : (names : Names) → AreSized (λ name. option_map named_of (bounds names name))
names_sized names name named h = sized_as (bounds names name) named h

-- the law of the sizes and values of expressions
abbrev pub SizesAndValues : Type 0
SizesAndValues = (names : spec.Names) → AreSized names → (needed : Bool) (e : Expr) → IfOk (spec.meaning_of names needed e) IsSized

-- so a constant that is found has one
pub found_sized : SizesAndValues → (names : Names) (e : Expr) → IfOk (constant_at names e) IsSized
found_sized law names e = law (λ name. option_map named_of (bounds names name)) (names_sized names) true e

is_width_of : (w : ℕ) → IsWidth w → is_width w ≡ true
is_width_of w h = rw (le-leb 1 w h.0, le-leb w MAX_WIDTH h.1) refl

bits_found : (w a : ℕ) (wide : Bool) (is : is_width w ≡ wide) → IsWidth w → a < 2 ^ w → ((bits_where w a wide is).width ≡ w) × ((bits_where w a wide is).word ≡ a)
bits_found w a true is h fits = (refl, mod-eq_of_lt fits)
bits_found w a false is h fits = absurd (let clash : true ≡ false = sym (is_width_of w h) ∙ is in cc)

-- the constant of a meaning stands for its whole number
number_found : (m : Meaning) → IsSized m → whole_number_of (const_of m) ≡ number m
number_found m h =
    let is = bits_found m.size (own m) (is_width m.size) refl h.size (h.value m.size m.signed (omega arith)) in
    ap (λ w. if m.signed then signed_of w (const_of m).value.word else pos (const_of m).value.word) is.0
    ∙ ap (λ a. if m.signed then signed_of m.size a else pos a) is.1

-- a constant that was found, and what agrees behind it
sized_behind : {Z W : Type 0} (S : Z → W → Type 0) (c : Const) (j : Judged) (f : Meaning → Result W Refusal) (r : Result Z Fault) → IfOk j IsSized → Agrees IsFound (Ok c) j →
    ((m : Meaning) → IsFound c m → whole_number_of c ≡ number m → Agrees S r (f m)) → Agrees S r (j >>= f)
sized_behind S c (Ok m) f r sized h step = step m h (ap whole_number_of h ∙ number_found m sized)
sized_behind S c (Err refusal) f r sized h step = absurd h

-- ---- selects

pub indexed_agrees : (needed : Bool) (names : Names) (vars : List Var) (at width : Expr) (down : Bool) (p : Term × Bool) (c : Const) (found : Selected) → IfOk (constant_at names width) IsSized →
    Agrees IsAt (Ok p) (position_at needed names vars at) → Agrees IsFound (Ok c) (constant_at names width) →
    found.count ≡ count_of (whole_number_of c) → found.count ≤ 2 ^ MAX_WIDTH - 1 → found.at ≡ p.0 → found.at_signed ≡ p.1 → found.down ≡ down →
    Agrees IsSelected (Ok found) (indexed needed names vars at width down)
indexed_agrees needed names vars at width down p c found sized h k counted within at_is signed_is down_is =
    agrees_behind IsAt IsSelected p (position_at needed names vars at) (λ p. constant_at names width >>= λ n. Ok (record { width = number n; at = p; down = down })) (Ok found) h (λ q same.
    sized_behind IsSelected c (constant_at names width) (λ n. Ok (record { width = number n; at = q; down = down })) (Ok found) sized k (λ n _ is.
    (let counts : found.count ≡ count_of (number n) = counted ∙ ap count_of is in record {
      count = omega (arith, counts, within);
      at = at_is ∙ ap (λ (p : Term × Bool). p.0) same;
      signed = signed_is ∙ ap (λ (p : Term × Bool). p.1) same;
      down = down_is;
    })))

-- a select of a part, opened by one level
part_opened : (needed : Bool) (names : Names) (vars : List Var) (place : Place) (high low : Expr) → select_at needed names vars (Part place high low) ≡
    (constant_at names high >>= λ m. constant_at names low >>= λ l. Ok (record { width = number m -ℤ number l +ℤ pos 1; at = constant_term l; down = false }))
part_opened needed names vars place high low = ap (select_layer needed names vars) (outs-Part place high low)

pub part_agrees : (needed : Bool) (names : Names) (vars : List Var) (place : Place) (high low : Expr) (a b : Const) (found : Selected) →
    IfOk (constant_at names high) IsSized → IfOk (constant_at names low) IsSized →
    Agrees IsFound (Ok a) (constant_at names high) → Agrees IsFound (Ok b) (constant_at names low) →
    found.count ≡ min (count_of (whole_number_of a -ℤ whole_number_of b +ℤ pos 1)) (2 ^ MAX_WIDTH - 1) →
    ((m : Meaning) → b ≡ const_of m → found.at ≡ (constant_term m).0) → found.at_signed ≡ b.signed → found.down ≡ false →
    Agrees IsSelected (Ok found) (select_at needed names vars (Part place high low))
part_agrees needed names vars place high low a b found sized_high sized_low h k counted at_is signed_is down_is =
    rw (part_opened needed names vars place high low)
    (sized_behind IsSelected a (constant_at names high) (λ m. constant_at names low >>= λ l. Ok (record { width = number m -ℤ number l +ℤ pos 1; at = constant_term l; down = false })) (Ok found) sized_high h (λ m _ high_is.
    sized_behind IsSelected b (constant_at names low) (λ l. Ok (record { width = number m -ℤ number l +ℤ pos 1; at = constant_term l; down = false })) (Ok found) sized_low k (λ l same low_is. record {
      count = counted ∙ ap (λ z. min (count_of (z -ℤ whole_number_of b +ℤ pos 1)) (2 ^ MAX_WIDTH - 1)) high_is ∙ ap (λ z. min (count_of (number m -ℤ z +ℤ pos 1)) (2 ^ MAX_WIDTH - 1)) low_is;
      at = at_is l same;
      signed = signed_is ∙ ap (λ (c : Const). c.signed) same;
      down = down_is;
    })))

pub part_refused : (needed : Bool) (names : Names) (vars : List Var) (place : Place) (high low : Expr) (a : Const) (fault : Fault) →
    Agrees IsFound (Ok a) (constant_at names high) → Agrees IsFound (Err fault) (constant_at names low) →
    Agrees IsSelected (Err fault) (select_at needed names vars (Part place high low))
part_refused needed names vars place high low a fault h k =
    rw (part_opened needed names vars place high low)
    (agrees_behind IsFound IsSelected a (constant_at names high) (λ m. constant_at names low >>= λ l. Ok (record { width = number m -ℤ number l +ℤ pos 1; at = constant_term l; down = false })) (Err fault) h (λ m _.
    refused_first IsFound IsSelected fault (constant_at names low) (λ l. Ok (record { width = number m -ℤ number l +ℤ pos 1; at = constant_term l; down = false })) k))

-- ---- ranges

-- the bounds of a written range that were found
pub span_agrees : (names : Names) (range : Range) (a b : Const) (high low : WholeNumber) →
    IfOk (constant_at names range.high) IsSized → IfOk (constant_at names range.low) IsSized →
    Agrees IsFound (Ok a) (constant_at names range.high) → Agrees IsFound (Ok b) (constant_at names range.low) →
    integer_of high ≡ whole_number_of a → integer_of low ≡ whole_number_of b →
    Agrees (λ found span. integers_of found ≡ span) (Ok (Some (high, low))) (span_of names (Some range))
span_agrees names range a b high low sized_high sized_low h k high_is low_is =
    sized_behind (λ found span. integers_of found ≡ span) a (constant_at names range.high) (λ m. constant_at names range.low >>= λ l. Ok (Some (number m, number l))) (Ok (Some (high, low))) sized_high h (λ m _ first.
    sized_behind (λ found span. integers_of found ≡ span) b (constant_at names range.low) (λ l. Ok (Some (number m, number l))) (Ok (Some (high, low))) sized_low k (λ l _ second.
    ap (λ z. Some (z, integer_of low)) (high_is ∙ first) ∙ ap (λ z. Some (number m, z)) (low_is ∙ second)))
