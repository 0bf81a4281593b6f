-- Each meaning of an expression has a size that a value may have, and in each size from it on a word of that size.
use Rattle.std.specs.Prelude.{◌≡◌, ℕ, zero, suc, ◌+◌, ◌*◌, ◌/◌, ◌%◌, ◌^◌, ◌<◌, ◌≤◌, Bool, true, false, not, ◌&&◌, ◌||◌, ◌==◌, nat_lt, nat_le, IfOk, IfSome, List, [], ◌∷◌, map, take, drop, position, ℤ, pos, negsuc, ◌-ℤ◌, ◌+ℤ◌, int_lt, unsigned_abs, Option, None, Some, Result, Ok, Err, if◌then◌else◌}
use Rattle.std.specs.List.{AllByRecursion}
use Rattle.std.proofs.Common.{refl, sym, subst, arith}
use Rattle.std.proofs.lemmas.Bool.{and_parts, leb-true, ltb-false, eqb-false}
use Rattle.std.proofs.lemmas.Nat.{pow_pos, mod_below}
use Rattle.bit_ops.specs.declared.value.TheConstants.{MAX_WIDTH}
use Rattle.bit_ops.specs.declared.operation.Op.{Op}
use Rattle.bit_ops.specs.declared.operation.Op.TheVariants as op
use Rattle.bit_ops.specs.Meaning.{signed_of, not_of, and_of, or_of, xor_of, add_of, sub_of, mul_of, shl_of, shr_u_of, red_and_of, red_or_of, red_xor_of, eq_of}
use Rattle.bit_ops.specs.Width.{IsWidth, WidthsFit}
use Rattle.bit_ops.specs.Rows.{widths_of, AreWords, value_of}
use Rattle.sv_base.specs.declared.kind.Kind.TheVariants as kind
use Rattle.sv_base.specs.declared.refusal.Place.{Place}
use Rattle.sv_base.specs.declared.refusal.Refusal.{Refusal}
use Rattle.sv_base.specs.declared.operator.Unary.{Unary}
use Rattle.sv_base.specs.declared.operator.Unary.TheVariants as unary
use Rattle.sv_base.specs.declared.operator.Binary.{Binary}
use Rattle.sv_base.specs.declared.operator.Binary.TheVariants as binary
use Rattle.sv_base.specs.declared.operator.Function.{Function}
use Rattle.sv_base.specs.declared.operator.Function.TheVariants as function
use Rattle.sv_base.specs.Operators.{unary_of, binary_of, function_of}
use Rattle.sv_lexer.specs.declared.form.Base.{Base}
use Rattle.sv_lexer.specs.Bytes.{spelled, radix}
use Rattle.sv_lexer.specs.Piece.{base_of}
use Rattle.sv_ast.specs.declared.expression.Id.{Id}
use Rattle.sv_ast.specs.declared.expression.Sel.{Sel}
use Rattle.sv_ast.specs.declared.expression.Expr.{Expr}
use Rattle.sv_ast.specs.declared.expression.Expr.TheOpen as expr
use Rattle.sv_ast.specs.declared.expression.Expr.TheOpen.{Expr-F, Sel-F}
use Rattle.sv_ast.specs.declared.expression.Expr.TheViews.{roll-Expr}
use Rattle.sv_ast.specs.declared.expression.Expr.TheFolds.{map-Expr, fold-roll-Expr, ind-Expr}
use Rattle.const_eval.specs.Literal.{Literal, is_width, cut_to, in_base, with_base, is_sign_letter, behind_quote, size_of, number_at, number_of, fill_of}
use Rattle.const_eval.specs.Meaning.{Meaning, own, number, holds, extended, alone, fill, flag, meeting, are_signed, combined, compared, moved, chosen}
use Rattle.const_eval.specs.Operators as operators
use Rattle.const_eval.specs.Operators.{unary_by, binary_by, function_by, logarithm, less, quotient, remainder, arithmetic_right, raised_to}
use Rattle.const_eval.specs.Selects.{Named, bits_from, part, total, joined, copies}
use Rattle.const_eval.specs.Sized.{IsSized, AreSized}
use Rattle.const_eval.specs.Expressions as spec
use Rattle.const_eval.specs.Expressions.{◌>>=◌, Names, Judged, Positions, At, DownTo, UpFrom, DownFrom, Select, expression_layer, select_layer, select_of, refused_at, unnamed_at, or_refused, not_too_wide, as_width, fitting}
use Rattle.const_eval.proofs.Least.{least_within}
use Rattle.const_eval.proofs.Judged.{ok_behind, ok_after, ok_found, either_way}
use Rattle.const_eval.proofs.Means.{means}

-- the value of an operation whose operands fit is a word of its width
abbrev pub ValuesFit : Type 0
ValuesFit = (o : Op) (w lo : ℕ) (operands : List (ℕ × ℕ)) → WidthsFit o w lo (widths_of operands) → AreWords operands → value_of o w lo operands < 2 ^ w

-- ---- what is made of words

extended_fits : ValuesFit → (t : Bool) (w n a : ℕ) → w ≤ n → a < 2 ^ w → extended t w n a < 2 ^ n
extended_fits law true w n a h small = law op.Sext n 0 ((w, a) ∷ []) h (small, tt)
extended_fits law false w n a h small = law op.Zext n 0 ((w, a) ∷ []) h (small, tt)

alone_sized : ValuesFit → (w : ℕ) (s : Bool) (a : ℕ) → IsWidth w → a < 2 ^ w → IsSized (alone w s a)
alone_sized law w s a width small = record { size = width; value = λ n t h. extended_fits law t w n a h small }

one_is_width : IsWidth 1
one_is_width = (omega arith, omega arith)

bit_sized : ValuesFit → (bit : ℕ) → bit < 2 → IsSized (alone 1 false bit)
bit_sized law bit small = alone_sized law 1 false bit one_is_width small

-- a bit that says whether a fact holds
flag_bit : (t : Bool) → (if t then 1 else 0) < 2
flag_bit true = omega arith
flag_bit false = omega arith

opposite_bit : (bit : ℕ) → operators.opposite bit < 2
opposite_bit bit = omega arith

flag_sized : ValuesFit → (t : Bool) → IsSized (flag t)
flag_sized law t = bit_sized law (if t then 1 else 0) (flag_bit t)

less_bit : (n : ℕ) (s : Bool) (a b : ℕ) → less n s a b < 2
less_bit n true a b = flag_bit (int_lt (signed_of n a) (signed_of n b))
less_bit n false a b = flag_bit (nat_lt a b)

own_fits : (a : Meaning) → IsSized a → own a < 2 ^ a.size
own_fits a h = h.value a.size a.signed (omega arith)

-- ---- operators

combined_sized : (f : ℕ → Bool → ℕ → ℕ → ℕ) (a b : Meaning) → ((n : ℕ) (s : Bool) (x y : ℕ) → x < 2 ^ n → y < 2 ^ n → f n s x y < 2 ^ n)
    → IsSized a → IsSized b → IsSized (combined f a b)
combined_sized f a b fits h k = record {
  size = (omega (arith, h.size.0, k.size.0), omega (arith, h.size.1, k.size.1));
  value = λ n s w. fits n s (a.value n s) (b.value n s) (h.value n s (omega arith)) (k.value n s (omega arith));
}

compared_sized : ValuesFit → (f : ℕ → Bool → ℕ → ℕ → ℕ) (a b : Meaning) → ((n : ℕ) (s : Bool) (x y : ℕ) → f n s x y < 2) → IsSized (compared f a b)
compared_sized law f a b small =
    let n = meeting a b in
    let s = are_signed a b in
    bit_sized law (f n s (a.value n s) (b.value n s)) (small n s (a.value n s) (b.value n s))

moved_sized : (f : ℕ → Bool → ℕ → ℕ → ℕ) (a b : Meaning) → ((n : ℕ) (s : Bool) (x k y : ℕ) → x < 2 ^ n → y < 2 ^ k → f n s x y < 2 ^ n)
    → IsSized a → IsSized b → IsSized (moved f a b)
moved_sized f a b fits h k = record {
  size = h.size;
  value = λ n s w. fits n s (a.value n s) b.size (own b) (h.value n s w) (own_fits b k);
}

chosen_sized : (c a b : Meaning) → IsSized a → IsSized b → IsSized (chosen c a b)
chosen_sized c a b h k = record {
  size = (omega (arith, h.size.0, k.size.0), omega (arith, h.size.1, k.size.1));
  value = λ n s w. either_way (λ v. v < 2 ^ n) (holds c) (a.value n s) (b.value n s) (h.value n s (omega arith)) (k.value n s (omega arith));
}

quotient_fits : ValuesFit → (n : ℕ) (s : Bool) (x y : ℕ) → x < 2 ^ n → y < 2 ^ n → quotient n s x y < 2 ^ n
quotient_fits law n true x y f g = law op.DivS n 0 ((n, x) ∷ (n, y) ∷ []) (refl, refl) (f, (g, tt))
quotient_fits law n false x y f g = law op.DivU n 0 ((n, x) ∷ (n, y) ∷ []) (refl, refl) (f, (g, tt))

remainder_fits : ValuesFit → (n : ℕ) (s : Bool) (x y : ℕ) → x < 2 ^ n → y < 2 ^ n → remainder n s x y < 2 ^ n
remainder_fits law n true x y f g = law op.ModS n 0 ((n, x) ∷ (n, y) ∷ []) (refl, refl) (f, (g, tt))
remainder_fits law n false x y f g = law op.ModU n 0 ((n, x) ∷ (n, y) ∷ []) (refl, refl) (f, (g, tt))

right_fits : ValuesFit → (n : ℕ) (s : Bool) (x k y : ℕ) → x < 2 ^ n → y < 2 ^ k → arithmetic_right n s x y < 2 ^ n
right_fits law n true x k y f g = law op.ShrS n 0 ((n, x) ∷ (k, y) ∷ []) refl (f, (g, tt))
right_fits law n false x k y f g = law op.ShrU n 0 ((n, x) ∷ (k, y) ∷ []) refl (f, (g, tt))

unary_sized : ValuesFit → (o : Unary) (a : Meaning) → IsSized a → IsSized (unary_by o a)
unary_sized law unary.Plus a h = h
unary_sized law unary.Minus a h = record { size = h.size; value = λ n s w. law op.Neg n 0 ((n, a.value n s) ∷ []) refl (h.value n s w, tt) }
unary_sized law unary.LogicalNot a h = flag_sized law (not (holds a))
unary_sized law unary.Not a h = record { size = h.size; value = λ n s w. law op.Not n 0 ((n, a.value n s) ∷ []) refl (h.value n s w, tt) }
unary_sized law unary.ReduceAnd a h = bit_sized law (red_and_of a.size (own a)) (law op.RedAnd 1 0 ((a.size, own a) ∷ []) refl (own_fits a h, tt))
unary_sized law unary.ReduceNand a h = bit_sized law (operators.opposite (red_and_of a.size (own a))) (opposite_bit (red_and_of a.size (own a)))
unary_sized law unary.ReduceOr a h = bit_sized law (red_or_of (own a)) (law op.RedOr 1 0 ((a.size, own a) ∷ []) refl (own_fits a h, tt))
unary_sized law unary.ReduceNor a h = bit_sized law (operators.opposite (red_or_of (own a))) (opposite_bit (red_or_of (own a)))
unary_sized law unary.ReduceXor a h = bit_sized law (red_xor_of (own a)) (law op.RedXor 1 0 ((a.size, own a) ∷ []) refl (own_fits a h, tt))
unary_sized law unary.ReduceXnor a h = bit_sized law (operators.opposite (red_xor_of (own a))) (opposite_bit (red_xor_of (own a)))

binary_sized : ValuesFit → (o : Binary) (a b : Meaning) → IsSized a → IsSized b → IsSized (binary_by o a b)
binary_sized law binary.Power a b h k = moved_sized (λ n s. raised_to n) a b (λ n s x m y f g. mod_below (x ^ y) (2 ^ n) (pow_pos n)) h k
binary_sized law binary.Multiply a b h k = combined_sized (λ n s. mul_of n) a b
    (λ n s x y f g. law op.Mul n 0 ((n, x) ∷ (n, y) ∷ []) (refl, refl) (f, (g, tt))) h k
binary_sized law binary.Divide a b h k = combined_sized quotient a b (quotient_fits law) h k
binary_sized law binary.Remainder a b h k = combined_sized remainder a b (remainder_fits law) h k
binary_sized law binary.Add a b h k = combined_sized (λ n s. add_of n) a b (λ n s x y f g. law op.Add n 0 ((n, x) ∷ (n, y) ∷ []) (refl, refl) (f, (g, tt))) h k
binary_sized law binary.Subtract a b h k = combined_sized (λ n s. sub_of n) a b
    (λ n s x y f g. law op.Sub n 0 ((n, x) ∷ (n, y) ∷ []) (refl, refl) (f, (g, tt))) h k
binary_sized law binary.ShiftLeft a b h k = moved_sized (λ n s. shl_of n) a b (λ n s x m y f g. law op.Shl n 0 ((n, x) ∷ (m, y) ∷ []) refl (f, (g, tt))) h k
binary_sized law binary.ShiftRight a b h k = moved_sized (λ n s. shr_u_of n) a b (λ n s x m y f g. law op.ShrU n 0 ((n, x) ∷ (m, y) ∷ []) refl (f, (g, tt))) h k
binary_sized law binary.ArithmeticShiftRight a b h k = moved_sized arithmetic_right a b (right_fits law) h k
binary_sized law binary.Less a b h k = compared_sized law less a b less_bit
binary_sized law binary.AtMost a b h k = compared_sized law (λ n s x y. operators.opposite (less n s y x)) a b (λ n s x y. opposite_bit (less n s y x))
binary_sized law binary.Greater a b h k = compared_sized law (λ n s x y. less n s y x) a b (λ n s x y. less_bit n s y x)
binary_sized law binary.AtLeast a b h k = compared_sized law (λ n s x y. operators.opposite (less n s x y)) a b (λ n s x y. opposite_bit (less n s x y))
binary_sized law binary.Equal a b h k = compared_sized law (λ n s. eq_of) a b (λ n s x y. flag_bit (x == y))
binary_sized law binary.Unequal a b h k = compared_sized law (λ n s x y. operators.opposite (eq_of x y)) a b (λ n s x y. opposite_bit (eq_of x y))
binary_sized law binary.And a b h k = combined_sized (λ n s. and_of) a b (λ n s x y f g. law op.And n 0 ((n, x) ∷ (n, y) ∷ []) (refl, refl) (f, (g, tt))) h k
binary_sized law binary.Xor a b h k = combined_sized (λ n s. xor_of) a b (λ n s x y f g. law op.Xor n 0 ((n, x) ∷ (n, y) ∷ []) (refl, refl) (f, (g, tt))) h k
binary_sized law binary.Xnor a b h k = combined_sized (λ n s x y. not_of n (xor_of x y)) a b (λ n s x y f g. omega (arith, pow_pos n)) h k
binary_sized law binary.Or a b h k = combined_sized (λ n s. or_of) a b (λ n s x y f g. law op.Or n 0 ((n, x) ∷ (n, y) ∷ []) (refl, refl) (f, (g, tt))) h k
binary_sized law binary.LogicalAnd a b h k = flag_sized law (holds a && holds b)
binary_sized law binary.LogicalOr a b h k = flag_sized law (holds a || holds b)

function_sized : ValuesFit → (o : Function) (a : Meaning) → IsSized a → IsSized (function_by o a)
function_sized law function.Signed a h = alone_sized law a.size true (own a) h.size (own_fits a h)
function_sized law function.Unsigned a h = alone_sized law a.size false (own a) h.size (own_fits a h)
function_sized law function.Logarithm a h = alone_sized law 32 true (logarithm (own a)) (omega arith, omega arith)
    (let most = (least_within (λ k. nat_le (own a) (2 ^ k)) 0 MAX_WIDTH).1 in omega arith)

unary_on_sized : ValuesFit → (sign : Id) (a : Meaning) → IsSized a → IfOk (spec.unary_on sign a) IsSized
unary_on_sized law sign a h = ok_after IsSized (or_refused (refused_at kind.Unexpected sign) (unary_of sign.name)) (λ found. Ok (unary_by found a))
    (λ found. unary_sized law found a h)

raised_sized : ValuesFit → (needed : Bool) (sign : Id) (a b : Meaning) → IsSized a → IsSized b → IfOk (spec.raised needed sign a b) IsSized
raised_sized law needed sign a b h k =
    ok_after IsSized (spec.for_constants needed sign) (λ u. if spec.is_negative b then Err (unnamed_at kind.BadRange sign.place) else Ok
    (binary_by binary.Power a b))
    (λ u. either_way (λ (j : Judged). IfOk j IsSized) (spec.is_negative b) (Err (unnamed_at kind.BadRange sign.place)) (Ok (binary_by binary.Power a b)) tt
    (binary_sized law binary.Power a b h k))

judged_sized : ValuesFit → (o : Binary) (needed : Bool) (sign : Id) (a b : Meaning) → IsSized a → IsSized b → IfOk
    (spec.binary_judged o needed sign a b) IsSized
judged_sized law binary.Power needed sign a b h k = raised_sized law needed sign a b h k
judged_sized law other needed sign a b h k = binary_sized law other a b h k

binary_on_sized : ValuesFit → (needed : Bool) (sign : Id) (a b : Meaning) → IsSized a → IsSized b → IfOk (spec.binary_on needed sign a b) IsSized
binary_on_sized law needed sign a b h k =
    ok_after IsSized (or_refused (refused_at kind.Unexpected sign) (binary_of sign.name)) (λ found. spec.binary_judged found needed sign a b)
    (λ found. judged_sized law found needed sign a b h k)

function_judged_sized : ValuesFit → (o : Function) (needed : Bool) (name : Id) (a : Meaning) → IsSized a → IfOk (spec.function_judged o needed name a) IsSized
function_judged_sized law function.Signed needed name a h = function_sized law function.Signed a h
function_judged_sized law function.Unsigned needed name a h = function_sized law function.Unsigned a h
function_judged_sized law function.Logarithm needed name a h = ok_after IsSized (spec.for_constants needed name) (λ u. Ok (function_by function.Logarithm a))
    (λ u. function_sized law function.Logarithm a h)

system_on_sized : ValuesFit → (needed : Bool) (name : Id) (a : Meaning) → IsSized a → IfOk (spec.system_on needed name a) IsSized
system_on_sized law needed name a h =
    ok_after IsSized (or_refused (refused_at kind.Unexpected name) (function_of name.name)) (λ found. spec.function_judged found needed name a)
    (λ found. function_judged_sized law found needed name a h)

-- ---- numbers

-- what a number means has a size that a value may have, and a word of that size
abbrev pub IsSizedLiteral : Literal → Type 0
IsSizedLiteral l = IsWidth l.size × (l.word < 2 ^ l.size)

is_width_told : (w : ℕ) → is_width w ≡ true → IsWidth w
is_width_told w e = let p = and_parts (nat_le 1 w) (nat_le w MAX_WIDTH) e in (leb-true 1 w p.0, leb-true w MAX_WIDTH p.1)

cut_sized : (size : ℕ) (signed : Bool) (r : ℕ) (digits : List ℕ) → IfSome (cut_to size signed r digits) IsSizedLiteral
cut_sized size signed r digits = go (is_width size && nat_lt (spelled r digits) (2 ^ MAX_WIDTH)) refl
  where
    go : (b : Bool) → (is_width size && nat_lt (spelled r digits) (2 ^ MAX_WIDTH)) ≡ b
        → IfSome (if b then Some (record { size = size; signed = signed; word = spelled r digits % 2 ^ size }) else None) IsSizedLiteral
    go true e = (
      is_width_told size (and_parts (is_width size) (nat_lt (spelled r digits) (2 ^ MAX_WIDTH)) e).0,
      mod_below (spelled r digits) (2 ^ size)
          (pow_pos size),
    )
    go false e = tt

in_base_sized : (size : ℕ) (signed : Bool) (base : Option Base) (digits : List ℕ) → IfSome (in_base size signed base digits) IsSizedLiteral
in_base_sized size signed None digits = tt
in_base_sized size signed (Some base) digits = cut_sized size signed (radix base) digits

with_base_sized : (size : ℕ) (signed : Bool) (text : List ℕ) → IfSome (with_base size signed text) IsSizedLiteral
with_base_sized size signed [] = tt
with_base_sized size signed (letter ∷ digits) = in_base_sized size signed (base_of letter) digits

quote_sized : (size : ℕ) (text : List ℕ) → IfSome (behind_quote size text) IsSizedLiteral
quote_sized size [] = tt
quote_sized size (b ∷ bs) =
    either_way (λ (o : Option Literal). IfSome o IsSizedLiteral) (is_sign_letter b) (with_base size true bs) (with_base size false (b ∷ bs))
    (with_base_sized size true bs) (with_base_sized size false (b ∷ bs))

pub number_at_sized : (quote : Option ℕ) (text : List ℕ) → IfSome (number_at quote text) IsSizedLiteral
number_at_sized None text = cut_sized 32 true 10 text
number_at_sized (Some k) text = quote_sized (size_of (take k text)) (drop (k + 1) text)

literal_sized : ValuesFit → (text : Id) → IfOk (spec.literal text) IsSized
literal_sized law text =
    ok_found IsSizedLiteral IsSized (refused_at kind.BadNumber text) (number_of text.name) (λ l. Ok (alone l.size l.signed l.word))
    (number_at_sized (position (λ b. b == 39) text.name) text.name) (λ l h. alone_sized law l.size l.signed l.word h.0 h.1)

fill_sized : (one : Bool) → IsSized (fill one)
fill_sized true = record { size = one_is_width; value = λ n s w. omega (arith, pow_pos n) }
fill_sized false = record { size = one_is_width; value = λ n s w. pow_pos n }

filled_sized : (text : Id) → IfOk (spec.filled text) IsSized
filled_sized text = ok_after IsSized (or_refused (refused_at kind.BadNumber text) (fill_of text.name)) (λ one. Ok (fill one)) fill_sized

-- ---- names and selects

not_too_wide_is : (place : Place) (w : ℕ) → 1 ≤ w → IfOk (not_too_wide place w) (λ v. (v ≡ w) × IsWidth v)
not_too_wide_is place w least = go (nat_lt MAX_WIDTH w) refl
  where
    go : (b : Bool) → nat_lt MAX_WIDTH w ≡ b → IfOk (if b then Err (unnamed_at kind.TooWide place) else Ok w) (λ v. (v ≡ w) × IsWidth v)
    go true e = tt
    go false e = (refl, (least, ltb-false MAX_WIDTH w e))

width_is : (below : Refusal) (place : Place) (z : ℤ) → IfOk (as_width below place z) (λ v. (v ≡ unsigned_abs z) × IsWidth v)
width_is below place (pos n) = go (nat_lt n 1) refl
  where
    go : (b : Bool) → nat_lt n 1 ≡ b → IfOk (if b then Err below else not_too_wide place n) (λ v. (v ≡ n) × IsWidth v)
    go true e = tt
    go false e = not_too_wide_is place n (ltb-false n 1 e)
width_is below place (negsuc n) = tt

fitting_is : (place : Place) (w : ℕ) → IfOk (fitting place w) (λ v. (v ≡ w) × IsWidth v)
fitting_is place w = go (w == 0) refl
  where
    go : (b : Bool) → (w == 0) ≡ b → IfOk (if b then Err (unnamed_at kind.BadRange place) else not_too_wide place w) (λ v. (v ≡ w) × IsWidth v)
    go true e = tt
    go false e = not_too_wide_is place w (let other = eqb-false w 0 e in omega arith)

bits_fit : (place : ℤ) (w a : ℕ) → bits_from place w a < 2 ^ w
bits_fit place w a =
    either_way (λ v. v < 2 ^ w) (int_lt place (pos 0)) (a * 2 ^ unsigned_abs place % 2 ^ w) (a / 2 ^ unsigned_abs place % 2 ^ w)
    (mod_below (a * 2 ^ unsigned_abs place) (2 ^ w) (pow_pos w)) (mod_below (a / 2 ^ unsigned_abs place) (2 ^ w) (pow_pos w))

taken_sized : ValuesFit → (width : ℤ) (place : ℕ → ℤ) (named : Named) (name : Id) → IfOk (spec.taken width place named name) IsSized
taken_sized law width place named name =
    either_way (λ (j : Judged). IfOk j IsSized) named.ranged (as_width (refused_at kind.BadRange name) name.place width >>= λ w. Ok (part named (place w) w))
    (Err (refused_at kind.BadRange name))
    (ok_behind (λ v. (v ≡ unsigned_abs width) × IsWidth v) IsSized (as_width (refused_at kind.BadRange name) name.place width)
    (λ w. Ok (part named (place w) w))
    (width_is (refused_at kind.BadRange name) name.place width)
    (λ w h. alone_sized law w false (bits_from (place w -ℤ pos named.low) w named.word) h.1 (bits_fit (place w -ℤ pos named.low) w named.word)))
    tt

take_sized : ValuesFit → (positions : Positions) (named : Named) (name : Id) → IfOk (spec.take positions named name) IsSized
take_sized law (At p) named name = taken_sized law (pos 1) (λ w. number p) named name
take_sized law (DownTo high low) named name = taken_sized law (number high -ℤ number low +ℤ pos 1) (λ w. number low) named name
take_sized law (UpFrom p width) named name = taken_sized law (number width) (λ w. number p) named name
take_sized law (DownFrom p width) named name = taken_sized law (number width) (λ w. number p -ℤ pos w +ℤ pos 1) named name

selected_sized : ValuesFit → (selects : List Select) (needed : Bool) (named : Named) (name : Id) → IsWidth named.size × (named.word < 2 ^ named.size) → IfOk
    (spec.selected selects needed named name) IsSized
selected_sized law [] needed named name h = alone_sized law named.size named.signed named.word h.0 h.1
selected_sized law (s ∷ []) needed named name h = ok_after IsSized (s.positions needed) (λ positions. spec.take positions named name)
    (λ positions. take_sized law positions named name)
selected_sized law (s ∷ t ∷ more) needed named name h =
    ok_after IsSized (s.positions needed) (λ _. t.positions needed >>= λ _. Err (spec.second_select t.place))
    (λ p. ok_after IsSized (t.positions needed) (λ _. Err (spec.second_select t.place)) (λ q. tt))

-- what a name means has a size that a value may have, and a word of that size
abbrev IsSizedName : Named → Type 0
IsSizedName named = IsWidth named.size × (named.word < 2 ^ named.size)

named_sized : (names : Names) → AreSized names → (needed : Bool) (name : Id) → IfOk (spec.named_by names needed name) IsSizedName
named_sized names sized needed name = go (names name.name) refl
  where
    go : (o : Option Named) → names name.name ≡ o → IfOk (or_refused
        (refused_at kind.UnknownName name) o >>= λ named. if needed && not named.constant then Err (refused_at kind.NotConstant name) else Ok named) IsSizedName
    go None e = tt
    go (Some named) e = either_way (λ (j : Result Named Refusal). IfOk j IsSizedName) (needed && not named.constant) (Err (refused_at kind.NotConstant name))
        (Ok named) tt (sized name.name named e)

read_sized : ValuesFit → (names : Names) → AreSized names → (name : Id) (selects : List Select) (needed : Bool) → IfOk
    (spec.read names name selects needed) IsSized
read_sized law names sized name selects needed =
    ok_behind IsSizedName IsSized (spec.named_by names needed name) (λ named. spec.selected selects needed named name)
    (named_sized names sized needed name) (λ named h. selected_sized law selects needed named name h)

-- ---- parts that are joined

joined_fits : ValuesFit → (ms : List Meaning) → AllByRecursion IsSized ms → joined ms < 2 ^ total ms
joined_fits law [] all = omega arith
joined_fits law (m ∷ ms) all = law op.Concat (m.size + total ms) 0 ((m.size, own m) ∷ (total ms, joined ms) ∷ []) refl
    (own_fits m all.0, (joined_fits law ms all.1, tt))

copies_fit : ValuesFit → (count w a : ℕ) → a < 2 ^ w → copies count w a < 2 ^ (count * w)
copies_fit law zero w a h = pow_pos (zero * w)
copies_fit law (suc count) w a h =
    let more : count * w + w ≡ suc count * w = omega arith in
    subst (λ (k : ℕ). copies (suc count) w a < 2 ^ k) more (law op.Concat (count * w + w) 0 ((count * w, copies count w a) ∷ (w, a) ∷ []) refl
    (copies_fit law count w a h, (h, tt)))

concatenation_sized : ValuesFit → (place : Place) (ms : List Meaning) → AllByRecursion IsSized ms → IfOk (spec.concatenation place ms) IsSized
concatenation_sized law place ms all =
    ok_behind (λ v. (v ≡ total ms) × IsWidth v) IsSized (fitting place (total ms)) (λ w. Ok (alone w false (joined ms))) (fitting_is place (total ms))
    (λ w h. alone_sized law w false (joined ms) h.1 (subst (λ (k : ℕ). joined ms < 2 ^ k) (sym h.0) (joined_fits law ms all)))

repeated_sized : ValuesFit → (place : Place) (n : Meaning) (ms : List Meaning) → AllByRecursion IsSized ms → IfOk (spec.repeated place n ms) IsSized
repeated_sized law place n ms all =
    let count = unsigned_abs (number n) in
    let whole = copies count (total ms) (joined ms) in
    either_way (λ (j : Judged). IfOk j IsSized) (int_lt (number n) (pos 1)) (Err (unnamed_at kind.BadRange place))
    (fitting place (count * total ms) >>= λ w. Ok (alone w false whole)) tt
    (ok_behind (λ v. (v ≡ count * total ms) × IsWidth v) IsSized (fitting place (count * total ms)) (λ w. Ok (alone w false whole))
    (fitting_is place (count * total ms))
    (λ w h. alone_sized law w false whole h.1 (subst (λ (k : ℕ). whole < 2 ^ k) (sym h.0)
    (copies_fit law count (total ms) (joined ms) (joined_fits law ms all)))))

-- ---- expressions

-- what an expression means is sized
abbrev IsSizedPart : (Bool → Judged) → Type 0
IsSizedPart part = (needed : Bool) → IfOk (part needed) IsSized

abbrev HasSize : Names → Expr → Type 0
HasSize names e = IsSizedPart (means names e)

-- an expression with that fact, and a select, of which nothing is asked
abbrev Held : Names → Type 0
Held names = (e : Expr) × HasSize names e

abbrev Kept : Type 0
Kept = Sel × Unit {0}

all_held : (names : Names) (held : List (Held names)) → AllByRecursion IsSizedPart (map (means names) (map (λ e. e.0) held))
all_held names [] = tt
all_held names (e ∷ held) = (e.1, all_held names held)

each_sized : (parts : List (Bool → Judged)) → AllByRecursion IsSizedPart parts → (needed : Bool) → IfOk (spec.each parts needed) (AllByRecursion IsSized)
each_sized [] all needed = tt
each_sized (p ∷ parts) all needed =
    ok_behind IsSized (AllByRecursion IsSized) (p needed) (λ m. spec.each parts needed >>= λ ms. Ok (m ∷ ms)) (all.0 needed)
    (λ m h. ok_behind (AllByRecursion IsSized) (AllByRecursion IsSized) (spec.each parts needed) (λ ms. Ok (m ∷ ms)) (each_sized parts all.1 needed)
    (λ ms k. (h, k)))

layer_sized : ValuesFit → (names : Names) → AreSized names → (y : Expr-F (Held names) Kept) (needed : Bool)
    → IfOk (expression_layer names (map-Expr Expr Sel (Bool → Judged) Select (means names) (select_of names)
    (map-Expr (Held names) Kept Expr Sel (λ e. e.0) (λ s. s.0) y)) needed) IsSized
layer_sized law names sized (expr.Number text) needed = literal_sized law text
layer_sized law names sized (expr.Fill text) needed = filled_sized text
layer_sized law names sized (expr.Read name selects) needed = read_sized law names sized name (map (select_of names) (map (λ s. s.0) selects)) needed
layer_sized law names sized (expr.Unary sign a) needed =
    ok_behind IsSized IsSized (means names a.0 needed) (spec.unary_on sign) (a.1 needed) (λ m h. unary_on_sized law sign m h)
layer_sized law names sized (expr.Binary sign a b) needed =
    ok_behind IsSized IsSized (means names a.0 needed) (λ m. means names b.0 needed >>= λ n. spec.binary_on needed sign m n) (a.1 needed) (λ m h.
    ok_behind IsSized IsSized (means names b.0 needed) (λ n. spec.binary_on needed sign m n) (b.1 needed) (λ n k. binary_on_sized law needed sign m n h k))
layer_sized law names sized (expr.Choice sign c a b) needed =
    ok_after IsSized (means names c.0 needed) (λ t. means names a.0 needed >>= λ m. means names b.0 needed >>= λ n. Ok (chosen t m n)) (λ t.
    ok_behind IsSized IsSized (means names a.0 needed) (λ m. means names b.0 needed >>= λ n. Ok (chosen t m n)) (a.1 needed) (λ m h.
    ok_behind IsSized IsSized (means names b.0 needed) (λ n. Ok (chosen t m n)) (b.1 needed) (λ n k. chosen_sized t m n h k)))
layer_sized law names sized (expr.Concat place parts) needed =
    ok_behind (AllByRecursion IsSized) IsSized (spec.each (map (means names) (map (λ e. e.0) parts)) needed) (spec.concatenation place)
    (each_sized (map (means names) (map (λ e. e.0) parts)) (all_held names parts) needed) (λ ms h. concatenation_sized law place ms h)
layer_sized law names sized (expr.Repeat place count parts) needed =
    ok_after IsSized (means names count.0 true) (λ n. spec.each (map (means names) (map (λ e. e.0) parts)) needed >>= λ ms. spec.repeated place n ms) (λ n.
    ok_behind (AllByRecursion IsSized) IsSized (spec.each (map (means names) (map (λ e. e.0) parts)) needed) (spec.repeated place n)
    (each_sized (map (means names) (map (λ e. e.0) parts)) (all_held names parts) needed) (λ ms h. repeated_sized law place n ms h))
layer_sized law names sized (expr.System name a) needed =
    ok_behind IsSized IsSized (means names a.0 needed) (spec.system_on needed name) (a.1 needed) (λ m h. system_on_sized law needed name m h)

rolled_sized : ValuesFit → (names : Names) → AreSized names → (y : Expr-F (Held names) Kept) → HasSize names
    (roll-Expr (map-Expr (Held names) Kept Expr Sel (λ e. e.0) (λ s. s.0) y))
rolled_sized law names sized y needed =
    subst (λ (f : Bool → Judged). IfOk (f needed) IsSized)
    (sym (fold-roll-Expr (Bool → Judged) Select (expression_layer names) select_layer (map-Expr (Held names) Kept Expr Sel (λ e. e.0) (λ s. s.0) y)))
    (layer_sized law names sized y needed)

pub sizes_and_values_lem : ValuesFit → (names : Names) → AreSized names → (needed : Bool) (e : Expr) → IfOk (spec.meaning_of names needed e) IsSized
sizes_and_values_lem law names sized needed e =
    ind-Expr (HasSize names) (λ s. Unit {0}) (λ x y is. subst (λ z. HasSize names (roll-Expr z)) is (rolled_sized law names sized y)) (λ x y is. tt) e needed
