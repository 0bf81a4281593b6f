-- Signed numbers and the words that stand for them.
use Rattle.std.proofs.Common.{◌≡◌, ℕ, ◌+◌, ◌-◌, ◌*◌, ◌/◌, ◌%◌, ◌^◌, ◌<◌, ◌≤◌, ℤ, pos, negsuc, neg_ℤ, ◌+ℤ◌, ◌-ℤ◌, Bool, true, false, ltb, inl, inr, not, ◌==◌, refl, ap, ap₂, ◌∙◌, sym, subst, arith}
use Rattle.std.specs.Prelude.{unsigned_abs, int_div, int_rem}
use Rattle.std.specs.Int.{int_div_euclid}
use Rattle.std.specs.Int.Signed.{non_neg}
use Rattle.std.specs.Bool.{beq, Decides}
use Rattle.std.proofs.Math.Nat.{mod-eq_of_lt, div-eq_of_lt, add-mul, two-pow-succ, zero-mod}
use Rattle.std.proofs.lemmas.Nat.{pow_pos, pow-add, shr_split, mod_below, shr_below, le-div, div-mul-add}
use Rattle.std.proofs.lemmas.Int.{ints, int_rem_euclid_is}
use Rattle.std.proofs.lemmas.Bool.{lt-ltb, le-ltb, cond-true, cond-false, cases_lt, cases_Bool, both_ways, ne_eqb}
use Rattle.bit_ops.specs.Meaning.{signed_of, word_of, sign_bits_of, sext_of, div_s_of, mod_s_of, shr_s_of, magnitude_of, slice_of}
use Rattle.bit_ops.proofs.Words.{pow_le, wider}

-- a whole number and what is left of it modulo 2 ^ w
pub word_up : (w k m : ℕ) (z : ℤ) → z +ℤ pos (k * 2 ^ w) ≡ pos m → word_of w z ≡ m % 2 ^ w
word_up w k m z e = ap unsigned_abs (int_rem_euclid_is z (pos (2 ^ w)) (2 ^ w) k m (pow_pos w) refl e)

pub word_of_pos : (w a : ℕ) → a < 2 ^ w → word_of w (pos a) ≡ a
word_of_pos w a f = mod-eq_of_lt f

pub word_of_difference : (w a b : ℕ) → b ≤ 2 ^ w → word_of w (pos a -ℤ pos b) ≡ (a + (2 ^ w - b)) % 2 ^ w
word_of_difference w a b h = word_up w 1 (a + (2 ^ w - b)) (pos a -ℤ pos b) (omega (arith, ints))

pub word_of_negated : (w a : ℕ) → a ≤ 2 ^ w → word_of w (neg_ℤ (pos a)) ≡ (0 + (2 ^ w - a)) % 2 ^ w
word_of_negated w a h = word_up w 1 (0 + (2 ^ w - a)) (neg_ℤ (pos a)) (omega (arith, ints))

-- ---- the two halves of the words of w bits

pub signed_low : (w a : ℕ) → a < 2 ^ (w - 1) → signed_of w a ≡ pos a
signed_low w a h = cond-true (ltb a (2 ^ (w - 1))) (pos a) (pos a -ℤ pos (2 ^ w)) (lt-ltb a (2 ^ (w - 1)) h)

pub signed_high : (w a : ℕ) → 2 ^ (w - 1) ≤ a → signed_of w a ≡ pos a -ℤ pos (2 ^ w)
signed_high w a h = cond-false (ltb a (2 ^ (w - 1))) (pos a) (pos a -ℤ pos (2 ^ w)) (le-ltb a (2 ^ (w - 1)) h)

below_zero : (a m : ℕ) → a < m → pos a -ℤ pos m ≡ negsuc (m - 1 - a)
below_zero a m h = omega (arith, ints)

pub signed_negative : (w a : ℕ) → 2 ^ (w - 1) ≤ a → a < 2 ^ w → signed_of w a ≡ negsuc (2 ^ w - 1 - a)
signed_negative w a h f = signed_high w a h ∙ below_zero a (2 ^ w) f

-- ---- extension

pub extended_low : (n w a : ℕ) → n ≤ w → a < 2 ^ (n - 1) → a < 2 ^ n → a ≡ sext_of n w a
extended_low n w a h low f = sym (ap (word_of w) (signed_low n a low) ∙ word_of_pos w a (wider n w a h f))

pub extended_high : (n w a k m : ℕ) → n ≤ w → 2 ^ (n - 1) ≤ a → a < 2 ^ n → k ≡ 2 ^ w - 1 → m ≡ 2 ^ n - 1
    → a + (k - m) ≡ sext_of n w a
extended_high n w a k m h high f e d =
    let g : 2 ^ n ≤ 2 ^ w = pow_le n w h in
    let fits : a + (2 ^ w - 2 ^ n) < 2 ^ w = omega arith in
    let same : a + (k - m) ≡ a + (2 ^ w - 2 ^ n) = omega (arith, pow_pos n) in
    same ∙ sym (ap (word_of w) (signed_high n a high) ∙ word_of_difference w a (2 ^ n) g ∙ mod-eq_of_lt fits)

-- ---- division toward zero, by signs

quotient_of_same : (x y : ℤ) → non_neg x ≡ non_neg y → int_div x y ≡ pos (unsigned_abs x / unsigned_abs y)
quotient_of_same (pos a) (pos b) e = refl
quotient_of_same (pos a) (negsuc b) e = cc
quotient_of_same (negsuc a) (pos b) e = cc
quotient_of_same (negsuc a) (negsuc b) e = refl

quotient_of_other : (x y : ℤ) → (non_neg x ≡ non_neg y → ⊥) → int_div x y ≡ neg_ℤ (pos (unsigned_abs x / unsigned_abs y))
quotient_of_other (pos a) (pos b) e = absurd (e refl)
quotient_of_other (pos a) (negsuc b) e = refl
quotient_of_other (negsuc a) (pos b) e = refl
quotient_of_other (negsuc a) (negsuc b) e = absurd (e refl)

remainder_above : (x y : ℤ) → non_neg x ≡ true → int_rem x y ≡ pos (unsigned_abs x % unsigned_abs y)
remainder_above (pos a) y e = refl
remainder_above (negsuc a) y e = cc

remainder_below : (x y : ℤ) → non_neg x ≡ false → int_rem x y ≡ neg_ℤ (pos (unsigned_abs x % unsigned_abs y))
remainder_below (pos a) y e = cc
remainder_below (negsuc a) y e = refl

-- a flag that says whether the word is in the upper half is the sign of its number
flag_sign : (w a : ℕ) (r : Bool) → a < 2 ^ w → Decides r (2 ^ (w - 1) ≤ a) → non_neg (signed_of w a) ≡ not r
flag_sign w a r f decides =
    elim (cases_Bool r) as (λ _. non_neg (signed_of w a) ≡ not r) [
      | inl e ↦ ap non_neg (signed_negative w a (decides.0 e) f) ∙ sym (ap not e)
      | inr e ↦
          elim (cases_lt a (2 ^ (w - 1))) as (λ _. non_neg (signed_of w a) ≡ not r) [
            | inl h ↦ ap non_neg (signed_low w a h) ∙ sym (ap not e)
            | inr h ↦ absurd (both_ways r e (decides.1 h))
          ]
    ]

same_flags : (r s : Bool) → beq r s ≡ true → r ≡ s
same_flags true true e = refl
same_flags true false e = cc
same_flags false true e = cc
same_flags false false e = refl

-- the quotient of the magnitudes m and n is that of two numbers of one sign
pub quotient_same_sign : (w v a b m n q : ℕ) (r s : Bool) → v ≡ w → a < 2 ^ w → b < 2 ^ v → (b ≡ 0 → ⊥)
    → Decides r (2 ^ (w - 1) ≤ a) → Decides s (2 ^ (v - 1) ≤ b) → beq r s ≡ true
    → q < 2 ^ w → m ≡ magnitude_of w a → n ≡ magnitude_of v b → q ≡ m / n → q ≡ div_s_of w a b
quotient_same_sign w v a b m n q r s same f g ne ra sb rs fits em en e =
    let b_fits : b < 2 ^ w = subst (λ (k : ℕ). b < 2 ^ k) same g in
    let b_sign : Decides s (2 ^ (w - 1) ≤ b) = subst (λ (k : ℕ). Decides s (2 ^ (k - 1) ≤ b)) same sb in
    let signs : non_neg (signed_of w a) ≡ non_neg (signed_of w b) =
    flag_sign w a r f ra ∙ ap not (same_flags r s rs) ∙ sym (flag_sign w b s b_fits b_sign) in
    let magnitudes : q ≡ magnitude_of w a / magnitude_of w b =
    e ∙ ap₂ (λ x y. x / y) em (en ∙ ap (λ k. magnitude_of k b) same) in
    let quotient : word_of w (int_div (signed_of w a) (signed_of w b)) ≡ q =
    ap (word_of w) (quotient_of_same (signed_of w a) (signed_of w b) signs) ∙ ap (λ k. k % 2 ^ w) (sym magnitudes)
    ∙ mod-eq_of_lt fits in
    sym (cond-false (b == 0) 0 (word_of w (int_div (signed_of w a) (signed_of w b))) (ne_eqb b 0 ne) ∙ quotient)

-- the remainder of the magnitudes m and n is that of a dividend that is not negative
pub remainder_positive : (w v a b m n q : ℕ) (r : Bool) → v ≡ w → a < 2 ^ w → (b ≡ 0 → ⊥)
    → Decides r (2 ^ (w - 1) ≤ a) → r ≡ false
    → q < 2 ^ w → m ≡ magnitude_of w a → n ≡ magnitude_of v b → q ≡ m % n → q ≡ mod_s_of w a b
remainder_positive w v a b m n q r same f ne ra off fits em en e =
    let sign : non_neg (signed_of w a) ≡ true = flag_sign w a r f ra ∙ ap not off in
    let magnitudes : q ≡ magnitude_of w a % magnitude_of w b =
    e ∙ ap₂ (λ x y. x % y) em (en ∙ ap (λ k. magnitude_of k b) same) in
    let remainder : word_of w (int_rem (signed_of w a) (signed_of w b)) ≡ q =
    ap (word_of w) (remainder_above (signed_of w a) (signed_of w b) sign) ∙ ap (λ k. k % 2 ^ w) (sym magnitudes)
    ∙ mod-eq_of_lt fits in
    sym (cond-false (b == 0) 0 (word_of w (int_rem (signed_of w a) (signed_of w b))) (ne_eqb b 0 ne) ∙ remainder)

-- ---- shifts to the right that keep the sign

-- with its lowest bits cut off, the other way round
pub complement_shifted : (w k a : ℕ) → k ≤ w → a < 2 ^ w → (2 ^ w - 1 - a) / 2 ^ k ≡ 2 ^ (w - k) - 1 - a / 2 ^ k
complement_shifted w k a h f =
    let q : ℕ = a / 2 ^ k in
    let d : ℕ = 2 ^ (w - k) - 1 - a / 2 ^ k in
    let below : a / 2 ^ k < 2 ^ (w - k) = shr_below a (w - k) k (subst (λ (j : ℕ). a < 2 ^ j) (omega arith) f) in
    let parts : 2 ^ w ≡ 2 ^ (w - k) * 2 ^ k = ap (λ j. 2 ^ j) (omega arith) ∙ pow-add 2 (w - k) k in
    let sum : 2 ^ (w - k) ≡ d + 1 + a / 2 ^ k = omega arith in
    let spread : (d + 1 + a / 2 ^ k) * 2 ^ k ≡ d * 2 ^ k + 1 * 2 ^ k + a / 2 ^ k * 2 ^ k =
    add-mul (d + 1) (a / 2 ^ k) (2 ^ k) ∙ ap (λ j. j + a / 2 ^ k * 2 ^ k) (add-mul d 1 (2 ^ k)) in
    let whole : 2 ^ w ≡ d * 2 ^ k + 1 * 2 ^ k + a / 2 ^ k * 2 ^ k = parts ∙ ap (λ j. j * 2 ^ k) sum ∙ spread in
    let rest : a % 2 ^ k < 2 ^ k = mod_below a (2 ^ k) (pow_pos k) in
    let apart : 2 ^ w - 1 - a ≡ d * 2 ^ k + (2 ^ k - 1 - a % 2 ^ k) = omega (arith, shr_split a k) in
    ap (λ j. j / 2 ^ k) apart ∙ div-mul-add d (2 ^ k) (2 ^ k - 1 - a % 2 ^ k) (omega (arith, pow_pos k))

pub cut_whole : (w k a : ℕ) → k ≤ w → a < 2 ^ w → slice_of k (w - k) a ≡ a / 2 ^ k
cut_whole w k a h f = mod-eq_of_lt (shr_below a (w - k) k (subst (λ (j : ℕ). a < 2 ^ j) (omega arith) f))

-- the bits from k on, as a signed number: the signed number divided by 2 ^ k, rounded down
pub signed_shifted : (w k a : ℕ) → k < w → a < 2 ^ w
    → signed_of (w - k) (slice_of k (w - k) a) ≡ int_div_euclid (signed_of w a) (pos (2 ^ k))
signed_shifted w k a h f =
    let below : a / 2 ^ k < 2 ^ (w - k) = shr_below a (w - k) k (subst (λ (j : ℕ). a < 2 ^ j) (omega arith) f) in
    let half : 2 ^ (w - 1) ≡ 2 ^ (w - k - 1) * 2 ^ k = ap (λ j. 2 ^ j) (omega arith) ∙ pow-add 2 (w - k - 1) k in
    ap (signed_of (w - k)) (cut_whole w k a (omega arith) f) ∙
    elim (cases_lt a (2 ^ (w - 1))) as (λ _. signed_of (w - k) (a / 2 ^ k) ≡ int_div_euclid (signed_of w a) (pos (2 ^ k))) [
      | inl low ↦
          signed_low (w - k) (a / 2 ^ k) (shr_below a (w - k - 1) k (subst (λ (j : ℕ). a < 2 ^ j) (omega arith) low))
          ∙ sym (ap (λ z. int_div_euclid z (pos (2 ^ k))) (signed_low w a low))
      | inr high ↦
          signed_negative (w - k) (a / 2 ^ k) (le-div (2 ^ (w - k - 1)) a (2 ^ k) (pow_pos k) (omega arith)) below
          ∙ ap negsuc (sym (complement_shifted w k a (omega arith) f))
          ∙ sym (ap (λ z. int_div_euclid z (pos (2 ^ k))) (signed_negative w a high f))
    ]

-- the number of the sign bit alone
all_shifted : (w a : ℕ) → 1 ≤ w → a < 2 ^ w
    → word_of w (int_div_euclid (signed_of w a) (pos (2 ^ (w - 1)))) ≡ sign_bits_of w a
all_shifted w a h f =
    let twice : 2 ^ w ≡ 2 ^ (w - 1) + 2 ^ (w - 1) = ap (λ j. 2 ^ j) (omega arith) ∙ two-pow-succ (w - 1) in
    let half : ℕ = 2 ^ (w - 1) in
    elim (cases_lt a (2 ^ (w - 1))) as (λ _. word_of w (int_div_euclid (signed_of w a) (pos (2 ^ (w - 1)))) ≡ sign_bits_of w a) [
      | inl low ↦
          ap (λ z. word_of w (int_div_euclid z (pos (2 ^ (w - 1))))) (signed_low w a low)
          ∙ ap (λ j. j % 2 ^ w) (div-eq_of_lt low) ∙ zero-mod (2 ^ w)
          ∙ sym (cond-true (ltb a (2 ^ (w - 1))) 0 (2 ^ w - 1) (lt-ltb a (2 ^ (w - 1)) low))
      | inr high ↦
          ap (λ z. word_of w (int_div_euclid z (pos (2 ^ (w - 1))))) (signed_negative w a high f)
          ∙ ap (λ j. 2 ^ w - 1 - j % 2 ^ w) (div-eq_of_lt (omega arith)) ∙ ap (λ j. 2 ^ w - 1 - j) (zero-mod (2 ^ w)) ∙ omega arith
          ∙ sym (cond-false (ltb a (2 ^ (w - 1))) 0 (2 ^ w - 1) (le-ltb a (2 ^ (w - 1)) high))
    ]

extended_part : (w a k n x y : ℕ) → n ≡ w - k → x ≡ slice_of k (w - k) a → y ≡ sext_of n w x → k < w → a < 2 ^ w
    → y ≡ word_of w (int_div_euclid (signed_of w a) (pos (2 ^ k)))
extended_part w a k n x y width part word h f =
    word ∙ ap (λ j. sext_of j w x) width ∙ ap (sext_of (w - k) w) part ∙ ap (word_of w) (signed_shifted w k a h f)

pub shifted_below : (w a b k n x y : ℕ) → k ≡ b → b < w → a < 2 ^ w → n ≡ w - k → x ≡ slice_of k (w - k) a
    → y ≡ sext_of n w x → y ≡ shr_s_of w a b
shifted_below w a b k n x y same h f width part word =
    extended_part w a k n x y width part word (omega arith) f
    ∙ ap (λ j. word_of w (int_div_euclid (signed_of w a) (pos (2 ^ j)))) same
    ∙ sym (cond-true (ltb b w) (word_of w (int_div_euclid (signed_of w a) (pos (2 ^ b)))) (sign_bits_of w a) (lt-ltb b w h))

pub shifted_past : (w a b k n x y : ℕ) → k ≡ w - 1 → 1 ≤ w → w ≤ b → a < 2 ^ w → n ≡ w - k → x ≡ slice_of k (w - k) a
    → y ≡ sext_of n w x → y ≡ shr_s_of w a b
shifted_past w a b k n x y same one h f width part word =
    extended_part w a k n x y width part word (omega arith) f
    ∙ ap (λ j. word_of w (int_div_euclid (signed_of w a) (pos (2 ^ j)))) same ∙ all_shifted w a one f
    ∙ sym (cond-false (ltb b w) (word_of w (int_div_euclid (signed_of w a) (pos (2 ^ b)))) (sign_bits_of w a) (le-ltb b w h))
