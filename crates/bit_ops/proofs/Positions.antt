-- The bits of each operation's result, by their positions.
use Rattle.std.proofs.Common.{◌≡◌, ℕ, ◌+◌, ◌-◌, ◌*◌, ◌/◌, ◌%◌, ◌^◌, ◌<◌, ◌≤◌, ltb, inl, inr, refl, ap, ◌∙◌, sym, subst, arith}
use Rattle.std.specs.Int.{bit_at}
use Rattle.std.proofs.Math.Nat.{add-mul, div-eq_of_lt, div-eq_of_lt-le, two-pow-succ}
use Rattle.std.proofs.lemmas.Nat.{pow_pos, pow-add, shr-shr, field_of, shr_below, mod_below}
use Rattle.std.proofs.lemmas.Nat.Bits.{bit_at_cat_low, bit_at_cat_high, bit_at_above, bit_at_ones, bit_at-zero}
use Rattle.std.proofs.lemmas.Bool.{lt-ltb, le-ltb, cond-true, cond-false, cases_lt}
use Rattle.bit_ops.specs.Meaning.{sext_of, slice_of, concat_of, insert_of, not_of, shl_of, shr_u_of, shr_s_of}
use Rattle.bit_ops.proofs.Words.{cut_twice, regroup, placed_fits}
use Rattle.bit_ops.proofs.Signed.{extended_low, extended_high, complement_shifted, shifted_below, shifted_past}

-- cut to w bits
pub bit_at-cut : (w a i : ℕ) → i < w → bit_at (a % 2 ^ w) i ≡ bit_at a i
bit_at-cut w a i h =
    let e : w ≡ (w - i) + i = omega arith in
    ap (λ k. a % 2 ^ k / 2 ^ i % 2) e ∙ ap (λ k. k % 2) (field_of a (w - i) i)
    ∙ cut_twice (w - i) 1 (a / 2 ^ i) (omega arith)

-- from lo on
pub bit_at-shifted : (lo a i : ℕ) → bit_at (a / 2 ^ lo) i ≡ bit_at a (lo + i)
bit_at-shifted lo a i = ap (λ k. k % 2) (shr-shr a lo i)

pub bit_at-slice : (lo w a i : ℕ) → i < w → bit_at (slice_of lo w a) i ≡ bit_at a (lo + i)
bit_at-slice lo w a i h = bit_at-cut w (a / 2 ^ lo) i h ∙ bit_at-shifted lo a i

pub bit_at-concat_low : (n a b i : ℕ) → i < n → bit_at (concat_of n a b) i ≡ bit_at b i
bit_at-concat_low n a b i h = bit_at_cat_low a n b i h

pub bit_at-concat_high : (n a b i : ℕ) → b < 2 ^ n → n ≤ i → bit_at (concat_of n a b) i ≡ bit_at a (i - n)
bit_at-concat_high n a b i f h = bit_at_cat_high a n b i f h

pub bit_at-insert_below : (lo n a b i : ℕ) → i < lo → bit_at (insert_of lo n a b) i ≡ bit_at a i
bit_at-insert_below lo n a b i h =
    ap (λ k. bit_at k i) (regroup lo n a b)
    ∙ bit_at_cat_low (a / 2 ^ (lo + n)) (lo + n) (b * 2 ^ lo + a % 2 ^ lo) i (omega arith)
    ∙ bit_at_cat_low b lo (a % 2 ^ lo) i h ∙ bit_at-cut lo a i h

pub bit_at-insert_inside : (lo n a b i : ℕ) → lo ≤ i → i < lo + n → bit_at (insert_of lo n a b) i ≡ bit_at b (i - lo)
bit_at-insert_inside lo n a b i h k =
    ap (λ k. bit_at k i) (regroup lo n a b)
    ∙ bit_at_cat_low (a / 2 ^ (lo + n)) (lo + n) (b * 2 ^ lo + a % 2 ^ lo) i k
    ∙ bit_at_cat_high b lo (a % 2 ^ lo) i (mod_below a (2 ^ lo) (pow_pos lo)) h

pub bit_at-insert_above : (lo n a b i : ℕ) → b < 2 ^ n → lo + n ≤ i → bit_at (insert_of lo n a b) i ≡ bit_at a i
bit_at-insert_above lo n a b i f h =
    ap (λ k. bit_at k i) (regroup lo n a b)
    ∙ bit_at_cat_high (a / 2 ^ (lo + n)) (lo + n) (b * 2 ^ lo + a % 2 ^ lo) i (placed_fits lo n a b f) h
    ∙ bit_at-shifted (lo + n) a (i - (lo + n)) ∙ ap (bit_at a) (omega arith)

-- the sign bit
pub top_clear : (n a : ℕ) → a < 2 ^ (n - 1) → bit_at a (n - 1) ≡ 0
top_clear n a h = ap (λ k. k % 2) (div-eq_of_lt h)

pub top_set : (n a : ℕ) → 1 ≤ n → 2 ^ (n - 1) ≤ a → a < 2 ^ n → bit_at a (n - 1) ≡ 1
top_set n a one h f =
    let twice : 2 ^ n ≡ 2 ^ (n - 1) + 2 ^ (n - 1) = ap (λ j. 2 ^ j) (omega arith) ∙ two-pow-succ (n - 1) in
    let once : 1 * 2 ^ (n - 1) ≤ a = omega arith in
    let less : a < (1 + 1) * 2 ^ (n - 1) = omega arith in
    ap (λ k. k % 2) (div-eq_of_lt-le {k = 1} (2 ^ (n - 1)) once less)

-- with sign bits above: ones above the n bits
ones_above : (n w a : ℕ) → n ≤ w → 2 ^ (n - 1) ≤ a → a < 2 ^ n → sext_of n w a ≡ (2 ^ (w - n) - 1) * 2 ^ n + a
ones_above n w a h high f =
    let p : ℕ = 2 ^ (w - n) - 1 in
    let one : 2 ^ (w - n) ≡ p + 1 = omega (arith, pow_pos (w - n)) in
    let parts : 2 ^ w ≡ p * 2 ^ n + 1 * 2 ^ n =
    ap (λ k. 2 ^ k) (omega arith) ∙ pow-add 2 (w - n) n ∙ ap (λ k. k * 2 ^ n) one ∙ add-mul p 1 (2 ^ n) in
    sym (extended_high n w a (2 ^ w - 1) (2 ^ n - 1) h high f refl refl) ∙ omega (arith, pow_pos n)

pub bit_at-sext_low : (n w a i : ℕ) → n ≤ w → a < 2 ^ n → i < n → bit_at (sext_of n w a) i ≡ bit_at a i
bit_at-sext_low n w a i h f k =
    elim (cases_lt a (2 ^ (n - 1))) as (λ _. bit_at (sext_of n w a) i ≡ bit_at a i) [
      | inl low ↦ ap (λ x. bit_at x i) (sym (extended_low n w a h low f))
      | inr high ↦ ap (λ x. bit_at x i) (ones_above n w a h high f) ∙ bit_at_cat_low (2 ^ (w - n) - 1) n a i k
    ]

pub bit_at-sext_high : (n w a i : ℕ) → 1 ≤ n → n ≤ w → a < 2 ^ n → n ≤ i → i < w → bit_at (sext_of n w a) i ≡ bit_at a (n - 1)
bit_at-sext_high n w a i one h f k l =
    elim (cases_lt a (2 ^ (n - 1))) as (λ _. bit_at (sext_of n w a) i ≡ bit_at a (n - 1)) [
      | inl low ↦ ap (λ x. bit_at x i) (sym (extended_low n w a h low f)) ∙ bit_at_above a n i f k ∙ sym (top_clear n a low)
      | inr high ↦
          ap (λ x. bit_at x i) (ones_above n w a h high f) ∙ bit_at_cat_high (2 ^ (w - n) - 1) n a i f k
          ∙ bit_at_ones (w - n) (i - n) (omega arith) ∙ sym (top_set n a one high f)
    ]

pub bit_at-not : (w a i : ℕ) → a < 2 ^ w → i < w → bit_at (not_of w a) i ≡ 1 - bit_at a i
bit_at-not w a i f h =
    let twice : 2 ^ (w - i) ≡ 2 ^ (w - i - 1) + 2 ^ (w - i - 1) =
    ap (λ j. 2 ^ j) (omega arith) ∙ two-pow-succ (w - i - 1) in
    let below : a / 2 ^ i < 2 ^ (w - i) = shr_below a (w - i) i (subst (λ (j : ℕ). a < 2 ^ j) (omega arith) f) in
    let parity : (2 ^ (w - i) - 1 - a / 2 ^ i) % 2 ≡ 1 - a / 2 ^ i % 2 = omega arith in
    ap (λ k. k % 2) (complement_shifted w i a (omega arith) f) ∙ parity

pub bit_at-shl_below : (w a b i : ℕ) → i < b → i < w → bit_at (shl_of w a b) i ≡ 0
bit_at-shl_below w a b i h k =
    elim (cases_lt b w) as (λ _. bit_at (shl_of w a b) i ≡ 0) [
      | inl l ↦
          ap (λ x. bit_at x i) (cond-true (ltb b w) (a * 2 ^ b % 2 ^ w) 0 (lt-ltb b w l)) ∙ bit_at-cut w (a * 2 ^ b) i k
          ∙ ap (λ x. bit_at x i) (omega arith) ∙ bit_at_cat_low a b 0 i h ∙ bit_at-zero i
      | inr l ↦ ap (λ x. bit_at x i) (cond-false (ltb b w) (a * 2 ^ b % 2 ^ w) 0 (le-ltb b w l)) ∙ bit_at-zero i
    ]

pub bit_at-shl_above : (w a b i : ℕ) → b ≤ i → i < w → bit_at (shl_of w a b) i ≡ bit_at a (i - b)
bit_at-shl_above w a b i h k =
    ap (λ x. bit_at x i) (cond-true (ltb b w) (a * 2 ^ b % 2 ^ w) 0 (lt-ltb b w (omega arith))) ∙ bit_at-cut w (a * 2 ^ b) i k
    ∙ ap (λ x. bit_at x i) (omega arith) ∙ bit_at_cat_high a b 0 i (pow_pos b) h

-- past the end a word's bits are 0, so this says too that the highest b bits of the result are 0
pub bit_at-shr_u : (w a b i : ℕ) → a < 2 ^ w → bit_at (shr_u_of w a b) i ≡ bit_at a (b + i)
bit_at-shr_u w a b i f =
    elim (cases_lt b w) as (λ _. bit_at (shr_u_of w a b) i ≡ bit_at a (b + i)) [
      | inl l ↦ ap (λ x. bit_at x i) (cond-true (ltb b w) (a / 2 ^ b) 0 (lt-ltb b w l)) ∙ bit_at-shifted b a i
      | inr l ↦
          ap (λ x. bit_at x i) (cond-false (ltb b w) (a / 2 ^ b) 0 (le-ltb b w l)) ∙ bit_at-zero i
          ∙ sym (bit_at_above a w (b + i) f (omega arith))
    ]

-- the arithmetic shift is the sign extension of the bits that stay
pub shr_s-sext : (w a b : ℕ) → b < w → a < 2 ^ w → shr_s_of w a b ≡ sext_of (w - b) w (slice_of b (w - b) a)
shr_s-sext w a b h f =
    sym (shifted_below w a b b (w - b) (slice_of b (w - b) a) (sext_of (w - b) w (slice_of b (w - b) a)) refl h f refl refl refl)

pub slice_fits : (lo w a : ℕ) → slice_of lo w a < 2 ^ w
slice_fits lo w a = mod_below (a / 2 ^ lo) (2 ^ w) (pow_pos w)

pub bit_at-shr_s_inside : (w a b i : ℕ) → a < 2 ^ w → b + i < w → bit_at (shr_s_of w a b) i ≡ bit_at a (b + i)
bit_at-shr_s_inside w a b i f h =
    ap (λ x. bit_at x i) (shr_s-sext w a b (omega arith) f)
    ∙ bit_at-sext_low (w - b) w (slice_of b (w - b) a) i (omega arith) (slice_fits b (w - b) a) (omega arith)
    ∙ bit_at-slice b (w - b) a i (omega arith)

sign_kept : (w a b i : ℕ) → b < w → a < 2 ^ w → i < w → w ≤ b + i → bit_at (shr_s_of w a b) i ≡ bit_at a (w - 1)
sign_kept w a b i h f k l =
    ap (λ x. bit_at x i) (shr_s-sext w a b h f)
    ∙ bit_at-sext_high (w - b) w (slice_of b (w - b) a) i (omega arith) (omega arith) (slice_fits b (w - b) a) (omega arith) k
    ∙ bit_at-slice b (w - b) a (w - b - 1) (omega arith) ∙ ap (bit_at a) (omega arith)

sign_only : (w a b i : ℕ) → w ≤ b → a < 2 ^ w → i < w → bit_at (shr_s_of w a b) i ≡ bit_at a (w - 1)
sign_only w a b i h f k =
    ap (λ x. bit_at x i) (sym (shifted_past w a b (w - 1) (w - (w - 1)) (slice_of (w - 1) (w - (w - 1)) a)
    (sext_of (w - (w - 1)) w (slice_of (w - 1) (w - (w - 1)) a)) refl (omega arith) h f refl refl refl)
    ∙ shifted_below w a (w - 1) (w - 1) (w - (w - 1)) (slice_of (w - 1) (w - (w - 1)) a)
    (sext_of (w - (w - 1)) w (slice_of (w - 1) (w - (w - 1)) a)) refl (omega arith) f refl refl refl)
    ∙ first i k
  where
    first : (i : ℕ) → i < w → bit_at (shr_s_of w a (w - 1)) i ≡ bit_at a (w - 1)
    first i k =
        elim (cases_lt ((w - 1) + i) w) as (λ _. bit_at (shr_s_of w a (w - 1)) i ≡ bit_at a (w - 1)) [
          | inl l ↦ bit_at-shr_s_inside w a (w - 1) i f l ∙ ap (bit_at a) (omega arith)
          | inr l ↦ sign_kept w a (w - 1) i (omega arith) f k l
        ]

pub bit_at-shr_s_past : (w a b i : ℕ) → a < 2 ^ w → i < w → w ≤ b + i → bit_at (shr_s_of w a b) i ≡ bit_at a (w - 1)
bit_at-shr_s_past w a b i f k l =
    elim (cases_lt b w) as (λ _. bit_at (shr_s_of w a b) i ≡ bit_at a (w - 1)) [
      | inl h ↦ sign_kept w a b i h f k l
      | inr h ↦ sign_only w a b i h f k
    ]
