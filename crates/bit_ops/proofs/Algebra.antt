-- How the operations undo and repeat one another.
use Rattle.std.proofs.Common.{◌≡◌, ℕ, ◌+◌, ◌-◌, ◌*◌, ◌/◌, ◌%◌, ◌^◌, ◌<◌, ◌≤◌, ℤ, pos, negsuc, neg_ℤ, ltb, cond, inl, inr, refl, ap, ap₂, ◌∙◌, sym, subst, arith}
use Rattle.std.specs.Prelude.{int_lt, ◌≤ℤ◌, ◌<ℤ◌}
use Rattle.std.specs.Int.{bit_at}
use Rattle.std.proofs.Math.Nat.{mod-eq_of_lt, div-eq_of_lt, add-mul, mul_assoc, div-one, mod-one, two-pow-succ}
use Rattle.std.proofs.lemmas.Nat.{pow_pos, pow-add, shr-shr, mod_below, mod-pow-add}
use Rattle.std.proofs.lemmas.Nat.Bits.{same_from_bits_below, same_from_bits}
use Rattle.std.proofs.lemmas.Int.{ints}
use Rattle.std.proofs.lemmas.Bool.{lt-ltb, le-ltb, cond-true, cond-false, cases_lt}
use Rattle.bit_ops.specs.Meaning.{signed_of, word_of, zext_of, sext_of, slice_of, concat_of, insert_of, shr_u_of, lt_u_of, lt_s_of}
use Rattle.bit_ops.proofs.Words.{wider, pow_le, three_parts, regroup, joined_fits}
use Rattle.bit_ops.proofs.Signed.{signed_low, signed_high, signed_negative, word_of_pos, word_of_difference, cut_whole, extended_low, extended_high}
use Rattle.bit_ops.proofs.Positions.{bit_at-slice, bit_at-concat_low, bit_at-concat_high, bit_at-insert_below, bit_at-insert_inside, bit_at-insert_above, bit_at-sext_low, slice_fits}

-- ---- signed numbers and words

pub word_of_signed : (w a : ℕ) → a < 2 ^ w → word_of w (signed_of w a) ≡ a
word_of_signed w a f =
    elim (cases_lt a (2 ^ (w - 1))) as (λ _. word_of w (signed_of w a) ≡ a) [
      | inl low ↦ ap (word_of w) (signed_low w a low) ∙ word_of_pos w a f
      | inr high ↦
          ap (word_of w) (signed_high w a high) ∙ word_of_difference w a (2 ^ w) (omega arith)
          ∙ ap (λ k. k % 2 ^ w) (omega arith) ∙ mod-eq_of_lt f
    ]

pub word_of_fits : (w : ℕ) (z : ℤ) → word_of w z < 2 ^ w
word_of_fits w (pos a) = mod_below a (2 ^ w) (pow_pos w)
word_of_fits w (negsuc a) = omega (arith, pow_pos w)

pub signed_extended : (n w a : ℕ) → 1 ≤ n → n ≤ w → a < 2 ^ n → signed_of w (sext_of n w a) ≡ signed_of n a
signed_extended n w a one h f =
    let wide : 2 ^ w ≡ 2 ^ (w - 1) + 2 ^ (w - 1) = ap (λ j. 2 ^ j) (omega arith) ∙ two-pow-succ (w - 1) in
    let narrow : 2 ^ n ≡ 2 ^ (n - 1) + 2 ^ (n - 1) = ap (λ j. 2 ^ j) (omega arith) ∙ two-pow-succ (n - 1) in
    let halves : 2 ^ (n - 1) ≤ 2 ^ (w - 1) = pow_le (n - 1) (w - 1) (omega arith) in
    elim (cases_lt a (2 ^ (n - 1))) as (λ _. signed_of w (sext_of n w a) ≡ signed_of n a) [
      | inl low ↦
          ap (signed_of w) (sym (extended_low n w a h low f)) ∙ signed_low w a (omega arith) ∙ sym (signed_low n a low)
      | inr high ↦
          ap (signed_of w) (sym (extended_high n w a (2 ^ w - 1) (2 ^ n - 1) h high f refl refl))
          ∙ signed_high w (a + (2 ^ w - 1 - (2 ^ n - 1))) (omega (arith, pow_pos n)) ∙ omega (arith, ints)
          ∙ sym (signed_high n a high)
    ]

-- the signed numbers of w bits are those from -2 ^ (w - 1) up to 2 ^ (w - 1), without the latter
pub signed_within : (w a : ℕ) → 1 ≤ w → a < 2 ^ w
    → (neg_ℤ (pos (2 ^ (w - 1))) ≤ℤ signed_of w a) × (signed_of w a <ℤ pos (2 ^ (w - 1)))
signed_within w a one f =
    let wide : 2 ^ w ≡ 2 ^ (w - 1) + 2 ^ (w - 1) = ap (λ j. 2 ^ j) (omega arith) ∙ two-pow-succ (w - 1) in
    elim (cases_lt a (2 ^ (w - 1))) as (λ _. (neg_ℤ (pos (2 ^ (w - 1))) ≤ℤ signed_of w a) × (signed_of w a <ℤ pos (2 ^ (w - 1)))) [
      | inl low ↦ (let e : signed_of w a ≡ pos a = signed_low w a low in (rw e (omega (arith, ints)), rw e (omega (arith, ints))))
      | inr high ↦
          (let e : signed_of w a ≡ negsuc (2 ^ w - 1 - a) = signed_negative w a high f in
          (rw e (omega (arith, ints)), rw e (omega (arith, ints))))
    ]

pub signed_word : (w : ℕ) (z : ℤ) → 1 ≤ w → neg_ℤ (pos (2 ^ (w - 1))) ≤ℤ z → z <ℤ pos (2 ^ (w - 1))
    → signed_of w (word_of w z) ≡ z
signed_word w (pos n) one h k =
    let below : n < 2 ^ (w - 1) = omega (arith, ints) in
    ap (signed_of w) (word_of_pos w n (wider (w - 1) w n (omega arith) below)) ∙ signed_low w n below
signed_word w (negsuc n) one h k =
    let wide : 2 ^ w ≡ 2 ^ (w - 1) + 2 ^ (w - 1) = ap (λ j. 2 ^ j) (omega arith) ∙ two-pow-succ (w - 1) in
    let below : n < 2 ^ (w - 1) = omega (arith, ints) in
    let whole : n % 2 ^ w ≡ n = mod-eq_of_lt (omega arith) in
    ap (λ j. signed_of w (2 ^ w - 1 - j)) whole
    ∙ signed_negative w (2 ^ w - 1 - n) (omega arith) (omega (arith, pow_pos w)) ∙ ap negsuc (omega arith)

-- ---- extension and cutting

pub slice_lowest : (n a : ℕ) → slice_of 0 n a ≡ a % 2 ^ n
slice_lowest n a = ap (λ k. k % 2 ^ n) (div-one a)

pub slice-zext : (n a : ℕ) → a < 2 ^ n → slice_of 0 n (zext_of a) ≡ a
slice-zext n a f = ap (λ k. k % 2 ^ n) (div-one a) ∙ mod-eq_of_lt f

pub slice-sext : (n w a : ℕ) → n ≤ w → a < 2 ^ n → slice_of 0 n (sext_of n w a) ≡ a
slice-sext n w a h f =
    same_from_bits_below n (slice_of 0 n (sext_of n w a)) a (slice_fits 0 n (sext_of n w a)) f
    (λ i k. bit_at-slice 0 n (sext_of n w a) i k ∙ bit_at-sext_low n w a (0 + i) h f (omega arith) ∙ ap (bit_at a) (omega arith))

pub sext-sext : (n m w a : ℕ) → 1 ≤ n → n ≤ m → m ≤ w → a < 2 ^ n → sext_of m w (sext_of n m a) ≡ sext_of n w a
sext-sext n m w a one h k f = ap (word_of w) (signed_extended n m a one h f)

-- ---- parts of parts

pub slice-slice : (lo w from n a : ℕ) → lo + w ≤ n → slice_of lo w (slice_of from n a) ≡ slice_of (from + lo) w a
slice-slice lo w from n a h =
    same_from_bits_below w (slice_of lo w (slice_of from n a)) (slice_of (from + lo) w a)
    (slice_fits lo w (slice_of from n a)) (slice_fits (from + lo) w a)
    (λ i k. bit_at-slice lo w (slice_of from n a) i k ∙ bit_at-slice from n a (lo + i) (omega arith)
    ∙ ap (bit_at a) (omega arith) ∙ sym (bit_at-slice (from + lo) w a i k))

pub slice-concat_low : (lo w n a b : ℕ) → lo + w ≤ n → slice_of lo w (concat_of n a b) ≡ slice_of lo w b
slice-concat_low lo w n a b h =
    same_from_bits_below w (slice_of lo w (concat_of n a b)) (slice_of lo w b)
    (slice_fits lo w (concat_of n a b)) (slice_fits lo w b)
    (λ i k. bit_at-slice lo w (concat_of n a b) i k ∙ bit_at-concat_low n a b (lo + i) (omega arith)
    ∙ sym (bit_at-slice lo w b i k))

pub slice-concat_high : (lo w n a b : ℕ) → b < 2 ^ n → n ≤ lo → slice_of lo w (concat_of n a b) ≡ slice_of (lo - n) w a
slice-concat_high lo w n a b f h =
    same_from_bits_below w (slice_of lo w (concat_of n a b)) (slice_of (lo - n) w a)
    (slice_fits lo w (concat_of n a b)) (slice_fits (lo - n) w a)
    (λ i k. bit_at-slice lo w (concat_of n a b) i k ∙ bit_at-concat_high n a b (lo + i) f (omega arith)
    ∙ ap (bit_at a) (omega arith) ∙ sym (bit_at-slice (lo - n) w a i k))

pub slice-concat_across : (lo w n a b : ℕ) → b < 2 ^ n → lo ≤ n → n ≤ lo + w
    → slice_of lo w (concat_of n a b) ≡ concat_of (n - lo) (slice_of 0 (lo + w - n) a) (slice_of lo (n - lo) b)
slice-concat_across lo w n a b f h k =
    let upper : ℕ = slice_of 0 (lo + w - n) a in
    let lower : ℕ = slice_of lo (n - lo) b in
    let lower_fits : slice_of lo (n - lo) b < 2 ^ (n - lo) = slice_fits lo (n - lo) b in
    let fits : concat_of (n - lo) (slice_of 0 (lo + w - n) a) (slice_of lo (n - lo) b) < 2 ^ w =
    subst (λ (j : ℕ). concat_of (n - lo) (slice_of 0 (lo + w - n) a) (slice_of lo (n - lo) b) < 2 ^ j) (omega arith)
    (joined_fits (lo + w - n) (n - lo) (slice_of 0 (lo + w - n) a) (slice_of lo (n - lo) b) (slice_fits 0 (lo + w - n) a) lower_fits) in
    same_from_bits_below w (slice_of lo w (concat_of n a b)) (concat_of (n - lo) upper lower)
    (slice_fits lo w (concat_of n a b)) fits
    (λ i l. bit_at-slice lo w (concat_of n a b) i l ∙
    elim (cases_lt i (n - lo)) as (λ _. bit_at (concat_of n a b) (lo + i) ≡ bit_at (concat_of (n - lo) upper lower) i) [
      | inl m ↦
          bit_at-concat_low n a b (lo + i) (omega arith) ∙ sym (bit_at-slice lo (n - lo) b i m)
          ∙ sym (bit_at-concat_low (n - lo) upper lower i m)
      | inr m ↦
          bit_at-concat_high n a b (lo + i) f (omega arith) ∙ ap (bit_at a) (omega arith)
          ∙ sym (bit_at-slice 0 (lo + w - n) a (i - (n - lo)) (omega arith))
          ∙ sym (bit_at-concat_high (n - lo) upper lower i lower_fits m)
    ])

pub concat-slices : (lo m n a : ℕ) → concat_of n (slice_of (lo + n) m a) (slice_of lo n a) ≡ slice_of lo (m + n) a
concat-slices lo m n a =
    ap (λ k. k % 2 ^ m * 2 ^ n + a / 2 ^ lo % 2 ^ n) (sym (shr-shr a lo n)) ∙ sym (mod-pow-add (a / 2 ^ lo) m n)

pub concat-concat : (m n a b c : ℕ) → concat_of n (concat_of m a b) c ≡ concat_of (m + n) a (concat_of n b c)
concat-concat m n a b c =
    let spread : (a * 2 ^ m + b) * 2 ^ n ≡ a * 2 ^ (m + n) + b * 2 ^ n =
    add-mul (a * 2 ^ m) b (2 ^ n)
    ∙ ap (λ k. k + b * 2 ^ n) (mul_assoc a (2 ^ m) (2 ^ n) ∙ ap (λ k. a * k) (sym (pow-add 2 m n))) in
    omega arith

-- ---- insertion

pub slice-insert : (lo n a b : ℕ) → b < 2 ^ n → slice_of lo n (insert_of lo n a b) ≡ b
slice-insert lo n a b f =
    same_from_bits_below n (slice_of lo n (insert_of lo n a b)) b (slice_fits lo n (insert_of lo n a b)) f
    (λ i k. bit_at-slice lo n (insert_of lo n a b) i k
    ∙ bit_at-insert_inside lo n a b (lo + i) (omega arith) (omega arith) ∙ ap (bit_at b) (omega arith))

pub slice-insert_below : (at w lo n a b : ℕ) → at + w ≤ lo → slice_of at w (insert_of lo n a b) ≡ slice_of at w a
slice-insert_below at w lo n a b h =
    same_from_bits_below w (slice_of at w (insert_of lo n a b)) (slice_of at w a)
    (slice_fits at w (insert_of lo n a b)) (slice_fits at w a)
    (λ i k. bit_at-slice at w (insert_of lo n a b) i k ∙ bit_at-insert_below lo n a b (at + i) (omega arith)
    ∙ sym (bit_at-slice at w a i k))

pub slice-insert_above : (at w lo n a b : ℕ) → b < 2 ^ n → lo + n ≤ at → slice_of at w (insert_of lo n a b) ≡ slice_of at w a
slice-insert_above at w lo n a b f h =
    same_from_bits_below w (slice_of at w (insert_of lo n a b)) (slice_of at w a)
    (slice_fits at w (insert_of lo n a b)) (slice_fits at w a)
    (λ i k. bit_at-slice at w (insert_of lo n a b) i k ∙ bit_at-insert_above lo n a b (at + i) f (omega arith)
    ∙ sym (bit_at-slice at w a i k))

pub insert-slice : (lo n a : ℕ) → insert_of lo n a (slice_of lo n a) ≡ a
insert-slice lo n a = regroup lo n a (slice_of lo n a) ∙ three_parts lo n a

pub insert-insert : (lo n a b c : ℕ) → b < 2 ^ n → c < 2 ^ n → insert_of lo n (insert_of lo n a b) c ≡ insert_of lo n a c
insert-insert lo n a b c f g =
    same_from_bits (insert_of lo n (insert_of lo n a b) c) (insert_of lo n a c)
    (λ i. elim (cases_lt i lo) as (λ _. bit_at (insert_of lo n (insert_of lo n a b) c) i ≡ bit_at (insert_of lo n a c) i) [
      | inl h ↦
          bit_at-insert_below lo n (insert_of lo n a b) c i h ∙ bit_at-insert_below lo n a b i h
          ∙ sym (bit_at-insert_below lo n a c i h)
      | inr h ↦
          elim (cases_lt i (lo + n)) as (λ _. bit_at (insert_of lo n (insert_of lo n a b) c) i ≡ bit_at (insert_of lo n a c) i) [
            | inl k ↦ bit_at-insert_inside lo n (insert_of lo n a b) c i h k ∙ sym (bit_at-insert_inside lo n a c i h k)
            | inr k ↦
                bit_at-insert_above lo n (insert_of lo n a b) c i g k ∙ bit_at-insert_above lo n a b i f k
                ∙ sym (bit_at-insert_above lo n a c i g k)
          ]
    ])

pub insert_whole : (n a b : ℕ) → a < 2 ^ n → insert_of 0 n a b ≡ b
insert_whole n a b f =
    let high : a / 2 ^ (0 + n) ≡ 0 = div-eq_of_lt (subst (λ (k : ℕ). a < 2 ^ k) (omega arith) f) in
    let gone : a / 2 ^ (0 + n) * 2 ^ (0 + n) ≡ 0 = ap (λ k. k * 2 ^ (0 + n)) high ∙ omega arith in
    omega (arith, mod-one a)

pub insert-insert_apart : (lo n hi m a b c : ℕ) → b < 2 ^ n → c < 2 ^ m → lo + n ≤ hi
    → insert_of lo n (insert_of hi m a c) b ≡ insert_of hi m (insert_of lo n a b) c
insert-insert_apart lo n hi m a b c f g h =
    same_from_bits (insert_of lo n (insert_of hi m a c) b) (insert_of hi m (insert_of lo n a b) c) same
  where
    below : (i : ℕ) → i < lo → bit_at (insert_of lo n (insert_of hi m a c) b) i ≡ bit_at (insert_of hi m (insert_of lo n a b) c) i
    below i k =
        bit_at-insert_below lo n (insert_of hi m a c) b i k ∙ bit_at-insert_below hi m a c i (omega arith)
        ∙ sym (bit_at-insert_below hi m (insert_of lo n a b) c i (omega arith) ∙ bit_at-insert_below lo n a b i k)

    first : (i : ℕ) → lo ≤ i → i < lo + n → bit_at (insert_of lo n (insert_of hi m a c) b) i ≡ bit_at (insert_of hi m (insert_of lo n a b) c) i
    first i k l =
        bit_at-insert_inside lo n (insert_of hi m a c) b i k l
        ∙ sym (bit_at-insert_below hi m (insert_of lo n a b) c i (omega arith) ∙ bit_at-insert_inside lo n a b i k l)

    between : (i : ℕ) → lo + n ≤ i → i < hi → bit_at (insert_of lo n (insert_of hi m a c) b) i ≡ bit_at (insert_of hi m (insert_of lo n a b) c) i
    between i k l =
        bit_at-insert_above lo n (insert_of hi m a c) b i f k ∙ bit_at-insert_below hi m a c i l
        ∙ sym (bit_at-insert_below hi m (insert_of lo n a b) c i l ∙ bit_at-insert_above lo n a b i f k)

    second : (i : ℕ) → hi ≤ i → i < hi + m → bit_at (insert_of lo n (insert_of hi m a c) b) i ≡ bit_at (insert_of hi m (insert_of lo n a b) c) i
    second i k l =
        bit_at-insert_above lo n (insert_of hi m a c) b i f (omega arith) ∙ bit_at-insert_inside hi m a c i k l
        ∙ sym (bit_at-insert_inside hi m (insert_of lo n a b) c i k l)

    above : (i : ℕ) → hi + m ≤ i → bit_at (insert_of lo n (insert_of hi m a c) b) i ≡ bit_at (insert_of hi m (insert_of lo n a b) c) i
    above i k =
        bit_at-insert_above lo n (insert_of hi m a c) b i f (omega arith) ∙ bit_at-insert_above hi m a c i g k
        ∙ sym (bit_at-insert_above hi m (insert_of lo n a b) c i g k ∙ bit_at-insert_above lo n a b i f (omega arith))

    same : (i : ℕ) → bit_at (insert_of lo n (insert_of hi m a c) b) i ≡ bit_at (insert_of hi m (insert_of lo n a b) c) i
    same i =
        elim (cases_lt i lo) as (λ _. bit_at (insert_of lo n (insert_of hi m a c) b) i ≡ bit_at (insert_of hi m (insert_of lo n a b) c) i) [
          | inl k ↦ below i k
          | inr k ↦
              elim (cases_lt i (lo + n)) as (λ _. bit_at (insert_of lo n (insert_of hi m a c) b) i ≡ bit_at (insert_of hi m (insert_of lo n a b) c) i) [
                | inl l ↦ first i k l
                | inr l ↦
                    elim (cases_lt i hi) as (λ _. bit_at (insert_of lo n (insert_of hi m a c) b) i ≡ bit_at (insert_of hi m (insert_of lo n a b) c) i) [
                      | inl j ↦ between i l j
                      | inr j ↦
                          elim (cases_lt i (hi + m)) as (λ _. bit_at (insert_of lo n (insert_of hi m a c) b) i ≡ bit_at (insert_of hi m (insert_of lo n a b) c) i) [
                            | inl o ↦ second i j o
                            | inr o ↦ above i o
                          ]
                    ]
              ]
        ]

-- the bits above, the inserted ones and the bits below, joined
pub insert-concat : (lo n w a b : ℕ) → lo + n ≤ w → a < 2 ^ w
    → insert_of lo n a b ≡ concat_of (lo + n) (slice_of (lo + n) (w - (lo + n)) a) (concat_of lo b (slice_of 0 lo a))
insert-concat lo n w a b h f =
    regroup lo n a b
    ∙ ap₂ (λ x y. x * 2 ^ (lo + n) + (b * 2 ^ lo + y)) (sym (cut_whole w (lo + n) a h f)) (sym (slice_lowest lo a))

-- ---- shift then cut

pub slice-shr_u : (w n a b : ℕ) → a < 2 ^ w → slice_of 0 n (shr_u_of w a b) ≡ slice_of b n a
slice-shr_u w n a b f =
    elim (cases_lt b w) as (λ _. slice_of 0 n (shr_u_of w a b) ≡ slice_of b n a) [
      | inl h ↦
          ap (slice_of 0 n) (cond-true (ltb b w) (a / 2 ^ b) 0 (lt-ltb b w h)) ∙ ap (λ k. k % 2 ^ n) (div-one (a / 2 ^ b))
      | inr h ↦
          ap (slice_of 0 n) (cond-false (ltb b w) (a / 2 ^ b) 0 (le-ltb b w h)) ∙ ap (λ k. k % 2 ^ n) (div-one 0)
          ∙ ap (λ k. k % 2 ^ n) (sym (div-eq_of_lt (wider w b a h f)))
    ]

-- ---- the signed order

pub lt_s_low : (n a b : ℕ) → a < 2 ^ (n - 1) → b < 2 ^ (n - 1) → lt_s_of n a b ≡ lt_u_of a b
lt_s_low n a b f g = ap₂ (λ x y. cond (int_lt x y) 1 0) (signed_low n a f) (signed_low n b g)

pub lt_s_high : (n a b : ℕ) → 2 ^ (n - 1) ≤ a → a < 2 ^ n → 2 ^ (n - 1) ≤ b → b < 2 ^ n → lt_s_of n a b ≡ lt_u_of a b
lt_s_high n a b h f k g =
    ap₂ (λ x y. cond (int_lt x y) 1 0) (signed_negative n a h f) (signed_negative n b k g) ∙
    elim (cases_lt a b) as (λ _. lt_u_of (2 ^ n - 1 - b) (2 ^ n - 1 - a) ≡ lt_u_of a b) [
      | inl l ↦ ap (λ t. cond {A = ℕ} t 1 0) (lt-ltb (2 ^ n - 1 - b) (2 ^ n - 1 - a) (omega arith) ∙ sym (lt-ltb a b l))
      | inr l ↦ ap (λ t. cond {A = ℕ} t 1 0) (le-ltb (2 ^ n - 1 - b) (2 ^ n - 1 - a) (omega arith) ∙ sym (le-ltb a b l))
    ]

pub lt_s_negative : (n a b : ℕ) → 2 ^ (n - 1) ≤ a → a < 2 ^ n → b < 2 ^ (n - 1) → lt_s_of n a b ≡ 1
lt_s_negative n a b h f g = ap₂ (λ x y. cond (int_lt x y) 1 0) (signed_negative n a h f) (signed_low n b g)

pub lt_s_positive : (n a b : ℕ) → a < 2 ^ (n - 1) → 2 ^ (n - 1) ≤ b → b < 2 ^ n → lt_s_of n a b ≡ 0
lt_s_positive n a b f h g = ap₂ (λ x y. cond (int_lt x y) 1 0) (signed_low n a f) (signed_negative n b h g)
