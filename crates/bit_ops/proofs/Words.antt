-- Words of a width: the powers of two that bound them, their masks, and words joined.
use Rattle.std.proofs.Common.{◌≡◌, ℕ, ◌+◌, ◌-◌, ◌*◌, ◌/◌, ◌%◌, ◌^◌, ◌<◌, ◌≤◌, inl, inr, bit_and, bit_or, IsTrue, nat_eq, not, ap, ◌∙◌, sym, subst, arith, add_comm}
use Rattle.std.proofs.Math.Nat.{pow-le-pow_right, mod-mod_of_dvd, dvd_of_mod-eq-zero, mul-mod_left, add-mul-mod_self_right, div-eq_of_lt, add-mul}
use Rattle.std.proofs.lemmas.Nat.{pow_pos, pow-add, and_mask, and_comm, or_comm, and-not, shl_whole, or_shifted, or_block, shr_split, mod-pow-add, mul-add-lt, shr_below, mod_below, le-div}
use Rattle.std.proofs.lemmas.Nat.Bits.{ones_shr, and_high}
use Rattle.std.proofs.lemmas.Bool.{cases_lt}
use Rattle.std.proofs.lemmas.Bool.Decides.{nat_tests}
use Rattle.bit_ops.specs.Meaning.{insert_of, concat_of}

-- the lowest w of m ones
pub ones_low : (m w : ℕ) → w ≤ m → (2 ^ m - 1) / 2 ^ (m - w) ≡ 2 ^ w - 1
ones_low m w h =
    let e : m - (m - w) ≡ w = omega arith in
    ones_shr m (m - w) (omega arith) ∙ ap (λ k. 2 ^ k - 1) e

pub pow_le : (n w : ℕ) → n ≤ w → 2 ^ n ≤ 2 ^ w
pow_le n w h = pow-le-pow_right (omega arith) h

-- a word of n bits is one of w bits
pub wider : (n w a : ℕ) → n ≤ w → a < 2 ^ n → a < 2 ^ w
wider n w a h f = omega (arith, pow_le n w h)

-- what a mask of w ones leaves
pub masked : (w a m : ℕ) → m ≡ 2 ^ w - 1 → bit_and a m ≡ a % 2 ^ w
masked w a m e = ap (bit_and a) e ∙ and_mask a w

pow_parts : (m w : ℕ) → w ≤ m → 2 ^ m ≡ 2 ^ (m - w) * 2 ^ w
pow_parts m w h =
    let e : m ≡ (m - w) + w = omega arith in
    ap (λ k. 2 ^ k) e ∙ pow-add 2 (m - w) w

-- to cut to m bits first changes nothing
pub cut_twice : (m w a : ℕ) → w ≤ m → a % 2 ^ m % 2 ^ w ≡ a % 2 ^ w
cut_twice m w a h =
    mod-mod_of_dvd (2 ^ w) a
    (dvd_of_mod-eq-zero (2 ^ w) (ap (λ k. k % 2 ^ w) (pow_parts m w h) ∙ mul-mod_left (2 ^ (m - w)) (2 ^ w)))

-- the difference modulo 2 ^ m, cut to w bits
pub difference_cut : (m w a b : ℕ) → w ≤ m → b < 2 ^ w
    → (a + (2 ^ m - b)) % 2 ^ m % 2 ^ w ≡ (a + (2 ^ w - b)) % 2 ^ w
difference_cut m w a b h f =
    let p : ℕ = 2 ^ (m - w) - 1 in
    let one : 2 ^ (m - w) ≡ p + 1 = omega (arith, pow_pos (m - w)) in
    let parts : 2 ^ m ≡ p * 2 ^ w + 2 ^ w =
    pow_parts m w h ∙ ap (λ k. k * 2 ^ w) one ∙ add-mul p 1 (2 ^ w) ∙ ap (λ k. p * 2 ^ w + k) (omega arith) in
    let whole : a + (2 ^ m - b) ≡ a + (2 ^ w - b) + p * 2 ^ w = omega arith in
    cut_twice m w (a + (2 ^ m - b)) h ∙ ap (λ k. k % 2 ^ w) whole
    ∙ add-mul-mod_self_right (a + (2 ^ w - b)) p (2 ^ w)

-- whether the bits from k on are not all 0
pub high_bits : (k a : ℕ)
    → (IsTrue (not (nat_eq (a / 2 ^ k) 0)) → 2 ^ k ≤ a) × (2 ^ k ≤ a → IsTrue (not (nat_eq (a / 2 ^ k) 0)))
high_bits k a =
    elim (cases_lt a (2 ^ k)) as (λ _. (IsTrue (not (nat_eq (a / 2 ^ k) 0)) → 2 ^ k ≤ a) × (2 ^ k ≤ a → IsTrue (not (nat_eq (a / 2 ^ k) 0)))) [
      | inl h ↦ (let e : a / 2 ^ k ≡ 0 = div-eq_of_lt h in ((λ t. grind (arith, nat_tests)), (λ le. absurd (omega arith))))
      | inr h ↦ (let e : 1 ≤ a / 2 ^ k = le-div 1 a (2 ^ k) (pow_pos k) (omega arith) in ((λ t. h), (λ le. grind (arith, nat_tests))))
    ]

-- ---- words joined

pub joined_fits : (j n a b : ℕ) → a < 2 ^ j → b < 2 ^ n → concat_of n a b < 2 ^ (j + n)
joined_fits j n a b f g =
    let e : 2 ^ (j + n) ≡ 2 ^ n * 2 ^ j = ap (λ k. 2 ^ k) (add_comm j n) ∙ pow-add 2 n j in
    subst (λ (k : ℕ). concat_of n a b < k) (sym e) (mul-add-lt a (2 ^ n) b (2 ^ j) f g)

pub joined : (m j n a b : ℕ) → j + n ≤ m → a < 2 ^ j → b < 2 ^ n
    → bit_or (a * 2 ^ n % 2 ^ m) b ≡ concat_of n a b
joined m j n a b h f g = ap (λ k. bit_or k b) (shl_whole a j n m f h) ∙ or_shifted a n b g

-- ---- one word inside another

-- a word in three parts: from lo + n on, the n bits from lo on, and those below lo
pub three_parts : (lo n a : ℕ)
    → a / 2 ^ (lo + n) * 2 ^ (lo + n) + (a / 2 ^ lo % 2 ^ n * 2 ^ lo + a % 2 ^ lo) ≡ a
three_parts lo n a =
    let e : a % 2 ^ (lo + n) ≡ a / 2 ^ lo % 2 ^ n * 2 ^ lo + a % 2 ^ lo =
    ap (λ k. a % 2 ^ k) (add_comm lo n) ∙ mod-pow-add a n lo in
    ap (λ k. a / 2 ^ (lo + n) * 2 ^ (lo + n) + k) (sym e) ∙ shr_split a (lo + n)

-- n ones from lo on
ones_from : (n lo : ℕ) → (2 ^ n - 1) * 2 ^ lo ≡ 2 ^ (n + lo) - 2 ^ lo
ones_from n lo =
    let p : ℕ = 2 ^ n - 1 in
    let one : 2 ^ n ≡ p + 1 = omega (arith, pow_pos n) in
    let e : 2 ^ (n + lo) ≡ p * 2 ^ lo + 2 ^ lo =
    pow-add 2 n lo ∙ ap (λ k. k * 2 ^ lo) one ∙ add-mul p 1 (2 ^ lo) ∙ ap (λ k. p * 2 ^ lo + k) (omega arith) in
    omega arith

-- with the n bits from lo on cleared
cleared : (m lo n a k : ℕ) → lo + n ≤ m → a < 2 ^ m → k ≡ 2 ^ n - 1
    → bit_and a (2 ^ m - 1 - k * 2 ^ lo % 2 ^ m) ≡ a / 2 ^ (lo + n) * 2 ^ (lo + n) + a % 2 ^ lo
cleared m lo n a k h f e =
    let within : 2 ^ (n + lo) ≤ 2 ^ m = pow_le (n + lo) m (omega arith) in
    let field : k * 2 ^ lo % 2 ^ m ≡ 2 ^ (n + lo) - 2 ^ lo =
    ap (λ j. j * 2 ^ lo % 2 ^ m) e ∙ shl_whole (2 ^ n - 1) n lo m (omega (arith, pow_pos n)) (omega arith)
    ∙ ones_from n lo in
    let below : k * 2 ^ lo % 2 ^ m < 2 ^ m = mod_below (k * 2 ^ lo) (2 ^ m) (pow_pos m) in
    let whole : bit_and (2 ^ m - 1 - k * 2 ^ lo % 2 ^ m) a + bit_and (k * 2 ^ lo % 2 ^ m) a ≡ a =
    and-not m (k * 2 ^ lo % 2 ^ m) a below f in
    let inner : bit_and (k * 2 ^ lo % 2 ^ m) a ≡ a / 2 ^ lo % 2 ^ n * 2 ^ lo =
    and_comm (k * 2 ^ lo % 2 ^ m) a ∙ ap (bit_and a) field ∙ and_high a n lo in
    let outer : bit_and a (2 ^ m - 1 - k * 2 ^ lo % 2 ^ m) ≡ bit_and (2 ^ m - 1 - k * 2 ^ lo % 2 ^ m) a =
    and_comm a (2 ^ m - 1 - k * 2 ^ lo % 2 ^ m) in
    omega (arith, three_parts lo n a)

-- the inserted word fits its place
pub placed_fits : (lo n a b : ℕ) → b < 2 ^ n → b * 2 ^ lo + a % 2 ^ lo < 2 ^ (lo + n)
placed_fits lo n a b g =
    subst (λ (k : ℕ). b * 2 ^ lo + a % 2 ^ lo < k) (sym (pow-add 2 lo n))
    (mul-add-lt b (2 ^ lo) (a % 2 ^ lo) (2 ^ n) g (mod_below a (2 ^ lo) (pow_pos lo)))

pub regroup : (lo n a b : ℕ)
    → insert_of lo n a b ≡ a / 2 ^ (lo + n) * 2 ^ (lo + n) + (b * 2 ^ lo + a % 2 ^ lo)
regroup lo n a b = omega arith

pub inserted_fits : (lo n w a b : ℕ) → lo + n ≤ w → a < 2 ^ w → b < 2 ^ n → insert_of lo n a b < 2 ^ w
inserted_fits lo n w a b h f g =
    let parts : 2 ^ w ≡ 2 ^ (lo + n) * 2 ^ (w - (lo + n)) =
    ap (λ k. 2 ^ k) (omega arith) ∙ pow-add 2 (lo + n) (w - (lo + n)) in
    let high : a / 2 ^ (lo + n) < 2 ^ (w - (lo + n)) =
    shr_below a (w - (lo + n)) (lo + n) (subst (λ (k : ℕ). a < 2 ^ k) (omega arith) f) in
    subst (λ (k : ℕ). k < 2 ^ w) (sym (regroup lo n a b))
    (subst (λ (k : ℕ). a / 2 ^ (lo + n) * 2 ^ (lo + n) + (b * 2 ^ lo + a % 2 ^ lo) < k) (sym parts)
    (mul-add-lt (a / 2 ^ (lo + n)) (2 ^ (lo + n)) (b * 2 ^ lo + a % 2 ^ lo) (2 ^ (w - (lo + n))) high
    (placed_fits lo n a b g)))

pub inserted : (m lo n a b k : ℕ) → lo + n ≤ m → a < 2 ^ m → b < 2 ^ n → k ≡ 2 ^ n - 1
    → bit_or (bit_and a (2 ^ m - 1 - k * 2 ^ lo % 2 ^ m)) (b * 2 ^ lo % 2 ^ m) ≡ insert_of lo n a b
inserted m lo n a b k h f g e =
    let p : ℕ = 2 ^ (lo + n) in
    let hi : ℕ = a / 2 ^ (lo + n) in
    let low : ℕ = a % 2 ^ lo in
    let low_fits : low < 2 ^ (lo + n) = wider lo (lo + n) low (omega arith) (mod_below a (2 ^ lo) (pow_pos lo)) in
    let b_fits : b * 2 ^ lo < 2 ^ (lo + n) = omega (arith, placed_fits lo n a b g) in
    let b_whole : b * 2 ^ lo % 2 ^ m ≡ 0 * 2 ^ (lo + n) + b * 2 ^ lo =
    shl_whole b n lo m g (omega arith) ∙ omega arith in
    let apart : bit_or (hi * 2 ^ (lo + n) + low) (0 * 2 ^ (lo + n) + b * 2 ^ lo) ≡ bit_or hi 0 * 2 ^ (lo + n) + bit_or low (b * 2 ^ lo) =
    or_block (lo + n) hi 0 low (b * 2 ^ lo) low_fits b_fits in
    let upper : bit_or hi 0 ≡ hi = or_comm hi 0 in
    let lower : bit_or low (b * 2 ^ lo) ≡ b * 2 ^ lo + low =
    or_comm low (b * 2 ^ lo) ∙ or_shifted b lo low (mod_below a (2 ^ lo) (pow_pos lo)) in
    ap (λ x. bit_or x (b * 2 ^ lo % 2 ^ m)) (cleared m lo n a k h f e)
    ∙ ap (bit_or (hi * 2 ^ (lo + n) + low)) b_whole ∙ apart
    ∙ ap (λ x. x * 2 ^ (lo + n) + bit_or low (b * 2 ^ lo)) upper
    ∙ ap (λ x. hi * 2 ^ (lo + n) + x) lower ∙ sym (regroup lo n a b)
