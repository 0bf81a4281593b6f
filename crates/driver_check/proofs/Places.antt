-- The bits of a word from a place on.
use Rattle.std.proofs.Common.{◌≡◌, ℕ, ◌+◌, ◌-◌, ◌*◌, ◌/◌, ◌%◌, ◌^◌, ◌<◌, ◌≤◌, ap, ◌∙◌, sym, arith}
use Rattle.std.proofs.Math.Nat.{pow-le-pow_right, div-eq_of_lt, mul-mod_left, mod-mod_of_dvd, dvd_of_mod-eq-zero, mul_assoc, zero-mod}
use Rattle.std.proofs.lemmas.Nat.{pow-add}

-- nothing is left so far to the right
pub far_right : (w a n m : ℕ) → a < 2 ^ m → m ≤ n → 0 ≡ a / 2 ^ n % 2 ^ w
far_right w a n m h f =
    let more : 2 ^ m ≤ 2 ^ n = pow-le-pow_right (omega arith) f in
    sym (ap (λ k. k % 2 ^ w) (div-eq_of_lt (omega arith)) ∙ zero-mod (2 ^ w))

-- a power in two parts
parts : (m w : ℕ) → w ≤ m → 2 ^ m ≡ 2 ^ (m - w) * 2 ^ w
parts m w h =
    let e : m ≡ (m - w) + w = omega arith in
    ap (λ k. 2 ^ k) e ∙ pow-add 2 (m - w) w

-- nothing is left so far to the left
pub far_left : (w a n : ℕ) → w ≤ n → 0 ≡ a * 2 ^ n % 2 ^ w
far_left w a n h =
    sym (ap (λ k. k % 2 ^ w) (ap (λ k. a * k) (parts n w h) ∙ sym (mul_assoc a (2 ^ (n - w)) (2 ^ w))) ∙ mul-mod_left (a * 2 ^ (n - w)) (2 ^ w))

-- a word cut to a greater width first
pub cut_twice : (w a m : ℕ) → w ≤ m → a % 2 ^ m % 2 ^ w ≡ a % 2 ^ w
cut_twice w a m h = mod-mod_of_dvd (2 ^ w) a (dvd_of_mod-eq-zero (2 ^ w) (ap (λ k. k % 2 ^ w) (parts m w h) ∙ mul-mod_left (2 ^ (m - w)) (2 ^ w)))
