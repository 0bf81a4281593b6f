-- Words made of bits.
use Rattle.std.proofs.Common.{◌≡◌, ℕ, zero, suc, ◌<◌, ◌≤◌, ◌^◌, ◌+◌, ◌*◌, ◌-◌, sym, ◌∙◌, ap, subst, arith, inl, inr}
use Rattle.std.specs.Prelude.{◌⊎◌}
use Rattle.std.specs.Int.{bit_at}
use Rattle.std.proofs.Math.Nat.{mod-eq_of_lt, mul-le-mul_left, pow-suc}
use Rattle.std.proofs.lemmas.Nat.Bits.{bit_at_lowest, bit_at_cat_low, bit_at_cat_high}
use Rattle.net_values.proofs.Numbers.{same_or_not}

-- the word of the lowest n of some bits
abbrev pub word_of : (ℕ → ℕ) → ℕ → ℕ
word_of bit zero = 0
word_of bit (suc n) = bit n * 2 ^ n + word_of bit n

one_bit_more : (b p w : ℕ) → b < 2 → w < p → b * p + w < p * 2
one_bit_more b p w two below =
    let most : p * b ≤ p * 1 = mul-le-mul_left p (let one : b ≤ 1 = omega arith in one) in
    omega arith

pub word_fits : (bit : ℕ → ℕ) (n : ℕ) → ((k : ℕ) → bit k < 2) → word_of bit n < 2 ^ n
word_fits bit zero two = omega arith
word_fits bit (suc n) two =
    subst (λ m. bit n * 2 ^ n + word_of bit n < m) (sym (pow-suc 2 n)) (one_bit_more (bit n) (2 ^ n) (word_of bit n) (two n) (word_fits bit n two))

pub word_bits : (bit : ℕ → ℕ) (n k : ℕ) → ((k : ℕ) → bit k < 2) → k < n → bit_at (word_of bit n) k ≡ bit k
word_bits bit zero k two within = absurd (omega arith)
word_bits bit (suc n) k two within = by_case (same_or_not k n) (λ below. word_bits bit n k two below) where
  by_case : (k ≡ n) ⊎ (k ≡ n → ⊥) → (k < n → bit_at (word_of bit n) k ≡ bit k) → bit_at (bit n * 2 ^ n + word_of bit n) k ≡ bit k
  by_case (inl top) rest =
      ap (λ i. bit_at (bit n * 2 ^ n + word_of bit n) i) top
      ∙ bit_at_cat_high (bit n) n (word_of bit n) n (word_fits bit n two) (omega arith)
      ∙ ap (bit_at (bit n)) (let none : n - n ≡ 0 = omega arith in none)
      ∙ bit_at_lowest (bit n)
      ∙ mod-eq_of_lt (two n)
      ∙ ap bit (sym top)
  by_case (inr other) rest =
      let below : k < n = omega arith in
      bit_at_cat_low (bit n) n (word_of bit n) k below ∙ rest below
