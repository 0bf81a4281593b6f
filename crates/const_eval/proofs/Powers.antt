-- Powers modulo a number, by halves of the exponent.
use Rattle.std.proofs.Common.{◌≡◌, ℕ, ◌+◌, ◌*◌, ◌/◌, ◌%◌, ◌^◌, ◌<◌, ◌≤◌, ap, ◌∙◌, sym, arith}
use Rattle.std.proofs.Math.Nat.{one-mul, mul-one, mul_assoc, pow-zero, pow-succ', mod-eq_of_lt}
use Rattle.std.proofs.lemmas.Nat.{pow-add, mul-pow, mul-mod_first, mul-mod_second, pow-mod}

-- to square the base is to double the exponent
pub squared : (m r b q : ℕ) → (r * (b * b % m) ^ q) % m ≡ (r * b ^ (q + q)) % m
squared m r b q =
    sym (mul-mod_second r ((b * b % m) ^ q) m)
    ∙ ap (λ x. (r * x) % m) (pow-mod (b * b) q m ∙ ap (λ x. x % m) (mul-pow b b q ∙ sym (pow-add b q q)))
    ∙ mul-mod_second r (b ^ (q + q)) m

-- an even exponent
pub even_halved : (m r b n : ℕ) → n % 2 ≡ 0 → (r * (b * b % m) ^ (n / 2)) % m ≡ (r * b ^ n) % m
even_halved m r b n e = squared m r b (n / 2) ∙ ap (λ k. (r * b ^ k) % m) (omega arith)

-- an odd exponent, where one factor goes to the result
pub odd_halved : (m r b n : ℕ) → n % 2 ≡ 1 → ((r * b % m) * (b * b % m) ^ (n / 2)) % m ≡ (r * b ^ n) % m
odd_halved m r b n e =
    mul-mod_first (r * b) ((b * b % m) ^ (n / 2)) m ∙ squared m (r * b) b (n / 2)
    ∙ ap (λ x. x % m) (mul_assoc r b (b ^ (n / 2 + n / 2)) ∙ ap (λ x. r * x) (sym (pow-succ' b (n / 2 + n / 2))))
    ∙ ap (λ k. (r * b ^ k) % m) (omega arith)

-- no exponent left
pub exhausted : (m r b n a : ℕ) → n ≤ 0 → r < m → (r * b ^ n) % m ≡ a → r ≡ a
exhausted m r b n a none below e =
    let zeroth : b ^ n ≡ 1 = ap (λ k. b ^ k) (omega arith) ∙ pow-zero b in
    sym (mod-eq_of_lt below) ∙ ap (λ k. k % m) (sym (ap (λ x. r * x) zeroth ∙ mul-one r)) ∙ e

-- 1 begins a product
pub begun : (m x : ℕ) → (1 % m * x) % m ≡ x % m
begun m x = mul-mod_first 1 x m ∙ ap (λ k. k % m) (one-mul x)
