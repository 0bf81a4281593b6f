-- the number that digits spell, read digit by digit
use Rattle.std.proofs.Common.{◌≡◌, ℕ, ◌+◌, ◌*◌, ◌^◌, ◌<◌, ◌≤◌, List, length, get_or, drop, drop-cons, add-one, arith, suc}
use Rattle.std.proofs.Math.Nat.{mul-le-mul_left, pow-succ', one-le-pow}
use Rattle.std.proofs.Math.Numerals.{one-add}
use Rattle.std.proofs.lemmas.Bool.{ne_eqb}
use Rattle.sv_lexer.specs.Bytes.{digit_value, digits_in, spelled}

-- the number, from what was read so far and the digits left
abbrev pub read : ℕ → ℕ → List ℕ → ℕ
read r n s = n * r ^ digits_in s + spelled r s

-- a `_` is passed over
pub read_mark : (r n i : ℕ) (s : List ℕ) → i < length s → get_or s i 0 ≡ 95 → read r n (drop i s) ≡ read r n (drop (i + 1) s)
read_mark r n i s lt e = rw (add-one, drop-cons s i 0, e)

-- one more digit
pub read_digit : (r n i : ℕ) (s : List ℕ) → i < length s → (get_or s i 0 ≡ 95 → ⊥) → read r n (drop i s) ≡ read r (n * r + digit_value (get_or s i 0)) (drop (i + 1) s)
read_digit r n i s lt other =
    rw (add-one, drop-cons s i 0, ne_eqb (get_or s i 0) 95 other)
    (regroup n r (digit_value (get_or s i 0)) (digits_in (drop (suc i) s)) (spelled r (drop (suc i) s)))
  where
    regroup : (n r d k t : ℕ) → n * r ^ (1 + k) + (d * r ^ k + t) ≡ (n * r + d) * r ^ k + t
    regroup n r d k t = let e : r ^ (1 + k) ≡ r * r ^ k = rw one-add (pow-succ' r k) in rw e (omega arith)

-- what was read is never more than the number
pub read_grows : (r n : ℕ) (s : List ℕ) → 1 ≤ r → n ≤ read r n s
read_grows r n s h =
    let one : 1 ≤ r ^ digits_in s = one-le-pow (digits_in s) r h in
    let times : n * 1 ≤ n * r ^ digits_in s = mul-le-mul_left n one in
    omega arith
