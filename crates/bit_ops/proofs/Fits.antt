-- The value of an operation is a word of its width.
use Rattle.std.proofs.Common.{◌≡◌, ℕ, ◌+◌, ◌-◌, ◌*◌, ◌/◌, ◌%◌, ◌^◌, ◌<◌, ◌≤◌, List, [], ◌∷◌, pos, Bool, true, false, cond, nat_lt, sym, subst, arith}
use Rattle.std.specs.Prelude.{count_ones, ◌==◌}
use Rattle.std.specs.Int.{int_div_euclid}
use Rattle.std.proofs.Math.Nat.{mod-le, div-le_self}
use Rattle.std.proofs.lemmas.Nat.{pow_pos, mod_below, and_le_l, or_lt, xor_lt, shr_le}
use Rattle.bit_ops.specs.declared.operation.Op.{Op}
use Rattle.bit_ops.specs.declared.operation.Op.TheVariants.{Const, Zext, Sext, Slice, Concat, Not, Neg, And, Or, Xor, Add, Sub, Mul, DivU, DivS, ModU, ModS, Shl, ShrU, ShrS, Eq, LtU, LtS, RedAnd, RedOr, RedXor, Mux, Insert}
use Rattle.bit_ops.specs.Width.{OneWidth, TwoWidths, ThreeWidths, WidthsFit}
use Rattle.bit_ops.specs.Rows.{widths_of, AreWords, of_one, of_two, of_three, value_of}
use Rattle.bit_ops.specs.Meaning.{signed_of, sign_bits_of, zext_of, sext_of, slice_of, concat_of, insert_of, not_of, and_of, or_of, xor_of, neg_of, add_of, sub_of, mul_of, div_u_of, mod_u_of, div_s_of, mod_s_of, shl_of, shr_u_of, shr_s_of, eq_of, lt_u_of, lt_s_of, red_and_of, red_or_of, red_xor_of, mux_of}
use Rattle.bit_ops.proofs.Words.{wider, joined_fits, inserted_fits}
use Rattle.bit_ops.proofs.Algebra.{word_of_fits}

-- ---- by the number of operands

one_fits : (w : ℕ) (f : ℕ → ℕ → ℕ) (P : ℕ → Type 0) → ((n a : ℕ) → P n → a < 2 ^ n → f n a < 2 ^ w)
    → (operands : List (ℕ × ℕ)) → OneWidth P (widths_of operands) → AreWords operands → of_one f operands < 2 ^ w
one_fits w f P step [] h k = absurd h
one_fits w f P step (x ∷ []) h k = step x.0 x.1 h k.0
one_fits w f P step (x ∷ y ∷ rest) h k = absurd h

two_fit : (w : ℕ) (f : ℕ → ℕ → ℕ → ℕ → ℕ) (P : ℕ → ℕ → Type 0)
    → ((n a m b : ℕ) → P n m → a < 2 ^ n → b < 2 ^ m → f n a m b < 2 ^ w)
    → (operands : List (ℕ × ℕ)) → TwoWidths P (widths_of operands) → AreWords operands → of_two f operands < 2 ^ w
two_fit w f P step [] h k = absurd h
two_fit w f P step (x ∷ rest) h k =
    one_fits w (f x.0 x.1) (P x.0) (λ m b p g. step x.0 x.1 m b p k.0 g) rest h k.1

three_fit : (w : ℕ) (f : ℕ → ℕ → ℕ → ℕ) (P : ℕ → ℕ → ℕ → Type 0)
    → ((l c n a m b : ℕ) → P l n m → c < 2 ^ l → a < 2 ^ n → b < 2 ^ m → f c a b < 2 ^ w)
    → (operands : List (ℕ × ℕ)) → ThreeWidths P (widths_of operands) → AreWords operands → of_three f operands < 2 ^ w
three_fit w f P step [] h k = absurd h
three_fit w f P step (x ∷ rest) h k =
    two_fit w (λ n a m b. f x.1 a b) (P x.0) (λ n a m b p g i. step x.0 x.1 n a m b p k.0 g i) rest h k.1

-- ---- by the operation

same_width : (n w a : ℕ) → n ≡ w → a < 2 ^ n → a < 2 ^ w
same_width n w a e f = wider n w a (omega arith) f

either_fits : (t : Bool) (x y m : ℕ) → x < m → y < m → cond t x y < m
either_fits true x y m f g = f
either_fits false x y m f g = g

cut_fits : (w a : ℕ) → a % 2 ^ w < 2 ^ w
cut_fits w a = mod_below a (2 ^ w) (pow_pos w)

flag_fits : (t : Bool) (w : ℕ) → w ≡ 1 → cond t 1 0 < 2 ^ w
flag_fits t w e = either_fits t 1 0 (2 ^ w) (rw e (omega arith)) (pow_pos w)

sign_bits_fit : (w a : ℕ) → sign_bits_of w a < 2 ^ w
sign_bits_fit w a = either_fits (nat_lt a (2 ^ (w - 1))) 0 (2 ^ w - 1) (2 ^ w) (pow_pos w) (omega (arith, pow_pos w))

-- where the widths fit and each operand is a word of its width
pub value_of_fits : (op : Op) (w lo : ℕ) (operands : List (ℕ × ℕ)) → WidthsFit op w lo (widths_of operands) → AreWords operands
    → value_of op w lo operands < 2 ^ w
value_of_fits Const w lo operands h k =
    one_fits w (λ n a. a) (λ n. n ≡ w) (λ n a p f. same_width n w a p f) operands h k
value_of_fits Zext w lo operands h k =
    one_fits w (λ n a. zext_of a) (λ n. n ≤ w) (λ n a p f. wider n w a p f) operands h k
value_of_fits Sext w lo operands h k =
    one_fits w (λ n a. sext_of n w a) (λ n. n ≤ w) (λ n a p f. word_of_fits w (signed_of n a)) operands h k
value_of_fits Slice w lo operands h k =
    one_fits w (λ n a. slice_of lo w a) (λ n. lo + w ≤ n) (λ n a p f. cut_fits w (a / 2 ^ lo)) operands h k
value_of_fits Concat w lo operands h k =
    two_fit w (λ n a m b. concat_of m a b) (λ n m. n + m ≡ w)
    (λ n a m b p f g. subst (λ (j : ℕ). concat_of m a b < 2 ^ j) p (joined_fits n m a b f g)) operands h k
value_of_fits Not w lo operands h k =
    one_fits w (λ n a. not_of w a) (λ n. n ≡ w) (λ n a p f. omega (arith, pow_pos w)) operands h k
value_of_fits Neg w lo operands h k =
    one_fits w (λ n a. neg_of w a) (λ n. n ≡ w) (λ n a p f. word_of_fits w _) operands h k
value_of_fits And w lo operands h k =
    two_fit w (λ n a m b. and_of a b) (λ n m. (n ≡ w) × (m ≡ w))
    (λ n a m b p f g. (let fits : a < 2 ^ w = same_width n w a p.0 f in omega (arith, and_le_l a b))) operands h k
value_of_fits Or w lo operands h k =
    two_fit w (λ n a m b. or_of a b) (λ n m. (n ≡ w) × (m ≡ w))
    (λ n a m b p f g. or_lt w a b (same_width n w a p.0 f) (same_width m w b p.1 g)) operands h k
value_of_fits Xor w lo operands h k =
    two_fit w (λ n a m b. xor_of a b) (λ n m. (n ≡ w) × (m ≡ w))
    (λ n a m b p f g. xor_lt w a b (same_width n w a p.0 f) (same_width m w b p.1 g)) operands h k
value_of_fits Add w lo operands h k =
    two_fit w (λ n a m b. add_of w a b) (λ n m. (n ≡ w) × (m ≡ w)) (λ n a m b p f g. cut_fits w (a + b)) operands h k
value_of_fits Sub w lo operands h k =
    two_fit w (λ n a m b. sub_of w a b) (λ n m. (n ≡ w) × (m ≡ w)) (λ n a m b p f g. word_of_fits w _) operands h k
value_of_fits Mul w lo operands h k =
    two_fit w (λ n a m b. mul_of w a b) (λ n m. (n ≡ w) × (m ≡ w)) (λ n a m b p f g. cut_fits w (a * b)) operands h k
value_of_fits DivU w lo operands h k =
    two_fit w (λ n a m b. div_u_of a b) (λ n m. (n ≡ w) × (m ≡ w))
    (λ n a m b p f g. (let fits : a < 2 ^ w = same_width n w a p.0 f in
    either_fits (b == 0) 0 (a / b) (2 ^ w) (pow_pos w) (omega (arith, div-le_self a b)))) operands h k
value_of_fits DivS w lo operands h k =
    two_fit w (λ n a m b. div_s_of w a b) (λ n m. (n ≡ w) × (m ≡ w))
    (λ n a m b p f g. either_fits (b == 0) 0 _ (2 ^ w) (pow_pos w) (word_of_fits w _)) operands h k
value_of_fits ModU w lo operands h k =
    two_fit w (λ n a m b. mod_u_of a b) (λ n m. (n ≡ w) × (m ≡ w))
    (λ n a m b p f g. (let fits : a < 2 ^ w = same_width n w a p.0 f in
    either_fits (b == 0) 0 (a % b) (2 ^ w) (pow_pos w) (omega (arith, mod-le a b)))) operands h k
value_of_fits ModS w lo operands h k =
    two_fit w (λ n a m b. mod_s_of w a b) (λ n m. (n ≡ w) × (m ≡ w))
    (λ n a m b p f g. either_fits (b == 0) 0 _ (2 ^ w) (pow_pos w) (word_of_fits w _)) operands h k
value_of_fits Shl w lo operands h k =
    two_fit w (λ n a m b. shl_of w a b) (λ n m. n ≡ w)
    (λ n a m b p f g. either_fits (nat_lt b w) (a * 2 ^ b % 2 ^ w) 0 (2 ^ w) (cut_fits w (a * 2 ^ b)) (pow_pos w)) operands h k
value_of_fits ShrU w lo operands h k =
    two_fit w (λ n a m b. shr_u_of w a b) (λ n m. n ≡ w)
    (λ n a m b p f g. (let fits : a < 2 ^ w = same_width n w a p f in
    either_fits (nat_lt b w) (a / 2 ^ b) 0 (2 ^ w) (omega (arith, shr_le a b)) (pow_pos w))) operands h k
value_of_fits ShrS w lo operands h k =
    two_fit w (λ n a m b. shr_s_of w a b) (λ n m. n ≡ w)
    (λ n a m b p f g. either_fits (nat_lt b w) _ (sign_bits_of w a) (2 ^ w)
    (word_of_fits w (int_div_euclid (signed_of w a) (pos (2 ^ b)))) (sign_bits_fit w a)) operands h k
value_of_fits Eq w lo operands h k =
    two_fit w (λ n a m b. eq_of a b) (λ n m. (n ≡ m) × (w ≡ 1)) (λ n a m b p f g. flag_fits _ w p.1) operands h k
value_of_fits LtU w lo operands h k =
    two_fit w (λ n a m b. lt_u_of a b) (λ n m. (n ≡ m) × (w ≡ 1)) (λ n a m b p f g. flag_fits _ w p.1) operands h k
value_of_fits LtS w lo operands h k =
    two_fit w (λ n a m b. lt_s_of n a b) (λ n m. (n ≡ m) × (w ≡ 1)) (λ n a m b p f g. flag_fits _ w p.1) operands h k
value_of_fits RedAnd w lo operands h k =
    one_fits w (λ n a. red_and_of n a) (λ n. w ≡ 1) (λ n a p f. flag_fits _ w p) operands h k
value_of_fits RedOr w lo operands h k =
    one_fits w (λ n a. red_or_of a) (λ n. w ≡ 1)
    (λ n a p f. either_fits (a == 0) 0 1 (2 ^ w) (pow_pos w) (rw p (omega arith))) operands h k
value_of_fits RedXor w lo operands h k =
    one_fits w (λ n a. red_xor_of a) (λ n. w ≡ 1)
    (λ n a p f. subst (λ (j : ℕ). red_xor_of a < 2 ^ j) (sym p) (mod_below (count_ones a) 2 (omega arith))) operands h k
value_of_fits Mux w lo operands h k =
    three_fit w (λ c a b. mux_of c a b) (λ l n m. (l ≡ 1) × (n ≡ w) × (m ≡ w))
    (λ l c n a m b p e f g. either_fits (c == 1) a b (2 ^ w) (same_width n w a p.1 f) (same_width m w b p.2 g)) operands h k
value_of_fits Insert w lo operands h k =
    two_fit w (λ n a m b. insert_of lo m a b) (λ n m. (n ≡ w) × (lo + m ≤ w))
    (λ n a m b p f g. inserted_fits lo m w a b p.1 (same_width n w a p.0 f) g) operands h k
