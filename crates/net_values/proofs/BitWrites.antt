-- The writes of the bits of a word to places from one up.
use Rattle.std.proofs.Common.{◌≡◌, ℕ, zero, suc, ◌<◌, ◌≤◌, ◌+◌, ◌-◌, Bool, true, false, ℤ, pos, negsuc, ◌+ℤ◌, List, [], ◌∷◌, ◌++◌, T, refl, sym, ◌∙◌, ap, subst, arith, Option, None, Some, inl, inr}
use Rattle.std.specs.Prelude.{◌==◌, ◌&&◌, not, nat_lt, int_lt, slice_index, length, if◌then◌else◌, ◌⊎◌}
use Rattle.std.specs.Int.{bit_at}
use Rattle.std.proofs.lemmas.Int.{ints, by_lt_z}
use Rattle.std.specs.Int.Signed.{◌<ℤ◌, ◌≤ℤ◌, lt_z_yes, clash_ℤ}
use Rattle.std.proofs.lemmas.Bool.Decides.{nat_tests}
use Rattle.std.proofs.lemmas.Nat.Bits.{bit_at-lt}
use Rattle.net_ir.specs.Target.{Write, place_in, write_at, bits_to, written_bit, later_or, last_bit, covers}
use Rattle.net_values.specs.Writes.{IsWithin, AreWithin}
use Rattle.net_values.proofs.Numbers.{and_of_true, front_of_and, back_of_and, eq_test, test_eq, lt_test, same_or_not, within_or_past}
use Rattle.net_values.proofs.Elements.{all_join}

-- ---- the last of writes

later_none : (found : Option ℕ) → later_or found None ≡ found
later_none None = refl
later_none (Some bit) = refl

later_assoc : (c b a : Option ℕ) → later_or (later_or c b) a ≡ later_or c (later_or b a)
later_assoc None b a = refl
later_assoc (Some bit) b a = refl

pub last_append : (xs ys : List Write) (x k : ℕ) → last_bit (xs ++ ys) x k ≡ later_or (last_bit ys x k) (last_bit xs x k)
last_append [] ys x k = sym (later_none (last_bit ys x k))
last_append (w ∷ xs) ys x k =
    ap (λ found. later_or found (written_bit w x k)) (last_append xs ys x k) ∙ later_assoc (last_bit ys x k) (last_bit xs x k) (written_bit w x k)

-- what is found is the later or the earlier
pub later_found : (later earlier : Option ℕ) (bit : ℕ) → later_or later earlier ≡ Some bit → (later ≡ Some bit) ⊎ (earlier ≡ Some bit)
later_found None earlier bit is = inr is
later_found (Some b) earlier bit is = inl is

pub last_found : (xs ys : List Write) (x k bit : ℕ) → last_bit (xs ++ ys) x k ≡ Some bit → (last_bit ys x k ≡ Some bit) ⊎ (last_bit xs x k ≡ Some bit)
last_found xs ys x k bit is = later_found (last_bit ys x k) (last_bit xs x k) bit (sym (last_append xs ys x k) ∙ is)

-- where either part writes a bit, both together do
abbrev pub IsWritten : List Write → ℕ → ℕ → Type 0
IsWritten writes x k = (bit : ℕ) × (last_bit writes x k ≡ Some bit)

later_back : (later earlier : Option ℕ) (bit : ℕ) → later ≡ Some bit → later_or later earlier ≡ Some bit
later_back later earlier bit is = ap (λ found. later_or found earlier) is

later_front : (later earlier : Option ℕ) (bit : ℕ) → earlier ≡ Some bit → (b : ℕ) × (later_or later earlier ≡ Some b)
later_front None earlier bit is = (bit, is)
later_front (Some b) earlier bit is = (b, refl)

pub written_back : (xs ys : List Write) (x k : ℕ) → IsWritten ys x k → IsWritten (xs ++ ys) x k
written_back xs ys x k is = (is.0, last_append xs ys x k ∙ later_back (last_bit ys x k) (last_bit xs x k) is.0 is.1)

pub written_front : (xs ys : List Write) (x k : ℕ) → IsWritten xs x k → IsWritten (xs ++ ys) x k
written_front xs ys x k is =
    let found = later_front (last_bit ys x k) (last_bit xs x k) is.0 is.1 in
    (found.0, last_append xs ys x k ∙ found.1)

-- ---- one bit

-- a place in a word, and one below it
place_above : (w m : ℕ) → place_in w (pos m) ≡ (if nat_lt m w then Some m else None)
place_above w m = ap (λ (t : Bool). if t then None else (if nat_lt m w then Some m else None)) (none_below m) where
  none_below : (k : ℕ) → nat_lt k 0 ≡ false
  none_below k = grind (arith, nat_tests)

pub place_within : (w m : ℕ) → m < w → place_in w (pos m) ≡ Some m
place_within w m within = place_above w m ∙ ap (λ (t : Bool). if t then Some m else None) (lt_test m w within)

pub place_past : (w m : ℕ) → w ≤ m → place_in w (pos m) ≡ None
place_past w m past = place_above w m ∙ ap (λ (t : Bool). if t then Some m else None) (not_below m w past) where
  not_below : (k n : ℕ) → n ≤ k → nat_lt k n ≡ false
  not_below k n past = grind (arith, nat_tests)

pub place_below : (w m : ℕ) → place_in w (negsuc m) ≡ None
place_below w m = refl

-- what is found of a place is that place, which is within
place_found : (w : ℕ) (z : ℤ) (m : ℕ) → place_in w z ≡ Some m → (z ≡ pos m) × (m < w)
place_found w (negsuc n) m is = absurd (let clash : None ≡ Some m = is in cc)
place_found w (pos n) m is = by_case (within_or_past n w) where
  by_case : (n < w) ⊎ (w ≤ n) → (pos n ≡ pos m) × (m < w)
  by_case (inl within) =
      let same : n ≡ m = let found : Some n ≡ Some m = sym (place_within w n within) ∙ is in cc in
      (ap pos same, subst (λ y. y < w) same within)
  by_case (inr past) = absurd (let clash : None ≡ Some m = sym (place_past w n past) ∙ is in cc)

within_at : (ws : List ℕ) (x w : ℕ) (found : Option ℕ) (bit : ℕ) → x < length ws → slice_index ws x ≡ w → ((m : ℕ) → found ≡ Some m → m < w) → bit < 2 →
    AreWithin ws (write_at x found bit)
within_at ws x w None bit there width places two = tt
within_at ws x w (Some m) bit there width places two =
    (record { there = there; place = subst (λ n. m < n) (sym width) (places m refl); bit = two }, tt)

-- the writes of a word's bits are within a variable's width
pub bits_within : (ws : List ℕ) (x w : ℕ) (z : ℤ) (n word : ℕ) → x < length ws → slice_index ws x ≡ w → AreWithin ws (bits_to x w z n word)
bits_within ws x w z zero word there width = tt
bits_within ws x w z (suc n) word there width =
    all_join (IsWithin ws) (bits_to x w z n word) (write_at x (place_in w (z +ℤ pos n)) (bit_at word n))
    (bits_within ws x w z n word there width)
    (within_at ws x w (place_in w (z +ℤ pos n)) (bit_at word n) there width (λ m is. (place_found w (z +ℤ pos n) m is).1) (bit_at-lt word n))

-- ---- which bits they write

-- one of the n places from one up
abbrev pub IsOneOf : ℤ → ℕ → ℕ → Type 0
IsOneOf z n k = (i : ℕ) × (i < n) × (z +ℤ pos i ≡ pos k)

written_here : (x m bit y k b : ℕ) → last_bit (write_at x (Some m) bit) y k ≡ Some b → (x ≡ y) × (m ≡ k)
written_here x m bit y k b is = by_test (x == y && m == k) refl where
  by_test : (t : Bool) → (x == y && m == k) ≡ t → (x ≡ y) × (m ≡ k)
  by_test true both = (test_eq x y (front_of_and (x == y) (m == k) both), test_eq m k (back_of_and (x == y) (m == k) both))
  by_test false other = absurd (let clash : None ≡ Some b = sym (ap (λ (t : Bool). if t then Some bit else None) other) ∙ is in cc)

written_at : (x w : ℕ) (z : ℤ) (bit y k b : ℕ) → last_bit (write_at x (place_in w z) bit) y k ≡ Some b → (x ≡ y) × (k < w) × (z ≡ pos k)
written_at x w z bit y k b = by_place (place_in w z) refl where
  by_place : (found : Option ℕ) → place_in w z ≡ found → last_bit (write_at x found bit) y k ≡ Some b → (x ≡ y) × (k < w) × (z ≡ pos k)
  by_place None at is = absurd (let clash : None ≡ Some b = is in cc)
  by_place (Some m) at is =
      let here = written_here x m bit y k b is in
      let place = place_found w z m at in
      (here.0, subst (λ n. n < w) here.1 place.1, place.0 ∙ ap pos here.1)

pub bits_found : (x w : ℕ) (z : ℤ) (n word y k b : ℕ) → last_bit (bits_to x w z n word) y k ≡ Some b → (x ≡ y) × (k < w) × IsOneOf z n k
bits_found x w z zero word y k b is = absurd (let clash : None ≡ Some b = is in cc)
bits_found x w z (suc n) word y k b is =
    by_part (λ before. bits_found x w z n word y k b before) (last_found (bits_to x w z n word) (write_at x (place_in w (z +ℤ pos n)) (bit_at word n)) y k b is) where
      by_part : (last_bit (bits_to x w z n word) y k ≡ Some b → (x ≡ y) × (k < w) × IsOneOf z n k) →
          (last_bit (write_at x (place_in w (z +ℤ pos n)) (bit_at word n)) y k ≡ Some b) ⊎ (last_bit (bits_to x w z n word) y k ≡ Some b) →
          (x ≡ y) × (k < w) × IsOneOf z (suc n) k
      by_part rest (inl last) = let here = written_at x w (z +ℤ pos n) (bit_at word n) y k b last in (here.0, here.1, (n, omega arith, here.2))
      by_part rest (inr before) =
          let there = rest before in
          let i = there.2 in
          (there.0, there.1, (i.0, let below : i.0 < n = i.1 in omega arith, i.2))

pub bits_written : (x w : ℕ) (z : ℤ) (n word k : ℕ) → k < w → IsOneOf z n k → IsWritten (bits_to x w z n word) x k
bits_written x w z zero word k within one = absurd (let none : one.0 < 0 = one.1 in omega arith)
bits_written x w z (suc n) word k within one =
    by_case (λ below. bits_written x w z n word k within (one.0, below, one.2)) (same_or_not one.0 n) where
      by_case : (one.0 < n → IsWritten (bits_to x w z n word) x k) → (one.0 ≡ n) ⊎ (one.0 ≡ n → ⊥) → IsWritten (bits_to x w z (suc n) word) x k
      by_case rest (inl top) =
          written_back (bits_to x w z n word) (write_at x (place_in w (z +ℤ pos n)) (bit_at word n)) x k (
            bit_at word n,
            ap (λ found. last_bit (write_at x found (bit_at word n)) x k) (ap (λ i. place_in w (z +ℤ pos i)) (sym top) ∙ ap (place_in w) one.2 ∙ place_within w k within)
                ∙ ap (λ (t : Bool). if t then Some (bit_at word n) else None) (and_of_true (x == x) (k == k) (eq_test x x refl) (eq_test k k refl)),
          )
      by_case rest (inr other) =
          let below : one.0 < suc n = one.1 in
          written_front (bits_to x w z n word) (write_at x (place_in w (z +ℤ pos n)) (bit_at word n)) x k (rest (omega arith))

-- ---- the bits that places cover

int_less : (a b : ℤ) → a <ℤ b → int_lt a b ≡ true
int_less a b less = by_test (int_lt a b) less.lt where
  by_test : (t : Bool) → T t → t ≡ true
  by_test true h = refl
  by_test false h = absurd h

less_int : (a b : ℤ) → int_lt a b ≡ true → a <ℤ b
less_int a b is = lt_z_yes (by_test (int_lt a b) is) where
  by_test : (t : Bool) → t ≡ true → T t
  by_test true h = tt
  by_test false h = cc

int_not_less : (a b : ℤ) → b ≤ℤ a → int_lt a b ≡ false
int_not_less a b most = by_test (int_lt a b) (less_int a b) where
  by_test : (t : Bool) → (t ≡ true → a <ℤ b) → t ≡ false
  by_test true less = clash_ℤ (less refl) most
  by_test false less = refl

not_less_int : (a b : ℤ) → int_lt a b ≡ false → b ≤ℤ a
not_less_int a b is = by_lt_z a b (λ less. absurd (let clash : true ≡ false = sym (int_less a b less) ∙ is in cc)) (λ most. most)

pub covers_one : (z : ℤ) (n k : ℕ) → IsOneOf z n k → covers z n k ≡ true
covers_one z n k one =
    let i : ℕ = one.0 in
    let below : i < n = one.1 in
    let at : z +ℤ pos i ≡ pos k = one.2 in
    and_of_true (not (int_lt (pos k) z)) (int_lt (pos k) (z +ℤ pos n))
    (ap not (int_not_less (pos k) z (omega (arith, ints))))
    (int_less (pos k) (z +ℤ pos n) (omega (arith, ints)))

not_of_true : (t : Bool) → not t ≡ true → t ≡ false
not_of_true true is = cc
not_of_true false is = refl

pub one_covered : (z : ℤ) (n k : ℕ) → covers z n k ≡ true → IsOneOf z n k
one_covered z n k is =
    by_side z (not_less_int (pos k) z (not_of_true (int_lt (pos k) z) (front_of_and (not (int_lt (pos k) z)) (int_lt (pos k) (z +ℤ pos n)) is)))
    (less_int (pos k) (z +ℤ pos n) (back_of_and (not (int_lt (pos k) z)) (int_lt (pos k) (z +ℤ pos n)) is)) where
      by_side : (z : ℤ) → z ≤ℤ pos k → pos k <ℤ (z +ℤ pos n) → IsOneOf z n k
      by_side (pos m) least greatest = (k - m, omega (arith, ints), omega (arith, ints))
      by_side (negsuc m) least greatest = (k + suc m, omega (arith, ints), omega (arith, ints))
