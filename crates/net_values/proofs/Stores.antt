-- What is stored in values, bit by bit and part by part.
use Rattle.std.proofs.Common.{◌≡◌, ℕ, zero, suc, ◌<◌, ◌≤◌, ◌+◌, ◌-◌, ◌/◌, ◌^◌, Bool, true, false, T, ℤ, pos, negsuc, ◌+ℤ◌, List, [], ◌∷◌, map, length, drop, get_or, refl, sym, ◌∙◌, ap, subst, arith, Option, None, Some}
use Rattle.std.specs.Prelude.{slice_get, slice_index, slice_set, unsigned_abs}
use Rattle.std.specs.List.{AllByRecursion}
use Rattle.std.specs.Int.Signed.{◌<ℤ◌, lt_z, le_z, lt_z_yes}
use Rattle.std.proofs.lemmas.Int.{ints}
use Rattle.std.specs.Int.{bit_at}
use Rattle.std.proofs.Math.Nat.{div-eq_of_lt}
use Rattle.std.proofs.Common.{add-one, drop-cons}
use Rattle.bit_ops.specs.declared.value.Bits.{Bits}
use Rattle.bit_ops.specs.Lists.{words, widths}
use Rattle.bit_ops.proofs.Words.{pow_le}
use Rattle.net_ir.specs.declared.design.Var.{Var}
use Rattle.net_ir.specs.declared.statement.Pos.{Pos}
use Rattle.net_ir.specs.declared.statement.Target.{Target}
use Rattle.net_ir.specs.Value.{widths_of}
use Rattle.net_values.proofs.BitWrites.{place_within}
use Rattle.net_values.proofs.Targets.{lvalue_of, lvalue_list, by_target}
use Rattle.net_values.proofs.Overlays.{overlaid-append}
use Rattle.net_ir.specs.Target.{Lvalue, named_bits, bits_where, concatenated, lvalue, target_width, writes_to, word_with, overlaid, write_at, place_in, bits_to}

from_true : (t : Bool) → t ≡ true → T t
from_true true is = tt
from_true false is = cc

-- nothing is left so far above a word
pub nothing_above : (a n m : ℕ) → a < 2 ^ m → m ≤ n → 0 ≡ a / 2 ^ n
nothing_above a n m small far = let more : 2 ^ m ≤ 2 ^ n = pow_le m n far in sym (div-eq_of_lt (omega arith))

-- what a function of each element gives of a list with one element changed
pub map-set : {X Y : Type 0} (f : X → Y) (xs : List X) (i : ℕ) (x : X) → map f (slice_set xs i x) ≡ slice_set (map f xs) i (f x)
map-set f [] i x = refl
map-set f (y ∷ xs) zero x = refl
map-set f (y ∷ xs) (suc i) x = ap (λ ys. f y ∷ ys) (map-set f xs i x)

-- to store what stands there changes nothing
pub set_same : (xs : List ℕ) (i n : ℕ) → n ≡ slice_index xs i → slice_set xs i n ≡ xs
set_same [] i n is = refl
set_same (x ∷ xs) zero n is = ap (λ m. m ∷ xs) is
set_same (x ∷ xs) (suc i) n is = ap (λ ys. x ∷ ys) (set_same xs i n is)

pub stored_widths : (values : List Bits) (x : ℕ) (b : Bits) → b.width ≡ slice_index (widths values) x → widths (slice_set values x b) ≡ widths values
stored_widths values x b is = map-set (λ (a : Bits). a.width) values x b ∙ set_same (widths values) x b.width is

-- one bit of a value changed is one write
pub stored_bit : (values : List Bits) (x place bit : ℕ) (found : Option ℕ) (b : Bits) → found ≡ Some place →
    b.word ≡ word_with (slice_index (words values) x) place bit → words (slice_set values x b) ≡ overlaid (words values) (write_at x found bit)
stored_bit values x place bit found b at is =
    map-set (λ (a : Bits). a.word) values x b ∙ ap (slice_set (words values) x) is ∙ sym (ap (λ p. overlaid (words values) (write_at x p bit)) at)

-- a place that is not below the lowest, nor past the highest, is there
pub place_there : (w : ℕ) (z y : ℤ) → le_z (pos 0) z ≡ true → lt_z z y ≡ true → y ≡ pos w → place_in w z ≡ Some (unsigned_abs z)
place_there w (pos m) y least most width =
    let below : m < w = let less : pos m <ℤ pos w = subst (λ z. pos m <ℤ z) width (lt_z_yes (from_true (lt_z (pos m) y) most)) in omega (arith, ints) in
    place_within w m below
place_there w (negsuc m) y least most width = absurd (let clash : false ≡ true = least in cc)

-- one bit more
pub bits_more : (u : List ℕ) (x w : ℕ) (z : ℤ) (n word : ℕ) → overlaid u (bits_to x w z (n + 1) word) ≡ overlaid (overlaid u (bits_to x w z n word)) (write_at x (place_in w (z +ℤ pos n)) (bit_at word n))
bits_more u x w z n word =
    ap (λ i. overlaid u (bits_to x w z i word)) (let same : n + 1 ≡ suc n = omega arith in same)
    ∙ overlaid-append u (bits_to x w z n word) (write_at x (place_in w (z +ℤ pos n)) (bit_at word n))

-- ---- widths

-- the width of targets joined
abbrev pub width_of_all : List Var → List Target → ℕ
width_of_all vars parts = (concatenated (map (lvalue vars []) parts)).width

name_width : (vars : List Var) (u : List ℕ) (var : Option ℕ) (p : Option Pos) → (named_bits vars u var p).width ≡ (named_bits vars [] var p).width
name_width vars u None p = refl
name_width vars u (Some x) p = by_var (slice_get vars x) p where
  by_var : (found : Option Var) (p : Option Pos) → (bits_where (widths_of vars) u x found p).width ≡ (bits_where (widths_of vars) [] x found p).width
  by_var None p = refl
  by_var (Some v) None = refl
  by_var (Some v) (Some p) = refl

abbrev IsWide : List Var → List ℕ → Target → Type 0
IsWide vars u t = (lvalue vars u t).width ≡ (lvalue vars [] t).width

parts_width : (vars : List Var) (u : List ℕ) (parts : List Target) → AllByRecursion (IsWide vars u) parts →
    (concatenated (map (lvalue vars u) parts)).width ≡ width_of_all vars parts
parts_width vars u [] all = refl
parts_width vars u (t ∷ parts) all =
    ap (λ n. n + (concatenated (map (lvalue vars u) parts)).width) all.0 ∙ ap (λ n. (lvalue vars [] t).width + n) (parts_width vars u parts all.1)

-- the width of a target depends on no valuation
width_same : (vars : List Var) (u : List ℕ) (t : Target) → IsWide vars u t
width_same vars u =
    by_target (IsWide vars u)
    (λ var name place p. ap (λ (l : Lvalue). l.width) (lvalue_of vars u var name place p)
    ∙ name_width vars u var p
    ∙ sym (ap (λ (l : Lvalue). l.width) (lvalue_of vars [] var name place p)))
    (λ parts all. ap (λ (l : Lvalue). l.width) (lvalue_list vars u parts)
    ∙ parts_width vars u parts all
    ∙ sym (ap (λ (l : Lvalue). l.width) (lvalue_list vars [] parts)))

pub all_width : (vars : List Var) (u : List ℕ) (parts : List Target) → (concatenated (map (lvalue vars u) parts)).width ≡ width_of_all vars parts
all_width vars u parts = parts_width vars u parts (each parts) where
  each : (parts : List Target) → AllByRecursion (IsWide vars u) parts
  each [] = tt
  each (t ∷ parts) = (width_same vars u t, each parts)

-- ---- the loop over the parts of a concatenation

pub split_items : {X : Type 0} (xs : List X) (i : ℕ) (a : X) → i < length xs → a ≡ get_or xs i a → drop i xs ≡ a ∷ drop (i + 1) xs
split_items xs i a within is = rw (add-one, drop-cons xs i a within) (ap (λ x. x ∷ drop (suc i) xs) (sym is))

pub width_more : (vars : List Var) (parts : List Target) (i : ℕ) (t : Target) → i < length parts → t ≡ get_or parts i t →
    width_of_all vars (drop i parts) ≡ target_width vars t + width_of_all vars (drop (i + 1) parts)
width_more vars parts i t within is = ap (width_of_all vars) (split_items parts i t within is)

pub parts_more : (vars : List Var) (u values next : List ℕ) (parts : List Target) (i : ℕ) (t : Target) (word part : ℕ) → i < length parts → t ≡ get_or parts i t →
    part ≡ word / 2 ^ width_of_all vars (drop (i + 1) parts) → next ≡ overlaid values (writes_to vars u t part) →
    overlaid next ((concatenated (map (lvalue vars u) (drop (i + 1) parts))).writes word) ≡ overlaid values ((concatenated (map (lvalue vars u) (drop i parts))).writes word)
parts_more vars u values next parts i t word part within is cut step =
    let rest = concatenated (map (lvalue vars u) (drop (i + 1) parts)) in
    let same : part ≡ word / 2 ^ rest.width = cut ∙ ap (λ n. word / 2 ^ n) (sym (all_width vars u (drop (i + 1) parts))) in
    ap (λ xs. overlaid xs (rest.writes word)) (step ∙ ap (λ n. overlaid values (writes_to vars u t n)) same)
    ∙ sym (overlaid-append values (writes_to vars u t (word / 2 ^ rest.width)) (rest.writes word))
    ∙ sym (ap (λ ts. overlaid values ((concatenated (map (lvalue vars u) ts)).writes word)) (split_items parts i t within is))

-- the width of a part, and of those behind it
pub part_narrow : (r all t rest m : ℕ) → r ≡ all → all ≡ t + rest → r ≤ m → t ≤ m
part_narrow r all t rest m a b h = omega arith

pub part_within : (r all t rest w : ℕ) → r ≡ all → all ≡ t + rest → w ≡ t → w ≤ r
part_within r all t rest w a b e = omega arith

pub rest_behind : (r all t rest w : ℕ) → r ≡ all → all ≡ t + rest → w ≡ t → r - w ≡ rest
rest_behind r all t rest w a b e = omega arith

pub rest_narrow : (r w m : ℕ) → r ≤ m → r - w ≤ m
rest_narrow r w m h = omega arith
