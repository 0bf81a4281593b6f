-- Targets: what they take, which bits they may write, what they name and read.
use Rattle.std.proofs.Common.{◌≡◌, ℕ, ◌<◌, ◌+◌, ◌/◌, ◌^◌, Bool, true, false, pos, ◌-ℤ◌, List, [], ◌∷◌, ◌++◌, map, length, arith, refl, sym, ◌∙◌, ap, subst, Option, None, Some, inl, inr}
use Rattle.std.specs.Prelude.{◌==◌, ◌&&◌, ◌||◌, nat_lt, slice_get, slice_index, if◌then◌else◌, ◌⊎◌}
use Rattle.std.specs.List.{AllByRecursion, flat_map, list_any}
use Rattle.std.proofs.lemmas.List.Folds.{flat_map-map, list_any-append}
use Rattle.std.proofs.lemmas.Option.{slice_get_within}
use Rattle.sv_base.specs.declared.refusal.Place.{Place}
use Rattle.net_ir.specs.declared.design.Var.{Var}
use Rattle.net_ir.specs.declared.statement.Pos.{Pos}
use Rattle.net_ir.specs.declared.statement.Target.{Target, Of, List as Parts}
use Rattle.net_ir.specs.declared.statement.Target.TheOpen as layer
use Rattle.net_ir.specs.declared.statement.Target.TheOpen.{Target-F}
use Rattle.net_ir.specs.declared.statement.Target.TheVariants.{outs-Of, outs-List, rolls-Of, rolls-List}
use Rattle.net_ir.specs.declared.statement.Target.TheViews.{roll-Target}
use Rattle.net_ir.specs.declared.statement.Target.TheFolds.{map-Target, fold_out-Target, ind-Target, every_here-Target, every_held-Target}
use Rattle.net_ir.specs.Value.{widths_of, whole_number, lowest_from, size, reads_of}
use Rattle.net_ir.specs.Target.{Write, Lvalue, position_of, bits_to, bits_of, bits_where, named_bits, concatenated, lvalue_layer, lvalue, writes_to, last_bit, is_empty, is_fixed, covers, takes_bit, bit_where, named_bit, may_write_layer, may_write, var_list, position_reads, target_vars_layer, target_vars, target_reads_layer, target_reads}
use Rattle.net_ir.specs.Face.{stands_in}
use Rattle.net_values.specs.Positions.{HasFixedPosition, HasFixedLayer, HasFixedPositions}
use Rattle.net_values.specs.Writes.{IsWithin, AreWithin, AgreeOn}
use Rattle.net_values.proofs.Terms.{all_front, all_back, operand_is_local}
use Rattle.net_values.proofs.Elements.{all_both, all_join, all_flat, all_held}
use Rattle.net_values.proofs.Numbers.{and_of_true, front_of_and, back_of_and, test_lt, lt_test, eq_test, test_eq}
use Rattle.net_values.proofs.Variables.{width_is, length-widths}
use Rattle.net_values.proofs.BitWrites.{bits_within, IsWritten, last_found, written_back, written_front, IsOneOf, bits_found, bits_written, covers_one, one_covered}

-- ---- one layer

pub lvalue_of : (vars : List Var) (u : List ℕ) (var : Option ℕ) (name : List ℕ) (place : Place) (p : Option Pos) →
    lvalue vars u (Of var name place p) ≡ named_bits vars u var p
lvalue_of vars u var name place p =
    fold_out-Target Lvalue (lvalue_layer vars u) (Of var name place p) ∙ ap (λ y. lvalue_layer vars u (map-Target Target Lvalue (lvalue vars u) y)) (outs-Of var name place p)

pub lvalue_list : (vars : List Var) (u : List ℕ) (parts : List Target) → lvalue vars u (Parts parts) ≡ concatenated (map (lvalue vars u) parts)
lvalue_list vars u parts =
    fold_out-Target Lvalue (lvalue_layer vars u) (Parts parts) ∙ ap (λ y. lvalue_layer vars u (map-Target Target Lvalue (lvalue vars u) y)) (outs-List parts)

may_of : (vars : List Var) (var : Option ℕ) (name : List ℕ) (place : Place) (p : Option Pos) (x k : ℕ) →
    may_write vars (Of var name place p) x k ≡ named_bit vars var p x k
may_of vars var name place p x k =
    ap (λ (f : ℕ → ℕ → Bool). f x k)
    (fold_out-Target (ℕ → ℕ → Bool) (may_write_layer vars) (Of var name place p)
    ∙ ap (λ y. may_write_layer vars (map-Target Target (ℕ → ℕ → Bool) (may_write vars) y)) (outs-Of var name place p))

any_map : (vars : List Var) (parts : List Target) (x k : ℕ) → list_any (λ (f : ℕ → ℕ → Bool). f x k) (map (may_write vars) parts) ≡ list_any (λ t. may_write vars t x k) parts
any_map vars [] x k = refl
any_map vars (t ∷ parts) x k = ap (λ b. may_write vars t x k || b) (any_map vars parts x k)

may_list : (vars : List Var) (parts : List Target) (x k : ℕ) → may_write vars (Parts parts) x k ≡ list_any (λ t. may_write vars t x k) parts
may_list vars parts x k =
    ap (λ (f : ℕ → ℕ → Bool). f x k)
    (fold_out-Target (ℕ → ℕ → Bool) (may_write_layer vars) (Parts parts)
    ∙ ap (λ y. may_write_layer vars (map-Target Target (ℕ → ℕ → Bool) (may_write vars) y)) (outs-List parts))
    ∙ any_map vars parts x k

vars_of : (var : Option ℕ) (name : List ℕ) (place : Place) (p : Option Pos) → target_vars (Of var name place p) ≡ var_list var
vars_of var name place p =
    fold_out-Target (List ℕ) target_vars_layer (Of var name place p) ∙ ap (λ y. target_vars_layer (map-Target Target (List ℕ) target_vars y)) (outs-Of var name place p)

vars_list : (parts : List Target) → target_vars (Parts parts) ≡ flat_map target_vars parts
vars_list parts =
    fold_out-Target (List ℕ) target_vars_layer (Parts parts)
    ∙ ap (λ y. target_vars_layer (map-Target Target (List ℕ) target_vars y)) (outs-List parts)
    ∙ flat_map-map (λ (part : List ℕ). part) target_vars parts

reads_of_name : (var : Option ℕ) (name : List ℕ) (place : Place) (p : Option Pos) → target_reads (Of var name place p) ≡ position_reads p
reads_of_name var name place p =
    fold_out-Target (List ℕ) target_reads_layer (Of var name place p) ∙ ap (λ y. target_reads_layer (map-Target Target (List ℕ) target_reads y)) (outs-Of var name place p)

reads_of_list : (parts : List Target) → target_reads (Parts parts) ≡ flat_map target_reads parts
reads_of_list parts =
    fold_out-Target (List ℕ) target_reads_layer (Parts parts)
    ∙ ap (λ y. target_reads_layer (map-Target Target (List ℕ) target_reads y)) (outs-List parts)
    ∙ flat_map-map (λ (part : List ℕ). part) target_reads parts

-- what holds of each name, and of a concatenation where it holds of its parts, holds of each target
pub by_target : (P : Target → Type 0) → ((var : Option ℕ) (name : List ℕ) (place : Place) (p : Option Pos) → P (Of var name place p)) →
    ((parts : List Target) → AllByRecursion P parts → P (Parts parts)) → (t : Target) → P t
by_target P named listed = ind-Target P (λ x y is. subst (λ z. P (roll-Target z)) is (step y)) where
  step : (y : Target-F ((t : Target) × P t)) → P (roll-Target (map-Target ((t : Target) × P t) Target (λ e. e.0) y))
  step (layer.Of var name place p) = subst P (sym (rolls-Of var name place p)) (named var name place p)
  step (layer.List held) =
      let parts : List Target = map (λ e. e.0) held in
      subst P (sym (rolls-List parts)) (listed parts (all_held P held))

-- ---- the parts of targets with constant positions

fixed_held : (y : Target-F ((t : Target) × HasFixedPositions t)) → (parts : List Target) → map-Target ((t : Target) × HasFixedPositions t) Target (λ e. e.0) y ≡ layer.List parts →
    AllByRecursion HasFixedPositions parts
fixed_held (layer.Of var name place p) parts is = absurd (cc)
fixed_held (layer.List held) parts is = subst (AllByRecursion HasFixedPositions) (let same : map (λ e. e.0) held ≡ parts = cc in same) (all_held HasFixedPositions held)

fixed_parts : (parts : List Target) → HasFixedPositions (Parts parts) → AllByRecursion HasFixedPositions parts
fixed_parts parts fixed =
    let all = every_held-Target HasFixedLayer (Parts parts) fixed in
    fixed_held all.0 parts (all.1 ∙ outs-List parts)

fixed_name : (var : Option ℕ) (name : List ℕ) (place : Place) (p : Option Pos) → HasFixedPositions (Of var name place p) → HasFixedPosition p
fixed_name var name place p fixed = subst HasFixedLayer (outs-Of var name place p) (every_here-Target HasFixedLayer (Of var name place p) fixed)

-- ---- within the widths of the variables

pub element_within : (vars : List Var) (x : ℕ) (v : Var) → slice_get vars x ≡ Some v → x < length (widths_of vars)
element_within vars x v is = subst (λ n. x < n) (sym (length-widths vars)) (slice_get_within vars x v is)

abbrev WritesWithin : List Var → Lvalue → Type 0
WritesWithin vars l = (word : ℕ) → AreWithin (widths_of vars) (l.writes word)

within_bits : (vars : List Var) (u : List ℕ) (x : ℕ) (v : Var) (p : Option Pos) → slice_get vars x ≡ Some v → WritesWithin vars (bits_of (widths_of vars) u x v p)
within_bits vars u x v None is word = bits_within (widths_of vars) x v.width (pos 0) v.width word (element_within vars x v is) (width_is vars x v is)
within_bits vars u x v (Some p) is word =
    bits_within (widths_of vars) x v.width (position_of (widths_of vars) u p -ℤ pos v.low) p.width word (element_within vars x v is) (width_is vars x v is)

within_where : (vars : List Var) (u : List ℕ) (x : ℕ) (found : Option Var) (p : Option Pos) → slice_get vars x ≡ found → WritesWithin vars (bits_where (widths_of vars) u x found p)
within_where vars u x None p is word = tt
within_where vars u x (Some v) p is word = within_bits vars u x v p is word

within_name : (vars : List Var) (u : List ℕ) (var : Option ℕ) (p : Option Pos) → WritesWithin vars (named_bits vars u var p)
within_name vars u None p word = tt
within_name vars u (Some x) p word = within_where vars u x (slice_get vars x) p refl word

within_parts : (vars : List Var) (u : List ℕ) (parts : List Target) → AllByRecursion (λ t. WritesWithin vars (lvalue vars u t)) parts →
    WritesWithin vars (concatenated (map (lvalue vars u) parts))
within_parts vars u [] all word = tt
within_parts vars u (t ∷ parts) all word =
    let rest = concatenated (map (lvalue vars u) parts) in
    all_join (IsWithin (widths_of vars)) ((lvalue vars u t).writes (word / 2 ^ rest.width)) (rest.writes word) (all.0 (word / 2 ^ rest.width)) (within_parts vars u parts all.1 word)

pub target_within : (vars : List Var) (u : List ℕ) (t : Target) (word : ℕ) → AreWithin (widths_of vars) (writes_to vars u t word)
target_within vars u =
    by_target (λ t. WritesWithin vars (lvalue vars u t))
    (λ var name place p. subst (WritesWithin vars) (sym (lvalue_of vars u var name place p)) (within_name vars u var p))
    (λ parts all. subst (WritesWithin vars) (sym (lvalue_list vars u parts)) (within_parts vars u parts all))

-- ---- what positions read

position_local : (ws u v : List ℕ) (p : Pos) → AgreeOn (reads_of p.at) u v → position_of ws u p ≡ position_of ws v p
position_local ws u v p agree =
    ap (λ (o : ℕ × ℕ). lowest_from p.down p.width (whole_number p.at_signed (size ws p.at) o.1)) (operand_is_local ws p.at u v agree)

bits_local : (ws u v : List ℕ) (x : ℕ) (w : Var) (p : Option Pos) → AgreeOn (position_reads p) u v → bits_of ws u x w p ≡ bits_of ws v x w p
bits_local ws u v x w None agree = refl
bits_local ws u v x w (Some p) agree =
    ap (λ z. record { width = p.width; writes = bits_to x w.width (z -ℤ pos w.low) p.width }) (position_local ws u v p agree)

where_local : (ws u v : List ℕ) (x : ℕ) (found : Option Var) (p : Option Pos) → AgreeOn (position_reads p) u v → bits_where ws u x found p ≡ bits_where ws v x found p
where_local ws u v x None p agree = refl
where_local ws u v x (Some w) p agree = bits_local ws u v x w p agree

name_local : (vars : List Var) (u v : List ℕ) (var : Option ℕ) (p : Option Pos) → AgreeOn (position_reads p) u v → named_bits vars u var p ≡ named_bits vars v var p
name_local vars u v None p agree = refl
name_local vars u v (Some x) p agree = where_local (widths_of vars) u v x (slice_get vars x) p agree

abbrev IsLocal : List Var → List ℕ → List ℕ → Target → Type 0
IsLocal vars u v t = AgreeOn (target_reads t) u v → lvalue vars u t ≡ lvalue vars v t

parts_local : (vars : List Var) (u v : List ℕ) (parts : List Target) → AllByRecursion (IsLocal vars u v) parts → AgreeOn (flat_map target_reads parts) u v →
    map (lvalue vars u) parts ≡ map (lvalue vars v) parts
parts_local vars u v [] all agree = refl
parts_local vars u v (t ∷ parts) all agree =
    let here : lvalue vars u t ≡ lvalue vars v t = all.0 (all_front (λ x. slice_index u x ≡ slice_index v x) (target_reads t) (flat_map target_reads parts) agree) in
    let rest : map (lvalue vars u) parts ≡ map (lvalue vars v) parts =
    parts_local vars u v parts all.1 (all_back (λ x. slice_index u x ≡ slice_index v x) (target_reads t) (flat_map target_reads parts) agree) in
    ap (λ l. l ∷ map (lvalue vars u) parts) here ∙ ap (λ ls. lvalue vars v t ∷ ls) rest

pub target_local : (vars : List Var) (u v : List ℕ) (t : Target) → AgreeOn (target_reads t) u v → lvalue vars u t ≡ lvalue vars v t
target_local vars u v =
    by_target (IsLocal vars u v)
    (λ var name place p agree. lvalue_of vars u var name place p
    ∙ name_local vars u v var p (subst (λ xs. AgreeOn xs u v) (reads_of_name var name place p) agree)
    ∙ sym (lvalue_of vars v var name place p))
    (λ parts all agree. lvalue_list vars u parts
    ∙ ap concatenated (parts_local vars u v parts all (subst (λ xs. AgreeOn xs u v) (reads_of_list parts) agree))
    ∙ sym (lvalue_list vars v parts))

pub writes_local : (vars : List Var) (u v : List ℕ) (t : Target) (word : ℕ) → AgreeOn (target_reads t) u v → writes_to vars u t word ≡ writes_to vars v t word
writes_local vars u v t word agree = ap (λ (l : Lvalue). l.writes word) (target_local vars u v t agree)

-- ---- constant positions

empty_list : (xs : List ℕ) → is_empty xs ≡ true → xs ≡ []
empty_list [] is = refl
empty_list (x ∷ xs) is = cc

fixed_agree : (u v : List ℕ) (p : Pos) → is_fixed p ≡ true → AgreeOn (reads_of p.at) u v
fixed_agree u v p fixed = subst (λ xs. AgreeOn xs u v) (sym (empty_list (reads_of p.at) fixed)) tt

fixed_position : (ws u v : List ℕ) (p : Pos) → is_fixed p ≡ true → position_of ws u p ≡ position_of ws v p
fixed_position ws u v p fixed = position_local ws u v p (fixed_agree u v p fixed)

abbrev Agrees : List ℕ → List ℕ → Target → Type 0
Agrees u v t = HasFixedPositions t → AgreeOn (target_reads t) u v

name_agrees : (u v : List ℕ) (p : Option Pos) → HasFixedPosition p → AgreeOn (position_reads p) u v
name_agrees u v None fixed = tt
name_agrees u v (Some p) fixed = fixed_agree u v p fixed

fixed_agrees : (u v : List ℕ) (t : Target) → Agrees u v t
fixed_agrees u v =
    by_target (Agrees u v)
    (λ var name place p fixed. subst (λ xs. AgreeOn xs u v) (sym (reads_of_name var name place p)) (name_agrees u v p (fixed_name var name place p fixed)))
    (λ parts all fixed. subst (λ xs. AgreeOn xs u v) (sym (reads_of_list parts))
    (all_flat (λ x. slice_index u x ≡ slice_index v x) target_reads parts
    (all_both (Agrees u v) HasFixedPositions (λ t. AgreeOn (target_reads t) u v) (λ t f h. f h) parts all (fixed_parts parts fixed))))

pub writes_constant : (vars : List Var) (u v : List ℕ) (t : Target) (word : ℕ) → HasFixedPositions t → writes_to vars u t word ≡ writes_to vars v t word
writes_constant vars u v t word fixed = writes_local vars u v t word (fixed_agrees u v t fixed)

-- ---- which bits may be written

-- a variable's whole covers each of its bits
whole_covers : (w k : ℕ) → k < w → IsOneOf (pos 0) w k
whole_covers w k within = (k, within, ap pos (let same : 0 + k ≡ k = omega arith in same))

may_bits : (ws u : List ℕ) (x : ℕ) (v : Var) (p : Option Pos) (word y k bit : ℕ) → last_bit ((bits_of ws u x v p).writes word) y k ≡ Some bit →
    (x == y && (nat_lt k v.width && takes_bit ws v p k)) ≡ true
may_bits ws u x v p word y k bit is = by_position p is where
  both : (p : Option Pos) → x ≡ y → k < v.width → takes_bit ws v p k ≡ true → (x == y && (nat_lt k v.width && takes_bit ws v p k)) ≡ true
  both p same within takes =
      and_of_true (x == y) (nat_lt k v.width && takes_bit ws v p k) (eq_test x y same)
      (and_of_true (nat_lt k v.width) (takes_bit ws v p k) (lt_test k v.width within) takes)

  takes : (p : Pos) (t : Bool) → is_fixed p ≡ t → IsOneOf (position_of ws u p -ℤ pos v.low) p.width k →
      (if t then covers (position_of ws [] p -ℤ pos v.low) p.width k else true) ≡ true
  takes p true fixed one =
      covers_one (position_of ws [] p -ℤ pos v.low) p.width k
      (subst (λ z. IsOneOf (z -ℤ pos v.low) p.width k) (fixed_position ws u [] p fixed) one)
  takes p false fixed one = refl

  by_position : (p : Option Pos) → last_bit ((bits_of ws u x v p).writes word) y k ≡ Some bit → (x == y && (nat_lt k v.width && takes_bit ws v p k)) ≡ true
  by_position None is = let found = bits_found x v.width (pos 0) v.width word y k bit is in both None found.0 found.1 refl
  by_position (Some p) is =
      let found = bits_found x v.width (position_of ws u p -ℤ pos v.low) p.width word y k bit is in
      both (Some p) found.0 found.1 (takes p (is_fixed p) refl found.2)

may_where : (ws u : List ℕ) (x : ℕ) (found : Option Var) (p : Option Pos) (word y k bit : ℕ) → last_bit ((bits_where ws u x found p).writes word) y k ≡ Some bit →
    (x == y && bit_where ws found p k) ≡ true
may_where ws u x None p word y k bit is = absurd (let clash : None ≡ Some bit = is in cc)
may_where ws u x (Some v) p word y k bit is = may_bits ws u x v p word y k bit is

may_name : (vars : List Var) (u : List ℕ) (var : Option ℕ) (p : Option Pos) (word y k bit : ℕ) → last_bit ((named_bits vars u var p).writes word) y k ≡ Some bit →
    named_bit vars var p y k ≡ true
may_name vars u None p word y k bit is = absurd (let clash : None ≡ Some bit = is in cc)
may_name vars u (Some x) p word y k bit is = may_where (widths_of vars) u x (slice_get vars x) p word y k bit is

-- the writes of what takes a word are of bits that pass a test
abbrev WritesOnly : Lvalue → (ℕ → ℕ → Bool) → Type 0
WritesOnly l may = (word x k bit : ℕ) → last_bit (l.writes word) x k ≡ Some bit → may x k ≡ true

or_first : (a b : Bool) → a ≡ true → (a || b) ≡ true
or_first a b is = ap (λ t. t || b) is

or_second : (a b : Bool) → b ≡ true → (a || b) ≡ true
or_second true b is = refl
or_second false b is = is

may_parts : (vars : List Var) (u : List ℕ) (parts : List Target) → AllByRecursion (λ t. WritesOnly (lvalue vars u t) (may_write vars t)) parts →
    WritesOnly (concatenated (map (lvalue vars u) parts)) (λ x k. list_any (λ t. may_write vars t x k) parts)
may_parts vars u [] all word x k bit is = absurd (let clash : None ≡ Some bit = is in cc)
may_parts vars u (t ∷ parts) all word x k bit is =
    by_part (may_parts vars u parts all.1 word x k bit) (last_found first second x k bit is) where
      rest : Lvalue
      rest = concatenated (map (lvalue vars u) parts)

      first : List Write
      first = (lvalue vars u t).writes (word / 2 ^ rest.width)

      second : List Write
      second = rest.writes word

      by_part : (last_bit second x k ≡ Some bit → list_any (λ t. may_write vars t x k) parts ≡ true) → (last_bit second x k ≡ Some bit) ⊎ (last_bit first x k ≡ Some bit) →
          (may_write vars t x k || list_any (λ t. may_write vars t x k) parts) ≡ true
      by_part later (inl found) = or_second (may_write vars t x k) (list_any (λ t. may_write vars t x k) parts) (later found)
      by_part later (inr found) = or_first (may_write vars t x k) (list_any (λ t. may_write vars t x k) parts) (all.0 (word / 2 ^ rest.width) x k bit found)

pub target_may : (vars : List Var) (u : List ℕ) (t : Target) (word x k bit : ℕ) → last_bit (writes_to vars u t word) x k ≡ Some bit → may_write vars t x k ≡ true
target_may vars u =
    by_target (λ t. WritesOnly (lvalue vars u t) (may_write vars t))
    (λ var name place p word x k bit is. may_of vars var name place p x k
    ∙ may_name vars u var p word x k bit (sym (ap (λ (l : Lvalue). last_bit (l.writes word) x k) (lvalue_of vars u var name place p)) ∙ is))
    (λ parts all word x k bit is. may_list vars parts x k
    ∙ may_parts vars u parts all word x k bit (sym (ap (λ (l : Lvalue). last_bit (l.writes word) x k) (lvalue_list vars u parts)) ∙ is))

-- ---- each bit that a target with constant positions may write is written

abbrev WritesAll : Lvalue → (ℕ → ℕ → Bool) → Type 0
WritesAll l may = (word x k : ℕ) → may x k ≡ true → IsWritten (l.writes word) x k

all_bits : (ws u : List ℕ) (x : ℕ) (v : Var) (p : Option Pos) → HasFixedPosition p → (word y k : ℕ) →
    (x == y && (nat_lt k v.width && takes_bit ws v p k)) ≡ true → IsWritten ((bits_of ws u x v p).writes word) y k
all_bits ws u x v p fixed word y k may = subst (λ y. IsWritten ((bits_of ws u x v p).writes word) y k) (test_eq x y (front_of_and (x == y) (nat_lt k v.width && takes_bit ws v p k) may)) (by_position p fixed takes) where
  inside : (nat_lt k v.width && takes_bit ws v p k) ≡ true
  inside = back_of_and (x == y) (nat_lt k v.width && takes_bit ws v p k) may

  within : k < v.width
  within = test_lt k v.width (front_of_and (nat_lt k v.width) (takes_bit ws v p k) inside)

  takes : takes_bit ws v p k ≡ true
  takes = back_of_and (nat_lt k v.width) (takes_bit ws v p k) inside

  by_position : (p : Option Pos) → HasFixedPosition p → takes_bit ws v p k ≡ true → IsWritten ((bits_of ws u x v p).writes word) x k
  by_position None fixed takes = bits_written x v.width (pos 0) v.width word k within (whole_covers v.width k within)
  by_position (Some p) fixed takes =
      let covered : covers (position_of ws [] p -ℤ pos v.low) p.width k ≡ true =
      sym (ap (λ (t : Bool). if t then covers (position_of ws [] p -ℤ pos v.low) p.width k else true) fixed) ∙ takes in
      bits_written x v.width (position_of ws u p -ℤ pos v.low) p.width word k within
      (subst (λ z. IsOneOf (z -ℤ pos v.low) p.width k) (fixed_position ws [] u p fixed) (one_covered (position_of ws [] p -ℤ pos v.low) p.width k covered))

all_where : (ws u : List ℕ) (x : ℕ) (found : Option Var) (p : Option Pos) → HasFixedPosition p → (word y k : ℕ) → (x == y && bit_where ws found p k) ≡ true →
    IsWritten ((bits_where ws u x found p).writes word) y k
all_where ws u x None p fixed word y k may = absurd (let clash : false ≡ true = back_of_and (x == y) false may in cc)
all_where ws u x (Some v) p fixed word y k may = all_bits ws u x v p fixed word y k may

all_name : (vars : List Var) (u : List ℕ) (var : Option ℕ) (p : Option Pos) → HasFixedPosition p → WritesAll (named_bits vars u var p) (named_bit vars var p)
all_name vars u None p fixed word y k may = absurd (let clash : false ≡ true = may in cc)
all_name vars u (Some x) p fixed word y k may = all_where (widths_of vars) u x (slice_get vars x) p fixed word y k may

or_found : (a b : Bool) → (a || b) ≡ true → (a ≡ true) ⊎ (b ≡ true)
or_found true b is = inl refl
or_found false b is = inr is

all_parts : (vars : List Var) (u : List ℕ) (parts : List Target) → AllByRecursion (λ t. WritesAll (lvalue vars u t) (may_write vars t)) parts →
    WritesAll (concatenated (map (lvalue vars u) parts)) (λ x k. list_any (λ t. may_write vars t x k) parts)
all_parts vars u [] all word x k may = absurd (let clash : false ≡ true = may in cc)
all_parts vars u (t ∷ parts) all word x k may =
    by_part (all_parts vars u parts all.1 word x k) (or_found (may_write vars t x k) (list_any (λ t. may_write vars t x k) parts) may) where
      rest : Lvalue
      rest = concatenated (map (lvalue vars u) parts)

      first : List Write
      first = (lvalue vars u t).writes (word / 2 ^ rest.width)

      second : List Write
      second = rest.writes word

      by_part : (list_any (λ t. may_write vars t x k) parts ≡ true → IsWritten second x k) → (may_write vars t x k ≡ true) ⊎ (list_any (λ t. may_write vars t x k) parts ≡ true) →
          IsWritten (first ++ second) x k
      by_part later (inl here) = written_front first second x k (all.0 (word / 2 ^ rest.width) x k here)
      by_part later (inr there) = written_back first second x k (later there)

abbrev WritesFixed : List Var → List ℕ → Target → Type 0
WritesFixed vars u t = HasFixedPositions t → WritesAll (lvalue vars u t) (may_write vars t)

pub target_fixed : (vars : List Var) (u : List ℕ) (t : Target) → HasFixedPositions t → (word x k : ℕ) → may_write vars t x k ≡ true →
    (bit : ℕ) × (last_bit (writes_to vars u t word) x k ≡ Some bit)
target_fixed vars u =
    by_target (WritesFixed vars u)
    (λ var name place p fixed word x k may. subst (λ (l : Lvalue). IsWritten (l.writes word) x k) (sym (lvalue_of vars u var name place p))
    (all_name vars u var p (fixed_name var name place p fixed) word x k (sym (may_of vars var name place p x k) ∙ may)))
    (λ parts all fixed word x k may. subst (λ (l : Lvalue). IsWritten (l.writes word) x k) (sym (lvalue_list vars u parts))
    (all_parts vars u parts
    (all_both (WritesFixed vars u) HasFixedPositions (λ t. WritesAll (lvalue vars u t) (may_write vars t)) (λ t f h. f h) parts all (fixed_parts parts fixed))
    word x k (sym (may_list vars parts x k) ∙ may)))

-- ---- what targets name

named_there : (vars : List Var) (var : Option ℕ) (p : Option Pos) (x k : ℕ) → named_bit vars var p x k ≡ true → stands_in x (var_list var) ≡ true
named_there vars None p x k may = absurd (let clash : false ≡ true = may in cc)
named_there vars (Some var) p x k may = or_first (var == x) false (front_of_and (var == x) (bit_where (widths_of vars) (slice_get vars var) p k) may)

abbrev Names : List Var → ℕ → ℕ → Target → Type 0
Names vars x k t = may_write vars t x k ≡ true → stands_in x (target_vars t) ≡ true

named_parts : (vars : List Var) (x k : ℕ) (parts : List Target) → AllByRecursion (Names vars x k) parts → list_any (λ t. may_write vars t x k) parts ≡ true →
    stands_in x (flat_map target_vars parts) ≡ true
named_parts vars x k [] all may = absurd (let clash : false ≡ true = may in cc)
named_parts vars x k (t ∷ parts) all may =
    list_any-append (λ y. y == x) (target_vars t) (flat_map target_vars parts)
    ∙ by_part (named_parts vars x k parts all.1) (or_found (may_write vars t x k) (list_any (λ t. may_write vars t x k) parts) may) where
      by_part : (list_any (λ t. may_write vars t x k) parts ≡ true → stands_in x (flat_map target_vars parts) ≡ true) →
          (may_write vars t x k ≡ true) ⊎ (list_any (λ t. may_write vars t x k) parts ≡ true) →
          (stands_in x (target_vars t) || stands_in x (flat_map target_vars parts)) ≡ true
      by_part later (inl here) = or_first (stands_in x (target_vars t)) (stands_in x (flat_map target_vars parts)) (all.0 here)
      by_part later (inr there) = or_second (stands_in x (target_vars t)) (stands_in x (flat_map target_vars parts)) (later there)

pub target_named : (vars : List Var) (t : Target) (x k : ℕ) → may_write vars t x k ≡ true → stands_in x (target_vars t) ≡ true
target_named vars t x k =
    by_target (Names vars x k)
    (λ var name place p may. ap (stands_in x) (vars_of var name place p) ∙ named_there vars var p x k (sym (may_of vars var name place p x k) ∙ may))
    (λ parts all may. ap (stands_in x) (vars_list parts) ∙ named_parts vars x k parts all (sym (may_list vars parts x k) ∙ may)) t
