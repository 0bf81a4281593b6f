-- No two registers have a bit in common, so words of registers tell the bits of variables.
use Rattle.std.proofs.Common.{◌≡◌, ℕ, zero, suc, ◌<◌, ◌≤◌, ◌+◌, ◌-◌, List, [], ◌∷◌, ◌++◌, drop, Bool, true, false, refl, sym, ◌∙◌, ap, subst, arith, Option, None, Some}
use Rattle.std.specs.Prelude.{slice_index, slice_get, ◌==◌, ◌&&◌, nat_lt, nat_le, if◌then◌else◌}
use Rattle.std.specs.List.{AllByRecursion}
use Rattle.std.specs.Int.{bit_at}
use Rattle.std.proofs.lemmas.Bool.Decides.{nat_tests}
use Rattle.std.proofs.lemmas.Grind.{get_or_after_one}
use Rattle.std.proofs.lemmas.Nat.Bits.{bit_at-lt}
use Rattle.net_ir.specs.declared.design.Var.{Var}
use Rattle.net_ir.specs.declared.design.Driver.{Driver}
use Rattle.net_ir.specs.declared.design.Spec.{Spec}
use Rattle.net_ir.specs.Drive.{NoneHolds}
use Rattle.net_ir.specs.Register.{Register, holder_from, onto_run, with_bit, runs_from, registers_from, registers_of}
use Rattle.net_values.proofs.Elements.{all_from, all_join, all_get}
use Rattle.net_values.proofs.Numbers.{and_of_true, front_of_and, back_of_and, test_eq, eq_test, test_lt, lt_test}
use Rattle.plain_run.proofs.Registers.{IsRun, IsRegister, runs_sound, registers_sound, holder_of}

-- a register has bit k of variable x
pub record Covers (r : Register) (x k : ℕ) : Type 0 where
  pub var : r.var ≡ x
  pub from : r.low ≤ k
  pub to : k < r.low + r.width

-- two registers have no bit in common
abbrev Disjoint : Register → Register → Type 0
Disjoint r q = (x k : ℕ) → Covers r x k → Covers q x k → ⊥

-- so each two of a list
abbrev pub AreApart : List Register → Type 0
AreApart [] = Unit {0}
AreApart (r ∷ registers) = AllByRecursion (Disjoint r) registers × AreApart registers

-- ---- the registers of a variable

-- each begins where the one before has ended, the first from bit k on
abbrev Ascends : ℕ → List Register → Type 0
Ascends k [] = Unit {0}
Ascends k (r ∷ runs) = (k ≤ r.low) × Ascends (r.low + r.width) runs

ascends_from : (j k : ℕ) (runs : List Register) → j ≤ k → Ascends k runs → Ascends j runs
ascends_from j k [] below ascends = tt
ascends_from j k (r ∷ runs) below ascends = (let first : k ≤ r.low = ascends.0 in omega arith, ascends.1)

all_above : (k : ℕ) (runs : List Register) → Ascends k runs → AllByRecursion (λ (q : Register). k ≤ q.low) runs
all_above k [] ascends = tt
all_above k (r ∷ runs) ascends =
    let first : k ≤ r.low = ascends.0 in
    (first, all_above k runs (ascends_from k (r.low + r.width) runs (omega arith) ascends.1))

ascends_apart : (k : ℕ) (runs : List Register) → Ascends k runs → AreApart runs
ascends_apart k [] ascends = tt
ascends_apart k (r ∷ runs) ascends = (
  all_from (λ (q : Register). r.low + r.width ≤ q.low) (Disjoint r) (λ q above x i a b. let high = a.to in let low = b.from in absurd (omega arith)) runs (all_above (r.low + r.width) runs ascends.1),
  ascends_apart (r.low + r.width) runs ascends.1,
)

onto_ascends : (x k d : ℕ) (runs : List Register) → Ascends (k + 1) runs → Ascends k (onto_run x k d runs)
onto_ascends x k d [] ascends = (omega arith, tt)
onto_ascends x k d (r ∷ runs) ascends = by_test (r.low == k + 1 && r.driver == d) refl where
  by_test : (t : Bool) → (r.low == k + 1 && r.driver == d) ≡ t →
      Ascends k (if t then record { var = x; low = k; width = r.width + 1; driver = d } ∷ runs else record { var = x; low = k; width = 1; driver = d } ∷ r ∷ runs)
  by_test true joins =
      let near : r.low ≡ k + 1 = test_eq r.low (k + 1) (front_of_and (r.low == k + 1) (r.driver == d) joins) in
      (omega arith, ascends_from (k + (r.width + 1)) (r.low + r.width) runs (omega arith) ascends.1)
  by_test false apart = (omega arith, ascends)

with_ascends : (x k : ℕ) (found : Option ℕ) (runs : List Register) → Ascends (k + 1) runs → Ascends k (with_bit x k found runs)
with_ascends x k None runs ascends = ascends_from k (k + 1) runs (omega arith) ascends
with_ascends x k (Some d) runs ascends = onto_ascends x k d runs ascends

runs_ascend : (holder : ℕ → Option ℕ) (x k n : ℕ) → Ascends k (runs_from holder x k n)
runs_ascend holder x k zero = tt
runs_ascend holder x k (suc n) = with_ascends x k (holder k) (runs_from holder x (k + 1) n) (runs_ascend holder x (k + 1) n)

-- ---- the registers of all variables

apart_join : (xs ys : List Register) → AreApart xs → AreApart ys → AllByRecursion (λ r. AllByRecursion (Disjoint r) ys) xs → AreApart (xs ++ ys)
apart_join [] ys a b across = b
apart_join (r ∷ xs) ys a b across = (all_join (Disjoint r) xs ys a.0 across.0, apart_join xs ys a.1 b across.1)

registers_apart : (holder : ℕ → ℕ → Option ℕ) (n : ℕ) (vars : List Var) → AreApart (registers_from holder n vars)
registers_apart holder n [] = tt
registers_apart holder n (v ∷ vars) =
    let rest = registers_from holder (n + 1) vars in
    apart_join (runs_from (holder n) n 0 v.width) rest
    (ascends_apart 0 (runs_from (holder n) n 0 v.width) (runs_ascend (holder n) n 0 v.width))
    (registers_apart holder (n + 1) vars)
    (all_from (IsRun (holder n) n 0 (0 + v.width)) (λ r. AllByRecursion (Disjoint r) rest)
    (λ r run. all_from (IsRegister holder (n + 1) vars) (Disjoint r) (λ q is. across r q run is) rest (registers_sound holder (n + 1) vars))
    (runs_from (holder n) n 0 v.width) (runs_sound (holder n) n 0 v.width)) where
      across : (r q : Register) → IsRun (holder n) n 0 (0 + v.width) r → IsRegister holder (n + 1) vars q → Disjoint r q
      across r q run is x k a b =
          let first : r.var ≡ n = run.var in
          let second : n + 1 + is.place ≡ q.var = is.number in
          let one : r.var ≡ x = a.var in
          let other : q.var ≡ x = b.var in
          absurd (omega arith)

pub are_apart : (spec : Spec) → AreApart (registers_of spec)
are_apart spec = registers_apart (holder_of spec) 0 spec.vars

-- ---- bits of variables from words of registers

abbrev has_bit : Register → ℕ → ℕ → Bool
has_bit r x k = r.var == x && (nat_le r.low k && nat_lt k (r.low + r.width))

le_test : (a b : ℕ) → a ≤ b → nat_le a b ≡ true
le_test a b h = grind (arith, nat_tests)

test_le : (a b : ℕ) → nat_le a b ≡ true → a ≤ b
test_le a b h = grind (arith, nat_tests)

test_covers : (r : Register) (x k : ℕ) → has_bit r x k ≡ true → Covers r x k
test_covers r x k is =
    let back = back_of_and (r.var == x) (nat_le r.low k && nat_lt k (r.low + r.width)) is in record {
      var = test_eq r.var x (front_of_and (r.var == x) (nat_le r.low k && nat_lt k (r.low + r.width)) is);
      from = test_le r.low k (front_of_and (nat_le r.low k) (nat_lt k (r.low + r.width)) back);
      to = test_lt k (r.low + r.width) (back_of_and (nat_le r.low k) (nat_lt k (r.low + r.width)) back);
    }

covers_test : (r : Register) (x k : ℕ) → Covers r x k → has_bit r x k ≡ true
covers_test r x k covers =
    and_of_true (r.var == x) (nat_le r.low k && nat_lt k (r.low + r.width)) (eq_test r.var x covers.var)
    (and_of_true (nat_le r.low k) (nat_lt k (r.low + r.width)) (le_test r.low k covers.from) (lt_test k (r.low + r.width) covers.to))

-- bit k of variable x as the word of a register has it, where one has that bit, else another
abbrev pub bit_in : List Register → List ℕ → ℕ → ℕ → ℕ → ℕ
bit_in [] words x k other = other
bit_in (r ∷ registers) words x k other = if has_bit r x k then bit_at (slice_index words 0) (k - r.low) else bit_in registers (drop 1 words) x k other

pub bit_below : (registers : List Register) (words : List ℕ) (x k other : ℕ) → other < 2 → bit_in registers words x k other < 2
bit_below [] words x k other two = two
bit_below (r ∷ registers) words x k other two = by_test (has_bit r x k) (bit_below registers (drop 1 words) x k other two) where
  by_test : (t : Bool) → bit_in registers (drop 1 words) x k other < 2 →
      (if t then bit_at (slice_index words 0) (k - r.low) else bit_in registers (drop 1 words) x k other) < 2
  by_test true rest = bit_at-lt (slice_index words 0) (k - r.low)
  by_test false rest = rest

pub bit_of_register : (registers : List Register) (words : List ℕ) (i : ℕ) (r : Register) (x k other : ℕ) → AreApart registers →
    slice_get registers i ≡ Some r → Covers r x k → bit_in registers words x k other ≡ bit_at (slice_index words i) (k - r.low)
bit_of_register [] words i r x k other apart at covers = absurd (let clash : None ≡ Some r = at in cc)
bit_of_register (q ∷ registers) words zero r x k other apart at covers =
    let found : Some q ≡ Some r = at in
    let same : q ≡ r = cc in
    ap (λ (t : Bool). if t then bit_at (slice_index words 0) (k - q.low) else bit_in registers (drop 1 words) x k other)
    (ap (λ (p : Register). has_bit p x k) same ∙ covers_test r x k covers)
    ∙ ap (λ (p : Register). bit_at (slice_index words 0) (k - p.low)) same
bit_of_register (q ∷ registers) words (suc i) r x k other apart at covers =
    ap (λ (t : Bool). if t then bit_at (slice_index words 0) (k - q.low) else bit_in registers (drop 1 words) x k other) (by_test (has_bit q x k) refl)
    ∙ bit_of_register registers (drop 1 words) i r x k other apart.1 at covers
    ∙ ap (λ n. bit_at n (k - r.low)) (get_or_after_one words i 0 ∙ ap (slice_index words) (let one : 1 + i ≡ suc i = omega arith in one)) where
      by_test : (t : Bool) → has_bit q x k ≡ t → has_bit q x k ≡ false
      by_test false is = is
      by_test true is = absurd (all_get (Disjoint q) registers i r apart.0 at x k (test_covers q x k is) covers)

bit_of_none : (registers : List Register) (words : List ℕ) (x k other : ℕ) → AllByRecursion (λ (q : Register). Covers q x k → ⊥) registers →
    bit_in registers words x k other ≡ other
bit_of_none [] words x k other none = refl
bit_of_none (q ∷ registers) words x k other none =
    ap (λ (t : Bool). if t then bit_at (slice_index words 0) (k - q.low) else bit_in registers (drop 1 words) x k other) (by_test (has_bit q x k) refl)
    ∙ bit_of_none registers (drop 1 words) x k other none.1 where
      by_test : (t : Bool) → has_bit q x k ≡ t → has_bit q x k ≡ false
      by_test false is = is
      by_test true is = absurd (none.0 (test_covers q x k is))

-- what no driver holds is no register's
none_holder : (vars : List Var) (m : ℕ) (drivers : List Driver) (x k : ℕ) → NoneHolds vars drivers x k → holder_from m vars drivers x k ≡ None
none_holder vars m [] x k none = refl
none_holder vars m (d ∷ drivers) x k none =
    ap (λ (t : Bool). if t then Some m else holder_from (m + 1) vars drivers x k) none.0 ∙ none_holder vars (m + 1) drivers x k none.1

pub bit_not_held : (spec : Spec) (words : List ℕ) (x k other : ℕ) → NoneHolds spec.vars spec.drivers x k →
    bit_in (registers_of spec) words x k other ≡ other
bit_not_held spec words x k other none =
    bit_of_none (registers_of spec) words x k other
    (all_from (IsRegister (holder_of spec) 0 spec.vars) (λ (q : Register). Covers q x k → ⊥) (λ q is covers. no_register q is covers) (registers_of spec) (registers_sound (holder_of spec) 0 spec.vars)) where
      no_register : (q : Register) → IsRegister (holder_of spec) 0 spec.vars q → Covers q x k → ⊥
      no_register q is covers =
          let held : holder_of spec x k ≡ Some q.driver = subst (λ y. holder_of spec y k ≡ Some q.driver) covers.var (is.run.held k covers.from covers.to) in
          let clash : None ≡ Some q.driver = sym (none_holder spec.vars 0 spec.drivers x k none) ∙ held in
          cc
