-- Registers: the bits of their words, and which bits of variables they have.
use Rattle.std.proofs.Common.{◌≡◌, ℕ, zero, suc, ◌<◌, ◌≤◌, ◌^◌, ◌+◌, ◌*◌, ◌/◌, ◌%◌, List, [], ◌∷◌, ◌++◌, Bool, true, false, refl, sym, ◌∙◌, ap, subst, arith, Option, None, Some, inl, inr}
use Rattle.std.specs.Prelude.{slice_index, slice_get, ◌==◌, ◌&&◌, ◌⊎◌, if◌then◌else◌}
use Rattle.std.specs.List.{AllByRecursion}
use Rattle.std.specs.Int.{bit_at}
use Rattle.std.proofs.Math.Nat.{div-div-eq-div-mul, mod-lt}
use Rattle.std.proofs.lemmas.Nat.{pow-add, div-add-mod', pow_pos}
use Rattle.std.proofs.lemmas.Nat.Bits.{bit_at_cat_low}
use Rattle.std.proofs.lemmas.List.{get_or-map}
use Rattle.std.proofs.lemmas.Option.{slice_get_within, get_or_from_slice_get}
use Rattle.net_ir.specs.declared.design.Var.{Var}
use Rattle.net_ir.specs.declared.design.Driver.{Driver}
use Rattle.net_ir.specs.declared.design.Spec.{Spec}
use Rattle.net_ir.specs.Drive.{holds, NoneHolds}
use Rattle.net_ir.specs.Register.{Register, holder_from, onto_run, with_bit, runs_from, registers_from, registers_of, part_of, register_words}
use Rattle.net_ir.specs.Solution.{IsHeld}
use Rattle.net_values.proofs.Elements.{all_from, all_join, all_get}
use Rattle.net_values.proofs.Numbers.{front_of_and, back_of_and, test_eq, same_or_not}

-- ---- the bits of a word from a place on

pub part_bit : (word low width k : ℕ) → k < width → bit_at (part_of word low width) k ≡ bit_at word (low + k)
part_bit word low width k within =
    let q : ℕ = word / 2 ^ low in
    let cut : bit_at (q / 2 ^ width * 2 ^ width + q % 2 ^ width) k ≡ bit_at (q % 2 ^ width) k = bit_at_cat_low (q / 2 ^ width) width (q % 2 ^ width) k within in
    sym cut
    ∙ ap (λ n. bit_at n k) (div-add-mod' q (2 ^ width))
    ∙ ap (λ n. n % 2) (div-div-eq-div-mul word (2 ^ low) (2 ^ k) ∙ ap (λ n. word / n) (sym (pow-add 2 low k)))

pub part_fits : (word low width : ℕ) → part_of word low width < 2 ^ width
part_fits word low width = mod-lt (word / 2 ^ low) (pow_pos width)

-- the word of a register
pub register_word : (registers : List Register) (words : List ℕ) (i : ℕ) (r : Register) → slice_get registers i ≡ Some r →
    slice_index (register_words registers words) i ≡ part_of (slice_index words r.var) r.low r.width
register_word registers words i r at =
    get_or-map (λ (q : Register). part_of (slice_index words q.var) q.low q.width) registers i r 0 (slice_get_within registers i r at)
    ∙ ap (λ (q : Register). part_of (slice_index words q.var) q.low q.width) (get_or_from_slice_get registers i r r at)

-- ---- the bits that registers have

-- a register has bits of variable x from `lo` up to `hi`, each of which its driver holds
pub record IsRun (holder : ℕ → Option ℕ) (x lo hi : ℕ) (r : Register) : Type 0 where
  pub var : r.var ≡ x
  pub from : lo ≤ r.low
  pub to : r.low + r.width ≤ hi
  pub held : (j : ℕ) → r.low ≤ j → j < r.low + r.width → holder j ≡ Some r.driver

wider : (holder : ℕ → Option ℕ) (x k n : ℕ) (r : Register) → IsRun holder x (k + 1) (k + 1 + n) r → IsRun holder x k (k + suc n) r
wider holder x k n r run = record { var = run.var; from = omega arith; to = omega arith; held = run.held }

-- a bit of its own
one_bit : (holder : ℕ → Option ℕ) (x k n d : ℕ) → holder k ≡ Some d → IsRun holder x k (k + suc n) (record { var = x; low = k; width = 1; driver = d })
one_bit holder x k n d is = record {
  var = refl;
  from = omega arith;
  to = omega arith;
  held = λ j low high. let here : k ≡ j = omega arith in ap holder (sym here) ∙ is;
}

-- a bit before the bits of a run
one_more : (holder : ℕ → Option ℕ) (x k n d : ℕ) (r : Register) → holder k ≡ Some d → r.low ≡ k + 1 → r.driver ≡ d → IsRun holder x (k + 1) (k + 1 + n) r →
    IsRun holder x k (k + suc n) (record { var = x; low = k; width = r.width + 1; driver = d })
one_more holder x k n d r is near own run =
    record { var = refl; from = omega arith; to = omega arith; held = λ j low high. by_case j low high (same_or_not k j) } where
      by_case : (j : ℕ) → k ≤ j → j < k + (r.width + 1) → (k ≡ j) ⊎ (k ≡ j → ⊥) → holder j ≡ Some d
      by_case j low high (inl here) = ap holder (sym here) ∙ is
      by_case j low high (inr other) = run.held j (omega arith) (omega arith) ∙ ap (λ e. Some e) own

onto_sound : (holder : ℕ → Option ℕ) (x k n d : ℕ) (runs : List Register) → holder k ≡ Some d → AllByRecursion (IsRun holder x (k + 1) (k + 1 + n)) runs →
    AllByRecursion (IsRun holder x k (k + suc n)) (onto_run x k d runs)
onto_sound holder x k n d [] is all = (one_bit holder x k n d is, tt)
onto_sound holder x k n d (r ∷ runs) is all = by_test (r.low == k + 1 && r.driver == d) refl where
  P : Register → Type 0
  P = IsRun holder x k (k + suc n)

  later : AllByRecursion P runs
  later = all_from (IsRun holder x (k + 1) (k + 1 + n)) P (λ q run. wider holder x k n q run) runs all.1

  by_test : (t : Bool) → (r.low == k + 1 && r.driver == d) ≡ t →
      AllByRecursion P (if t then record { var = x; low = k; width = r.width + 1; driver = d } ∷ runs else record { var = x; low = k; width = 1; driver = d } ∷ r ∷ runs)
  by_test true joins =
      let near : r.low ≡ k + 1 = test_eq r.low (k + 1) (front_of_and (r.low == k + 1) (r.driver == d) joins) in
      let own : r.driver ≡ d = test_eq r.driver d (back_of_and (r.low == k + 1) (r.driver == d) joins) in
      (one_more holder x k n d r is near own all.0, later)
  by_test false apart = (one_bit holder x k n d is, (wider holder x k n r all.0, later))

with_sound : (holder : ℕ → Option ℕ) (x k n : ℕ) (found : Option ℕ) (runs : List Register) → holder k ≡ found →
    AllByRecursion (IsRun holder x (k + 1) (k + 1 + n)) runs → AllByRecursion (IsRun holder x k (k + suc n)) (with_bit x k found runs)
with_sound holder x k n None runs is all =
    all_from (IsRun holder x (k + 1) (k + 1 + n)) (IsRun holder x k (k + suc n)) (λ r run. wider holder x k n r run) runs all
with_sound holder x k n (Some d) runs is all = onto_sound holder x k n d runs is all

pub runs_sound : (holder : ℕ → Option ℕ) (x k n : ℕ) → AllByRecursion (IsRun holder x k (k + n)) (runs_from holder x k n)
runs_sound holder x k zero = tt
runs_sound holder x k (suc n) = with_sound holder x k n (holder k) (runs_from holder x (k + 1) n) refl (runs_sound holder x (k + 1) n)

-- a register of variables, the first of which has number n
pub record IsRegister (holder : ℕ → ℕ → Option ℕ) (n : ℕ) (vars : List Var) (r : Register) : Type 0 where
  pub place : ℕ
  pub number : n + place ≡ r.var
  pub variable : Var
  pub at : slice_get vars place ≡ Some variable
  pub run : IsRun (holder r.var) r.var 0 variable.width r

pub registers_sound : (holder : ℕ → ℕ → Option ℕ) (n : ℕ) (vars : List Var) → AllByRecursion (IsRegister holder n vars) (registers_from holder n vars)
registers_sound holder n [] = tt
registers_sound holder n (v ∷ vars) =
    all_join (IsRegister holder n (v ∷ vars)) (runs_from (holder n) n 0 v.width) (registers_from holder (n + 1) vars)
    (all_from (IsRun (holder n) n 0 (0 + v.width)) (IsRegister holder n (v ∷ vars)) first (runs_from (holder n) n 0 v.width) (runs_sound (holder n) n 0 v.width))
    (all_from (IsRegister holder (n + 1) vars) (IsRegister holder n (v ∷ vars)) later (registers_from holder (n + 1) vars) (registers_sound holder (n + 1) vars)) where
      first : (r : Register) → IsRun (holder n) n 0 (0 + v.width) r → IsRegister holder n (v ∷ vars) r
      first r run = record {
        place = 0;
        number = let same : r.var ≡ n = run.var in omega arith;
        variable = v;
        at = refl;
        run = record {
          var = refl;
          from = run.from;
          to = let top : r.low + r.width ≤ 0 + v.width = run.to in omega arith;
          held = λ j low high. ap (λ x. holder x j) run.var ∙ run.held j low high;
        };
      }

      later : (r : Register) → IsRegister holder (n + 1) vars r → IsRegister holder n (v ∷ vars) r
      later r is = record {
        place = suc is.place;
        number = let same : n + 1 + is.place ≡ r.var = is.number in omega arith;
        variable = is.variable;
        at = is.at;
        run = is.run;
      }

-- ---- each bit that a driver holds is a register's

-- a register of the list has bit k of variable x
pub record HasBit (registers : List Register) (x k : ℕ) : Type 0 where
  pub place : ℕ
  pub register : Register
  pub at : slice_get registers place ≡ Some register
  pub var : register.var ≡ x
  pub from : register.low ≤ k
  pub to : k < register.low + register.width

-- at a place of the list
has_at : (registers : List Register) (x k i : ℕ) (r : Register) → slice_get registers i ≡ Some r → r.var ≡ x → r.low ≤ k → k < r.low + r.width →
    HasBit registers x k
has_at registers x k i r at var from to = record { place = i; register = r; at = at; var = var; from = from; to = to }

has_later : (r : Register) (runs : List Register) (x k : ℕ) → HasBit runs x k → HasBit (r ∷ runs) x k
has_later r runs x k has = record { place = suc has.place; register = has.register; at = has.at; var = has.var; from = has.from; to = has.to }

onto_first : (x k d : ℕ) (runs : List Register) → HasBit (onto_run x k d runs) x k
onto_first x k d [] = has_at _ x k 0 (record { var = x; low = k; width = 1; driver = d }) refl refl (omega arith) (omega arith)
onto_first x k d (r ∷ runs) = by_test (r.low == k + 1 && r.driver == d) where
  by_test : (t : Bool) →
      HasBit (if t then record { var = x; low = k; width = r.width + 1; driver = d } ∷ runs else record { var = x; low = k; width = 1; driver = d } ∷ r ∷ runs) x k
  by_test true = has_at _ x k 0 (record { var = x; low = k; width = r.width + 1; driver = d }) refl refl (omega arith) (omega arith)
  by_test false = has_at _ x k 0 (record { var = x; low = k; width = 1; driver = d }) refl refl (omega arith) (omega arith)

onto_later : (x k d : ℕ) (runs : List Register) (j : ℕ) → HasBit runs x j → HasBit (onto_run x k d runs) x j
onto_later x k d [] j has = absurd (let clash : None ≡ Some has.register = has.at in cc)
onto_later x k d (r ∷ runs) j has = by_test (r.low == k + 1 && r.driver == d) refl where
  joined : r.low ≡ k + 1 → (place : ℕ) (q : Register) → slice_get (r ∷ runs) place ≡ Some q → q.var ≡ x → q.low ≤ j → j < q.low + q.width →
      HasBit (record { var = x; low = k; width = r.width + 1; driver = d } ∷ runs) x j
  joined near zero q at var from to =
      let found : Some r ≡ Some q = at in
      let same : r ≡ q = cc in
      let low : r.low ≡ q.low = ap (λ (p : Register). p.low) same in
      let width : r.width ≡ q.width = ap (λ (p : Register). p.width) same in
      has_at _ x j 0 (record { var = x; low = k; width = r.width + 1; driver = d }) refl refl (omega arith) (omega arith)
  joined near (suc place) q at var from to = has_at _ x j (suc place) q at var from to

  by_test : (t : Bool) → (r.low == k + 1 && r.driver == d) ≡ t →
      HasBit (if t then record { var = x; low = k; width = r.width + 1; driver = d } ∷ runs else record { var = x; low = k; width = 1; driver = d } ∷ r ∷ runs) x j
  by_test true joins =
      joined (test_eq r.low (k + 1) (front_of_and (r.low == k + 1) (r.driver == d) joins)) has.place has.register has.at has.var has.from has.to
  by_test false apart = has_later (record { var = x; low = k; width = 1; driver = d }) (r ∷ runs) x j has

with_first : (x k d : ℕ) (found : Option ℕ) (runs : List Register) → found ≡ Some d → HasBit (with_bit x k found runs) x k
with_first x k d None runs is = absurd (cc)
with_first x k d (Some e) runs is = onto_first x k e runs

with_later : (x k : ℕ) (found : Option ℕ) (runs : List Register) (j : ℕ) → HasBit runs x j → HasBit (with_bit x k found runs) x j
with_later x k None runs j has = has
with_later x k (Some d) runs j has = onto_later x k d runs j has

runs_whole : (holder : ℕ → Option ℕ) (x k n j d : ℕ) → holder j ≡ Some d → k ≤ j → j < k + n → HasBit (runs_from holder x k n) x j
runs_whole holder x k zero j d is low high = absurd (omega arith)
runs_whole holder x k (suc n) j d is low high = by_case (same_or_not k j) (λ other. runs_whole holder x (k + 1) n j d is (omega arith) (omega arith)) where
  by_case : (k ≡ j) ⊎ (k ≡ j → ⊥) → ((k ≡ j → ⊥) → HasBit (runs_from holder x (k + 1) n) x j) → HasBit (runs_from holder x k (suc n)) x j
  by_case (inl here) rest =
      subst (λ i. HasBit (runs_from holder x k (suc n)) x i) here (with_first x k d (holder k) (runs_from holder x (k + 1) n) (ap holder here ∙ is))
  by_case (inr other) rest = with_later x k (holder k) (runs_from holder x (k + 1) n) j (rest other)

-- in a part of a list
get_front : {X : Type 0} (xs ys : List X) (i : ℕ) (x : X) → slice_get xs i ≡ Some x → slice_get (xs ++ ys) i ≡ Some x
get_front [] ys i x at = absurd (let clash : None ≡ Some x = at in cc)
get_front (y ∷ xs) ys zero x at = at
get_front (y ∷ xs) ys (suc i) x at = get_front xs ys i x at

has_front : (xs ys : List Register) (x k : ℕ) → HasBit xs x k → HasBit (xs ++ ys) x k
has_front xs ys x k has = has_at (xs ++ ys) x k has.place has.register (get_front xs ys has.place has.register has.at) has.var has.from has.to

has_back : (xs ys : List Register) (x k : ℕ) → HasBit ys x k → HasBit (xs ++ ys) x k
has_back [] ys x k has = has
has_back (r ∷ xs) ys x k has = has_later r (xs ++ ys) x k (has_back xs ys x k has)

registers_whole : (holder : ℕ → ℕ → Option ℕ) (n : ℕ) (vars : List Var) (i x k d : ℕ) (v : Var) → n + i ≡ x → slice_get vars i ≡ Some v → k < v.width →
    holder x k ≡ Some d → HasBit (registers_from holder n vars) x k
registers_whole holder n [] i x k d v number at within is = absurd (let clash : None ≡ Some v = at in cc)
registers_whole holder n (w ∷ vars) zero x k d v number at within is =
    let here : x ≡ n = omega arith in
    let found : Some w ≡ Some v = at in
    let same : w ≡ v = cc in
    let width : w.width ≡ v.width = ap (λ (u : Var). u.width) same in
    has_front (runs_from (holder n) n 0 w.width) (registers_from holder (n + 1) vars) x k
    (subst (λ y. HasBit (runs_from (holder n) n 0 w.width) y k) (sym here) (runs_whole (holder n) n 0 w.width k d (subst (λ y. holder y k ≡ Some d) here is) (omega arith) (omega arith)))
registers_whole holder n (w ∷ vars) (suc i) x k d v number at within is =
    has_back (runs_from (holder n) n 0 w.width) (registers_from holder (n + 1) vars) x k (registers_whole holder (n + 1) vars i x k d v (omega arith) at within is)

-- ---- the drivers that hold bits

-- what follows where one of the drivers holds a bit
pub holder_holds : (vars : List Var) (m : ℕ) (drivers : List Driver) (x k d : ℕ) (P : Type 0) → AllByRecursion (λ e. holds vars e x k ≡ true → P) drivers →
    holder_from m vars drivers x k ≡ Some d → P
holder_holds vars m [] x k d P all is = absurd (let clash : None ≡ Some d = is in cc)
holder_holds vars m (e ∷ drivers) x k d P all is = by_test (holds vars e x k) refl is (holder_holds vars (m + 1) drivers x k d P all.1) where
  by_test : (t : Bool) → holds vars e x k ≡ t → (if t then Some m else holder_from (m + 1) vars drivers x k) ≡ Some d →
      (holder_from (m + 1) vars drivers x k ≡ Some d → P) → P
  by_test true held at rest = all.0 held
  by_test false clear at rest = rest at

pub holder_none : (vars : List Var) (m : ℕ) (drivers : List Driver) (x k : ℕ) → holder_from m vars drivers x k ≡ None → NoneHolds vars drivers x k
holder_none vars m [] x k is = tt
holder_none vars m (e ∷ drivers) x k is = by_test (holds vars e x k) refl is (holder_none vars (m + 1) drivers x k) where
  by_test : (t : Bool) → holds vars e x k ≡ t → (if t then Some m else holder_from (m + 1) vars drivers x k) ≡ None →
      (holder_from (m + 1) vars drivers x k ≡ None → NoneHolds vars drivers x k) → (holds vars e x k ≡ false) × NoneHolds vars drivers x k
  by_test true held at rest = absurd (let clash : Some m ≡ None = at in cc)
  by_test false clear at rest = (clear, rest at)

-- ---- the registers of a design

-- the driver that has a bit in a register
abbrev pub holder_of : Spec → ℕ → ℕ → Option ℕ
holder_of spec = holder_from 0 spec.vars spec.drivers

pub register_at : (spec : Spec) (i : ℕ) (r : Register) → slice_get (registers_of spec) i ≡ Some r → IsRegister (holder_of spec) 0 spec.vars r
register_at spec i r at = all_get (IsRegister (holder_of spec) 0 spec.vars) (registers_of spec) i r (registers_sound (holder_of spec) 0 spec.vars) at

-- bit k of a register is a bit of its variable, which a driver holds
pub record IsBitOf (spec : Spec) (r : Register) (k : ℕ) : Type 0 where
  pub variable : Var
  pub at : slice_get spec.vars r.var ≡ Some variable
  pub within : r.low + k < variable.width
  pub held : holder_of spec r.var (r.low + k) ≡ Some r.driver

pub register_bit : (spec : Spec) (i : ℕ) (r : Register) (k : ℕ) → slice_get (registers_of spec) i ≡ Some r → k < r.width → IsBitOf spec r k
register_bit spec i r k at below =
    let is = register_at spec i r at in
    let top : r.low + r.width ≤ is.variable.width = is.run.to in
    let here : is.place ≡ r.var = (let number : 0 + is.place ≡ r.var = is.number in omega arith) in record {
      variable = is.variable;
      at = subst (λ x. slice_get spec.vars x ≡ Some is.variable) here is.at;
      within = omega arith;
      held = is.run.held (r.low + k) (omega arith) (omega arith);
    }

-- a bit is a register's, or no driver holds it
pub register_or_none : (spec : Spec) (x k : ℕ) (v : Var) → slice_get spec.vars x ≡ Some v → k < v.width →
    HasBit (registers_of spec) x k ⊎ NoneHolds spec.vars spec.drivers x k
register_or_none spec x k v at within = by_case (holder_of spec x k) refl where
  by_case : (found : Option ℕ) → holder_of spec x k ≡ found → HasBit (registers_of spec) x k ⊎ NoneHolds spec.vars spec.drivers x k
  by_case (Some d) is = inl (registers_whole (holder_of spec) 0 spec.vars x x k d v (omega arith) at within is)
  by_case None is = inr (holder_none spec.vars 0 spec.drivers x k is)

-- the bits of a driver's registers stand in the valuation as they are held, where each variable has a word
abbrev pub IsHeldBy : List Var → List ℕ → List ℕ → Driver → Type 0
IsHeldBy vars held u d = (x k : ℕ) → holds vars d x k ≡ true → bit_at (slice_index u x) k ≡ bit_at (slice_index held x) k

-- so those of each register
pub held_bit : (spec : Spec) (held u : List ℕ) (i : ℕ) (r : Register) (k : ℕ) → AllByRecursion (IsHeldBy spec.vars held u) spec.drivers →
    slice_get (registers_of spec) i ≡ Some r → k < r.width → bit_at (slice_index u r.var) (r.low + k) ≡ bit_at (slice_index held r.var) (r.low + k)
held_bit spec held u i r k each at below =
    let vars = spec.vars in
    let bit = register_bit spec i r k at below in
    holder_holds vars 0 spec.drivers r.var (r.low + k) r.driver (bit_at (slice_index u r.var) (r.low + k) ≡ bit_at (slice_index held r.var) (r.low + k))
    (all_from (IsHeldBy vars held u) (λ e. holds vars e r.var (r.low + k) ≡ true → bit_at (slice_index u r.var) (r.low + k) ≡ bit_at (slice_index held r.var) (r.low + k))
    (λ d is holding. is r.var (r.low + k) holding) spec.drivers each) bit.held

-- the bits of a register's word are those of its variable
pub word_bit : (spec : Spec) (held : List ℕ) (i : ℕ) (r : Register) (k : ℕ) → slice_get (registers_of spec) i ≡ Some r → k < r.width →
    bit_at (slice_index (register_words (registers_of spec) held) i) k ≡ bit_at (slice_index held r.var) (r.low + k)
word_bit spec held i r k at below =
    ap (λ n. bit_at n k) (register_word (registers_of spec) held i r at) ∙ part_bit (slice_index held r.var) r.low r.width k below

pub held_registers : (spec : Spec) (held u : List ℕ) → AllByRecursion (IsHeldBy spec.vars held u) spec.drivers → (i : ℕ) (r : Register) →
    slice_get (registers_of spec) i ≡ Some r → IsHeld (register_words (registers_of spec) held) u i r
held_registers spec held u each i r at k below = held_bit spec held u i r k each at below ∙ sym (word_bit spec held i r k at below)
