-- Where nothing is refused of event controls and clock connections, each clock is an input port of one bit.
use Rattle.std.proofs.Common.{◌≡◌, ℕ, suc, ◌+◌, List, [], ◌∷◌, ◌++◌, Bool, true, false, refl, sym, ◌∙◌, ap, subst, arith, inl, inr}
use Rattle.std.specs.Prelude.{◌⊎◌, ◌||◌, ◌&&◌, ◌==◌, Option, None, Some, slice_get, if◌then◌else◌}
use Rattle.std.specs.List.{AllByRecursion, flat_map}
use Rattle.std.proofs.lemmas.Bool.Decides.{nat_tests}
use Rattle.sv_base.specs.declared.refusal.Refusal.{Refusal}
use Rattle.sv_base.specs.declared.face.Class.TheVariants.{Clock}
use Rattle.sv_base.specs.declared.face.Class.TheVariants as class
use Rattle.sv_base.specs.declared.face.Face.{Face}
use Rattle.sv_base.specs.declared.face.Port.{Port}
use Rattle.sv_base.specs.Classes.{is_clock}
use Rattle.net_ir.specs.declared.design.Role.{Role}
use Rattle.net_ir.specs.declared.design.Role.TheVariants.{Input, Output, Inner}
use Rattle.net_ir.specs.declared.design.Var.{Var}
use Rattle.net_ir.specs.declared.design.Trigger.{Trigger}
use Rattle.net_ir.specs.declared.design.Input.{Input as Joined}
use Rattle.net_ir.specs.declared.design.Driver.{Driver}
use Rattle.net_ir.specs.declared.design.Driver.TheVariants as driver
use Rattle.net_ir.specs.declared.design.Driver.TheVariants.{Assign, Comb, Clocked}
use Rattle.net_ir.specs.declared.design.Spec.{Spec}
use Rattle.net_ir.specs.Target.{var_list}
use Rattle.net_ir.specs.Face.{stands_in, input_class, is_inner}
use Rattle.clock_domains.specs.Each.{child_ports, faces_behind, of_each}
use Rattle.clock_domains.specs.Clocks.{is_clock_port, joined_clock, clocks_at, is_input, is_single_input, may_be_clock, variable, event_refusal, clock_refusal, joined_refusal, connection_refusal, joins_refused}
use Rattle.clock_domains.specs.Reads.{reads_refused}
use Rattle.clock_domains.specs.Order.{clocks_of, reads_of}
use Rattle.clock_domains.specs.Classes.{class_in, port_in, ports_in, IsClassified}

-- ---- lists

both_empty : {X : Type 0} (xs ys : List X) → xs ++ ys ≡ [] → (xs ≡ []) × (ys ≡ [])
both_empty [] ys none = (refl, none)
both_empty (x ∷ xs) ys none = absurd (let clash : x ∷ (xs ++ ys) ≡ [] = none in cc)

or_cases : (a b : Bool) → (a || b) ≡ true → (a ≡ true) ⊎ (b ≡ true)
or_cases true b h = inl refl
or_cases false b h = inr h

or_left : (a b : Bool) → a ≡ true → (a || b) ≡ true
or_left true b h = refl
or_left false b h = absurd (let clash : false ≡ true = h in cc)

or_right : (a b : Bool) → b ≡ true → (a || b) ≡ true
or_right true b h = refl
or_right false b h = h

by_rest : (a : Bool) (x : ℕ) (xs ys : List ℕ) → (stands_in x xs ≡ true) ⊎ (stands_in x ys ≡ true) → ((a || stands_in x xs) ≡ true) ⊎ (stands_in x ys ≡ true)
by_rest a x xs ys (inl found) = inl (or_right a (stands_in x xs) found)
by_rest a x xs ys (inr found) = inr found

stands_append : (x : ℕ) (xs ys : List ℕ) → stands_in x (xs ++ ys) ≡ true → (stands_in x xs ≡ true) ⊎ (stands_in x ys ≡ true)
stands_append x [] ys h = inr h
stands_append x (y ∷ xs) ys h = by_first (or_cases (y == x) (stands_in x (xs ++ ys)) h) (stands_append x xs ys) where
  by_first : ((y == x) ≡ true) ⊎ (stands_in x (xs ++ ys) ≡ true) → (stands_in x (xs ++ ys) ≡ true → (stands_in x xs ≡ true) ⊎ (stands_in x ys ≡ true)) →
      (stands_in x (y ∷ xs) ≡ true) ⊎ (stands_in x ys ≡ true)
  by_first (inl found) rest = inl (or_left (y == x) (stands_in x xs) found)
  by_first (inr found) rest = by_rest (y == x) x xs ys (rest found)

-- what follows from each of two follows from either
either : {A B C : Type 0} → (A → C) → (B → C) → A ⊎ B → C
either f g (inl a) = f a
either f g (inr b) = g b

-- what holds of the names of each part of which nothing is refused holds of all of them
of_parts : {Y : Type 0} (names : Y → List ℕ) (refused : Y → List Refusal) (P : ℕ → Type 0) → ((y : Y) (x : ℕ) → refused y ≡ [] → stands_in x (names
    y) ≡ true → P x) →
    (ys : List Y) (x : ℕ) → flat_map refused ys ≡ [] → stands_in x (flat_map names ys) ≡ true → P x
of_parts names refused P each [] x none found = absurd (let clash : false ≡ true = found in cc)
of_parts names refused P each (y ∷ ys) x none found =
    either
    (λ here. each y x (both_empty (refused y) (flat_map refused ys) none).0 here)
    (λ behind. of_parts names refused P each ys x (both_empty (refused y) (flat_map refused ys) none).1 behind)
    (stands_append x (names y) (flat_map names ys) found)

of_drivers : (names : List Port → Driver → List ℕ) (refused : List Port → Driver → List Refusal) (P : ℕ → Type 0) →
    ((ports : List Port) (d : Driver) (x : ℕ) → refused ports d ≡ [] → stands_in x (names ports d) ≡ true → P x) →
    (ds : List Driver) (faces : List Face) (x : ℕ) → of_each refused ds faces ≡ [] → stands_in x (of_each names ds faces) ≡ true → P x
of_drivers names refused P each [] faces x none found = absurd (let clash : false ≡ true = found in cc)
of_drivers names refused P each (d ∷ ds) faces x none found =
    let clean = both_empty (refused (child_ports d faces) d) (of_each refused ds (faces_behind d faces)) none in
    either
    (λ here. each (child_ports d faces) d x clean.0 here)
    (λ behind. of_drivers names refused P each ds (faces_behind d faces) x clean.1 behind)
    (stands_append x (names (child_ports d faces) d) (of_each names ds (faces_behind d faces)) found)

-- ---- clocks

same_from_test : (a b : ℕ) → (a == b) ≡ true → a ≡ b
same_from_test a b h = grind (arith, nat_tests)

clean_test : (b : Bool) (refusal : Refusal) → (if b then [] else refusal ∷ []) ≡ [] → b ≡ true
clean_test true refusal none = refl
clean_test false refusal none = absurd (let clash : refusal ∷ [] ≡ [] = none in cc)

alone : (x y : ℕ) → stands_in x (y ∷ []) ≡ true → y ≡ x
alone x y h = by_case (or_cases (y == x) false h) where
  by_case : ((y == x) ≡ true) ⊎ (false ≡ true) → y ≡ x
  by_case (inl found) = same_from_test y x found
  by_case (inr clash) = absurd (let c : false ≡ true = clash in cc)

named : (vars : List Var) (v : Option ℕ) (x : ℕ) → may_be_clock (variable vars v) ≡ true → stands_in x (var_list v) ≡ true → may_be_clock (slice_get
    vars x) ≡ true
named vars None x single found = absurd (let clash : false ≡ true = found in cc)
named vars (Some y) x single found = subst (λ z. may_be_clock (slice_get vars z) ≡ true) (alone x y found) single

event_names : (vars : List Var) (t : Trigger) (x : ℕ) → event_refusal vars t ≡ [] → stands_in x (var_list t.var) ≡ true → may_be_clock (slice_get vars x) ≡ true
event_names vars t x none found = named vars t.var x (clean_test (may_be_clock (variable vars t.var)) _ none) found

plain_names : (vars : List Var) (name : List ℕ) (i : Joined) (plain : Option ℕ) (x : ℕ) → clock_refusal vars name i plain ≡ [] → stands_in x
    (var_list plain) ≡ true →
    may_be_clock (slice_get vars x) ≡ true
plain_names vars name i None x none found = absurd (let clash : false ≡ true = found in cc)
plain_names vars name i (Some y) x none found = named vars (Some y) x (clean_test (may_be_clock (slice_get vars y)) _ none) found

port_names : (vars : List Var) (i : Joined) (port : Option Port) (x : ℕ) → joined_refusal vars i port ≡ [] →
    stands_in x (if is_clock_port port then var_list i.plain else []) ≡ true → may_be_clock (slice_get vars x) ≡ true
port_names vars i None x none found = absurd (let clash : false ≡ true = found in cc)
port_names vars i (Some p) x none found = by_test (is_clock p.class) none found where
  by_test : (t : Bool) → (if t then clock_refusal vars p.name i i.plain else []) ≡ [] → stands_in x (if t then var_list i.plain else []) ≡ true →
      may_be_clock (slice_get vars x) ≡ true
  by_test true none found = plain_names vars p.name i i.plain x none found
  by_test false none found = absurd (let clash : false ≡ true = found in cc)

driver_names : (vars : List Var) (ports : List Port) (d : Driver) (x : ℕ) → joins_refused vars ports d ≡ [] → stands_in x (clocks_at ports d) ≡ true →
    may_be_clock (slice_get vars x) ≡ true
driver_names vars ports (Assign target value place) x none found = absurd (let clash : false ≡ true = found in cc)
driver_names vars ports (Comb body place) x none found = absurd (let clash : false ≡ true = found in cc)
driver_names vars ports (Clocked triggers body place) x none found =
    of_parts (λ (t : Trigger). var_list t.var) (event_refusal vars) (λ z. may_be_clock (slice_get vars z) ≡ true) (event_names vars) triggers x none found
driver_names vars ports (driver.Instance made) x none found =
    of_parts (joined_clock ports) (connection_refusal vars ports) (λ z. may_be_clock (slice_get vars z) ≡ true)
    (λ i z. port_names vars i (slice_get ports i.port) z) made.inputs x none found

-- ---- ports

class_is_clock : (clocks reads : List ℕ) (x : ℕ) (r : Role) → class_in clocks reads x r ≡ Clock → stands_in x clocks ≡ true
class_is_clock clocks reads x Input is = by_test (stands_in x clocks) (stands_in x reads) is where
  by_test : (a b : Bool) → input_class a b ≡ Clock → a ≡ true
  by_test true b is = refl
  by_test false true is = absurd (let clash : class.Value ≡ Clock = is in cc)
  by_test false false is = absurd (let clash : class.Idle ≡ Clock = is in cc)
class_is_clock clocks reads x Output is = absurd (let clash : class.Output ≡ Clock = is in cc)
class_is_clock clocks reads x Inner is = absurd (let clash : class.Output ≡ Clock = is in cc)

both_true : (a b : Bool) → (a && b) ≡ true → b ≡ true
both_true true b h = h
both_true false b h = absurd (let clash : false ≡ true = h in cc)

one_bit_ports : (all : List Var) (clocks reads : List ℕ) → ((x : ℕ) → stands_in x clocks ≡ true → may_be_clock (slice_get all x) ≡ true) → (x : ℕ)
    (vars : List Var) →
    ((i : ℕ) (v : Var) → slice_get vars i ≡ Some v → slice_get all (x + i) ≡ Some v) →
    AllByRecursion (λ (p : Port). p.class ≡ Clock → p.width ≡ 1) (ports_in clocks reads x vars)
one_bit_ports all clocks reads single x [] among = tt
one_bit_ports all clocks reads single x (v ∷ vars) among =
    by_test (is_inner v.role)
    (one_bit_ports all clocks reads single (x + 1) vars (λ i w at. ap (slice_get all) (let same : x + 1 + i ≡ x + suc i = omega arith in same) ∙
    among (suc i) w at)) where
      head : class_in clocks reads x v.role ≡ Clock → v.width ≡ 1
      head is =
          let here : slice_get all x ≡ Some v = ap (slice_get all) (let same : x ≡ x + 0 = omega arith in same) ∙ among 0 v refl in
          let clock : is_single_input v ≡ true = sym (ap may_be_clock here) ∙ single x (class_is_clock clocks reads x v.role is) in
          same_from_test v.width 1 (both_true (is_input v.role) (v.width == 1) clock)

      by_test : (t : Bool) → AllByRecursion (λ (p : Port). p.class ≡ Clock → p.width ≡ 1) (ports_in clocks reads (x + 1) vars) →
          AllByRecursion (λ (p : Port). p.class ≡ Clock → p.width ≡ 1) (if t then [] else port_in clocks reads x v ∷ ports_in clocks reads (x + 1) vars)
      by_test true rest = tt
      by_test false rest = (head, rest)

pub one_bit : (spec : Spec) (faces : List Face) (face : Face) → IsClassified spec faces face → AllByRecursion (λ (p : Port). p.class ≡ Clock →
    p.width ≡ 1) face.ports
one_bit spec faces face is =
    let none : of_each (joins_refused spec.vars) spec.drivers faces ≡ [] =
    (both_empty (of_each (joins_refused spec.vars) spec.drivers faces) (of_each (reads_refused spec.vars (clocks_of spec faces)) spec.drivers faces)
    is.clean).0 in
    subst (λ (f : Face). AllByRecursion (λ (p : Port). p.class ≡ Clock → p.width ≡ 1) f.ports) (sym is.is)
    (one_bit_ports spec.vars (clocks_of spec faces) (reads_of spec faces)
    (λ x found. of_drivers clocks_at (joins_refused spec.vars) (λ z. may_be_clock (slice_get spec.vars z) ≡ true) (driver_names spec.vars)
    spec.drivers faces x none found)
    0 spec.vars (λ i v at. ap (slice_get spec.vars) (let same : 0 + i ≡ i = omega arith in same) ∙ at))
