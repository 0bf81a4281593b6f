-- Drivers that are taken in an order in which no one depends on what it or a later one gives.
use Rattle.std.proofs.Common.{◌≡◌, ℕ, List, [], ◌∷◌, length, Bool, true, false, refl, sym, ◌∙◌, ap, Option, None, Some}
use Rattle.std.specs.Prelude.{slice_index, unwrap_or}
use Rattle.std.specs.List.{AllByRecursion}
use Rattle.std.specs.Int.{bit_at}
use Rattle.std.proofs.lemmas.Nat.Bits.{same_from_bits}
use Rattle.net_ir.specs.declared.design.Var.{Var}
use Rattle.net_ir.specs.declared.design.Driver.{Driver}
use Rattle.net_ir.specs.declared.design.Driver.TheVariants as driver
use Rattle.net_ir.specs.declared.design.Driver.TheVariants.{Assign, Comb, Clocked}
use Rattle.net_ir.specs.Value.{AreWordsOf, val, widths_of, reads_of}
use Rattle.net_ir.specs.Target.{writes_to, last_bit, target_reads}
use Rattle.net_ir.specs.Drive.{gives, drives, holds, writes, depends_on, NoneDrives, NoneHolds, NoneWrites}
use Rattle.net_ir.specs.Face.{stands_in}
use Rattle.net_ir.specs.Solution.{IsDriven}
use Rattle.net_values.specs.Writes.{AgreeOn}
use Rattle.plain_run.specs.Plain.{IsTimely, written_by, driven_by, NoneNames, NoneGives, IsBefore, AreOrdered}
use Rattle.plain_run.specs.code.Pass.{turn, run}
use Rattle.net_values.proofs.Elements.{all_from, all_both}
use Rattle.net_values.proofs.Terms.{all_front, all_back, operand_is_local}
use Rattle.plain_run.proofs.Named.{all_standing, ungiven, written_named, driven_named}
use Rattle.net_values.proofs.Overlays.{overlaid_length, overlaid_fits, overlaid_bits}
use Rattle.net_values.proofs.Targets.{target_within, target_may, target_fixed, writes_local}

-- ---- what one driver gives

-- a bit that is given is one that the driver may give
pub given_is_driven : (vars : List Var) (d : Driver) (u : List ℕ) (x k bit : ℕ) → IsTimely d → gives vars d u x k ≡ Some bit → drives vars d x k ≡ true
given_is_driven vars (Assign target value at) u x k bit timely given = target_may vars u target (val (widths_of vars) u value) x k bit given
given_is_driven vars (Comb body at) u x k bit timely given = absurd timely
given_is_driven vars (Clocked triggers body at) u x k bit timely given = absurd (let clash : None ≡ Some bit = given in cc)
given_is_driven vars (driver.Instance made) u x k bit timely given = absurd timely

pub gives_none : (vars : List Var) (d : Driver) (u : List ℕ) (x k : ℕ) → IsTimely d → drives vars d x k ≡ false → gives vars d u x k ≡ None
gives_none vars d u x k timely free = by_found (gives vars d u x k) refl where
  by_found : (found : Option ℕ) → gives vars d u x k ≡ found → found ≡ None
  by_found None is = refl
  by_found (Some bit) is = absurd (let clash : true ≡ false = sym (given_is_driven vars d u x k bit timely is) ∙ free in cc)

-- a bit that may be given is given, since positions are constants
pub driven_is_given : (vars : List Var) (d : Driver) (u : List ℕ) (x k : ℕ) → IsTimely d → drives vars d x k ≡ true →
    (bit : ℕ) × (gives vars d u x k ≡ Some bit)
driven_is_given vars (Assign target value at) u x k timely is = target_fixed vars u target timely (val (widths_of vars) u value) x k is
driven_is_given vars (Comb body at) u x k timely is = absurd timely
driven_is_given vars (Clocked triggers body at) u x k timely is = absurd (let clash : false ≡ true = is in cc)
driven_is_given vars (driver.Instance made) u x k timely is = absurd timely

-- the same is given on valuations that agree on what it depends on
pub gives_alike : (vars : List Var) (d : Driver) (u v : List ℕ) (x k : ℕ) → IsTimely d → AgreeOn (depends_on d) u v → gives vars d u x k ≡ gives vars d v x k
gives_alike vars (Assign target value at) u v x k timely agree =
    let Same : ℕ → Type 0 = λ y. slice_index u y ≡ slice_index v y in
    let ws = widths_of vars in
    ap (λ p. last_bit (writes_to vars u target p.1) x k) (operand_is_local ws value u v (all_back Same (target_reads target) (reads_of value) agree))
    ∙ ap (λ ws. last_bit ws x k) (writes_local vars u v target (val ws v value) (all_front Same (target_reads target) (reads_of value) agree))
gives_alike vars (Comb body at) u v x k timely agree = absurd timely
gives_alike vars (Clocked triggers body at) u v x k timely agree = refl
gives_alike vars (driver.Instance made) u v x k timely agree = absurd timely

-- ---- the words after a driver's turn

pub turn_length : (vars : List Var) (d : Driver) (u : List ℕ) → length (turn vars d u) ≡ length u
turn_length vars (Assign target value at) u = overlaid_length u (writes_to vars u target (val (widths_of vars) u value))
turn_length vars (Comb body at) u = refl
turn_length vars (Clocked triggers body at) u = refl
turn_length vars (driver.Instance made) u = refl

pub turn_small : (vars : List Var) (d : Driver) (u : List ℕ) → length u ≡ length (widths_of vars) → AreWordsOf (widths_of vars) u →
    AreWordsOf (widths_of vars) (turn vars d u)
turn_small vars (Assign target value at) u long small =
    let word = val (widths_of vars) u value in
    overlaid_fits (widths_of vars) u (writes_to vars u target word) long (target_within vars u target word) small
turn_small vars (Comb body at) u long small = small
turn_small vars (Clocked triggers body at) u long small = small
turn_small vars (driver.Instance made) u long small = small

-- each bit is what the driver gives, else as it was
pub turn_bit : (vars : List Var) (d : Driver) (u : List ℕ) (x k : ℕ) → length u ≡ length (widths_of vars) → IsTimely d →
    bit_at (slice_index (turn vars d u) x) k ≡ unwrap_or (gives vars d u x k) (bit_at (slice_index u x) k)
turn_bit vars (Assign target value at) u x k long timely =
    let word = val (widths_of vars) u value in
    overlaid_bits (widths_of vars) u (writes_to vars u target word) x k long (target_within vars u target word)
turn_bit vars (Comb body at) u x k long timely = absurd timely
turn_bit vars (Clocked triggers body at) u x k long timely = refl
turn_bit vars (driver.Instance made) u x k long timely = absurd timely

-- so a bit that it may not give is as it was
turn_spares : (vars : List Var) (d : Driver) (u : List ℕ) (x k : ℕ) → length u ≡ length (widths_of vars) → IsTimely d → drives vars d x k ≡ false →
    bit_at (slice_index (turn vars d u) x) k ≡ bit_at (slice_index u x) k
turn_spares vars d u x k long timely free =
    turn_bit vars d u x k long timely ∙ ap (λ found. unwrap_or found (bit_at (slice_index u x) k)) (gives_none vars d u x k timely free)

-- ---- the words after each driver's turn

pub run_length : (vars : List Var) (drivers : List Driver) (u : List ℕ) → length (run vars drivers u) ≡ length u
run_length vars [] u = refl
run_length vars (d ∷ drivers) u = run_length vars drivers (turn vars d u) ∙ turn_length vars d u

pub run_small : (vars : List Var) (drivers : List Driver) (u : List ℕ) → length u ≡ length (widths_of vars) → AreWordsOf (widths_of vars) u →
    AreWordsOf (widths_of vars) (run vars drivers u)
run_small vars [] u long small = small
run_small vars (d ∷ drivers) u long small = run_small vars drivers (turn vars d u) (turn_length vars d u ∙ long) (turn_small vars d u long small)

-- a bit that none may give is as it was
pub run_spares : (vars : List Var) (drivers : List Driver) (u : List ℕ) (x k : ℕ) → length u ≡ length (widths_of vars) →
    AllByRecursion IsTimely drivers → NoneDrives vars drivers x k → bit_at (slice_index (run vars drivers u) x) k ≡ bit_at (slice_index u x) k
run_spares vars [] u x k long timely none = refl
run_spares vars (d ∷ drivers) u x k long timely none =
    run_spares vars drivers (turn vars d u) x k (turn_length vars d u ∙ long) timely.1 none.1 ∙ turn_spares vars d u x k long timely.0 none.0

-- a driver that gives no bits of a variable gives none of its bits
pub none_drives : (vars : List Var) (drivers : List Driver) (x k : ℕ) → NoneGives drivers x → NoneDrives vars drivers x k
none_drives vars drivers x k =
    all_from (λ d. stands_in x (driven_by d) ≡ false) (λ d. drives vars d x k ≡ false) (λ d clear. ungiven vars d x k clear) drivers

-- so a variable of which none gives bits is as it was
pub run_leaves : (vars : List Var) (drivers : List Driver) (u : List ℕ) (x : ℕ) → length u ≡ length (widths_of vars) →
    AllByRecursion IsTimely drivers → NoneGives drivers x → slice_index (run vars drivers u) x ≡ slice_index u x
run_leaves vars drivers u x long timely none =
    same_from_bits (slice_index (run vars drivers u) x) (slice_index u x) (λ k. run_spares vars drivers u x k long timely (none_drives vars drivers x k none))

leaves_reads : (vars : List Var) (drivers : List Driver) (u : List ℕ) (xs : List ℕ) → length u ≡ length (widths_of vars) →
    AllByRecursion IsTimely drivers → AllByRecursion (NoneGives drivers) xs → AgreeOn xs (run vars drivers u) u
leaves_reads vars drivers u xs long timely =
    all_from (NoneGives drivers) (λ x. slice_index (run vars drivers u) x ≡ slice_index u x) (λ x none. run_leaves vars drivers u x long timely none) xs

-- ---- what drivers name and give

-- a variable that a driver does not name it does not give at all times
ungiven_if_unnamed : (d : Driver) (x : ℕ) → stands_in x (written_by d) ≡ false → stands_in x (driven_by d) ≡ false
ungiven_if_unnamed (Assign target value at) x clear = clear
ungiven_if_unnamed (Comb body at) x clear = clear
ungiven_if_unnamed (Clocked triggers body at) x clear = refl
ungiven_if_unnamed (driver.Instance made) x clear = clear

given_is_named : (d : Driver) (x : ℕ) → stands_in x (driven_by d) ≡ true → stands_in x (written_by d) ≡ true
given_is_named (Assign target value at) x is = is
given_is_named (Comb body at) x is = is
given_is_named (Clocked triggers body at) x is = absurd (let clash : false ≡ true = is in cc)
given_is_named (driver.Instance made) x is = is

pub none_gives : (drivers : List Driver) (x : ℕ) → NoneNames drivers x → NoneGives drivers x
none_gives drivers x =
    all_from (λ d. stands_in x (written_by d) ≡ false) (λ d. stands_in x (driven_by d) ≡ false) (λ d clear. ungiven_if_unnamed d x clear) drivers

-- the variable of a bit that a driver may give it names
pub driven_is_named : (vars : List Var) (d : Driver) (x k : ℕ) → drives vars d x k ≡ true → stands_in x (written_by d) ≡ true
driven_is_named vars d x k is = given_is_named d x (driven_named vars d x k is)

-- what is not written is neither given at all times nor held, and back
holds_from_writes : (vars : List Var) (d : Driver) (x k : ℕ) → writes vars d x k ≡ false → holds vars d x k ≡ false
holds_from_writes vars (Assign target value at) x k clear = refl
holds_from_writes vars (Comb body at) x k clear = refl
holds_from_writes vars (Clocked triggers body at) x k clear = clear
holds_from_writes vars (driver.Instance made) x k clear = refl

drives_from_writes : (vars : List Var) (d : Driver) (x k : ℕ) → writes vars d x k ≡ false → drives vars d x k ≡ false
drives_from_writes vars (Assign target value at) x k clear = clear
drives_from_writes vars (Comb body at) x k clear = clear
drives_from_writes vars (Clocked triggers body at) x k clear = refl
drives_from_writes vars (driver.Instance made) x k clear = clear

writes_from_both : (vars : List Var) (d : Driver) (x k : ℕ) → drives vars d x k ≡ false → holds vars d x k ≡ false → writes vars d x k ≡ false
writes_from_both vars (Assign target value at) x k free clear = free
writes_from_both vars (Comb body at) x k free clear = free
writes_from_both vars (Clocked triggers body at) x k free clear = clear
writes_from_both vars (driver.Instance made) x k free clear = free

pub none_holds : (vars : List Var) (drivers : List Driver) (x k : ℕ) → NoneWrites vars drivers x k → NoneHolds vars drivers x k
none_holds vars drivers x k = all_from (λ d. writes vars d x k ≡ false) (λ d. holds vars d x k ≡ false) (λ d clear. holds_from_writes vars d x k clear) drivers

pub none_given : (vars : List Var) (drivers : List Driver) (x k : ℕ) → NoneWrites vars drivers x k → NoneDrives vars drivers x k
none_given vars drivers x k = all_from (λ d. writes vars d x k ≡ false) (λ d. drives vars d x k ≡ false) (λ d clear. drives_from_writes vars d x k clear) drivers

pub none_writes : (vars : List Var) (drivers : List Driver) (x k : ℕ) → NoneDrives vars drivers x k → NoneHolds vars drivers x k → NoneWrites vars drivers x k
none_writes vars drivers x k =
    all_both (λ d. drives vars d x k ≡ false) (λ d. holds vars d x k ≡ false) (λ d. writes vars d x k ≡ false)
    (λ d free clear. writes_from_both vars d x k free clear) drivers

-- a bit that is held is written
pub held_is_written : (vars : List Var) (d : Driver) (x k : ℕ) → holds vars d x k ≡ true → writes vars d x k ≡ true
held_is_written vars (Assign target value at) x k is = absurd (let clash : false ≡ true = is in cc)
held_is_written vars (Comb body at) x k is = absurd (let clash : false ≡ true = is in cc)
held_is_written vars (Clocked triggers body at) x k is = is
held_is_written vars (driver.Instance made) x k is = absurd (let clash : false ≡ true = is in cc)

-- so its variable is one that the driver names
pub held_named : (vars : List Var) (d : Driver) (x k : ℕ) → holds vars d x k ≡ true → stands_in x (written_by d) ≡ true
held_named vars d x k is = written_named vars d x k (held_is_written vars d x k is)

-- ---- what stands in the end

-- the first driver of an ordered list gives what stands in the end
drives_first : (vars : List Var) (d : Driver) (later : List Driver) (u : List ℕ) → length u ≡ length (widths_of vars) → AllByRecursion IsTimely (d ∷ later) →
    IsBefore d later → IsDriven vars (run vars (d ∷ later) u) d
drives_first vars d later u long timely before x k bit given =
    let end = run vars (d ∷ later) u in
    let reads : AgreeOn (depends_on d) end u = leaves_reads vars (d ∷ later) u (depends_on d) long timely before.settled in
    let first : gives vars d u x k ≡ Some bit = sym (gives_alike vars d end u x k timely.0 reads) ∙ given in
    let named : stands_in x (written_by d) ≡ true = driven_is_named vars d x k (given_is_driven vars d u x k bit timely.0 first) in
    let none : NoneGives later x = none_gives later x (all_standing (NoneNames later) (written_by d) x before.alone named) in
    ap (λ n. bit_at n k) (run_leaves vars later (turn vars d u) x (turn_length vars d u ∙ long) timely.1 none)
    ∙ turn_bit vars d u x k long timely.0
    ∙ ap (λ found. unwrap_or found (bit_at (slice_index u x) k)) first

-- each driver of an ordered list gives what stands in the end
pub drives_all : (vars : List Var) (drivers : List Driver) (u : List ℕ) → length u ≡ length (widths_of vars) → AllByRecursion IsTimely drivers →
    AreOrdered drivers → AllByRecursion (IsDriven vars (run vars drivers u)) drivers
drives_all vars [] u long timely ordered = tt
drives_all vars (d ∷ later) u long timely ordered = (
  drives_first vars d later u long timely ordered.0,
  drives_all vars later (turn vars d u) (turn_length vars d u ∙ long) timely.1 ordered.1,
)

-- ---- registers

-- a clocked process gives nothing at all times
own_apart : (vars : List Var) (d : Driver) (x k : ℕ) → holds vars d x k ≡ true → stands_in x (driven_by d) ≡ false
own_apart vars (Assign target value at) x k held = absurd (let clash : false ≡ true = held in cc)
own_apart vars (Comb body at) x k held = absurd (let clash : false ≡ true = held in cc)
own_apart vars (Clocked triggers body at) x k held = refl
own_apart vars (driver.Instance made) x k held = absurd (let clash : false ≡ true = held in cc)

-- a driver gives at all times no variable of which a later one of an ordered list holds a bit
held_apart : (vars : List Var) (d : Driver) (later : List Driver) → AllByRecursion (NoneNames later) (written_by d) →
    AllByRecursion (λ e. (x k : ℕ) → holds vars e x k ≡ true → stands_in x (driven_by d) ≡ false) later
held_apart vars d later alone =
    all_from (λ e. (x : ℕ) → stands_in x (written_by d) ≡ true → stands_in x (written_by e) ≡ false)
    (λ e. (x k : ℕ) → holds vars e x k ≡ true → stands_in x (driven_by d) ≡ false) at later
    (each_later later (λ x is. all_standing (NoneNames later) (written_by d) x alone is)) where
      each_later : (es : List Driver) → ((x : ℕ) → stands_in x (written_by d) ≡ true → NoneNames es x) →
          AllByRecursion (λ e. (x : ℕ) → stands_in x (written_by d) ≡ true → stands_in x (written_by e) ≡ false) es
      each_later [] none = tt
      each_later (e ∷ es) none = (λ x is. (none x is).0, each_later es (λ x is. (none x is).1))

      at : (e : Driver) → ((x : ℕ) → stands_in x (written_by d) ≡ true → stands_in x (written_by e) ≡ false) →
          (x k : ℕ) → holds vars e x k ≡ true → stands_in x (driven_by d) ≡ false
      at e apart x k held = by_test (stands_in x (driven_by d)) refl where
        by_test : (t : Bool) → stands_in x (driven_by d) ≡ t → t ≡ false
        by_test false is = refl
        by_test true is = absurd (let clash : true ≡ false = sym (held_named vars e x k held) ∙ apart x (given_is_named d x is) in cc)

-- so no driver of an ordered list gives at all times a variable of which one of them holds a bit
pub held_alone : (vars : List Var) (drivers : List Driver) → AreOrdered drivers →
    AllByRecursion (λ e. (x k : ℕ) → holds vars e x k ≡ true → NoneGives drivers x) drivers
held_alone vars [] ordered = tt
held_alone vars (d ∷ later) ordered = (
  λ x k held. (own_apart vars d x k held, none_gives later x (all_standing (NoneNames later) (written_by d) x ordered.0.alone (held_named vars d x k held))),
  all_both (λ e. (x k : ℕ) → holds vars e x k ≡ true → stands_in x (driven_by d) ≡ false) (λ e. (x k : ℕ) → holds vars e x k ≡ true → NoneGives later x)
      (λ e. (x k : ℕ) → holds vars e x k ≡ true → NoneGives (d ∷ later) x)
      (λ e p q x k held. (p x k held, q x k held)) later
      (held_apart vars d later ordered.0.alone) (held_alone vars later ordered.1),
)

-- ---- two valuations that the same drivers drive

-- the two agree in bits that no driver of the list may give at all times
abbrev pub AgreeBut : List Var → List Driver → List ℕ → List ℕ → Type 0
AgreeBut vars drivers u v = (x k : ℕ) → NoneDrives vars drivers x k → bit_at (slice_index u x) k ≡ bit_at (slice_index v x) k

agree_reads : (vars : List Var) (drivers : List Driver) (u v : List ℕ) (xs : List ℕ) → AgreeBut vars drivers u v → AllByRecursion (NoneGives drivers) xs → AgreeOn xs u v
agree_reads vars drivers u v xs but =
    all_from (NoneGives drivers) (λ x. slice_index u x ≡ slice_index v x)
    (λ x none. same_from_bits (slice_index u x) (slice_index v x) (λ k. but x k (none_drives vars drivers x k none))) xs

-- a driver that reads the same on both valuations drives its bits alike
drives_alike : (vars : List Var) (d : Driver) (later : List Driver) (u v : List ℕ) → IsTimely d → IsBefore d later →
    IsDriven vars u d → IsDriven vars v d → AgreeBut vars (d ∷ later) u v → AgreeBut vars later u v
drives_alike vars d later u v timely before drives_u drives_v but x k none = by_test (drives vars d x k) refl where
  by_test : (t : Bool) → drives vars d x k ≡ t → bit_at (slice_index u x) k ≡ bit_at (slice_index v x) k
  by_test false free = but x k (free, none)
  by_test true is =
      let found = driven_is_given vars d u x k timely is in
      let reads : AgreeOn (depends_on d) u v = agree_reads vars (d ∷ later) u v (depends_on d) but before.settled in
      drives_u x k found.0 found.1 ∙ sym (drives_v x k found.0 (sym (gives_alike vars d u v x k timely reads) ∙ found.1))

-- so two valuations that agree where no driver gives at all times agree everywhere
pub agree_all : (vars : List Var) (drivers : List Driver) (u v : List ℕ) → AllByRecursion IsTimely drivers → AreOrdered drivers →
    AllByRecursion (IsDriven vars u) drivers → AllByRecursion (IsDriven vars v) drivers → AgreeBut vars drivers u v → (x : ℕ) → slice_index u x ≡ slice_index v x
agree_all vars [] u v timely ordered drives_u drives_v but x = same_from_bits (slice_index u x) (slice_index v x) (λ k. but x k tt)
agree_all vars (d ∷ later) u v timely ordered drives_u drives_v but x =
    agree_all vars later u v timely.1 ordered.1 drives_u.1 drives_v.1 (drives_alike vars d later u v timely.0 ordered.0 drives_u.0 drives_v.0 but) x
