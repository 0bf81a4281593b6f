-- Event controls that name inputs of one bit without a mark.
use Rattle.std.proofs.Common.{◌≡◌, ℕ, List, [], ◌∷◌, length, Bool, true, false, refl, sym, ◌∙◌, ap, Option, None, Some}
use Rattle.std.specs.Prelude.{◌&&◌, ◌==◌, slice_get, slice_index_or, IsTrue, ◌↔◌}
use Rattle.std.specs.List.{AllByRecursion, list_all}
use Rattle.std.proofs.lemmas.Option.{slice_get_within}
use Rattle.net_ir.specs.declared.design.Role.{Role}
use Rattle.net_ir.specs.declared.design.Role.TheVariants.{Input, Output, Inner}
use Rattle.net_ir.specs.declared.design.Var.{Var}
use Rattle.net_ir.specs.declared.design.Trigger.{Trigger}
use Rattle.net_ir.specs.declared.design.Driver.{Driver}
use Rattle.net_ir.specs.declared.design.Driver.TheVariants as driver
use Rattle.net_ir.specs.declared.design.Driver.TheVariants.{Assign, Comb, Clocked}
use Rattle.net_ir.specs.declared.design.Spec.{Spec}
use Rattle.net_ir.specs.Face.{all_reads}
use Rattle.plain_run.specs.Plain.{IsPlainClock, IsPlainTrigger, HasPlainClocks}
use Rattle.net_ir.specs.Marks.{AreMarksOf, is_clear}
use Rattle.plain_run.specs.code.Marks.{is_input, is_clock_if, is_clock, are_clocks, has_clocks}
use Rattle.plain_run.proofs.Marking.{same_test, same_from_test}
use Rattle.plain_run.proofs.JoinedTests.{and_true, and_front, and_back, not_true, true_not}
use Rattle.plain_run.proofs.Variables.{width_is}

input_role : (r : Role) → is_input r ≡ true → r ≡ Input
input_role Input is = refl
input_role Output is = absurd (let clash : false ≡ true = is in cc)
input_role Inner is = absurd (let clash : false ≡ true = is in cc)

-- marks of what is read
abbrev pub AreReadMarks : Spec → List Bool → Type 0
AreReadMarks spec read = AreMarksOf (length spec.vars) (all_reads spec) read

clock_sound : (spec : Spec) (read : List Bool) (x : ℕ) (found : Option Var) → AreReadMarks spec read → slice_get spec.vars x ≡ found →
    is_clock_if found (is_clear read x) ≡ true → IsPlainClock spec x
clock_sound spec read x None are is passes = absurd (let clash : false ≡ true = passes in cc)
clock_sound spec read x (Some v) are is passes =
    let front : (is_input v.role && (v.width == 1)) ≡ true = and_front (is_input v.role && (v.width == 1)) (is_clear read x) passes in
    let clear : is_clear read x ≡ true = and_back (is_input v.role && (v.width == 1)) (is_clear read x) passes in
    record {
      input = (v, is, input_role v.role (and_front (is_input v.role) (v.width == 1) front));
      one_bit = width_is spec.vars x v is ∙ same_from_test v.width 1 (and_back (is_input v.role) (v.width == 1) front);
      unread = sym (are.tell x (slice_get_within spec.vars x v is)) ∙ not_true (slice_index_or read x false) clear;
    }

clock_complete : (spec : Spec) (read : List Bool) (x : ℕ) → AreReadMarks spec read → IsPlainClock spec x → is_clock spec.vars read (Some x) ≡ true
clock_complete spec read x are plain =
    let v = plain.input.0 in
    let is : slice_get spec.vars x ≡ Some v = plain.input.1 in
    let role : is_input v.role ≡ true = ap is_input plain.input.2 in
    let one : (v.width == 1) ≡ true = same_test v.width 1 (sym (width_is spec.vars x v is) ∙ plain.one_bit) in
    let clear : is_clear read x ≡ true = true_not (slice_index_or read x false) (are.tell x (slice_get_within spec.vars x v is) ∙ plain.unread) in
    ap (λ found. is_clock_if found (is_clear read x)) is
    ∙ and_true (is_input v.role && (v.width == 1)) (is_clear read x) (and_true (is_input v.role) (v.width == 1) role one) clear

trigger_sound : (spec : Spec) (read : List Bool) (name : Option ℕ) → AreReadMarks spec read → is_clock spec.vars read name ≡ true → IsPlainTrigger spec name
trigger_sound spec read None are passes = absurd (let clash : false ≡ true = passes in cc)
trigger_sound spec read (Some x) are passes = clock_sound spec read x (slice_get spec.vars x) are refl passes

trigger_complete : (spec : Spec) (read : List Bool) (name : Option ℕ) → AreReadMarks spec read → IsPlainTrigger spec name → is_clock spec.vars read name ≡ true
trigger_complete spec read None are plain = absurd plain
trigger_complete spec read (Some x) are plain = clock_complete spec read x are plain

triggers_sound : (spec : Spec) (read : List Bool) (triggers : List Trigger) → AreReadMarks spec read → are_clocks spec.vars read triggers ≡ true →
    AllByRecursion (λ (t : Trigger). IsPlainTrigger spec t.var) triggers
triggers_sound spec read [] are passes = tt
triggers_sound spec read (t ∷ triggers) are passes = (
  trigger_sound spec read t.var are (and_front (is_clock spec.vars read t.var) (are_clocks spec.vars read triggers) passes),
  triggers_sound spec read triggers are (and_back (is_clock spec.vars read t.var) (are_clocks spec.vars read triggers) passes),
)

triggers_complete : (spec : Spec) (read : List Bool) (triggers : List Trigger) → AreReadMarks spec read →
    AllByRecursion (λ (t : Trigger). IsPlainTrigger spec t.var) triggers → are_clocks spec.vars read triggers ≡ true
triggers_complete spec read [] are plain = refl
triggers_complete spec read (t ∷ triggers) are plain =
    and_true (is_clock spec.vars read t.var) (are_clocks spec.vars read triggers)
    (trigger_complete spec read t.var are plain.0) (triggers_complete spec read triggers are plain.1)

driver_sound : (spec : Spec) (read : List Bool) (d : Driver) → AreReadMarks spec read → has_clocks spec.vars read d ≡ true → HasPlainClocks spec d
driver_sound spec read (Assign target value place) are passes = tt
driver_sound spec read (Comb body place) are passes = tt
driver_sound spec read (Clocked triggers body place) are passes = triggers_sound spec read triggers are passes
driver_sound spec read (driver.Instance made) are passes = tt

driver_complete : (spec : Spec) (read : List Bool) (d : Driver) → AreReadMarks spec read → HasPlainClocks spec d → has_clocks spec.vars read d ≡ true
driver_complete spec read (Assign target value place) are plain = refl
driver_complete spec read (Comb body place) are plain = refl
driver_complete spec read (Clocked triggers body place) are plain = triggers_complete spec read triggers are plain
driver_complete spec read (driver.Instance made) are plain = refl

clocks_sound : (spec : Spec) (read : List Bool) (drivers : List Driver) → AreReadMarks spec read → list_all (has_clocks spec.vars read) drivers ≡ true →
    AllByRecursion (HasPlainClocks spec) drivers
clocks_sound spec read [] are passes = tt
clocks_sound spec read (d ∷ drivers) are passes = (
  driver_sound spec read d are (and_front (has_clocks spec.vars read d) (list_all (has_clocks spec.vars read) drivers) passes),
  clocks_sound spec read drivers are (and_back (has_clocks spec.vars read d) (list_all (has_clocks spec.vars read) drivers) passes),
)

clocks_complete : (spec : Spec) (read : List Bool) (drivers : List Driver) → AreReadMarks spec read → AllByRecursion (HasPlainClocks spec) drivers →
    list_all (has_clocks spec.vars read) drivers ≡ true
clocks_complete spec read [] are plain = refl
clocks_complete spec read (d ∷ drivers) are plain =
    and_true (has_clocks spec.vars read d) (list_all (has_clocks spec.vars read) drivers)
    (driver_complete spec read d are plain.0) (clocks_complete spec read drivers are plain.1)

-- what is found of the drivers decides
pub clocks_decided : (spec : Spec) (read : List Bool) (passes : Bool) → AreReadMarks spec read → passes ≡ list_all (has_clocks spec.vars read) spec.drivers →
    IsTrue passes ↔ AllByRecursion (HasPlainClocks spec) spec.drivers
clocks_decided spec read passes are is = (
  (λ holds_now. clocks_sound spec read spec.drivers are (sym is ∙ holds_now)),
  (λ plain. is ∙ clocks_complete spec read spec.drivers are plain),
)
