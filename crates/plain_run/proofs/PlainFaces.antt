-- The ports of a plain design: their widths, and the one bit of its clocks.
use Rattle.std.proofs.Common.{◌≡◌, ℕ, suc, ◌⊎◌, inl, inr, ⊎_elim, Bool, true, false, List, [], ◌∷◌, ◌++◌, slice_index, Option, None, Some, refl, sym, ◌∙◌, ap, subst}
use Rattle.std.specs.Prelude.{slice_get, ◌==◌, ◌||◌}
use Rattle.std.specs.List.{AllByRecursion, flat_map}
use Rattle.std.specs.Option.{option_map}
use Rattle.std.proofs.lemmas.Bool.{false≢true, eqb-true}
use Rattle.std.proofs.lemmas.Option.{slice_get-map, get_or_from_slice_get}
use Rattle.sv_base.specs.declared.face.Class.TheVariants as class
use Rattle.sv_base.specs.declared.face.Port.{Port}
use Rattle.bit_ops.specs.Width.{IsWidth}
use Rattle.net_ir.specs.declared.design.Role.{Role}
use Rattle.net_ir.specs.declared.design.Role.TheVariants.{Input, Output, Inner}
use Rattle.net_ir.specs.declared.design.Var.{Var}
use Rattle.net_ir.specs.declared.design.Spec.{Spec}
use Rattle.net_ir.specs.declared.design.Trigger.{Trigger}
use Rattle.net_ir.specs.declared.design.Driver.{Driver}
use Rattle.net_ir.specs.declared.design.Driver.TheVariants as driver
use Rattle.net_ir.specs.declared.design.Driver.TheVariants.{Assign, Comb, Clocked}
use Rattle.net_ir.specs.Value.{widths_of}
use Rattle.net_ir.specs.Drive.{driver_clocks}
use Rattle.net_ir.specs.Target.{var_list}
use Rattle.net_ir.specs.Face.{class_of, input_class, stands_in, clocks_of, all_reads, ports_of}
use Rattle.plain_run.specs.Plain.{IsPlain, IsPlainClock, IsPlainTrigger, HasPlainClocks}
use Rattle.net_ir.specs.Lawful.{IsLawfulVar}
use Rattle.net_values.proofs.Elements.{all_get}
use Rattle.plain_run.proofs.Ports.{port_is}

-- what holds of the port at each place holds of all
all_ports : (P : Port → Type 0) (ports : List Port) → ((x : ℕ) (p : Port) → slice_get ports x ≡ Some p → P p) → AllByRecursion P ports
all_ports P [] each = tt
all_ports P (p ∷ ports) each = (each 0 p refl, all_ports P ports (λ x q at. each (suc x) q at))

-- the width of a lawful variable is that of its initial value
lawful_width : (v : Var) → IsLawfulVar v → IsWidth v.width
lawful_width v lawful = subst IsWidth lawful.initial (v.init.positive, v.init.within)

pub plain_widths : (spec : Spec) → IsPlain spec → AllByRecursion (λ (p : Port). IsWidth p.width) (ports_of spec)
plain_widths spec plain = all_ports (λ (p : Port). IsWidth p.width) (ports_of spec)
    (λ x p at. let r = port_is spec x p at in subst (λ (q : Port). IsWidth q.width) (sym r.is) (lawful_width r.variable (all_get IsLawfulVar spec.vars x r.variable plain.lawful.vars r.at)))

any_more : (x z : ℕ) (xs ys : List ℕ) (b : Bool) → (z == x) ≡ b → (b || stands_in x (xs ++ ys)) ≡ true → ((stands_in x (xs ++ ys) ≡ true) → (stands_in x xs ≡ true) ⊎ (stands_in x ys ≡ true)) → ((b || stands_in x xs) ≡ true) ⊎ (stands_in x ys ≡ true)
any_more x z xs ys true is all rest = inl refl
any_more x z xs ys false is all rest = rest all

any_append : (x : ℕ) (xs ys : List ℕ) → stands_in x (xs ++ ys) ≡ true → (stands_in x xs ≡ true) ⊎ (stands_in x ys ≡ true)
any_append x [] ys is = inr is
any_append x (z ∷ xs) ys is = any_more x z xs ys (z == x) refl is (any_append x xs ys)

or_false : (b : Bool) → (b || false) ≡ true → b ≡ true
or_false true is = refl
or_false false is = is

equal_is : (y x : ℕ) → ((y == x) || false) ≡ true → y ≡ x
equal_is y x is = eqb-true y x (or_false (y == x) is)

clock_here : (spec : Spec) (x : ℕ) (var : Option ℕ) → IsPlainTrigger spec var → stands_in x (var_list var) ≡ true → IsPlainClock spec x
clock_here spec x None plain is = absurd plain
clock_here spec x (Some clock) plain is = subst (IsPlainClock spec) (equal_is clock x is) plain

trigger_clock : (spec : Spec) (x : ℕ) (triggers : List Trigger) → AllByRecursion (λ (t : Trigger). IsPlainTrigger spec t.var) triggers → stands_in x (flat_map (λ (t : Trigger). var_list t.var) triggers) ≡ true → IsPlainClock spec x
trigger_clock spec x [] plain is = absurd (false≢true is)
trigger_clock spec x (t ∷ triggers) plain is =
    ⊎_elim (λ here. clock_here spec x t.var plain.0 here) (λ later. trigger_clock spec x triggers plain.1 later)
    (any_append x (var_list t.var) (flat_map (λ (u : Trigger). var_list u.var) triggers) is)

driver_clock : (spec : Spec) (x : ℕ) (d : Driver) → HasPlainClocks spec d → stands_in x (driver_clocks d) ≡ true → IsPlainClock spec x
driver_clock spec x (Assign target value place) plain is = absurd (false≢true is)
driver_clock spec x (Comb body place) plain is = absurd (false≢true is)
driver_clock spec x (driver.Instance made) plain is = absurd (false≢true is)
driver_clock spec x (Clocked triggers body place) plain is = trigger_clock spec x triggers plain is

-- what stands in an event control of a plain design is a clock
pub some_clock : (spec : Spec) (x : ℕ) (drivers : List Driver) → AllByRecursion (HasPlainClocks spec) drivers → stands_in x (flat_map driver_clocks drivers) ≡ true → IsPlainClock spec x
some_clock spec x [] plain is = absurd (false≢true is)
some_clock spec x (d ∷ drivers) plain is =
    ⊎_elim (λ here. driver_clock spec x d plain.0 here) (λ later. some_clock spec x drivers plain.1 later)
    (any_append x (driver_clocks d) (flat_map driver_clocks drivers) is)

clock_class : (clock read : Bool) → input_class clock read ≡ class.Clock → clock ≡ true
clock_class true read is = refl
clock_class false true is = absurd (cc)
clock_class false false is = absurd (cc)

clock_stands : (spec : Spec) (x : ℕ) (role : Role) → class_of spec x role ≡ class.Clock → stands_in x (clocks_of spec) ≡ true
clock_stands spec x Input is = clock_class (stands_in x (clocks_of spec)) (stands_in x (all_reads spec)) is
clock_stands spec x Output is = absurd (cc)
clock_stands spec x Inner is = absurd (cc)

clock_width : (spec : Spec) → IsPlain spec → (x : ℕ) (v : Var) → slice_get spec.vars x ≡ Some v → class_of spec x v.role ≡ class.Clock → v.width ≡ 1
clock_width spec plain x v at is =
    let clock = some_clock spec x spec.drivers plain.clocks (clock_stands spec x v.role is) in
    let width : slice_index (widths_of spec.vars) x ≡ v.width =
    get_or_from_slice_get (widths_of spec.vars) x v.width 0 (slice_get-map (λ (u : Var). u.width) spec.vars x ∙ ap (option_map (λ (u : Var). u.width)) at) in
    sym width ∙ clock.one_bit

pub plain_clocks : (spec : Spec) → IsPlain spec → AllByRecursion (λ (p : Port). p.class ≡ class.Clock → p.width ≡ 1) (ports_of spec)
plain_clocks spec plain = all_ports (λ (p : Port). p.class ≡ class.Clock → p.width ≡ 1) (ports_of spec)
    (λ x p at is.
    let r = port_is spec x p at in
    let role : class_of spec x r.variable.role ≡ class.Clock = ap (λ (q : Port). q.class) (sym r.is) ∙ is in
    ap (λ (q : Port). q.width) r.is ∙ clock_width spec plain x r.variable r.at role)
