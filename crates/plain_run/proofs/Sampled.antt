-- What registers sample depends only on the levels of clocks and on what expressions read.
use Rattle.std.proofs.Common.{◌≡◌, ℕ, ◌+◌, List, [], ◌∷◌, true, Bool, refl, ◌∙◌, ap, Option, None, Some}
use Rattle.std.specs.Prelude.{slice_index, ◌==◌, if◌then◌else◌}
use Rattle.std.specs.List.{AllByRecursion, list_any}
use Rattle.std.specs.Int.{bit_at}
use Rattle.std.proofs.lemmas.Bool.{or_left, or_right}
use Rattle.net_ir.specs.declared.design.Trigger.{Trigger}
use Rattle.net_ir.specs.declared.design.Driver.{Driver}
use Rattle.net_ir.specs.declared.design.Driver.TheVariants as driver
use Rattle.net_ir.specs.declared.design.Driver.TheVariants.{Assign, Comb, Clocked}
use Rattle.net_ir.specs.declared.design.Var.{Var}
use Rattle.net_ir.specs.declared.design.Spec.{Spec}
use Rattle.net_ir.specs.Target.{var_list}
use Rattle.net_ir.specs.Statement.{bit_after, clocked_writes}
use Rattle.net_ir.specs.Drive.{driver_reads, driver_clocks}
use Rattle.net_ir.specs.Face.{stands_in, clocks_of}
use Rattle.net_ir.specs.Run.{edge_at, is_edge, occurs, sampled, all_sampled}
use Rattle.net_ir.specs.Stepping.{Samples}
use Rattle.net_values.specs.Writes.{AgreeOn}
use Rattle.net_values.proofs.Elements.{all_from, all_both, each_flat, flat_same, any_same}
use Rattle.net_values.proofs.Numbers.{eq_test}
use Rattle.net_values.proofs.Statements.{statement_local}

-- each number of a list stands in it
pub all_stand : (xs : List ℕ) → AllByRecursion (λ x. stands_in x xs ≡ true) xs
all_stand [] = tt
all_stand (y ∷ xs) = (
  or_left (y == y) (stands_in y xs) (eq_test y y refl),
  all_from (λ x. stands_in x xs ≡ true) (λ x. stands_in x (y ∷ xs) ≡ true) (λ x here. or_right (y == x) (stands_in x xs) here) xs (all_stand xs),
)

-- two valuations agree at what a driver reads
abbrev pub ReadsAgree : List ℕ → List ℕ → Driver → Type 0
ReadsAgree u v d = AgreeOn (driver_reads d) u v

same_edge : (before before_2 after after_2 : List ℕ) (var : Option ℕ) (falling : Bool) → AgreeOn (var_list var) before before_2 →
    AgreeOn (var_list var) after after_2 → edge_at var falling before after ≡ edge_at var falling before_2 after_2
same_edge before before_2 after after_2 None falling a b = refl
same_edge before before_2 after after_2 (Some clock) falling a b =
    ap (λ n. is_edge falling n (slice_index after clock)) a.0 ∙ ap (λ n. is_edge falling (slice_index before_2 clock) n) b.0

same_sampled : (vars : List Var) (u v before before_2 after after_2 : List ℕ) (d : Driver) → AgreeOn (driver_clocks d) before before_2 →
    AgreeOn (driver_clocks d) after after_2 → ReadsAgree u v d → sampled vars u before after d ≡ sampled vars v before_2 after_2 d
same_sampled vars u v before before_2 after after_2 (Assign target value at) a b agree = refl
same_sampled vars u v before before_2 after after_2 (Comb body at) a b agree = refl
same_sampled vars u v before before_2 after after_2 (driver.Instance made) a b agree = refl
same_sampled vars u v before before_2 after after_2 (Clocked triggers body at) a b agree =
    let clocks : Trigger → List ℕ = λ t. var_list t.var in
    let edges : list_any (occurs before after) triggers ≡ list_any (occurs before_2 after_2) triggers =
    any_same (occurs before after) (occurs before_2 after_2) triggers
    (all_both (λ (t : Trigger). AgreeOn (clocks t) before before_2) (λ (t : Trigger). AgreeOn (clocks t) after after_2) (λ t. occurs before after t ≡ occurs before_2 after_2 t)
    (λ t p q. same_edge before before_2 after after_2 t.var t.falling p q) triggers
    (each_flat (λ x. slice_index before x ≡ slice_index before_2 x) clocks triggers a)
    (each_flat (λ x. slice_index after x ≡ slice_index after_2 x) clocks triggers b)) in
    ap (λ (t : Bool). if t then clocked_writes vars u body else []) edges
    ∙ ap (λ writes. if list_any (occurs before_2 after_2) triggers then writes else []) (statement_local vars u v body agree)

-- so all drivers sample the same
same_all : (spec : Spec) (u v before before_2 after after_2 : List ℕ) → AgreeOn (clocks_of spec) before before_2 → AgreeOn (clocks_of spec) after after_2 →
    AllByRecursion (ReadsAgree u v) spec.drivers → all_sampled spec u before after ≡ all_sampled spec v before_2 after_2
same_all spec u v before before_2 after after_2 a b reads =
    let First : Driver → Type 0 = λ d. AgreeOn (driver_clocks d) before before_2 in
    let Second : Driver → Type 0 = λ d. AgreeOn (driver_clocks d) after after_2 in
    let Rest : Driver → Type 0 = λ d. Second d × ReadsAgree u v d in
    flat_same (sampled spec.vars u before after) (sampled spec.vars v before_2 after_2) spec.drivers
    (all_both First Rest (λ d. sampled spec.vars u before after d ≡ sampled spec.vars v before_2 after_2 d)
    (λ d p q. same_sampled spec.vars u v before before_2 after after_2 d p q.0 q.1) spec.drivers
    (each_flat (λ x. slice_index before x ≡ slice_index before_2 x) driver_clocks spec.drivers a)
    (all_both Second (ReadsAgree u v) Rest (λ d p q. (p, q)) spec.drivers
    (each_flat (λ x. slice_index after x ≡ slice_index after_2 x) driver_clocks spec.drivers b) reads))

-- so do the next words of registers
pub samples_same : (spec : Spec) (u v before before_2 after after_2 kept next : List ℕ) → AgreeOn (clocks_of spec) before before_2 →
    AgreeOn (clocks_of spec) after after_2 → AllByRecursion (ReadsAgree u v) spec.drivers → Samples spec u before after kept next →
    Samples spec v before_2 after_2 kept next
samples_same spec u v before before_2 after after_2 kept next a b reads samples = record {
  each = samples.each;
  fits = samples.fits;
  bits = λ i k r at below.
      samples.bits i k r at below
      ∙ ap (λ writes. bit_after writes r.var (r.low + k) (bit_at (slice_index kept i) k)) (same_all spec u v before before_2 after after_2 a b reads);
}
