-- Marks tell what the lists tell of which they are.
use Rattle.std.proofs.Common.{◌≡◌, ℕ, ◌+◌, ◌<◌, ◌≤◌, List, [], ◌∷◌, ◌++◌, length, get_or, Bool, false, refl, sym, ◌∙◌, ap, arith, inl, inr}
use Rattle.std.specs.Prelude.{◌⊎◌, None, Some, slice_get, slice_index_or, if◌then◌else◌}
use Rattle.std.specs.List.{flat_map}
use Rattle.std.proofs.lemmas.Option.{slice_get_cases}
use Rattle.sv_base.specs.declared.refusal.Place.{Place}
use Rattle.sv_base.specs.declared.face.Port.{Port}
use Rattle.sv_base.specs.declared.face.Face.{Face}
use Rattle.net_ir.specs.declared.design.Role.{Role}
use Rattle.net_ir.specs.declared.design.Role.TheVariants.{Input, Output, Inner}
use Rattle.net_ir.specs.declared.design.Var.{Var}
use Rattle.net_ir.specs.declared.design.Driver.{Driver}
use Rattle.net_ir.specs.Face.{stands_in, input_class, is_inner}
use Rattle.net_ir.specs.Marks.{AreMarksOf}
use Rattle.clock_domains.specs.Each.{child_ports, faces_behind, of_each}
use Rattle.clock_domains.specs.Reads.{refused_read, read_refusal, reads_in, place_of, reads_refused}
use Rattle.clock_domains.specs.Classes.{class_in, port_in, ports_in}
use Rattle.clock_domains.specs.code.Walking.{marked_refusal, driver_refusals, class_by, port_by, ports_by}

-- ---- lists by what they are made of

flat_map_same : {X Y : Type 0} (f g : X → List Y) → ((x : X) → f x ≡ g x) → (xs : List X) → flat_map f xs ≡ flat_map g xs
flat_map_same f g same [] = refl
flat_map_same f g same (x ∷ xs) = ap (λ ys. ys ++ flat_map f xs) (same x) ∙ ap (λ ys. g x ++ ys) (flat_map_same f g same xs)

each_same : {X : Type 0} (f g : List Port → Driver → List X) → ((ports : List Port) (d : Driver) → f ports d ≡ g ports d) → (ds : List Driver) (faces
    : List Face) →
    of_each f ds faces ≡ of_each g ds faces
each_same f g same [] faces = refl
each_same f g same (d ∷ ds) faces =
    ap (λ xs. xs ++ of_each f ds (faces_behind d faces)) (same (child_ports d faces) d)
    ∙ ap (λ xs. g (child_ports d faces) d ++ xs) (each_same f g same ds (faces_behind d faces))

-- ---- refusals

marked_same : (vars : List Var) (clocks : List ℕ) (marks : List Bool) → AreMarksOf (length vars) clocks marks → (place : Place) (x : ℕ) →
    marked_refusal vars marks place x ≡ read_refusal vars clocks place x
marked_same vars clocks marks tells place x = by_case (slice_get_cases vars x).1 where
  by_case : ((v : Var) × (x < length vars) × (slice_get vars x ≡ Some v) × (get_or vars x v ≡ v)) ⊎ ((length vars ≤ x) × (slice_get vars x ≡ None)) →
      marked_refusal vars marks place x ≡ read_refusal vars clocks place x
  by_case (inl found) = ap (λ t. refused_read t place (slice_get vars x)) (tells.tell x found.1)
  by_case (inr past) =
      ap (refused_read (slice_index_or marks x false) place) past.1 ∙ ap (refused_read (stands_in x clocks) place) (sym past.1)

-- what marks of the clocks refuse of all drivers
pub refusals_same : (vars : List Var) (clocks : List ℕ) (marks : List Bool) → AreMarksOf (length vars) clocks marks → (ds : List Driver) (faces : List Face) →
    of_each (driver_refusals vars marks) ds faces ≡ of_each (reads_refused vars clocks) ds faces
refusals_same vars clocks marks tells =
    each_same (driver_refusals vars marks) (reads_refused vars clocks)
    (λ ports d. flat_map_same (marked_refusal vars marks (place_of d)) (read_refusal vars clocks (place_of d)) (marked_same vars clocks marks tells
    (place_of d)) (reads_in ports d))

-- ---- ports

class_same : (r : Role) (clocks reads : List ℕ) (x : ℕ) (clock read : Bool) → clock ≡ stands_in x clocks → read ≡ stands_in x reads →
    class_by r clock read ≡ class_in clocks reads x r
class_same Input clocks reads x clock read first second = ap (λ t. input_class t read) first ∙ ap (input_class (stands_in x clocks)) second
class_same Output clocks reads x clock read first second = refl
class_same Inner clocks reads x clock read first second = refl

pub ports_same : (n : ℕ) (clocks reads : List ℕ) (clock read : List Bool) → AreMarksOf n clocks clock → AreMarksOf n reads read → (x : ℕ) (vars : List Var) →
    x + length vars ≤ n → ports_by clock read x vars ≡ ports_in clocks reads x vars
ports_same n clocks reads clock read first second x [] within = refl
ports_same n clocks reads clock read first second x (v ∷ vars) within =
    let here : x < n = omega arith in
    let rest : x + 1 + length vars ≤ n = omega arith in
    let same : class_by v.role (slice_index_or clock x false) (slice_index_or read x false) ≡ class_in clocks reads x v.role =
    class_same v.role clocks reads x (slice_index_or clock x false) (slice_index_or read x false) (first.tell x here) (second.tell x here) in
    let port : port_by clock read x v ≡ port_in clocks reads x v = ap (λ c. record { name = v.name; class = c; signed = v.signed; width = v.width }) same in
    ap (λ p. if is_inner v.role then [] else p ∷ ports_by clock read (x + 1) vars) port
    ∙ ap (λ ps. if is_inner v.role then [] else port_in clocks reads x v ∷ ps) (ports_same n clocks reads clock read first second (x + 1) vars rest)
