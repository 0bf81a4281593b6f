-- Walks over drivers and their parts: marks that are set, names that are listed, and what is refused first.
use Rattle.std.proofs.Common.{◌≡◌, ℕ, suc, ◌+◌, ◌<◌, ◌≤◌, List, [], ◌∷◌, ◌++◌, length, drop, get_or, Bool, refl, sym, ◌∙◌, ap, subst, append_assoc, add-one, drop-cons}
use Rattle.std.specs.Prelude.{Some, slice_get, Result, Ok, Err, OnOk, IfErr}
use Rattle.std.specs.Result.{IsErrAnd}
use Rattle.std.proofs.lemmas.List.{drop_all}
use Rattle.sv_base.specs.declared.face.Face.{Face}
use Rattle.sv_base.specs.declared.face.Port.{Port}
use Rattle.net_ir.specs.declared.design.Driver.{Driver}
use Rattle.clock_domains.specs.Each.{child_ports, faces_behind, of_each}
use Rattle.sv_base.specs.declared.refusal.Refusal.{Refusal}
use Rattle.sv_base.specs.declared.fault.Fault.{Fault}
use Rattle.sv_base.specs.declared.fault.Fault.TheVariants.{Refused, NoMemory}
use Rattle.sv_base.specs.Faults.{IfRefused}
use Rattle.net_ir.specs.Marks.{mark_all}
use Rattle.net_ir.proofs.Marking.{mark_append}
use Rattle.clock_domains.specs.Order.{IsFirst}
use Rattle.clock_domains.specs.code.Walking.{Finds}

-- ---- marks

-- one part more is marked
pub mark_step : (xs ys : List ℕ) (marks after all : List Bool) → after ≡ mark_all xs marks → mark_all (xs ++ ys) marks ≡ all → mark_all ys after ≡ all
mark_step xs ys marks after all marked so_far = ap (mark_all ys) marked ∙ sym (mark_append xs ys marks) ∙ so_far

-- ---- lists

-- one part more is listed
pub list_step : (xs ys before after all : List ℕ) → after ≡ before ++ xs → before ++ (xs ++ ys) ≡ all → after ++ ys ≡ all
list_step xs ys before after all listed so_far = ap (λ zs. zs ++ ys) listed ∙ append_assoc before xs ys ∙ so_far

-- two parts are listed
pub list_both : (xs ys before then after : List ℕ) → then ≡ before ++ xs → after ≡ then ++ ys → after ≡ before ++ (xs ++ ys)
list_both xs ys before then after first second = second ∙ ap (λ zs. zs ++ ys) first ∙ append_assoc before xs ys

-- ---- refusals

-- what is refused first of a front is refused first of all
first_front : (xs ys : List Refusal) (refusal : Refusal) → IsFirst xs refusal → IsFirst (xs ++ ys) refusal
first_front [] ys refusal is = absurd (let clash : slice_get [] 0 ≡ Some refusal = is in cc)
first_front (x ∷ xs) ys refusal is = is

pub found_front : (xs ys all : List Refusal) (fault : Fault) → IfRefused (IsFirst xs) fault → xs ++ ys ≡ all → IfRefused (IsFirst all) fault
found_front xs ys all (Refused refusal) is whole = ap (λ zs. slice_get zs 0) (sym whole) ∙ first_front xs ys refusal is
found_front xs ys all NoMemory is whole = tt

-- where nothing is refused of a front, all that is refused is behind it
pub clean_front : (xs ys all : List Refusal) → xs ≡ [] → xs ++ ys ≡ all → ys ≡ all
clean_front xs ys all none whole = sym (ap (λ zs. zs ++ ys) none) ∙ whole

-- what is refused first behind a front of which nothing is refused is refused first of all
pub found_behind : (xs ys zs : List Refusal) (fault : Fault) → xs ≡ [] → ys ≡ zs → IfRefused (IsFirst ys) fault → IfRefused (IsFirst (xs ++ zs)) fault
found_behind xs ys zs (Refused refusal) none same is = ap (λ front. slice_get (front ++ zs) 0) none ∙ ap (λ behind. slice_get behind 0) (sym same) ∙ is
found_behind xs ys zs NoMemory none same is = tt

-- ---- results

pub on_ok : {T E P Q : Type 0} (r : Result T E) → (P → Q) → OnOk r P → OnOk r Q
on_ok (Ok done) f h = f h
on_ok (Err fault) f h = tt

-- a fault that is handed on tells what it told
pub finds_error : {T : Type 0} (all : List Refusal) (r : Result T Fault) (fault : Fault) → IsErrAnd r (λ e. e ≡ fault) → IfRefused (IsFirst all)
    fault → Finds all r
finds_error all (Ok done) fault same found = absurd same
finds_error all (Err error) fault same found = subst (IfRefused (IsFirst all)) (sym same) found

pub error_refuses : {T : Type 0} (P : Refusal → Type 0) (r : Result T Fault) (fault : Fault) → IsErrAnd r (λ e. e ≡ fault) → IfRefused P fault →
    IfErr r (IfRefused P)
error_refuses P (Ok done) fault same found = absurd same
error_refuses P (Err error) fault same found = subst (IfRefused P) (sym same) found

-- ---- loops over drivers

split_items : {X : Type 0} (xs : List X) (i : ℕ) (a : X) → i < length xs → a ≡ get_or xs i a → drop i xs ≡ a ∷ drop (i + 1) xs
split_items xs i a within is = rw (add-one, drop-cons xs i a within) (ap (λ x. x ∷ drop (suc i) xs) (sym is))

-- what a driver says stands before what those behind it do
split_each : {X : Type 0} (say : List Port → Driver → List X) (ds : List Driver) (faces : List Face) (i : ℕ) (d : Driver) (ports : List Port) (behind
    : List Face) →
    i < length ds → d ≡ get_or ds i d → ports ≡ child_ports d faces → behind ≡ faces_behind d faces →
    of_each say (drop i ds) faces ≡ (say ports d ++ of_each say (drop (i + 1) ds) behind)
split_each say ds faces i d ports behind within is ports_are behind_are =
    ap (λ xs. of_each say xs faces) (split_items ds i d within is)
    ∙ ap (λ p. say p d ++ of_each say (drop (i + 1) ds) (faces_behind d faces)) (sym ports_are)
    ∙ ap (λ f. say ports d ++ of_each say (drop (i + 1) ds) f) (sym behind_are)

pub each_done : {X : Type 0} (say : List Port → Driver → List X) (ds : List Driver) (faces : List Face) (i : ℕ) → length ds ≤ i → of_each say (drop i
    ds) faces ≡ []
each_done say ds faces i past = ap (λ xs. of_each say xs faces) (drop_all i ds past)

-- one driver more is marked
pub mark_each : (say : List Port → Driver → List ℕ) (ds : List Driver) (faces : List Face) (i : ℕ) (d : Driver) (ports : List Port) (behind : List Face)
    (marks after all : List Bool) → i < length ds → d ≡ get_or ds i d → ports ≡ child_ports d faces → behind ≡ faces_behind d faces →
    after ≡ mark_all (say ports d) marks → mark_all (of_each say (drop i ds) faces) marks ≡ all → mark_all (of_each say (drop (i + 1) ds) behind) after ≡ all
mark_each say ds faces i d ports behind marks after all within is ports_are behind_are marked so_far =
    mark_step (say ports d) (of_each say (drop (i + 1) ds) behind) marks after all marked
    (sym (ap (λ xs. mark_all xs marks) (split_each say ds faces i d ports behind within is ports_are behind_are)) ∙ so_far)

pub mark_each_done : (say : List Port → Driver → List ℕ) (ds : List Driver) (faces : List Face) (i : ℕ) (marks all : List Bool) → length ds ≤ i →
    mark_all (of_each say (drop i ds) faces) marks ≡ all → marks ≡ all
mark_each_done say ds faces i marks all past so_far = sym (ap (λ xs. mark_all xs marks) (each_done say ds faces i past)) ∙ so_far

-- nothing is refused of one driver more
pub clean_each : (say : List Port → Driver → List Refusal) (ds : List Driver) (faces : List Face) (i : ℕ) (d : Driver) (ports : List Port) (behind : List Face)
    (all : List Refusal) → i < length ds → d ≡ get_or ds i d → ports ≡ child_ports d faces → behind ≡ faces_behind d faces →
    say ports d ≡ [] → of_each say (drop i ds) faces ≡ all → of_each say (drop (i + 1) ds) behind ≡ all
clean_each say ds faces i d ports behind all within is ports_are behind_are none so_far =
    clean_front (say ports d) (of_each say (drop (i + 1) ds) behind) all none (sym (split_each say ds faces i d ports behind within is ports_are
    behind_are) ∙ so_far)

-- a driver is refused
pub found_each : (say : List Port → Driver → List Refusal) (ds : List Driver) (faces : List Face) (i : ℕ) (d : Driver) (ports : List Port)
    (all : List Refusal) (fault : Fault) → i < length ds → d ≡ get_or ds i d → ports ≡ child_ports d faces →
    IfRefused (IsFirst (say ports d)) fault → of_each say (drop i ds) faces ≡ all → IfRefused (IsFirst all) fault
found_each say ds faces i d ports all fault within is ports_are found so_far =
    found_front (say ports d) (of_each say (drop (i + 1) ds) (faces_behind d faces)) all fault found
    (sym (split_each say ds faces i d ports (faces_behind d faces) within is ports_are refl) ∙ so_far)
