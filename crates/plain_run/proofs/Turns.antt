-- Drivers from the last to the first, with marks of what the later ones write and of what they give at all times.
use Rattle.std.proofs.Common.{◌≡◌, ℕ, zero, suc, ◌<◌, ◌≤◌, ◌+◌, ◌-◌, List, [], ◌∷◌, ◌++◌, length, drop, get_or, Bool, true, false, refl, sym, ◌∙◌, ap, subst, arith, add-one, Option, None, Some, inl, inr}
use Rattle.std.specs.Prelude.{not, ◌||◌, ◌==◌, nat_lt, slice_index_or, slice_get, replicate, ◌⊎◌}
use Rattle.std.specs.List.{AllByRecursion, flat_map}
use Rattle.std.proofs.lemmas.Bool.Decides.{nat_tests}
use Rattle.std.proofs.lemmas.List.{get_or_past}
use Rattle.std.proofs.lemmas.List.Folds.{list_any-append}
use Rattle.net_ir.specs.declared.design.Role.{Role}
use Rattle.net_ir.specs.declared.design.Role.TheVariants.{Input, Output, Inner}
use Rattle.net_ir.specs.declared.design.Var.{Var}
use Rattle.net_ir.specs.declared.design.Driver.{Driver}
use Rattle.net_ir.specs.declared.design.Driver.TheVariants as driver
use Rattle.net_ir.specs.declared.design.Driver.TheVariants.{Assign, Comb, Clocked}
use Rattle.net_ir.specs.Value.{reads_of, widths_of}
use Rattle.net_ir.specs.Drive.{depends_on}
use Rattle.net_ir.specs.Face.{stands_in}
use Rattle.net_ir.specs.Lawful.{IsLawfulDriver}
use Rattle.net_ir.specs.Marks.{mark_all, AreMarksOf, is_clear}
use Rattle.net_values.proofs.Elements.{all_join}
use Rattle.plain_run.specs.Plain.{IsTimely, written_by, driven_by, IsInput, SparesInputs, NoneNames, NoneGives, IsBefore, AreOrdered}
use Rattle.plain_run.specs.code.Marks.{is_input}
use Rattle.plain_run.specs.code.Turns.{input_if, is_free, are_free, are_clear, names_of, given_by, is_settled, takes_turn}
use Rattle.plain_run.proofs.JoinedTests.{and_true, and_front, and_back, or_front, or_back, false_or, or_swap, not_true, true_not}
use Rattle.plain_run.proofs.Timely.{fixed_unread}
use Rattle.plain_run.proofs.LawfulNames.{Within, written_within, driven_within}
use Rattle.plain_run.proofs.Marking.{split_items, marked_at, length_marks, other_test, marks_tell}

-- ---- numbers in lists

stands_both : (x : ℕ) (xs ys : List ℕ) → stands_in x (xs ++ ys) ≡ (stands_in x xs || stands_in x ys)
stands_both x xs ys = list_any-append (λ y. y == x) xs ys

stands_past : (n x : ℕ) (xs : List ℕ) → Within n xs → n ≤ x → stands_in x xs ≡ false
stands_past n x [] within past = refl
stands_past n x (y ∷ xs) within past =
    false_or (y == x) (stands_in x xs) (other_test y x (λ same. let below : y < n = within.0 in omega arith)) (stands_past n x xs within.1 past)

within_or_past : (a b : ℕ) → (a < b) ⊎ (b ≤ a)
within_or_past a b = decide (nat_lt a b) refl where
  decide : (t : Bool) → nat_lt a b ≡ t → (a < b) ⊎ (b ≤ a)
  decide true h = inl (grind (arith, nat_tests))
  decide false h = inr (grind (arith, nat_tests))

-- marks of numbers that are there tell of each number
tell_all : (n : ℕ) (xs : List ℕ) (marks : List Bool) (x : ℕ) → AreMarksOf n xs marks → Within n xs → slice_index_or marks x false ≡ stands_in x xs
tell_all n xs marks x are within = by_case (within_or_past x n) where
  by_case : (x < n) ⊎ (n ≤ x) → slice_index_or marks x false ≡ stands_in x xs
  by_case (inl there) = are.tell x there
  by_case (inr past) = get_or_past marks x false (subst (λ m. m ≤ x) (sym are.each) past) ∙ sym (stands_past n x xs within past)

-- more marks
marks_join : (n : ℕ) (xs ys : List ℕ) (marks after : List Bool) → AreMarksOf n ys marks → after ≡ mark_all xs marks → AreMarksOf n (xs ++ ys) after
marks_join n xs ys marks after are is = record {
  each = ap length is ∙ length_marks xs marks ∙ are.each;
  tell = λ x within.
      ap (λ m. slice_index_or m x false) is ∙ marked_at xs marks x (subst (λ k. x < k) (sym are.each) within)
      ∙ ap (λ t. t || stands_in x xs) (are.tell x within) ∙ or_swap (stands_in x ys) (stands_in x xs) ∙ sym (stands_both x xs ys);
}

-- ---- drivers

names_written : (d : Driver) → IsTimely d → names_of d ≡ written_by d
names_written (Assign to value place) timely = refl
names_written (Comb body place) timely = absurd timely
names_written (Clocked triggers body place) timely = refl
names_written (driver.Instance made) timely = absurd timely

names_given : (d : Driver) → IsTimely d → given_by d (names_of d) ≡ driven_by d
names_given (Assign to value place) timely = refl
names_given (Comb body place) timely = absurd timely
names_given (Clocked triggers body place) timely = refl
names_given (driver.Instance made) timely = absurd timely

-- a timely and lawful driver
abbrev pub IsFit : List Var → Driver → Type 0
IsFit vars d = IsTimely d × IsLawfulDriver vars d

pub all_fit : (vars : List Var) (ds : List Driver) → AllByRecursion IsTimely ds → AllByRecursion (IsLawfulDriver vars) ds → AllByRecursion (IsFit vars) ds
all_fit vars [] timely lawful = tt
all_fit vars (d ∷ ds) timely lawful = ((timely.0, lawful.0), all_fit vars ds timely.1 lawful.1)

-- what several of them name is there
all_within : (n : ℕ) (P : Driver → Type 0) (f : Driver → List ℕ) → ((d : Driver) → P d → Within n (f d)) → (ds : List Driver) → AllByRecursion P ds →
    Within n (flat_map f ds)
all_within n P f each [] all = tt
all_within n P f each (d ∷ ds) all = all_join (λ x. x < n) (f d) (flat_map f ds) (each d all.0) (all_within n P f each ds all.1)

all_written_within : (vars : List Var) (ds : List Driver) → AllByRecursion (IsFit vars) ds → Within (length (widths_of vars)) (flat_map written_by ds)
all_written_within vars ds fit =
    all_within (length (widths_of vars)) (IsFit vars) written_by (λ d is. written_within vars d is.0 is.1) ds fit

all_driven_within : (vars : List Var) (ds : List Driver) → AllByRecursion (IsFit vars) ds → Within (length (widths_of vars)) (flat_map driven_by ds)
all_driven_within vars ds fit =
    all_within (length (widths_of vars)) (IsFit vars) driven_by (λ d is. driven_within vars d is.0 is.1) ds fit

-- a number stands in none of the lists, or in what they make together
none_stands : (f : Driver → List ℕ) (ds : List Driver) (x : ℕ) → stands_in x (flat_map f ds) ≡ false → AllByRecursion (λ d. stands_in x (f d) ≡ false) ds
none_stands f [] x none = tt
none_stands f (d ∷ ds) x none =
    let both : (stands_in x (f d) || stands_in x (flat_map f ds)) ≡ false = sym (stands_both x (f d) (flat_map f ds)) ∙ none in (
      or_front (stands_in x (f d)) (stands_in x (flat_map f ds)) both,
      none_stands f ds x (or_back (stands_in x (f d)) (stands_in x (flat_map f ds)) both),
    )

stands_none : (f : Driver → List ℕ) (ds : List Driver) (x : ℕ) → AllByRecursion (λ d. stands_in x (f d) ≡ false) ds → stands_in x (flat_map f ds) ≡ false
stands_none f [] x none = refl
stands_none f (d ∷ ds) x none =
    stands_both x (f d) (flat_map f ds) ∙ false_or (stands_in x (f d)) (stands_in x (flat_map f ds)) none.0 (stands_none f ds x none.1)

-- ---- a turn

-- the marks of both kinds are those of the drivers
pub record AreTurnMarks (n : ℕ) (drivers : List Driver) (written driven : List Bool) : Type 0 where
  pub written_is : AreMarksOf n (flat_map written_by drivers) written
  pub driven_is : AreMarksOf n (flat_map driven_by drivers) driven

-- an input by its role
input_at : (vars : List Var) (x : ℕ) → IsInput vars x → input_if (slice_get vars x) ≡ true
input_at vars x input = ap input_if input.1 ∙ ap is_input input.2

no_input : (vars : List Var) (x : ℕ) (found : Option Var) → slice_get vars x ≡ found → (IsInput vars x → ⊥) → input_if found ≡ false
no_input vars x None is inner = refl
no_input vars x (Some v) is inner = by_role v.role refl where
  by_role : (r : Role) → v.role ≡ r → is_input r ≡ false
  by_role Output e = refl
  by_role Inner e = refl
  by_role Input e = absurd (inner (v, is, e))

-- variables that are free are no inputs, and none of the later drivers names them
free_spares : (vars : List Var) (marks : List Bool) (xs : List ℕ) → are_free vars marks xs ≡ true → AllByRecursion (λ x. IsInput vars x → ⊥) xs
free_spares vars marks [] free = tt
free_spares vars marks (x ∷ xs) free = (
  (λ input.
      let here : is_free vars marks x ≡ true = and_front (is_free vars marks x) (are_free vars marks xs) free in
      let fed : input_if (slice_get vars x) ≡ false =
      not_true (input_if (slice_get vars x)) (and_back (is_clear marks x) (not (input_if (slice_get vars x))) here) in
      let clash : true ≡ false = sym (input_at vars x input) ∙ fed in
      cc),
  free_spares vars marks xs (and_back (is_free vars marks x) (are_free vars marks xs) free),
)

free_alone : (vars : List Var) (later : List Driver) (marks : List Bool) (xs : List ℕ) → AllByRecursion (IsFit vars) later →
    AreMarksOf (length (widths_of vars)) (flat_map written_by later) marks → are_free vars marks xs ≡ true → AllByRecursion (NoneNames later) xs
free_alone vars later marks [] fits are free = tt
free_alone vars later marks (x ∷ xs) fits are free =
    let here : is_free vars marks x ≡ true = and_front (is_free vars marks x) (are_free vars marks xs) free in
    let clear : slice_index_or marks x false ≡ false =
    not_true (slice_index_or marks x false) (and_front (is_clear marks x) (not (input_if (slice_get vars x))) here) in
    let told = tell_all (length (widths_of vars)) (flat_map written_by later) marks x are (all_written_within vars later fits) in (
      none_stands written_by later x (sym told ∙ clear),
      free_alone vars later marks xs fits are (and_back (is_free vars marks x) (are_free vars marks xs) free),
    )

-- and such variables are free
alone_free : (vars : List Var) (later : List Driver) (marks : List Bool) (xs : List ℕ) → AllByRecursion (IsFit vars) later →
    AreMarksOf (length (widths_of vars)) (flat_map written_by later) marks → AllByRecursion (λ x. IsInput vars x → ⊥) xs →
    AllByRecursion (NoneNames later) xs → are_free vars marks xs ≡ true
alone_free vars later marks [] fits are spares alone = refl
alone_free vars later marks (x ∷ xs) fits are spares alone =
    let told = tell_all (length (widths_of vars)) (flat_map written_by later) marks x are (all_written_within vars later fits) in
    let here : is_free vars marks x ≡ true =
    and_true (is_clear marks x) (not (input_if (slice_get vars x)))
    (true_not (slice_index_or marks x false) (told ∙ stands_none written_by later x alone.0))
    (true_not (input_if (slice_get vars x)) (no_input vars x (slice_get vars x) refl spares.0)) in
    and_true (is_free vars marks x) (are_free vars marks xs) here (alone_free vars later marks xs fits are spares.1 alone.1)

-- nothing gives what has no mark
clear_reads : (vars : List Var) (ds : List Driver) (marks : List Bool) (xs : List ℕ) → AllByRecursion (IsFit vars) ds →
    AreMarksOf (length (widths_of vars)) (flat_map driven_by ds) marks → are_clear marks xs ≡ true → AllByRecursion (NoneGives ds) xs
clear_reads vars ds marks [] fits are clear = tt
clear_reads vars ds marks (x ∷ xs) fits are clear =
    let here : slice_index_or marks x false ≡ false = not_true (slice_index_or marks x false) (and_front (is_clear marks x) (are_clear marks xs) clear) in
    let told = tell_all (length (widths_of vars)) (flat_map driven_by ds) marks x are (all_driven_within vars ds fits) in (
      none_stands driven_by ds x (sym told ∙ here),
      clear_reads vars ds marks xs fits are (and_back (is_clear marks x) (are_clear marks xs) clear),
    )

-- what nothing gives has no mark
reads_clear : (vars : List Var) (ds : List Driver) (marks : List Bool) (xs : List ℕ) → AllByRecursion (IsFit vars) ds →
    AreMarksOf (length (widths_of vars)) (flat_map driven_by ds) marks → AllByRecursion (NoneGives ds) xs → are_clear marks xs ≡ true
reads_clear vars ds marks [] fits are none = refl
reads_clear vars ds marks (x ∷ xs) fits are none =
    let told = tell_all (length (widths_of vars)) (flat_map driven_by ds) marks x are (all_driven_within vars ds fits) in
    and_true (is_clear marks x) (are_clear marks xs) (true_not (slice_index_or marks x false) (told ∙ stands_none driven_by ds x none.0))
    (reads_clear vars ds marks xs fits are none.1)

-- what a continuous assignment to constant positions depends on is what its value reads
value_reads : (d : Driver) → IsTimely d → (marks : List Bool) → is_settled d marks ≡ are_clear marks (depends_on d)
value_reads (Assign to value place) timely marks = sym (ap (λ reads. are_clear marks (reads ++ reads_of value)) (fixed_unread to timely))
value_reads (Comb body place) timely marks = absurd timely
value_reads (Clocked triggers body place) timely marks = refl
value_reads (driver.Instance made) timely marks = absurd timely

-- the marks when the driver has taken its turn
abbrev driven_after : Driver → List Bool → List Bool
driven_after d driven = mark_all (given_by d (names_of d)) driven

driven_marks : (vars : List Var) (d : Driver) (later : List Driver) (driven : List Bool) → IsFit vars d →
    AreMarksOf (length (widths_of vars)) (flat_map driven_by later) driven →
    AreMarksOf (length (widths_of vars)) (flat_map driven_by (d ∷ later)) (driven_after d driven)
driven_marks vars d later driven fit are =
    marks_join (length (widths_of vars)) (driven_by d) (flat_map driven_by later) driven (driven_after d driven) are
    (ap (λ xs. mark_all xs driven) (names_given d fit.0))

written_marks : (vars : List Var) (d : Driver) (later : List Driver) (written : List Bool) → IsFit vars d →
    AreMarksOf (length (widths_of vars)) (flat_map written_by later) written →
    AreMarksOf (length (widths_of vars)) (flat_map written_by (d ∷ later)) (mark_all (names_of d) written)
written_marks vars d later written fit are =
    marks_join (length (widths_of vars)) (written_by d) (flat_map written_by later) written (mark_all (names_of d) written) are
    (ap (λ xs. mark_all xs written) (names_written d fit.0))

turn_sound : (vars : List Var) (d : Driver) (later : List Driver) (written driven : List Bool) → AllByRecursion (IsFit vars) (d ∷ later) →
    AreTurnMarks (length (widths_of vars)) later written driven → takes_turn vars d written driven ≡ true → SparesInputs vars d × IsBefore d later
turn_sound vars d later written driven fits are taken =
    let names = names_written d fits.0.0 in
    let free : are_free vars written (written_by d) ≡ true =
    ap (are_free vars written) (sym names) ∙ and_front (are_free vars written (names_of d)) (is_settled d (driven_after d driven)) taken in
    let clear : are_clear (driven_after d driven) (depends_on d) ≡ true =
    sym (value_reads d fits.0.0 (driven_after d driven)) ∙ and_back (are_free vars written (names_of d)) (is_settled d (driven_after d driven)) taken in (
      free_spares vars written (written_by d) free,
      record {
        alone = free_alone vars later written (written_by d) fits.1 are.written_is free;
        settled = clear_reads vars (d ∷ later) (driven_after d driven) (depends_on d) fits (driven_marks vars d later driven fits.0 are.driven_is) clear;
      },
    )

turn_complete : (vars : List Var) (d : Driver) (later : List Driver) (written driven : List Bool) → AllByRecursion (IsFit vars) (d ∷ later) →
    AreTurnMarks (length (widths_of vars)) later written driven → SparesInputs vars d → IsBefore d later → takes_turn vars d written driven ≡ true
turn_complete vars d later written driven fits are spares before =
    and_true (are_free vars written (names_of d)) (is_settled d (driven_after d driven))
    (ap (are_free vars written) (names_written d fits.0.0) ∙ alone_free vars later written (written_by d) fits.1 are.written_is spares before.alone)
    (value_reads d fits.0.0 (driven_after d driven)
    ∙ reads_clear vars (d ∷ later) (driven_after d driven) (depends_on d) fits (driven_marks vars d later driven fits.0 are.driven_is) before.settled)

-- ---- the loop over the drivers

all_at : {X : Type 0} (P : X → Type 0) (xs : List X) (i : ℕ) (x : X) → AllByRecursion P xs → i < length xs → x ≡ get_or xs i x → P x
all_at P [] i x all within is = absurd (omega arith)
all_at P (y ∷ xs) zero x all within is = subst P (sym is) all.0
all_at P (y ∷ xs) (suc i) x all within is = all_at P xs i x all.1 (omega arith) is

ordered_at : (drivers : List Driver) (i : ℕ) (d : Driver) → AreOrdered drivers → i < length drivers → d ≡ get_or drivers i d →
    IsBefore d (drop (i + 1) drivers)
ordered_at [] i d ordered within is = absurd (omega arith)
ordered_at (e ∷ drivers) zero d ordered within is = subst (λ x. IsBefore x drivers) (sym is) ordered.0
ordered_at (e ∷ drivers) (suc i) d ordered within is =
    subst (λ n. IsBefore d (drop n (e ∷ drivers))) (sym (add-one (suc i)))
    (subst (λ n. IsBefore d (drop n drivers)) (add-one i) (ordered_at drivers i d ordered.1 (omega arith) is))

all_dropped : {X : Type 0} (P : X → Type 0) (xs : List X) (i : ℕ) → AllByRecursion P xs → AllByRecursion P (drop i xs)
all_dropped P xs zero all = all
all_dropped P [] (suc i) all = tt
all_dropped P (x ∷ xs) (suc i) all = all_dropped P xs i all.1

pub first_marks : (n m : ℕ) (written driven : List Bool) → written ≡ replicate n false → driven ≡ replicate n false → n ≡ m →
    AreTurnMarks m [] written driven
first_marks n m written driven written_clear driven_clear long = record {
  written_is = subst (λ k. AreMarksOf k [] written) long (marks_tell n [] written written written_clear refl);
  driven_is = subst (λ k. AreMarksOf k [] driven) long (marks_tell n [] driven driven driven_clear refl);
}

before_suc : (t : ℕ) → 0 < t → (t - 1) + 1 ≡ t
before_suc t some = omega arith

split_before : (drivers : List Driver) (t : ℕ) (d : Driver) → 0 < t → t ≤ length drivers → d ≡ get_or drivers (t - 1) d →
    drop (t - 1) drivers ≡ d ∷ drop t drivers
split_before drivers t d some within is =
    split_items drivers (t - 1) d (omega arith) is ∙ ap (λ n. d ∷ drop n drivers) (before_suc t some)

-- what holds before a turn
pub record AreTaken (vars : List Var) (drivers : List Driver) (written driven : List Bool) : Type 0 where
  pub marks : AreTurnMarks (length (widths_of vars)) drivers written driven
  pub spares : AllByRecursion (SparesInputs vars) drivers
  pub ordered : AreOrdered drivers

-- one turn more
pub turn_step : (vars : List Var) (drivers : List Driver) (t : ℕ) (d : Driver) (written driven after_written after_driven : List Bool) →
    AllByRecursion (IsFit vars) drivers → 0 < t → t ≤ length drivers → d ≡ get_or drivers (t - 1) d →
    AreTaken vars (drop t drivers) written driven → takes_turn vars d written driven ≡ true → after_written ≡ mark_all (names_of d) written →
    after_driven ≡ mark_all (given_by d (names_of d)) driven → AreTaken vars (drop (t - 1) drivers) after_written after_driven
turn_step vars drivers t d written driven after_written after_driven fits some within is taken takes marks_written marks_driven =
    let n = length (widths_of vars) in
    let later = drop t drivers in
    let split : drop (t - 1) drivers ≡ d ∷ later = split_before drivers t d some within is in
    let both : AllByRecursion (IsFit vars) (d ∷ later) = subst (AllByRecursion (IsFit vars)) split (all_dropped (IsFit vars) drivers (t - 1) fits) in
    let sound = turn_sound vars d later written driven both taken.marks takes in
    subst (λ ds. AreTaken vars ds after_written after_driven) (sym split) (record {
      marks = record {
        written_is = subst (AreMarksOf n (flat_map written_by (d ∷ later))) (sym marks_written)
            (written_marks vars d later written both.0 taken.marks.written_is);
        driven_is = subst (AreMarksOf n (flat_map driven_by (d ∷ later))) (sym marks_driven)
            (driven_marks vars d later driven both.0 taken.marks.driven_is);
      };
      spares = (sound.0, taken.spares);
      ordered = (sound.1, taken.ordered);
    })

-- a turn that can't be taken
pub turn_fails : (vars : List Var) (drivers : List Driver) (t : ℕ) (d : Driver) (written driven : List Bool) →
    AllByRecursion (IsFit vars) drivers → 0 < t → t ≤ length drivers → d ≡ get_or drivers (t - 1) d →
    AreTaken vars (drop t drivers) written driven → takes_turn vars d written driven ≡ false →
    AllByRecursion (SparesInputs vars) drivers × AreOrdered drivers → ⊥
turn_fails vars drivers t d written driven fits some within is taken takes fine =
    let later = drop t drivers in
    let split : drop (t - 1) drivers ≡ d ∷ later = split_before drivers t d some within is in
    let both : AllByRecursion (IsFit vars) (d ∷ later) = subst (AllByRecursion (IsFit vars)) split (all_dropped (IsFit vars) drivers (t - 1) fits) in
    let before : IsBefore d later =
    subst (λ n. IsBefore d (drop n drivers)) (before_suc t some) (ordered_at drivers (t - 1) d fine.1 (omega arith) is) in
    let yes : takes_turn vars d written driven ≡ true =
    turn_complete vars d later written driven both taken.marks (all_at (SparesInputs vars) drivers (t - 1) d fine.0 (omega arith) is) before in
    absurd (let clash : true ≡ false = sym yes ∙ takes in cc)
