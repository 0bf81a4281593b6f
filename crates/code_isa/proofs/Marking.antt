-- Marks of readers.
use Rattle.std.proofs.Common.{◌≡◌, ℕ, ◌+◌, ◌-◌, ◌<◌, ◌≤◌, ◌⊎◌, inl, inr, Bool, true, false, List, [], ◌∷◌, ◌++◌, length, get_or, set, refl, sym, ◌∙◌, ap, subst, arith}
use Rattle.std.specs.Prelude.{◌↔◌, Contains, All, slice_get, Some}
use Rattle.std.proofs.lemmas.Bool.{cases_eq, cases_lt, cases_Bool}
use Rattle.std.proofs.lemmas.List.{get_or-set_other, get_or-set_same, length-set, get_or_default}
use Rattle.std.proofs.lemmas.List.Elements.{Contains-push, Contains-push_cases, Contains-append_left}
use Rattle.code_isa.specs.declared.machine.Instr.{Instr}
use Rattle.code_isa.specs.declared.machine.Machine.{Machine}
use Rattle.code_isa.specs.Slots.{first_instruction, operand_slots}
use Rattle.code_isa.specs.Marks.{is_member}
use Rattle.code_isa.specs.Uses.{row_of, operands_at, AreUsesOf}
use Rattle.code_isa.specs.Activity.{HaveValuesBut, MarksRow, MarksReaders}
use Rattle.code_isa.proofs.Running.{kept}
use Rattle.code_isa.proofs.Readers.{none_in, operands_past, operands_there}

-- a member is put in
pub member_set : (members : List Bool) (k i : ℕ) → k < length members → (is_member (set members k true) i ≡ true) ↔ ((is_member members i ≡ true) ⊎ (i ≡ k))
member_set members k i inside =
    elim (cases_eq i k) [
      | inl same ↦ (
        λ _. inr same,
        λ _. ap (is_member (set members k true)) same ∙ get_or-set_same members k true false inside,
      )
      | inr other ↦
          let kept : is_member (set members k true) i ≡ is_member members i = get_or-set_other members k i true false other in (
            λ h. inl (sym kept ∙ h),
            λ choice. elim choice as (λ w. is_member (set members k true) i ≡ true) [ inl before ↦ kept ∙ before | inr same ↦ absurd (other same) ],
          )
    ]

pub row_none : (first : ℕ) (marks : List Bool) → MarksRow first [] marks marks
row_none first marks = record {
  sized = refl;
  exact = λ k. (λ h. inl h, λ choice. elim choice as (λ w. is_member marks k ≡ true) [ inl before ↦ before | inr there ↦ absurd (none_in (first + k) there) ]);
}

pub row_more : (first : ℕ) (row : List ℕ) (reader : ℕ) (old marks : List Bool) → first ≤ reader → reader < first + length old → MarksRow first row old marks → MarksRow first (row ++ reader ∷ []) old (set marks (reader - first) true)
row_more first row reader old marks low high was =
    let place : ℕ = reader - first in
    let here : first + place ≡ reader = omega arith in
    let inside : place < length marks = omega (arith, was.sized) in
    record {
      sized = length-set marks place true ∙ was.sized;
      exact = λ k. (
        λ h. elim ((member_set marks place k inside).0 h) [
          | inl before ↦ elim ((was.exact k).0 before) [ inl old_one ↦ inl old_one | inr there ↦ inr (Contains-append_left row (reader ∷ []) (first + k) there) ]
          | inr same ↦ inr (subst (Contains (row ++ reader ∷ [])) (sym (ap (λ n. first + n) same ∙ here)) (Contains-push row reader))
        ],
        λ choice. (member_set marks place k inside).1 (elim choice as (λ w. (is_member marks k ≡ true) ⊎ (k ≡ place)) [
          | inl old_one ↦ inl ((was.exact k).1 (inl old_one))
          | inr there ↦ elim (Contains-push_cases row reader (first + k) there) as (λ w. (is_member marks k ≡ true) ⊎ (k ≡ place)) [
            | inl before ↦ inl ((was.exact k).1 (inr before))
            | inr same ↦ inr (let e : k ≡ place = omega arith in e)
          ]
        ]),
      );
    }

-- the readers of a slot are instructions that are there
pub reader_number : (m : Machine) (rows : List (List ℕ)) (slot reader : ℕ) → AreUsesOf m rows → Contains (row_of rows slot) reader → (k : ℕ) × (k < length m.code) × (reader ≡ first_instruction m + k)
reader_number m rows slot reader uses there =
    let one = (uses.exact slot reader).0 there in
    elim (cases_lt one.0 (length m.code)) [
      | inl inside ↦ (one.0, inside, one.1)
      | inr past ↦ absurd (none_in slot (subst (λ xs. Contains xs slot) (operands_past m one.0 past) one.2))
    ]

pub readers_low : (m : Machine) (rows : List (List ℕ)) (slot : ℕ) (row : List ℕ) → AreUsesOf m rows → row ≡ row_of rows slot → All (λ reader. first_instruction m ≤ reader) row
readers_low m rows slot row uses is k d inside =
    let one = reader_number m rows slot (get_or row k d) uses (subst (λ xs. Contains xs (get_or row k d)) is (k, inside, get_or_default row k (get_or row k d) d inside)) in
    omega (arith, one.2)

pub readers_high : (m : Machine) (rows : List (List ℕ)) (slot count : ℕ) (row : List ℕ) → AreUsesOf m rows → row ≡ row_of rows slot → count ≡ length m.code → All (λ reader. reader < first_instruction m + count) row
readers_high m rows slot count row uses is size k d inside =
    let one = reader_number m rows slot (get_or row k d) uses (subst (λ xs. Contains xs (get_or row k d)) is (k, inside, get_or_default row k (get_or row k d) d inside)) in
    omega (arith, one.1, one.2)

pub reads_of_row : (m : Machine) (rows : List (List ℕ)) (slot k : ℕ) → AreUsesOf m rows → Contains (row_of rows slot) (first_instruction m + k) ↔ Contains (operands_at m k) slot
reads_of_row m rows slot k uses = (
  λ there. let one = (uses.exact slot (first_instruction m + k)).0 there in
      let same : one.0 ≡ k = omega (arith, one.1) in
      subst (λ n. Contains (operands_at m n) slot) same one.2,
  λ there. (uses.exact slot (first_instruction m + k)).1 (k, refl, there),
)

-- to mark a slot's row is to mark its readers
pub row_readers : (m : Machine) (rows : List (List ℕ)) (slot : ℕ) (old new : List Bool) → AreUsesOf m rows → MarksRow (first_instruction m) (row_of rows slot) old new → MarksReaders m slot old new
row_readers m rows slot old new uses marked = record {
  sized = marked.sized;
  exact = λ k. (
    λ h. elim ((marked.exact k).0 h) [ inl before ↦ inl before | inr there ↦ inr ((reads_of_row m rows slot k uses).0 there) ],
    λ choice. (marked.exact k).1 (elim choice as (λ w. (is_member old k ≡ true) ⊎ Contains (row_of rows slot) (first_instruction m + k)) [
      | inl before ↦ inl before
      | inr there ↦ inr ((reads_of_row m rows slot k uses).1 there)
    ]),
  );
}

-- a row that was read
pub row_at : (rows : List (List ℕ)) (slot : ℕ) (row : List ℕ) → slot < length rows → row ≡ get_or rows slot row → row ≡ row_of rows slot
row_at rows slot row inside is = is ∙ get_or_default rows slot row [] inside

-- a slot that is no instruction's is set, and its readers are marked
pub set_and_marked : (m : Machine) (slot n : ℕ) (u : List ℕ) (old new : List Bool) → slot < first_instruction m → MarksReaders m slot old new → HaveValuesBut m old u → HaveValuesBut m new (set u slot n)
set_and_marked m slot n u old new low marked was k clear =
    let unread : (i : Instr) → slice_get m.code k ≡ Some i → Contains (operand_slots i) slot → ⊥ = λ i at there.
    let is : is_member new k ≡ true = (marked.exact k).1 (inr (subst (λ xs. Contains xs slot) (sym (operands_there m k i at)) there)) in
    let clash : true ≡ false = sym is ∙ clear in
    let no_way : ⊥ = cc in no_way in
    let before : is_member old k ≡ false =
    elim (cases_Bool (is_member old k)) [
      | inl member ↦ let clash : true ≡ false = sym ((marked.exact k).1 (inl member)) ∙ clear in absurd (let no_way : ⊥ = cc in no_way)
      | inr none ↦ none
    ] in
    kept m u slot n k (λ e. let no_way : ⊥ = omega arith in no_way) unread (was k before)
