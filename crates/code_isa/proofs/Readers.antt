-- The rows of readers as they grow.
use Rattle.std.proofs.Common.{◌≡◌, ◌≢◌, ℕ, zero, suc, ◌+◌, ◌<◌, ◌≤◌, ◌⊎◌, inl, inr, List, [], ◌∷◌, ◌++◌, length, map, get_or, set, replicate, refl, sym, ◌∙◌, ap, subst, arith}
use Rattle.std.specs.Prelude.{◌↔◌, Contains, All, slice_get, Some}
use Rattle.std.proofs.lemmas.Bool.{cases_eq, cases_lt}
use Rattle.std.proofs.lemmas.List.{get_or-set_other, get_or-set_same, length-set, get_or_default, get_or_past, get_or-map, length-append, length-map, length-replicate}
use Rattle.std.proofs.lemmas.List.Elements.{Contains-push, Contains-push_cases, Contains-append_left, Contains-append_right, Contains-append_cases}
use Rattle.std.proofs.lemmas.List.Quantifiers.{all_pairs_push}
use Rattle.std.proofs.lemmas.Option.{slice_get_within, get_or_from_slice_get}
use Rattle.code_isa.specs.declared.machine.Instr.{Instr}
use Rattle.code_isa.specs.declared.machine.Machine.{Machine}
use Rattle.code_isa.specs.Slots.{given_widths, slot_count, first_instruction, operand_slots}
use Rattle.code_isa.specs.Checks.{IsSlotOrdered}
use Rattle.code_isa.specs.Uses.{row_of, Rises, operands_at, AddsReader, AreUpTo, AreUsesUpTo, AreUsesOf}

pub none_in : (x : ℕ) → Contains [] x → ⊥
none_in x there = let clash : ⊥ = omega (arith, there.1) in clash

only_in : (x y : ℕ) → Contains (x ∷ []) y → x ≡ y
only_in x y there = elim (Contains-push_cases [] x y there) [ inl before ↦ absurd (none_in y before) | inr same ↦ same ]

-- a row was read, and what stands in the place of one that was written
pub row_read : (rows : List (List ℕ)) (slot : ℕ) (row : List ℕ) → slot < length rows → row ≡ get_or rows slot row → row ≡ row_of rows slot
row_read rows slot row inside is = is ∙ get_or_default rows slot row [] inside

-- one row is written that has one reader more
pub reader_added : (rows : List (List ℕ)) (slot reader : ℕ) (row : List ℕ) → slot < length rows → ((s : ℕ) → Rises (row_of rows s)) → Rises row → ((r : ℕ) → Contains row r ↔ (Contains (row_of rows slot) r ⊎ (r ≡ reader))) → AddsReader rows (set rows slot row) (slot ∷ []) reader
reader_added rows slot reader row inside rise rises exact =
    let here : row_of (set rows slot row) slot ≡ row = get_or-set_same rows slot row [] inside in
    record {
      sized = length-set rows slot row;
      rise = λ s. elim (cases_eq s slot) [
        | inl same ↦ subst Rises (sym (ap (row_of (set rows slot row)) same ∙ here)) rises
        | inr other ↦ subst Rises (sym (get_or-set_other rows slot s row [] other)) (rise s)
      ];
      exact = λ s r. elim (cases_eq s slot) [
        | inl same ↦
            let now : row_of (set rows slot row) s ≡ row = ap (row_of (set rows slot row)) same ∙ here in (
              λ there. elim ((exact r).0 (subst (λ xs. Contains xs r) now there)) [
                | inl before ↦ inl (subst (λ n. Contains (row_of rows n) r) (sym same) before)
                | inr new ↦ inr (new, subst (Contains (slot ∷ [])) (sym same) (Contains-push [] slot))
              ],
              λ choice. subst (λ xs. Contains xs r) (sym now) ((exact r).1 (elim choice as (λ w. Contains (row_of rows slot) r ⊎ (r ≡ reader)) [
                | inl before ↦ inl (subst (λ n. Contains (row_of rows n) r) same before)
                | inr new ↦ inr new.0
              ])),
            )
        | inr other ↦
            let now : row_of (set rows slot row) s ≡ row_of rows s = get_or-set_other rows slot s row [] other in (
              λ there. inl (subst (λ xs. Contains xs r) now there),
              λ choice. subst (λ xs. Contains xs r) (sym now) (elim choice as (λ w. Contains (row_of rows s) r) [
                | inl before ↦ before
                | inr new ↦ absurd (other (sym (only_in slot s new.1)))
              ]),
            )
      ];
    }

-- the row had it already
pub reader_there : (rows : List (List ℕ)) (slot reader : ℕ) (row : List ℕ) → slot < length rows → ((s : ℕ) → Rises (row_of rows s)) → row ≡ row_of rows slot → Contains row reader → AddsReader rows (set rows slot row) (slot ∷ []) reader
reader_there rows slot reader row inside rise is there =
    reader_added rows slot reader row inside rise (subst Rises (sym is) (rise slot)) (λ r. (
      λ h. inl (subst (λ xs. Contains xs r) is h),
      λ choice. elim choice as (λ w. Contains row r) [
        | inl before ↦ subst (λ xs. Contains xs r) (sym is) before
        | inr new ↦ subst (Contains row) (sym new) there
      ],
    ))

-- it comes last
pub reader_last : (rows : List (List ℕ)) (slot reader : ℕ) (row : List ℕ) → slot < length rows → ((s : ℕ) → Rises (row_of rows s)) → row ≡ row_of rows slot → AreUpTo rows reader → (Contains row reader → ⊥) → AddsReader rows (set rows slot (row ++ reader ∷ [])) (slot ∷ []) reader
reader_last rows slot reader row inside rise is below absent =
    let rises : Rises (row ++ reader ∷ []) =
    all_pairs_push (λ p q. p < q) row reader (subst Rises (sym is) (rise slot)) (λ k d within.
    let there : Contains row (get_or row k d) = (k, within, get_or_default row k (get_or row k d) d within) in
    let most : get_or row k d ≤ reader = below slot (get_or row k d) (subst (λ xs. Contains xs (get_or row k d)) is there) in
    let other : get_or row k d ≢ reader = λ e. absent (subst (Contains row) e there) in
    omega arith) in
    reader_added rows slot reader (row ++ reader ∷ []) inside rise rises (λ r. (
      λ h. elim (Contains-push_cases row reader r h) [
        | inl before ↦ inl (subst (λ xs. Contains xs r) is before)
        | inr same ↦ inr (sym same)
      ],
      λ choice. elim choice as (λ w. Contains (row ++ reader ∷ []) r) [
        | inl before ↦ Contains-append_left row (reader ∷ []) r (subst (λ xs. Contains xs r) (sym is) before)
        | inr new ↦ subst (Contains (row ++ reader ∷ [])) (sym new) (Contains-push row reader)
      ],
    ))

-- no slot, and one slot more
pub added_none : (rows : List (List ℕ)) (reader : ℕ) → ((s : ℕ) → Rises (row_of rows s)) → AddsReader rows rows [] reader
added_none rows reader rise = record {
  sized = refl;
  rise = rise;
  exact = λ s r. (λ h. inl h, λ choice. elim choice as (λ w. Contains (row_of rows s) r) [ inl before ↦ before | inr new ↦ absurd (none_in s new.1) ]);
}

pub added_more : (old middle new : List (List ℕ)) (slots : List ℕ) (slot reader : ℕ) → AddsReader old middle slots reader → AddsReader middle new (slot ∷ []) reader → AddsReader old new (slots ++ slot ∷ []) reader
added_more old middle new slots slot reader first second = record {
  sized = second.sized ∙ first.sized;
  rise = second.rise;
  exact = λ s r. (
    λ h. elim ((second.exact s r).0 h) [
      | inl before ↦ elim ((first.exact s r).0 before) [ inl old ↦ inl old | inr new ↦ inr (new.0, Contains-append_left slots (slot ∷ []) s new.1) ]
      | inr new ↦ inr (new.0, Contains-append_right slots (slot ∷ []) s new.1)
    ],
    λ choice. (second.exact s r).1 (elim choice as (λ w. Contains (row_of middle s) r ⊎ ((r ≡ reader) × Contains (slot ∷ []) s)) [
      | inl before ↦ inl ((first.exact s r).1 (inl before))
      | inr new ↦ elim (Contains-append_cases slots (slot ∷ []) s new.1) as (λ w. Contains (row_of middle s) r ⊎ ((r ≡ reader) × Contains (slot ∷ []) s)) [
        | inl earlier ↦ inl ((first.exact s r).1 (inr (new.0, earlier)))
        | inr last ↦ inr (new.0, last)
      ]
    ]),
  );
}

pub still_up_to : (old new : List (List ℕ)) (slots : List ℕ) (reader : ℕ) → AreUpTo old reader → AddsReader old new slots reader → AreUpTo new reader
still_up_to old new slots reader below added s r there =
    elim ((added.exact s r).0 there) [ inl before ↦ below s r before | inr one ↦ omega (arith, one.0) ]

-- the operands of an instruction that is there, and of one that is not
pub operands_there : (m : Machine) (k : ℕ) (i : Instr) → slice_get m.code k ≡ Some i → operands_at m k ≡ operand_slots i
operands_there m k i at = get_or-map operand_slots m.code k i [] (slice_get_within m.code k i at) ∙ ap operand_slots (get_or_from_slice_get m.code k i i at)

pub operands_past : (m : Machine) (k : ℕ) → length m.code ≤ k → operands_at m k ≡ []
operands_past m k past = get_or_past (map operand_slots m.code) k [] (omega (arith, length-map m.code operand_slots))

-- the rows before the first instruction, and with one more
no_row : (n s : ℕ) → row_of (replicate n []) s ≡ []
no_row zero s = refl
no_row (suc n) zero = refl
no_row (suc n) (suc s) = no_row n s

pub uses_none : (m : Machine) (n : ℕ) → n ≡ slot_count m → AreUsesUpTo m (replicate n []) 0
uses_none m n size = record {
  sized = length-replicate {A = List ℕ} n [] ∙ size;
  rise = λ s. subst Rises (sym (no_row n s)) (λ i j d before inside. absurd (let clash : ⊥ = omega arith in clash));
  exact = λ s r. (
    λ there. absurd (none_in r (subst (λ xs. Contains xs r) (no_row n s) there)),
    λ some. absurd (let clash : ⊥ = omega (arith, some.1) in clash),
  );
}

pub uses_below : (m : Machine) (rows : List (List ℕ)) (count reader : ℕ) → reader ≡ first_instruction m + count → AreUsesUpTo m rows count → AreUpTo rows reader
uses_below m rows count reader is uses s r there = let one = (uses.exact s r).0 there in omega (arith, one.1, one.2)

pub uses_more : (m : Machine) (rows more : List (List ℕ)) (count reader : ℕ) (i : Instr) → reader ≡ first_instruction m + count → slice_get m.code count ≡ Some i → AreUsesUpTo m rows count → AddsReader rows more (operand_slots i) reader → AreUsesUpTo m more (count + 1)
uses_more m rows more count reader i is at uses added =
    let here : operands_at m count ≡ operand_slots i = operands_there m count i at in
    record {
      sized = added.sized ∙ uses.sized;
      rise = added.rise;
      exact = λ s r. (
        λ there. elim ((added.exact s r).0 there) [
          | inl before ↦ let one = (uses.exact s r).0 before in (one.0, omega (arith, one.1), one.2, one.3)
          | inr new ↦ (count, omega arith, new.0 ∙ is, subst (λ xs. Contains xs s) (sym here) new.1)
        ],
        λ some. (added.exact s r).1 (elim (cases_lt some.0 count) as (λ w. Contains (row_of rows s) r ⊎ ((r ≡ reader) × Contains (operand_slots i) s)) [
          | inl earlier ↦ inl ((uses.exact s r).1 (some.0, earlier, some.2, some.3))
          | inr last ↦
              let same : some.0 ≡ count = omega (arith, some.1) in
              inr (some.2 ∙ ap (λ k. first_instruction m + k) same ∙ sym is, subst (λ xs. Contains xs s) (ap (operands_at m) same ∙ here) some.3)
        ]),
      );
    }

pub uses_all : (m : Machine) (rows : List (List ℕ)) (count : ℕ) → length m.code ≤ count → AreUsesUpTo m rows count → AreUsesOf m rows
uses_all m rows count all uses = record {
  sized = uses.sized;
  rise = uses.rise;
  exact = λ s r. (
    λ there. let one = (uses.exact s r).0 there in (one.0, one.2, one.3),
    λ some. elim (cases_lt some.0 count) [
      | inl inside ↦ (uses.exact s r).1 (some.0, inside, some.1, some.2)
      | inr past ↦ absurd (none_in s (subst (λ xs. Contains xs s) (operands_past m some.0 (omega arith)) some.2))
    ],
  );
}

pub up_to_row : (rows : List (List ℕ)) (slot reader : ℕ) (row : List ℕ) → row ≡ row_of rows slot → AreUpTo rows reader → All (λ r. r ≤ reader) row
up_to_row rows slot reader row is below k d inside =
    below slot (get_or row k d) (subst (λ xs. Contains xs (get_or row k d)) is (k, inside, get_or_default row k (get_or row k d) d inside))

pub slot_total : (m : Machine) → slot_count m ≡ first_instruction m + length m.code
slot_total m =
    length-append (given_widths m) (map (λ (i : Instr). i.width) m.code) ∙ ap (λ n. first_instruction m + n) (length-map m.code (λ (i : Instr). i.width))

-- the operands of an instruction have rows
pub all_there : (m : Machine) (rows : List (List ℕ)) (k : ℕ) (i : Instr) → IsSlotOrdered m → slice_get m.code k ≡ Some i → length rows ≡ slot_count m → All (λ slot. slot < length rows) (operand_slots i)
all_there m rows k i order at sized j d inside =
    let below : get_or (operand_slots i) j d < first_instruction m + k = order.operands k i at j d inside in
    omega (arith, slot_total m, slice_get_within m.code k i at)
