-- Sets of positions as bits of rows of words.
use Rattle.std.proofs.Common.{◌≡◌, ◌≢◌, ℕ, ◌+◌, ◌*◌, ◌/◌, ◌%◌, ◌<◌, ◌≤◌, List, [], ◌∷◌, ◌++◌, length, get_or, set, max, inl, inr, sym, ◌∙◌, ap, subst, arith}
use Rattle.std.specs.Prelude.{◌↔◌, ◌⊎◌, slice_index, slice_index_or, Contains}
use Rattle.std.specs.Int.{bit_at}
use Rattle.std.specs.Int.RustNames.{bit_or}
use Rattle.std.proofs.lemmas.Bool.{cases_eq, cases_lt}
use Rattle.std.proofs.lemmas.List.{get_or-set_other, get_or-set_same, length-set, get_or_default, get_or_past}
use Rattle.std.proofs.lemmas.List.Elements.{Contains-push, Contains-push_cases, Contains-append_left}
use Rattle.std.proofs.lemmas.Nat.Bits.{bit_at-zero, bit_at_or}
use Rattle.code_isa.specs.Marks.{bit_of, IsBitSetTo}
use Rattle.code_check.specs.code.Sets.{IsIn, row_of, IsInSome}
use Rattle.code_check.specs.code.Flow.{IsDeepest}

-- an element that was read, with the default of clauses
pub read_at : (xs : List ℕ) (j x : ℕ) → j < length xs → x ≡ get_or xs j x → x ≡ slice_index xs j
read_at xs j x inside is = is ∙ get_or_default xs j x 0 inside

pub row_at : (rows : List (List ℕ)) (slot : ℕ) (row : List ℕ) → slot < length rows → row ≡ get_or rows slot row → row ≡ row_of rows slot
row_at rows slot row inside is = is ∙ get_or_default rows slot row [] inside

-- a word is written in which one bit is as given and the others are as they were
pub written : (old : List ℕ) (k bit n : ℕ) → k < 64 * length old → bit_at n (k % 64) ≡ bit → ((i : ℕ) → i < 64 → i ≢ k % 64 → bit_at n i ≡ bit_at (slice_index old (k / 64)) i) → IsBitSetTo old (set old (k / 64) n) k bit
written old k bit n inside here others =
    let word = k / 64 in
    let within : word < length old = omega arith in
    let same : get_or (set old word n) word 0 ≡ n = get_or-set_same old word n 0 within in
    record {
      size = length-set old word n;
      here = ap (λ x. bit_at x (k % 64)) same ∙ here;
      others = λ i other. elim (cases_eq (i / 64) word) [
        | inl one ↦
            let apart : i % 64 ≢ k % 64 = λ e. let clash : i ≡ k = omega arith in other clash in
            ap (λ j. bit_at (get_or (set old word n) j 0) (i % 64)) one ∙ ap (λ x. bit_at x (i % 64)) same
            ∙ others (i % 64) (omega arith) apart ∙ ap (λ j. bit_at (get_or old j 0) (i % 64)) (sym one)
        | inr apart ↦ ap (λ x. bit_at x (i % 64)) (get_or-set_other old word (i / 64) n 0 apart)
      ];
      words = λ j other. get_or-set_other old word j n 0 other;
    }

-- ---- the sets of two rows in one

either_bit : (a b i : ℕ) → bit_at (bit_or a b) i ≡ 1 → (bit_at a i ≡ 1) ⊎ (bit_at b i ≡ 1)
either_bit a b i is =
    let both = bit_at_or a b i in
    elim (cases_eq (bit_at a i) 1) [
      | inl left ↦ inl left
      | inr right ↦ inr (let e : bit_at b i ≡ 1 = omega (arith, both, is) in e)
    ]

left_bit : (a b i : ℕ) → bit_at a i ≡ 1 → bit_at (bit_or a b) i ≡ 1
left_bit a b i is = omega (arith, bit_at_or a b i, is)

right_bit : (a b i : ℕ) → bit_at b i ≡ 1 → bit_at (bit_or a b) i ≡ 1
right_bit a b i is = omega (arith, bit_at_or a b i, is)

past_bit : (row : List ℕ) (p : ℕ) → length row ≤ p / 64 → IsIn row p → ⊥
past_bit row p past is =
    let none : bit_at (slice_index row (p / 64)) (p % 64) ≡ 0 = ap (λ w. bit_at w (p % 64)) (get_or_past row (p / 64) 0 past) ∙ bit_at-zero (p % 64) in
    omega (arith, none, is)

pub joined_rows : (old more new : List ℕ) → length new ≡ length old → length old ≡ length more → ((j : ℕ) → j < length more → get_or new j 0 ≡ bit_or (get_or old j 0) (get_or more j 0)) → (p : ℕ) → IsIn new p ↔ (IsIn old p ⊎ IsIn more p)
joined_rows old more new size both words p =
    elim (cases_lt (p / 64) (length more)) [
      | inl inside ↦
          let word : bit_of new p ≡ bit_at (bit_or (get_or old (p / 64) 0) (get_or more (p / 64) 0)) (p % 64) = ap (λ w. bit_at w (p % 64)) (words (p / 64) inside) in (
            λ is. either_bit (get_or old (p / 64) 0) (get_or more (p / 64) 0) (p % 64) (sym word ∙ is),
            λ choice. word ∙ elim choice as (λ w. bit_at (bit_or (get_or old (p / 64) 0) (get_or more (p / 64) 0)) (p % 64) ≡ 1) [
              | inl left ↦ left_bit (get_or old (p / 64) 0) (get_or more (p / 64) 0) (p % 64) left
              | inr right ↦ right_bit (get_or old (p / 64) 0) (get_or more (p / 64) 0) (p % 64) right
            ],
          )
      | inr past ↦ (
        λ is. absurd (past_bit new p (omega arith) is),
        λ choice. elim choice as (λ w. IsIn new p) [
          | inl left ↦ absurd (past_bit old p (omega arith) left)
          | inr right ↦ absurd (past_bit more p past right)
        ],
      )
    ]

-- ---- the sets of some slots in one

pub none_joined : (inputs : List (List ℕ)) (row : List ℕ) → ((p : ℕ) → IsIn row p → ⊥) → (p : ℕ) → IsIn row p ↔ IsInSome inputs [] p
none_joined inputs row none p = (
  λ is. absurd (none p is),
  λ some. absurd (let clash : ⊥ = omega (arith, some.1.1) in clash),
)

pub joined_more : (inputs : List (List ℕ)) (slots old new : List ℕ) (slot : ℕ) → ((p : ℕ) → IsIn old p ↔ IsInSome inputs slots p) → ((p : ℕ) → IsIn new p ↔ (IsIn old p ⊎ IsIn (row_of inputs slot) p)) → (p : ℕ) → IsIn new p ↔ IsInSome inputs (slots ++ slot ∷ []) p
joined_more inputs slots old new slot was step p = (
  λ is. elim ((step p).0 is) [
    | inl before ↦ let some = (was p).0 before in (some.0, Contains-append_left slots (slot ∷ []) some.0 some.1, some.2)
    | inr here ↦ (slot, Contains-push slots slot, here)
  ],
  λ some. (step p).1 (elim (Contains-push_cases slots slot some.0 some.1) as (λ w. IsIn old p ⊎ IsIn (row_of inputs slot) p) [
    | inl before ↦ inl ((was p).1 (some.0, before, some.2))
    | inr same ↦ inr (subst (λ s. IsIn (row_of inputs s) p) (sym same) some.2)
  ]),
)

-- ---- the greatest depth of some slots

pub deepest_more : (depths slots : List ℕ) (slot most : ℕ) → IsDeepest depths slots most → IsDeepest depths (slots ++ slot ∷ []) (max most (slice_index depths slot))
deepest_more depths slots slot most was = record {
  most = λ s there. elim (Contains-push_cases slots slot s there) [
    | inl before ↦ omega (arith, was.most s before)
    | inr same ↦ let e : slice_index depths slot ≡ slice_index depths s = ap (slice_index depths) same in omega (arith, e)
  ];
  some = elim (cases_lt most (slice_index depths slot)) [
    | inl below ↦ inr (slot, Contains-push slots slot, omega arith)
    | inr above ↦ elim was.some as (λ w. (max most (slice_index depths slot) ≡ 0) ⊎ ((s : ℕ) × Contains (slots ++ slot ∷ []) s × (slice_index depths s ≡ max most (slice_index depths slot)))) [
      | inl none ↦ inl (omega (arith, none))
      | inr some ↦ inr (some.0, Contains-append_left slots (slot ∷ []) some.0 some.1, omega (arith, some.2))
    ]
  ];
}
