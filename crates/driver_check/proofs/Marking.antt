-- Some number below another, and rows in which the bits of a run are marked.
use Rattle.std.proofs.Common.{◌≡◌, ◌≢◌, ℕ, zero, suc, ◌+◌, ◌<◌, ◌≤◌, List, length, get_or, set, Bool, true, false, inl, inr, refl, sym, ◌∙◌, ap, arith}
use Rattle.std.specs.Prelude.{◌&&◌, ◌||◌, is_some, Option, None, Some, slice_index_or, if◌then◌else◌}
use Rattle.std.proofs.lemmas.Bool.{cases_eq, cases_lt}
use Rattle.std.proofs.lemmas.Bool.Decides.{nat_tests}
use Rattle.std.proofs.lemmas.List.{get_or-set_other, get_or-set_same, length-set}
use Rattle.driver_check.specs.declared.runs.Run.{Run}
use Rattle.driver_check.specs.Driven.{some_below}
use Rattle.driver_check.specs.code.Runs.{in_run}
use Rattle.driver_check.specs.code.Marks.{is_marked, IsMarked}

-- ---- some number below another

or_true : (a b : Bool) → b ≡ true → (a || b) ≡ true
or_true true b is = refl
or_true false b is = is

pub some_of : (n k : ℕ) (p : ℕ → Bool) → k < n → p k ≡ true → some_below n p ≡ true
some_of zero k p within is = absurd (omega arith)
some_of (suc n) k p within is = elim (cases_eq k n) [
  | inl same ↦ or_true (some_below n p) (p n) (ap p (sym same) ∙ is)
  | inr apart ↦ ap (λ t. t || p n) (some_of n k p (omega arith) is)
]

pub none_of : (n : ℕ) (p : ℕ → Bool) → ((k : ℕ) → k < n → p k ≡ false) → some_below n p ≡ false
none_of zero p none = refl
none_of (suc n) p none = ap (λ t. t || p n) (none_of n p (λ k low. none k (omega arith))) ∙ none n (omega arith)

pub some_same : (n : ℕ) (p q : ℕ → Bool) → ((k : ℕ) → k < n → p k ≡ q k) → some_below n p ≡ some_below n q
some_same zero p q same = refl
some_same (suc n) p q same = ap (λ t. t || p n) (some_same n p q (λ k low. same k (omega arith))) ∙ ap (λ t. some_below n q || t) (same n (omega arith))

-- ---- runs

pub run_inside : (run : Run) (k : ℕ) → run.low ≤ k → k < run.end → in_run run k ≡ true
run_inside run k low high = grind (arith, nat_tests)

pub run_below : (run : Run) (k : ℕ) → k < run.low → in_run run k ≡ false
run_below run k low = grind (arith, nat_tests)

pub run_past : (run : Run) (k : ℕ) → run.end ≤ k → in_run run k ≡ false
run_past run k high = grind (arith, nat_tests)

-- a bit is in a run, or it is not
pub run_cases : (P : Type 0) (run : Run) (k : ℕ) → (run.low ≤ k → k < run.end → P) → (in_run run k ≡ false → P) → P
run_cases P run k inside outside = elim (cases_lt k run.low) [
  | inl below ↦ outside (run_below run k below)
  | inr above ↦ elim (cases_lt k run.end) [
    | inl high ↦ inside above high
    | inr past ↦ outside (run_past run k past)
  ]
]

-- ---- a row

pub marked_some : (row : List (Option ℕ)) (run : Run) (k : ℕ) → run.low ≤ k → k < run.end → run.end ≤ length row → is_some (slice_index_or row k None) ≡ true → is_marked row run ≡ true
marked_some row run k low high fits is =
    some_of (length row) k (λ j. in_run run j && is_some (slice_index_or row j None)) (omega arith) (ap (λ t. t && is_some (slice_index_or row k None)) (run_inside run k low high) ∙ is)

pub marked_none : (row : List (Option ℕ)) (run : Run) → ((k : ℕ) → run.low ≤ k → k < run.end → is_some (slice_index_or row k None) ≡ false) → is_marked row run ≡ false
marked_none row run none = none_of (length row) (λ j. in_run run j && is_some (slice_index_or row j None)) (λ k within.
    run_cases ((in_run run k && is_some (slice_index_or row k None)) ≡ false) run k
    (λ low high. ap (λ t. t && is_some (slice_index_or row k None)) (run_inside run k low high) ∙ none k low high)
    (λ out. ap (λ t. t && is_some (slice_index_or row k None)) out))

-- the bits of a run below k are marked
pub record MarkedBelow (run : Run) (number k : ℕ) (old new : List (Option ℕ)) : Type 0 where
  pub size : length new ≡ length old
  pub done : (j : ℕ) → run.low ≤ j → j < k → j < run.end → slice_index_or new j None ≡ Some number
  pub others : (j : ℕ) → in_run run j ≡ false → slice_index_or new j None ≡ slice_index_or old j None

pub marked_first : (run : Run) (number : ℕ) (row : List (Option ℕ)) → MarkedBelow run number run.low row row
marked_first run number row = record {
  size = refl;
  done = λ j low below high. absurd (omega arith);
  others = λ j out. refl;
}

pub marked_more : (run : Run) (number k : ℕ) (old new : List (Option ℕ)) → run.low ≤ k → k < run.end → run.end ≤ length old → MarkedBelow run number k old new →
    MarkedBelow run number (k + 1) old (set new k (Some number))
marked_more run number k old new low high fits was =
    let within : k < length new = omega (arith, was.size) in
    record {
      size = length-set new k (Some number) ∙ was.size;
      done = λ j above below inside. elim (cases_eq j k) [
        | inl same ↦ ap (λ i. get_or (set new k (Some number)) i None) same ∙ get_or-set_same new k (Some number) None within
        | inr apart ↦ get_or-set_other new k j (Some number) None apart ∙ was.done j above (omega arith) inside
      ];
      others = λ j out.
          let apart : j ≢ k = λ same. let clash : true ≡ false = sym (run_inside run k low high) ∙ ap (in_run run) (sym same) ∙ out in cc in
          get_or-set_other new k j (Some number) None apart ∙ was.others j out;
    }

pub marked_all : (run : Run) (number k : ℕ) (old new : List (Option ℕ)) → run.end ≤ k → MarkedBelow run number k old new → IsMarked run number old new
marked_all run number k old new past was = record {
  size = was.size;
  bits = λ j within. run_cases (slice_index_or new j None ≡ (if in_run run j then Some number else slice_index_or old j None)) run j
      (λ low high. was.done j low (omega arith) high ∙ sym (ap (λ t. if t then Some number else slice_index_or old j None) (run_inside run j low high)))
      (λ out. was.others j out ∙ sym (ap (λ t. if t then Some number else slice_index_or old j None) out));
}
