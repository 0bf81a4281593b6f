-- Lists of words as sets of positions.
use Rattle.std.proofs.Common.{◌≡◌, ◌≢◌, ℕ, ◌+◌, ◌*◌, ◌/◌, ◌%◌, ◌^◌, ◌<◌, ◌≤◌, List, length, get_or, set, inl, inr, sym, ◌∙◌, ap, arith}
use Rattle.std.specs.Prelude.{slice_index}
use Rattle.std.specs.Int.{bit_at, trailing_zeros, w64}
use Rattle.std.proofs.lemmas.Bool.{cases_eq, cases_lt}
use Rattle.std.proofs.lemmas.List.{get_or-set_other, get_or-set_same, length-set, get_or_default, get_or_past}
use Rattle.std.proofs.lemmas.Nat.Bits.{bit_at-zero, bit_at-trailing_zeros}
use Rattle.code_isa.specs.Marks.{bit_of, IsBitSetTo, IsLeastBit, IsSummary, IsSummaryBut, IsFirstWord, IsLowestIn}

-- a word is written in which one bit is as given and the others are as they were
pub written : (old : List ℕ) (k bit n : ℕ) → k < 64 * length old → bit_at n (k % 64) ≡ bit → ((i : ℕ) → i < 64 → i ≢ k % 64 → bit_at n i ≡ bit_at (slice_index old (k / 64)) i) → IsBitSetTo old (set old (k / 64) n) k bit
written old k bit n inside here others =
    let word = k / 64 in
    let within : word < length old = omega arith in
    let same : get_or (set old word n) word 0 ≡ n = get_or-set_same old word n 0 within in
    record {
      size = length-set old word n;
      here = ap (λ x. bit_at x (k % 64)) same ∙ here;
      others = λ i other. elim (cases_eq (i / 64) word) [
        | inl one ↦
            let apart : i % 64 ≢ k % 64 = λ e. let clash : i ≡ k = omega arith in other clash in
            ap (λ j. bit_at (get_or (set old word n) j 0) (i % 64)) one ∙ ap (λ x. bit_at x (i % 64)) same
            ∙ others (i % 64) (omega arith) apart ∙ ap (λ j. bit_at (get_or old j 0) (i % 64)) (sym one)
        | inr apart ↦ ap (λ x. bit_at x (i % 64)) (get_or-set_other old word (i / 64) n 0 apart)
      ];
      words = λ j other. get_or-set_other old word j n 0 other;
    }

-- an element that was read, with the default of clauses
pub read_at : (xs : List ℕ) (j x : ℕ) → j < length xs → x ≡ get_or xs j x → x ≡ slice_index xs j
read_at xs j x inside is = is ∙ get_or_default xs j x 0 inside

-- a set bit makes its word another than 0, and is below the end of the words
pub set_not_empty : (words : List ℕ) (k : ℕ) → bit_of words k ≡ 1 → slice_index words (k / 64) ≢ 0
set_not_empty words k set e = let zero_bit : bit_of words k ≡ 0 = ap (λ w. bit_at w (k % 64)) e ∙ bit_at-zero (k % 64) in omega arith

pub set_inside : (words : List ℕ) (k : ℕ) → bit_of words k ≡ 1 → k < 64 * length words
set_inside words k set =
    elim (cases_lt (k / 64) (length words)) [
      | inl inside ↦ omega arith
      | inr past ↦ absurd (set_not_empty words k set (get_or_past words (k / 64) 0 past))
    ]

pub word_inside : (words : List ℕ) (j : ℕ) → slice_index words j ≢ 0 → j < length words
word_inside words j some = elim (cases_lt j (length words)) [ inl inside ↦ inside | inr past ↦ absurd (some (get_or_past words j 0 past)) ]

-- a lower level is told a new bit, and the upper level its word
pub summary_set : (upper lower more_upper more_lower : List ℕ) (k : ℕ) → IsSummary upper lower → IsBitSetTo lower more_lower k 1 → IsBitSetTo upper more_upper (k / 64) 1 → IsSummary more_upper more_lower
summary_set upper lower more_upper more_lower k sums low high j =
    elim (cases_eq j (k / 64)) [
      | inl here ↦ (
        λ _ empty. set_not_empty more_lower k low.here (ap (λ w. slice_index more_lower w) (sym here) ∙ empty),
        λ _. ap (bit_of more_upper) here ∙ high.here,
      )
      | inr apart ↦ (
        λ set empty. (sums j).0 (sym (high.others j apart) ∙ set) (sym (low.words j apart) ∙ empty),
        λ some. high.others j apart ∙ (sums j).1 (λ empty. some (low.words j apart ∙ empty)),
      )
    ]

-- the lowest bit of a word that is not empty
pub lowest_in : (words : List ℕ) (j n : ℕ) → n ≡ slice_index words j → n ≢ 0 → n < 2 ^ 64 → IsLowestIn words j (j * 64 + trailing_zeros w64 n)
lowest_in words j n word some fits =
    let lowest = bit_at-trailing_zeros w64 n (omega arith) fits in
    let low : trailing_zeros w64 n < 64 = lowest.0 in
    let place : (j * 64 + trailing_zeros w64 n) / 64 ≡ j = omega arith in
    let rest : (j * 64 + trailing_zeros w64 n) % 64 ≡ trailing_zeros w64 n = omega arith in
    record {
      word = place;
      set = ap (λ w. bit_at (slice_index words w) ((j * 64 + trailing_zeros w64 n) % 64)) place ∙ ap (λ b. bit_at (slice_index words j) b) rest
          ∙ ap (λ w. bit_at w (trailing_zeros w64 n)) (sym word) ∙ lowest.1;
      least = λ i same set. elim (cases_lt (i % 64) (trailing_zeros w64 n)) [
        | inl before ↦
            let clear : bit_of words i ≡ 0 =
            ap (λ w. bit_at (slice_index words w) (i % 64)) same ∙ ap (λ w. bit_at w (i % 64)) (sym word) ∙ lowest.2 (i % 64) before in
            absurd (omega arith)
        | inr after ↦ omega arith
      ];
    }

-- the least bit of a level, from the least bit of the level above
pub least_below : (upper lower : List ℕ) (j k : ℕ) → IsSummary upper lower → IsLeastBit upper j → IsLowestIn lower j k → IsLeastBit lower k
least_below upper lower j k sums up low = record {
  set = low.set;
  least = λ i set.
      let above : j ≤ i / 64 = up.least (i / 64) ((sums (i / 64)).1 (set_not_empty lower i set)) in
      elim (cases_eq (i / 64) j) [ inl same ↦ low.least i same set | inr apart ↦ omega (arith, low.word) ];
}

-- the least bit of the top level, from its first word that is not empty
pub least_first : (words : List ℕ) (j k : ℕ) → IsFirstWord words j → IsLowestIn words j k → IsLeastBit words k
least_first words j k first low = record {
  set = low.set;
  least = λ i set. elim (cases_lt (i / 64) j) [
    | inl earlier ↦ absurd (set_not_empty words i set (first.before (i / 64) earlier))
    | inr later ↦ elim (cases_eq (i / 64) j) [ inl same ↦ low.least i same set | inr apart ↦ omega (arith, low.word) ]
  ];
}

-- a bit of the lower level is cleared, and the upper level not yet told
pub summary_cleared : (upper lower less : List ℕ) (k : ℕ) → IsSummary upper lower → bit_of lower k ≡ 1 → IsBitSetTo lower less k 0 → IsSummaryBut upper less (k / 64)
summary_cleared upper lower less k sums was low = record {
  here = (sums (k / 64)).1 (set_not_empty lower k was);
  others = λ j apart. (
    λ set empty. (sums j).0 set (sym (low.words j apart) ∙ empty),
    λ some. (sums j).1 (λ empty. some (low.words j apart ∙ empty)),
  );
}
