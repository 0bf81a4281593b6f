-- Registers that get what was sampled, one by one.
use Rattle.std.proofs.Common.{◌≡◌, ℕ, ◌+◌, ◌-◌, ◌<◌, ◌≤◌, inl, inr, Bool, false, List, ◌++◌, length, take, drop, set, refl, sym, ◌∙◌, ap, arith}
use Rattle.std.specs.Prelude.{slice_index}
use Rattle.std.proofs.lemmas.Bool.{cases_eq, cases_lt}
use Rattle.std.proofs.lemmas.List.{get_or-set_other, get_or-set_same, length-set, length-take-le, get_or-take, get_or-drop, get_or_append_left, get_or-append_right, ext_get_or}
use Rattle.code_isa.specs.Marks.{is_member}
use Rattle.wrapper_core.specs.code.Blocks.{placed}
use Rattle.wrapper_core.specs.code.Samplings.{IsKept}
use Rattle.wrapper_core.proofs.Lists.{placed_size, front_size}

-- what stands in a list that was written from a position on
pub placed_before : (xs : List ℕ) (first : ℕ) (ys : List ℕ) (s : ℕ) → first ≤ length xs → s < first → slice_index (placed xs first ys) s ≡ slice_index xs s
placed_before xs first ys s inside low =
    get_or_append_left (take first xs ++ ys) (drop (first + length ys) xs) 0 s (omega (arith, front_size xs ys first inside))
    ∙ get_or_append_left (take first xs) ys 0 s (omega (arith, length-take-le first xs inside)) ∙ get_or-take first xs s 0 low

pub placed_within : (xs : List ℕ) (first : ℕ) (ys : List ℕ) (s : ℕ) → first ≤ length xs → first ≤ s → s < first + length ys → slice_index (placed xs first ys) s ≡ slice_index ys (s - first)
placed_within xs first ys s inside past low =
    get_or_append_left (take first xs ++ ys) (drop (first + length ys) xs) 0 s (omega (arith, front_size xs ys first inside))
    ∙ get_or-append_right (take first xs) ys first s 0 (length-take-le first xs inside) past

pub placed_behind : (xs : List ℕ) (first : ℕ) (ys : List ℕ) (s : ℕ) → first ≤ length xs → first + length ys ≤ s → slice_index (placed xs first ys) s ≡ slice_index xs s
placed_behind xs first ys s inside past =
    get_or-append_right (take first xs ++ ys) (drop (first + length ys) xs) (first + length ys) s 0 (front_size xs ys first inside) past
    ∙ get_or-drop (first + length ys) xs (s - (first + length ys)) 0 ∙ ap (slice_index xs) (let e : first + length ys + (s - (first + length ys)) ≡ s = omega (arith, past) in e)

-- the registers that are not due any more have what was sampled
pub record IsGiven (old now : List ℕ) (first : ℕ) (next : List ℕ) (due : List Bool) : Type 0 where
  pub sized : length now ≡ length old
  pub before : (s : ℕ) → s < first → slice_index now s ≡ slice_index old s
  pub behind : (s : ℕ) → first + length next ≤ s → slice_index now s ≡ slice_index old s
  pub given : (r : ℕ) → r < length next → is_member due r ≡ false → slice_index now (first + r) ≡ slice_index next r

pub given_start : (old : List ℕ) (first n : ℕ) (next : List ℕ) (due : List Bool) → length next ≡ n → IsKept due next (take n (drop first old)) → IsGiven old old first next due
given_start old first n next due size kept = record {
  sized = refl;
  before = λ s low. refl;
  behind = λ s past. refl;
  given = λ r inside clear. sym (kept r clear ∙ get_or-take n (drop first old) r 0 (omega (arith, inside, size)) ∙ get_or-drop first old r 0);
}

pub given_more : (old now more : List ℕ) (first : ℕ) (next : List ℕ) (due after : List Bool) (r n : ℕ) → IsGiven old now first next due → r < length next → first + length next ≤ length old → after ≡ set due r false → n ≡ slice_index next r → more ≡ set now (first + r) n → IsGiven old more first next after
given_more old now more first next due after r n was inside room less value step = record {
  sized = ap length step ∙ length-set now (first + r) n ∙ was.sized;
  before = λ s low. ap (λ ws. slice_index ws s) step ∙ get_or-set_other now (first + r) s n 0 (λ e. let clash : ⊥ = omega (arith, e, low) in clash) ∙ was.before s low;
  behind = λ s past. ap (λ ws. slice_index ws s) step ∙ get_or-set_other now (first + r) s n 0 (λ e. let clash : ⊥ = omega (arith, e, past, inside) in clash) ∙ was.behind s past;
  given = λ x within clear. elim (cases_eq x r) [
    | inl here ↦
        ap (λ ws. slice_index ws (first + x)) step ∙ ap (λ y. slice_index (set now (first + r) n) (first + y)) here
        ∙ get_or-set_same now (first + r) n 0 (omega (arith, inside, room, was.sized)) ∙ value ∙ ap (slice_index next) (sym here)
    | inr apart ↦
        ap (λ ws. slice_index ws (first + x)) step ∙ get_or-set_other now (first + r) (first + x) n 0 (λ e. apart (let same : x ≡ r = omega (arith, e) in same))
        ∙ was.given x within (sym (get_or-set_other due r x false false apart) ∙ ap (λ ms. is_member ms x) (sym less) ∙ clear)
  ];
}

pub given_all : (old now : List ℕ) (first : ℕ) (next : List ℕ) (due : List Bool) → IsGiven old now first next due → first + length next ≤ length old → ((k : ℕ) → is_member due k ≡ false) → now ≡ placed old first next
given_all old now first next due was room none =
    ext_get_or 0 now (placed old first next) (was.sized ∙ sym (placed_size old first next room)) (λ s inside.
    elim (cases_lt s first) [
      | inl low ↦ was.before s low ∙ sym (placed_before old first next s (omega (arith, room)) low)
      | inr past ↦ elim (cases_lt s (first + length next)) [
        | inl within ↦
            let r : ℕ = s - first in
            let e : first + r ≡ s = omega (arith, past) in
            ap (slice_index now) (sym e) ∙ was.given r (omega (arith, within, past)) (none r) ∙ sym (placed_within old first next s (omega (arith, room)) past within)
        | inr beyond ↦ was.behind s beyond ∙ sym (placed_behind old first next s (omega (arith, room)) beyond)
      ]
    ])
