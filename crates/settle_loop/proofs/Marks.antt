-- The marks of visits, and the children that are left.
use Rattle.std.proofs.Common.{◌≡◌, ℕ, zero, suc, ◌+◌, ◌<◌, ◌≤◌, ◌⊎◌, inl, inr, Bool, true, false, List, [], ◌∷◌, ◌++◌, length, take, drop, replicate, set, get_or, refl, sym, ◌∙◌, ap, subst, arith}
use Rattle.std.specs.Prelude.{slice_get, Some}
use Rattle.std.proofs.lemmas.List.{length-append, length-take-le, length-drop, drop_more, length-set}
use Rattle.std.proofs.lemmas.Bool.{cases_lt}
use Rattle.std.proofs.lemmas.Option.{none-some, same_Some, slice_get_within, slice_get-get_or, get_or_from_slice_get}
use Rattle.settle_loop.specs.Sweeps.{numbers_from, without, unset_from, IsVisitedBelow, IsPast}

-- where no mark is set, all are left
pub unset_clear : (first n : ℕ) → unset_from first (replicate n false) ≡ numbers_from first n
unset_clear first zero = refl
unset_clear first (suc n) = ap (λ xs. first ∷ xs) (unset_clear (suc first) n)

without_suc : (place x : ℕ) (xs : List ℕ) → x ∷ without place xs ≡ without (suc place) (x ∷ xs)
without_suc place x xs = ap (λ k. (x ∷ take place xs) ++ drop k (x ∷ xs)) (let e : suc (place + 1) ≡ suc place + 1 = omega arith in e)

-- the child at a place of those that are left, and what is left after it
pub record IsLeft (first : ℕ) (marks : List Bool) (place i : ℕ) : Type 0 where
  pub position : ℕ
  pub is : i ≡ first + position
  pub within : position < length marks
  pub unset : slice_get marks position ≡ Some false
  pub after : unset_from first (set marks position true) ≡ without place (unset_from first marks)

pub left_at : (first : ℕ) (marks : List Bool) (place i : ℕ) → slice_get (unset_from first marks) place ≡ Some i → IsLeft first marks place i
left_at first [] place i at = absurd (none-some i at)
left_at first (true ∷ marks) place i at =
    let rest = left_at (suc first) marks place i at in
    record { position = suc rest.position; is = rest.is ∙ (let e : suc first + rest.position ≡ first + suc rest.position = omega arith in e); within = omega (arith, rest.within); unset = rest.unset; after = rest.after }
left_at first (false ∷ marks) zero i at =
    record { position = zero; is = sym (same_Some first i at) ∙ (let e : first ≡ first + 0 = omega arith in e); within = omega arith; unset = refl; after = refl }
left_at first (false ∷ marks) (suc place) i at =
    let rest = left_at (suc first) marks place i at in
    record { position = suc rest.position; is = rest.is ∙ (let e : suc first + rest.position ≡ first + suc rest.position = omega arith in e); within = omega (arith, rest.within); unset = rest.unset; after = ap (λ xs. first ∷ xs) rest.after ∙ without_suc place first (unset_from (suc first) marks) }

pub without_size : (place : ℕ) (xs : List ℕ) → place < length xs → length (without place xs) + 1 ≡ length xs
without_size place xs inside =
    let e : length (without place xs) + 1 ≡ length xs = omega (arith, length-append (take place xs) (drop (place + 1) xs), length-take-le place xs (omega arith), length-drop (place + 1) xs) in e

-- where none is left, each mark is set
pub none_left : (first : ℕ) (marks : List Bool) (j : ℕ) (b : Bool) → length (unset_from first marks) ≡ 0 → slice_get marks j ≡ Some b → b ≡ true
none_left first [] j b none at = absurd (none-some b at)
none_left first (true ∷ marks) zero b none at = sym (same_Some true b at)
none_left first (true ∷ marks) (suc j) b none at = none_left (suc first) marks j b none at
none_left first (false ∷ marks) j b none at = absurd (let clash : ⊥ = omega (arith, none) in clash)

pub empty_list : (xs : List ℕ) → length xs ≡ 0 → xs ≡ []
empty_list [] none = refl
empty_list (x ∷ xs) none = absurd (let clash : ⊥ = omega (arith, none) in clash)

-- ---- going along the marks

drop_got : (marks : List Bool) (i : ℕ) (b : Bool) → slice_get marks i ≡ Some b → drop i marks ≡ b ∷ drop (i + 1) marks
drop_got marks i b at =
    drop_more marks i b (slice_get_within marks i b at) ∙ ap (λ x. x ∷ drop (i + 1) marks) (get_or_from_slice_get marks i b b at)

-- past a child that is visited
pub pass_set : (marks : List Bool) (i before : ℕ) → slice_get marks i ≡ Some true → slice_get (unset_from (i + 1) (drop (i + 1) marks)) before ≡ slice_get (unset_from i (drop i marks)) before
pass_set marks i before at =
    ap (λ k. slice_get (unset_from k (drop (i + 1) marks)) before) (let e : i + 1 ≡ suc i = omega arith in e)
    ∙ ap (λ xs. slice_get (unset_from i xs) before) (sym (drop_got marks i true at))

-- past one that is left
pub pass_unset : (marks : List Bool) (i before less : ℕ) → slice_get marks i ≡ Some false → before ≡ suc less → slice_get (unset_from (i + 1) (drop (i + 1) marks)) less ≡ slice_get (unset_from i (drop i marks)) before
pass_unset marks i before less at more =
    ap (λ k. slice_get (unset_from k (drop (i + 1) marks)) less) (let e : i + 1 ≡ suc i = omega arith in e)
    ∙ ap (λ xs. slice_get (unset_from i xs) (suc less)) (sym (drop_got marks i false at))
    ∙ ap (slice_get (unset_from i (drop i marks))) (sym more)

-- at one that is left
pub at_unset : (marks : List Bool) (i : ℕ) → slice_get marks i ≡ Some false → slice_get (unset_from i (drop i marks)) 0 ≡ Some i
at_unset marks i at = ap (λ xs. slice_get (unset_from i xs) 0) (drop_got marks i false at)

-- past the last mark
pub none_past : (marks : List Bool) (i before place : ℕ) → length marks ≤ i → place < length (unset_from 0 marks) → slice_get (unset_from i (drop i marks)) before ≡ slice_get (unset_from 0 marks) place → ⊥
none_past marks i before place past inside same =
    let rest = left_at i (drop i marks) before (get_or (unset_from 0 marks) place 0) (same ∙ slice_get-get_or (unset_from 0 marks) place 0 inside) in
    omega (arith, past, rest.within, length-drop i marks)

-- ---- a sweep's marks

numbers_size : (first n : ℕ) → length (numbers_from first n) ≡ n
numbers_size first zero = refl
numbers_size first (suc n) = ap suc (numbers_size (suc first) n)

-- where no mark is set, all children are left
pub all_left : (marks : List Bool) (count : ℕ) → marks ≡ replicate (length marks) false → length marks ≡ count → unset_from 0 marks ≡ numbers_from 0 count
all_left marks count clear size = ap (unset_from 0) clear ∙ unset_clear 0 (length marks) ∙ ap (numbers_from 0) size

pub all_left_size : (marks : List Bool) (count : ℕ) → marks ≡ replicate (length marks) false → length marks ≡ count → length (unset_from 0 marks) ≡ count
all_left_size marks count clear size = ap length (all_left marks count clear size) ∙ numbers_size 0 count

-- the mark of a child at a place of those that are left is set
pub left_unset : (marks : List Bool) (place i : ℕ) → slice_get (unset_from 0 marks) place ≡ Some i → slice_get marks i ≡ Some false
left_unset marks place i at =
    let one = left_at 0 marks place i at in
    ap (slice_get marks) (let e : i ≡ one.position = omega (arith, one.is) in e) ∙ one.unset

pub left_after : (marks more : List Bool) (place i : ℕ) → slice_get (unset_from 0 marks) place ≡ Some i → more ≡ set marks i true → unset_from 0 more ≡ without place (unset_from 0 marks)
left_after marks more place i at marked =
    let one = left_at 0 marks place i at in
    ap (unset_from 0) marked ∙ ap (λ k. unset_from 0 (set marks k true)) (let e : i ≡ one.position = omega (arith, one.is) in e) ∙ one.after

-- ---- the first children

-- past children that are all visited
unset_skip : (base n : ℕ) (marks : List Bool) → n ≤ length marks → ((j : ℕ) → j < n → slice_get marks j ≡ Some true) → unset_from (base + n) (drop n marks) ≡ unset_from base marks
unset_skip base zero marks within all = ap (λ k. unset_from k marks) (let e : base + 0 ≡ base = omega arith in e)
unset_skip base (suc n) [] within all = absurd (let clash : ⊥ = omega (arith, within) in clash)
unset_skip base (suc n) (true ∷ marks) within all =
    ap (λ k. unset_from k (drop n marks)) (let e : base + suc n ≡ suc base + n = omega arith in e)
    ∙ unset_skip (suc base) n marks (let e : n ≤ length marks = omega (arith, within) in e) (λ j low. all (suc j) (let e : suc j < suc n = omega (arith, low) in e))
unset_skip base (suc n) (false ∷ marks) within all = absurd (let first = all 0 (let e : 0 < suc n = omega arith in e) in let clash : ⊥ = cc first in clash)

pub skip_set : (first : ℕ) (marks : List Bool) → first ≤ length marks → ((j : ℕ) → j < first → slice_get marks j ≡ Some true) → unset_from first (drop first marks) ≡ unset_from 0 marks
skip_set first marks within all = ap (λ k. unset_from k (drop first marks)) (let e : first ≡ 0 + first = omega arith in e) ∙ unset_skip 0 first marks within all

-- one more is visited
pub set_more : (marks : List Bool) (i j : ℕ) → i < length marks → (j ≡ i) ⊎ (slice_get marks j ≡ Some true) → slice_get (set marks i true) j ≡ Some true
set_more [] i j inside either = absurd (let clash : ⊥ = omega (arith, inside) in clash)
set_more (x ∷ marks) zero zero inside either = refl
set_more (x ∷ marks) zero (suc j) inside either = elim either [ inl here ↦ absurd (let clash : ⊥ = omega (arith, here) in clash) | inr was ↦ was ]
set_more (x ∷ marks) (suc i) zero inside either = elim either [ inl here ↦ absurd (let clash : ⊥ = omega (arith, here) in clash) | inr was ↦ was ]
set_more (x ∷ marks) (suc i) (suc j) inside either =
    set_more marks i j (let e : i < length marks = omega (arith, inside) in e) (elim either [ inl here ↦ inl (let e : j ≡ i = omega (arith, here) in e) | inr was ↦ inr was ])

pub visited_more : (marks more : List Bool) (first i next : ℕ) → IsVisitedBelow first marks → i < length marks → more ≡ set marks i true → IsPast first i next → IsVisitedBelow next more
visited_more marks more first i next was inside marked past =
    let size : length more ≡ length marks = ap length marked ∙ length-set marks i true in
    subst (IsVisitedBelow next) (sym marked) (elim past [
      | inl one ↦ subst (λ n. IsVisitedBelow n (set marks i true)) (sym one.1) (record {
        within = omega (arith, one.0, inside, length-set marks i true);
        all = λ j low. elim (cases_lt j first) [
          | inl before ↦ set_more marks i j inside (inr (was.all j before))
          | inr at ↦ set_more marks i j inside (inl (let e : j ≡ i = omega (arith, low, at, one.0) in e))
        ];
      })
      | inr same ↦ subst (λ n. IsVisitedBelow n (set marks i true)) (sym same) (record {
        within = omega (arith, was.within, length-set marks i true);
        all = λ j low. set_more marks i j inside (inr (was.all j low));
      })
    ])

-- one that is left is none of the first
pub first_low : (marks : List Bool) (first i : ℕ) → IsVisitedBelow first marks → slice_get marks i ≡ Some false → first ≤ i
first_low marks first i was unset =
    elim (cases_lt i first) [
      | inl low ↦ absurd (let both : Some true ≡ Some false = sym (was.all i low) ∙ unset in let clash : ⊥ = cc both in clash)
      | inr past ↦ past
    ]
