-- the cases of a mark, and the edges of a place
use Rattle.std.proofs.Common.{◌≡◌, ℕ, suc, zero, ◌-◌, ◌<◌, ◌≤◌, List, [], ◌∷◌, ◌++◌, length, get_or, fold, refl, ap, subst, ◌∙◌, sym, arith, ◌⊎◌, inl, inr}
use Rattle.std.specs.Prelude.{Contains, All, slice_get, min, Option, None, Some}
use Rattle.std.proofs.lemmas.Bool.{cases_lt}
use Rattle.std.proofs.lemmas.Option.{none-some, same_Some, get_or_from_slice_get}
use Rattle.std.proofs.lemmas.List.{length-append, length-map, get_or-map, get_or_append_left, get_or_default}
use Rattle.std.proofs.lemmas.List.Elements.{Contains-get_or, Contains-append_left, Contains-push, Contains-push_cases}
use Rattle.levelise.specs.declared.search.Mark.{Mark}
use Rattle.levelise.specs.declared.search.Mark.TheVariants.{New, Open, Done}
use Rattle.levelise.specs.declared.search.Edge.{Edge}
use Rattle.levelise.specs.Search.{edges_from, AreByPlace, IsNoted, NotesPart, noted}

pub data Kind (m : Mark) : Type 0 where
  is_new : m ≡ New → Kind m
  is_open : (p : ℕ) → m ≡ Open p → Kind m
  is_done : m ≡ Done → Kind m

pub kind_of : (m : Mark) → Kind m
kind_of New = is_new refl
kind_of (Open p) = is_open p refl
kind_of Done = is_done refl

pub same_place : (p q : ℕ) → Open p ≡ Open q → p ≡ q
same_place p q e = cc

-- an edge of a place leads from it to an element of its row
pub edge_from_Contains : (n : ℕ) (row : List ℕ) (e : Edge) → Contains (edges_from n row) e →
    (e.from ≡ n) × Contains row e.to
edge_from_Contains n row e h =
    let make : ℕ → Edge = λ b. record { from = n; to = b } in
    let inside : h.0 < length row = omega (arith, length-map row make, h.1) in
    let here : make (get_or row h.0 0) ≡ e = sym (get_or-map make row h.0 0 e inside) ∙ h.2 in
    (sym (ap (λ (x : Edge). x.from) here), subst (λ b. Contains row b) (ap (λ (x : Edge). x.to) here) (Contains-get_or row h.0 0 inside))

pub Contains-edges_from : (n : ℕ) (row : List ℕ) (b : ℕ) → Contains row b →
    Contains (edges_from n row) (record { from = n; to = b })
Contains-edges_from n row b h =
    let make : ℕ → Edge = λ b. record { from = n; to = b } in
    (h.0, omega (arith, length-map row make, h.1), get_or-map make row h.0 b (make b) h.1 ∙ ap make h.2)

-- what stands before the last edge
module _ (edges front : List Edge) (e : Edge) (split : edges ≡ front ++ e ∷ []) where
  pub front_inside : (x : Edge) → Contains front x → Contains edges x
  front_inside x h = subst (λ xs. Contains xs x) (sym split) (Contains-append_left front (e ∷ []) x h)

  pub front_or_last : (x : Edge) → Contains edges x → Contains front x ⊎ (e ≡ x)
  front_or_last x h = Contains-push_cases front e x (subst (λ xs. Contains xs x) split h)

  pub front_by_place : AreByPlace edges → AreByPlace front
  front_by_place by_place i j d h inside =
      let all : AreByPlace (front ++ e ∷ []) = subst AreByPlace split by_place in
      let there = all i j d h (omega (arith, length-append front (e ∷ []))) in
      subst (λ x. x ≤ (get_or front j d).from) (ap (λ (x : Edge). x.from) (get_or_append_left front (e ∷ []) d i (omega arith)))
      (subst (λ x. (get_or (front ++ e ∷ []) i d).from ≤ x) (ap (λ (x : Edge). x.from) (get_or_append_left front (e ∷ []) d j inside)) there)

  pub last_inside : Contains edges e
  last_inside = subst (λ xs. Contains xs e) (sym split) (Contains-push front e)

-- one more noted node
pub noted_more : (least : Option ℕ) (a b : ℕ) → IsNoted least b → IsNoted (noted least a) b
noted_more None a b h = absurd (none-some h.0 h.1)
noted_more (Some n) a b h =
    let same : n ≡ h.0 = same_Some n h.0 h.1 in
    (min n a, refl, omega (arith, h.2))

pub noted_itself : (least : Option ℕ) (a : ℕ) → IsNoted (noted least a) a
noted_itself None a = (a, refl, omega arith)
noted_itself (Some n) a = (min n a, refl, omega arith)

pub noted_one_of : (least : Option ℕ) (a n : ℕ) → noted least a ≡ Some n → (least ≡ Some n) ⊎ (a ≡ n)
noted_one_of None a n e = inr (same_Some a n e)
noted_one_of (Some m) a n e =
    let which : min m a ≡ n = same_Some (min m a) n e in
    elim (cases_lt m a) [
      | inl below ↦ inl (ap (λ x. Some x) (let k : m ≡ n = omega arith in k))
      | inr above ↦ inr (omega arith)
    ]

pub noted_some : (least : Option ℕ) (a : ℕ) → noted least a ≡ None → ⊥
noted_some None a e = none-some a (sym e)
noted_some (Some n) a e = none-some (min n a) (sym e)

-- all nodes of a part, noted in turn
pub fold_noted_keeps : (part : List ℕ) (least : Option ℕ) (a : ℕ) → IsNoted least a →
    IsNoted (fold noted least part) a
fold_noted_keeps [] least a h = h
fold_noted_keeps (x ∷ part) least a h = fold_noted_keeps part (noted least x) a (noted_more least x a h)

pub fold_noted_each : (part : List ℕ) (least : Option ℕ) (k : ℕ) → k < length part →
    IsNoted (fold noted least part) (get_or part k 0)
fold_noted_each [] least k h = absurd (omega arith)
fold_noted_each (x ∷ part) least zero h = fold_noted_keeps part (noted least x) x (noted_itself least x)
fold_noted_each (x ∷ part) least (suc k) h = fold_noted_each part (noted least x) k (omega arith)

pub fold_noted_one_of : (part : List ℕ) (least : Option ℕ) (n : ℕ) → fold noted least part ≡ Some n →
    (least ≡ Some n) ⊎ Contains part n
fold_noted_one_of [] least n e = inl e
fold_noted_one_of (x ∷ part) least n e =
    elim (fold_noted_one_of part (noted least x) n e) [
      | inl first ↦ elim (noted_one_of least x n first) [ inl before ↦ inl before | inr here ↦ inr (0, omega arith, here) ]
      | inr later ↦ inr (suc later.0, omega (arith, later.1), later.2)
    ]

-- what is known once a part of two or more is whole
pub notes_part : (least : Option ℕ) (part : List ℕ) → 1 < length part →
    NotesPart least part (fold noted least part)
notes_part least part two = record {
  keeps = λ a h. fold_noted_keeps part least a h;
  whole = λ _ a there. subst (λ x. IsNoted (fold noted least part) x) (get_or_default part there.0 0 a there.1 ∙ there.2) (fold_noted_each part least there.0 there.1);
  one_of = λ n e. elim (fold_noted_one_of part least n e) [ inl before ↦ inl before | inr there ↦ inr (two, there) ];
}

-- where the last edge leaves an earlier place, each does
pub all_leave_before : (pending : List Edge) (start : ℕ) (e : Edge) → AreByPlace pending →
    slice_get pending (length pending - 1) ≡ Some e → e.from < start →
    All (λ (x : Edge). x.from < start) pending
all_leave_before pending start e by_place last low k d h =
    let here : (get_or pending (length pending - 1) d).from ≡ e.from = ap (λ (x : Edge). x.from) (get_or_from_slice_get pending (length pending - 1) e d last) in
    elim (cases_lt k (length pending - 1)) [
      | inl before ↦ omega (arith, by_place k (length pending - 1) d before (omega arith), here)
      | inr past ↦
          let same : k ≡ length pending - 1 = omega arith in
          omega (arith, ap (λ x. (get_or pending x d).from) same, here)
    ]
