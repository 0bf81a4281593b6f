-- a node that is not met yet is put on the path, as a part of its own, with its edges
use Rattle.std.proofs.Common.{◌≡◌, ℕ, ◌+◌, ◌-◌, ◌<◌, ◌≤◌, List, [], ◌∷◌, ◌++◌, length, get_or, set, refl, ap, subst, ◌∙◌, sym, arith, ◌⊎◌, inl, inr}
use Rattle.std.specs.Prelude.{Contains, Option}
use Rattle.std.proofs.lemmas.Bool.{cases_lt, cases_eq}
use Rattle.std.proofs.lemmas.List.{length-append, length-map, length-set, length_push, get_or-map, get_or_append_left, get_or-append_right, get_or_push, get_or-set_same, get_or-set_other}
use Rattle.std.proofs.lemmas.List.Elements.{Contains-get_or, Contains-append_left, Contains-append_right, Contains-append_cases, Contains-push, Contains-push_cases}
use Rattle.levelise.specs.declared.search.Mark.{Mark}
use Rattle.levelise.specs.declared.search.Mark.TheVariants.{New, Open, Done}
use Rattle.levelise.specs.declared.search.Edge.{Edge}
use Rattle.levelise.specs.Graph.{row_of, Reads, Path}
use Rattle.levelise.specs.Search.{mark_of, edges_from, AreByPlace, IsSeen, IsConsistent, Rises}
use Rattle.levelise.proofs.Marks.{same_place, edge_from_Contains, Contains-edges_from}

module _ (rows : List (List ℕ)) (marks : List Mark) (path starts : List ℕ) (pending : List Edge) (done : List ℕ) (least : Option ℕ) (sound : IsConsistent rows marks path starts pending done least)
    (a : ℕ) (node : a < length rows) (new : mark_of marks a ≡ New)
    (rest : List Edge) (inside : (e : Edge) → Contains rest e → Contains pending e) (by_place : AreByPlace rest)
    (cover : (p b : ℕ) → p < length path → Contains pending (record { from = p; to = b }) → Contains rest (record { from = p; to = b }) ⊎ (b ≡ a))
    (reach : (p : ℕ) → p < length path → Path rows (get_or path p 0) a) where
  fits : a < length marks
  fits = omega (arith, sound.sized)

  -- the mark of the node, and of another
  at_node : mark_of (set marks a (Open (length path))) a ≡ Open (length path)
  at_node = get_or-set_same marks a (Open (length path)) New fits

  elsewhere : (b : ℕ) → (b ≡ a → ⊥) → mark_of (set marks a (Open (length path))) b ≡ mark_of marks b
  elsewhere b other = get_or-set_other marks a b (Open (length path)) New other

  not_node : (b : ℕ) (m : Mark) → mark_of marks b ≡ m → (m ≡ New → ⊥) → b ≡ a → ⊥
  not_node b m e met same = met (sym e ∙ (ap (λ x. mark_of marks x) same ∙ new))

  kept : (b : ℕ) (m : Mark) → mark_of marks b ≡ m → (m ≡ New → ⊥) →
      mark_of (set marks a (Open (length path))) b ≡ m
  kept b m e met = elsewhere b (not_node b m e met) ∙ e

  done_before : (b : ℕ) → mark_of (set marks a (Open (length path))) b ≡ Done → mark_of marks b ≡ Done
  done_before b e =
      elim (cases_eq b a) [
        | inl same ↦ let here : mark_of (set marks a (Open (length path))) b ≡ Open (length path) = ap (λ x. mark_of (set marks a (Open (length path))) x) same ∙ at_node in (cc)
        | inr other ↦ sym (elsewhere b other) ∙ e
      ]

  done_after : (b : ℕ) → mark_of marks b ≡ Done → mark_of (set marks a (Open (length path))) b ≡ Done
  done_after b e = kept b Done e (λ same. cc)

  length_path : length (path ++ a ∷ []) ≡ length path + 1
  length_path = length_push path a

  at_old : (p : ℕ) → p < length path → get_or (path ++ a ∷ []) p 0 ≡ get_or path p 0
  at_old p h = get_or_append_left path (a ∷ []) 0 p h

  at_new : get_or (path ++ a ∷ []) (length path) 0 ≡ a
  at_new = get_or_push path a 0 (length path) refl

  -- a place of the longer path is an old one, or the last
  place_cases : (p : ℕ) → p < length (path ++ a ∷ []) → (p < length path) ⊎ (p ≡ length path)
  place_cases p h =
      elim (cases_lt p (length path)) [
        | inl before ↦ inl before
        | inr past ↦ inr (omega (arith, length_path))
      ]

  placed : (p : ℕ) → p < length (path ++ a ∷ []) →
      mark_of (set marks a (Open (length path))) (get_or (path ++ a ∷ []) p 0) ≡ Open p
  placed p h =
      elim (place_cases p h) [
        | inl before ↦ rw (at_old p before) (kept (get_or path p 0) (Open p) (sound.placed p before) (λ same. cc))
        | inr last ↦ rw (last, at_new) at_node
      ]

  open_stands : (b p : ℕ) → mark_of (set marks a (Open (length path))) b ≡ Open p →
      (p < length (path ++ a ∷ [])) × (get_or (path ++ a ∷ []) p 0 ≡ b)
  open_stands b p e =
      elim (cases_eq b a) [
        | inl same ↦
            let here : mark_of (set marks a (Open (length path))) b ≡ Open (length path) = ap (λ x. mark_of (set marks a (Open (length path))) x) same ∙ at_node in
            let last : length path ≡ p = same_place (length path) p (sym here ∙ e) in
            (omega (arith, length_path), ap (λ x. get_or (path ++ a ∷ []) x 0) (sym last) ∙ (at_new ∙ sym same))
        | inr other ↦
            let before = sound.open_stands b p (sym (elsewhere b other) ∙ e) in
            (omega (arith, length_path, before.0), at_old p before.0 ∙ before.1)
      ]

  starts_rise : Rises (starts ++ length path ∷ [])
  starts_rise i j h within =
      let long = length_push starts (length path) in
      let first : get_or (starts ++ length path ∷ []) i 0 ≡ get_or starts i 0 = get_or_append_left starts (length path ∷ []) 0 i (omega (arith, long)) in
      elim (cases_lt j (length starts)) [
        | inl before ↦ rw (first, get_or_append_left starts (length path ∷ []) 0 j before) (sound.starts_rise i j h before)
        | inr past ↦
            let last : j ≡ length starts = omega (arith, long) in
            rw (first, get_or_push starts (length path) 0 j (sym last)) (sound.starts_inside (get_or starts i 0) (Contains-get_or starts i 0 (omega (arith, long))))
      ]

  starts_inside : (s : ℕ) → Contains (starts ++ length path ∷ []) s → s < length (path ++ a ∷ [])
  starts_inside s h =
      elim (Contains-push_cases starts (length path) s h) [
        | inl before ↦ omega (arith, length_path, sound.starts_inside s before)
        | inr last ↦ omega (arith, length_path)
      ]

  starts_at_zero : 0 < length (path ++ a ∷ []) → Contains (starts ++ length path ∷ []) 0
  starts_at_zero h =
      elim (cases_eq (length path) 0) [
        | inl none ↦ subst (λ x. Contains (starts ++ length path ∷ []) x) none (Contains-push starts (length path))
        | inr some ↦ Contains-append_left starts (length path ∷ []) 0 (sound.starts_at_zero (omega arith))
      ]

  edges : (e : Edge) → Contains (rest ++ edges_from (length path) (row_of rows a)) e →
      (e.from < length (path ++ a ∷ [])) × Reads rows (get_or (path ++ a ∷ []) e.from 0) e.to
  edges e h =
      elim (Contains-append_cases rest (edges_from (length path) (row_of rows a)) e h) [
        | inl before ↦
            let was = sound.edges e (inside e before) in
            (omega (arith, length_path, was.0), subst (λ x. Reads rows x e.to) (sym (at_old e.from was.0)) was.1)
        | inr after ↦
            let here = edge_from_Contains (length path) (row_of rows a) e after in
            (omega (arith, length_path, here.0), subst (λ x. Reads rows x e.to) (sym (ap (λ x. get_or (path ++ a ∷ []) x 0) here.0 ∙ at_new)) here.1)
      ]

  place_of_new : (j : ℕ) (d : Edge) → length rest ≤ j →
      j < length (rest ++ edges_from (length path) (row_of rows a)) →
      (get_or (rest ++ edges_from (length path) (row_of rows a)) j d).from ≡ length path
  place_of_new j d past within =
      let more = edges_from (length path) (row_of rows a) in
      let make : ℕ → Edge = λ b. record { from = length path; to = b } in
      let short : j - length rest < length (row_of rows a) = omega (arith, length-append rest more, length-map (row_of rows a) make) in
      ap (λ (x : Edge). x.from) (get_or-append_right rest more (length rest) j d refl past ∙ get_or-map make (row_of rows a) (j - length rest) 0 d short)

  still_by_place : AreByPlace (rest ++ edges_from (length path) (row_of rows a))
  still_by_place i j d h within =
      let more = edges_from (length path) (row_of rows a) in
      elim (cases_lt i (length rest)) [
        | inl first ↦
            let left : get_or (rest ++ more) i d ≡ get_or rest i d = get_or_append_left rest more d i first in
            elim (cases_lt j (length rest)) [
              | inl second ↦ rw (left, get_or_append_left rest more d j second) (by_place i j d h second)
              | inr past ↦
                  let low = (sound.edges (get_or rest i d) (inside (get_or rest i d) (Contains-get_or rest i d first))).0 in
                  omega (arith, place_of_new j d past within, ap (λ (x : Edge). x.from) left, low)
            ]
        | inr past ↦ omega (arith, place_of_new i d past (omega arith), place_of_new j d (omega arith) within)
      ]

  forth : (p q : ℕ) → p < q → q < length (path ++ a ∷ []) →
      Path rows (get_or (path ++ a ∷ []) p 0) (get_or (path ++ a ∷ []) q 0)
  forth p q h within =
      elim (place_cases q within) [
        | inl before ↦ rw (at_old p (omega arith), at_old q before) (sound.forth p q h before)
        | inr last ↦ rw (last, at_new, at_old p (omega arith)) (reach p (omega arith))
      ]

  back : (p q : ℕ) → p < q → q < length (path ++ a ∷ []) →
      ((s : ℕ) → Contains (starts ++ length path ∷ []) s → p < s → s ≤ q → ⊥) →
      Path rows (get_or (path ++ a ∷ []) q 0) (get_or (path ++ a ∷ []) p 0)
  back p q h within joined =
      elim (place_cases q within) [
        | inl before ↦ rw (at_old p (omega arith), at_old q before) (sound.back p q h before (λ s there. joined s (Contains-append_left starts (length path ∷ []) s there)))
        | inr last ↦ absurd (joined (length path) (Contains-push starts (length path)) (omega arith) (omega arith))
      ]

  seen_before : (p b : ℕ) → p < length path → IsSeen marks starts pending least p b →
      IsSeen (set marks a (Open (length path))) (starts ++ length path ∷ []) (rest ++ edges_from (length path) (row_of rows a)) least p b
  seen_before p b h was =
      let more = edges_from (length path) (row_of rows a) in
      elim was [
        | inl waits ↦
            elim (cover p b h waits) [
              | inl still ↦ inl (Contains-append_left rest more (record { from = p; to = b }) still)
              | inr here ↦
                  inr (inr (
                    length path,
                    ap (λ x. mark_of (set marks a (Open (length path))) x) here ∙ at_node,
                    (λ s there low. let up = starts_inside s there in omega (arith, length_path)),
                    inl h,
                  ))
            ]
        | inr met ↦
            elim met [
              | inl finished ↦ inr (inl (done_after b finished))
              | inr stands ↦
                  inr (inr (
                    stands.0,
                    kept b (Open stands.0) stands.1 (λ same. cc),
                    (λ s there low.
                        elim (Contains-push_cases starts (length path) s there) [
                          | inl before ↦ stands.2 s before low
                          | inr last ↦ absurd (omega arith)
                        ]),
                    stands.3,
                  ))
            ]
      ]

  seen : (p b : ℕ) → p < length (path ++ a ∷ []) → Reads rows (get_or (path ++ a ∷ []) p 0) b →
      IsSeen (set marks a (Open (length path))) (starts ++ length path ∷ []) (rest ++ edges_from (length path) (row_of rows a)) least p b
  seen p b h r =
      let more = edges_from (length path) (row_of rows a) in
      elim (place_cases p h) [
        | inl before ↦ seen_before p b before (sound.seen p b before (subst (λ x. Reads rows x b) (at_old p before) r))
        | inr last ↦
            let here : Reads rows a b = subst (λ x. Reads rows x b) (ap (λ x. get_or (path ++ a ∷ []) x 0) last ∙ at_new) r in
            inl (subst (λ x. Contains (rest ++ more) (record { from = x; to = b })) (sym last)
            (Contains-append_right rest more (record { from = length path; to = b }) (Contains-edges_from (length path) (row_of rows a) b here)))
      ]

  -- what holds of the search still does
  pub opened : IsConsistent rows (set marks a (Open (length path))) (path ++ a ∷ []) (starts ++ length path ∷ []) (rest ++ edges_from (length path) (row_of rows a)) done least
  opened = record {
    sized = length-set marks a (Open (length path)) ∙ sound.sized;
    placed = placed;
    open_stands = open_stands;
    done_once = λ b e. sound.done_once b (done_before b e);
    only_done = λ b ne. sound.only_done b (λ e. ne (done_after b e));
    starts_rise = starts_rise;
    starts_inside = starts_inside;
    starts_at_zero = starts_at_zero;
    edges = edges;
    by_place = still_by_place;
    forth = forth;
    back = back;
    seen = seen;
    closed = λ b d e r. done_after d (sound.closed b d (done_before b e) r);
    least_found = sound.least_found;
    least_noted = λ b e cycle. sound.least_noted b (done_before b e) cycle;
    levelled = sound.levelled;
  }
