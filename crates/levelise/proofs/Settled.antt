-- the last part of the path is whole, and its nodes are done
use Rattle.std.proofs.Common.{◌≡◌, ℕ, ◌+◌, ◌-◌, ◌<◌, ◌≤◌, List, [], ◌∷◌, ◌++◌, length, get_or, take, drop, refl, ap, subst, ◌∙◌, sym, arith, ◌⊎◌, inl, inr, eqb, cond, count_by, add-zero}
use Rattle.std.specs.Prelude.{Contains, Option, None, Some}
use Rattle.std.proofs.lemmas.Bool.{cases_lt}
use Rattle.std.proofs.lemmas.Option.{none-some}
use Rattle.std.proofs.lemmas.List.{length-append, length-take, length-drop, length_push, get_or-take, get_or-drop, get_or_default, get_or_append_left, get_or-append-add, get_or_push, take_at, take-append-le}
use Rattle.std.proofs.lemmas.List.Elements.{Contains-get_or, Contains-append_left, Contains-push, Contains-push_cases}
use Rattle.std.proofs.lemmas.List.Sums.{sum_by-append}
use Rattle.levelise.specs.declared.search.Mark.{Mark}
use Rattle.levelise.specs.declared.search.Mark.TheVariants.{New, Open, Done}
use Rattle.levelise.specs.declared.search.Edge.{Edge}
use Rattle.levelise.specs.Graph.{Reads, Path, step, longer, LiesOnCycle}
use Rattle.levelise.specs.Search.{mark_of, IsNoted, IsSeen, IsConsistent, NotesPart, Rises}
use Rattle.levelise.proofs.Lists.{Contains-from_count, count_none, count_single}
use Rattle.levelise.proofs.Paths.{path_joined}
use Rattle.levelise.proofs.Marks.{is_new, is_open, is_done, kind_of, same_place}

-- the first step of a path, and what is left of it
pub data Begins (rows : List (List ℕ)) (a b : ℕ) : Type 0 where
  begins : (c : ℕ) → Reads rows a c → (c ≡ b) ⊎ Path rows c b → Begins rows a b

no_note : (least : Option ℕ) → ((n : ℕ) → least ≡ Some n → ⊥) → least ≡ None
no_note None out = refl
no_note (Some n) out = absurd (out n refl)

first_step : {rows : List (List ℕ)} {a b : ℕ} → Path rows a b → Begins rows a b
first_step (step r) = begins _ r (inl refl)
first_step (longer r p) = begins _ r (inr p)

module _ (rows : List (List ℕ)) (marks : List Mark) (path starts : List ℕ) (pending : List Edge) (done : List ℕ) (least : Option ℕ) (sound : IsConsistent rows marks path starts pending done least)
    (start : ℕ) (before : List ℕ) (split : starts ≡ before ++ start ∷ [])
    (followed : (e : Edge) → Contains pending e → e.from < start)
    (marks' : List Mark) (size : length marks' ≡ length marks)
    (settled : (a : ℕ) → Contains (drop start path) a → mark_of marks' a ≡ Done)
    (others : (a : ℕ) → (Contains (drop start path) a → ⊥) → mark_of marks' a ≡ mark_of marks a)
    (least' : Option ℕ) (notes : NotesPart least (drop start path) least') where
  -- no path leads from a done node to one that is not
  stays_done : {a b : ℕ} → Path rows a b → mark_of marks a ≡ Done → mark_of marks b ≡ Done
  stays_done (step r) finished = sound.closed _ _ finished r
  stays_done (longer r p) finished = stays_done p (sound.closed _ _ finished r)

  start_stands : Contains starts start
  start_stands = subst (λ xs. Contains xs start) (sym split) (Contains-push before start)

  start_inside : start < length path
  start_inside = sound.starts_inside start start_stands

  before_stands : (s : ℕ) → Contains before s → Contains starts s
  before_stands s h = subst (λ xs. Contains xs s) (sym split) (Contains-append_left before (start ∷ []) s h)

  start_cases : (s : ℕ) → Contains starts s → Contains before s ⊎ (start ≡ s)
  start_cases s h = Contains-push_cases before start s (subst (λ xs. Contains xs s) split h)

  before_rises : Rises before
  before_rises i j h within =
      let long = length_push before start in
      let all : Rises (before ++ start ∷ []) = subst Rises split sound.starts_rise in
      subst (λ x. x < get_or before j 0) (get_or_append_left before (start ∷ []) 0 i (omega arith))
      (subst (λ x. get_or (before ++ start ∷ []) i 0 < x) (get_or_append_left before (start ∷ []) 0 j within) (all i j h (omega (arith, long))))

  before_below : (s : ℕ) → Contains before s → s < start
  before_below s h =
      let long = length_push before start in
      let all : Rises (before ++ start ∷ []) = subst Rises split sound.starts_rise in
      let there = all h.0 (length before) h.1 (omega (arith, long)) in
      let first : get_or (before ++ start ∷ []) h.0 0 ≡ s = get_or_append_left before (start ∷ []) 0 h.0 h.1 ∙ (get_or_default before h.0 0 s h.1 ∙ h.2) in
      omega (arith, there, first, get_or_push before start 0 (length before) refl)

  starts_up_to : (s : ℕ) → Contains starts s → s ≤ start
  starts_up_to s h = elim (start_cases s h) [ inl there ↦ omega (arith, before_below s there) | inr here ↦ omega arith ]

  length_part : length (drop start path) ≡ length path - start
  length_part = length-drop start path

  length_path : length (take start path) ≡ start
  length_path = omega (arith, length-take start path, start_inside)

  at_old : (p : ℕ) → p < start → get_or (take start path) p 0 ≡ get_or path p 0
  at_old p h = get_or-take start path p 0 h

  -- the nodes of the part are those at its places
  in_part : (p : ℕ) → start ≤ p → p < length path → Contains (drop start path) (get_or path p 0)
  in_part p low high =
      let there : start + (p - start) ≡ p = omega arith in
      subst (λ x. Contains (drop start path) x) (get_or-drop start path (p - start) 0 ∙ ap (λ k. get_or path k 0) there)
      (Contains-get_or (drop start path) (p - start) 0 (omega (arith, length_part)))

  part_place : (a : ℕ) → Contains (drop start path) a →
      (p : ℕ) × (start ≤ p) × (p < length path) × (mark_of marks a ≡ Open p)
  part_place a h =
      let within : start + h.0 < length path = omega (arith, length_part, h.1) in
      let here : get_or path (start + h.0) 0 ≡ a = sym (get_or-drop start path h.0 0) ∙ (get_or_default (drop start path) h.0 0 a h.1 ∙ h.2) in
      (start + h.0, omega arith, within, subst (λ x. mark_of marks x ≡ Open (start + h.0)) here (sound.placed (start + h.0) within))

  -- what becomes of a node's mark
  data Fate (a : ℕ) : Type 0 where
    stays_new : mark_of marks a ≡ New → mark_of marks' a ≡ New → (Contains (drop start path) a → ⊥) → Fate a
    was_done : mark_of marks a ≡ Done → mark_of marks' a ≡ Done → (Contains (drop start path) a → ⊥) → Fate a
    stays_open : (p : ℕ) → mark_of marks a ≡ Open p → p < start → mark_of marks' a ≡ Open p →
        (Contains (drop start path) a → ⊥) → Fate a
    gets_done : (p : ℕ) → mark_of marks a ≡ Open p → start ≤ p → p < length path → get_or path p 0 ≡ a →
        mark_of marks' a ≡ Done → Fate a

  not_open : (a : ℕ) → ((p : ℕ) → mark_of marks a ≡ Open p → ⊥) → Contains (drop start path) a → ⊥
  not_open a closed there = let here = part_place a there in closed here.0 here.3

  below : (a p : ℕ) → mark_of marks a ≡ Open p → p < start → Contains (drop start path) a → ⊥
  below a p stands low there =
      let here = part_place a there in
      let same : p ≡ here.0 = same_place p here.0 (sym stands ∙ here.3) in
      omega (arith, here.1)

  fate : (a : ℕ) → Fate a
  fate a =
      elim (kind_of (mark_of marks a)) [
        | is_new e ↦
            let out : Contains (drop start path) a → ⊥ = not_open a (λ p stands. cc) in
            stays_new e (others a out ∙ e) out
        | is_done e ↦
            let out : Contains (drop start path) a → ⊥ = not_open a (λ p stands. cc) in
            was_done e (others a out ∙ e) out
        | is_open p e ↦
            elim (cases_lt p start) [
              | inl low ↦ stays_open p e low (others a (below a p e low) ∙ e) (below a p e low)
              | inr high ↦
                  let stands = sound.open_stands a p e in
                  gets_done p e high stands.0 stands.1
                  (settled a (subst (λ x. Contains (drop start path) x) stands.1 (in_part p high stands.0)))
            ]
      ]

  keeps_done : (a : ℕ) → mark_of marks a ≡ Done → mark_of marks' a ≡ Done
  keeps_done a e =
      elim (fate a) [
        | stays_new was now out ↦ cc
        | was_done was now out ↦ now
        | stays_open p was low now out ↦ cc
        | gets_done p was low high here now ↦ now
      ]

  placed : (p : ℕ) → p < length (take start path) → mark_of marks' (get_or (take start path) p 0) ≡ Open p
  placed p h =
      let low : p < start = omega (arith, length_path) in
      let stands : mark_of marks (get_or path p 0) ≡ Open p = sound.placed p (omega (arith, start_inside)) in
      rw (at_old p low) (others (get_or path p 0) (below (get_or path p 0) p stands low) ∙ stands)

  open_stands : (a p : ℕ) → mark_of marks' a ≡ Open p →
      (p < length (take start path)) × (get_or (take start path) p 0 ≡ a)
  open_stands a p e =
      elim (fate a) [
        | stays_new was now out ↦ absurd (cc)
        | was_done was now out ↦ absurd (cc)
        | stays_open q was low now out ↦
            let same : q ≡ p = same_place q p (sym now ∙ e) in
            let low' : p < start = omega arith in
            (omega (arith, length_path), at_old p low' ∙ (sound.open_stands a p (was ∙ ap (λ x. Open x) same)).1)
        | gets_done q was low high here now ↦ absurd (cc)
      ]

  count_both : (a : ℕ) →
      count_by (λ b. eqb b a) (done ++ drop start path) ≡ count_by (λ b. eqb b a) done + count_by (λ b. eqb b a) (drop start path)
  count_both a = sum_by-append (λ b. cond (eqb b a) 1 0) done (drop start path)

  part_once : (a p : ℕ) → mark_of marks a ≡ Open p → start ≤ p → p < length path → get_or path p 0 ≡ a →
      count_by (λ b. eqb b a) (drop start path) ≡ 1
  part_once a p stands low high here =
      let there : start + (p - start) ≡ p = omega arith in
      count_single a (drop start path) (p - start) (omega (arith, length_part))
      (get_or-drop start path (p - start) 0 ∙ (ap (λ k. get_or path k 0) there ∙ here))
      (λ i h e.
      let within : start + i < length path = omega (arith, length_part) in
      let also : get_or path (start + i) 0 ≡ a = sym (get_or-drop start path i 0) ∙ e in
      let mark : mark_of marks a ≡ Open (start + i) = subst (λ x. mark_of marks x ≡ Open (start + i)) also (sound.placed (start + i) within) in
      let same : p ≡ start + i = same_place p (start + i) (sym stands ∙ mark) in
      omega arith)

  done_once : (a : ℕ) → mark_of marks' a ≡ Done → count_by (λ b. eqb b a) (done ++ drop start path) ≡ 1
  done_once a e =
      elim (fate a) [
        | stays_new was now out ↦ absurd (cc)
        | was_done was now out ↦ omega (arith, count_both a, sound.done_once a was, count_none a (drop start path) out)
        | stays_open p was low now out ↦ absurd (cc)
        | gets_done p was low high here now ↦
            omega (arith, count_both a, sound.only_done a (λ finished. cc), part_once a p was low high here)
      ]

  only_done : (a : ℕ) → (mark_of marks' a ≡ Done → ⊥) → count_by (λ b. eqb b a) (done ++ drop start path) ≡ 0
  only_done a ne =
      elim (fate a) [
        | stays_new was now out ↦ omega (arith, count_both a, sound.only_done a (λ finished. cc), count_none a (drop start path) out)
        | was_done was now out ↦ absurd (ne now)
        | stays_open p was low now out ↦ omega (arith, count_both a, sound.only_done a (λ finished. cc), count_none a (drop start path) out)
        | gets_done p was low high here now ↦ absurd (ne now)
      ]

  starts_at_zero : 0 < length (take start path) → Contains before 0
  starts_at_zero h =
      elim (start_cases 0 (sound.starts_at_zero (omega (arith, start_inside)))) [
        | inl there ↦ there
        | inr here ↦ absurd (omega (arith, length_path))
      ]

  edges : (e : Edge) → Contains pending e →
      (e.from < length (take start path)) × Reads rows (get_or (take start path) e.from 0) e.to
  edges e h =
      (omega (arith, length_path, followed e h), subst (λ x. Reads rows x e.to) (sym (at_old e.from (followed e h))) (sound.edges e h).1)

  forth : (p q : ℕ) → p < q → q < length (take start path) →
      Path rows (get_or (take start path) p 0) (get_or (take start path) q 0)
  forth p q h within =
      rw (at_old p (omega (arith, length_path)), at_old q (omega (arith, length_path))) (sound.forth p q h (omega (arith, length_path, start_inside)))

  back : (p q : ℕ) → p < q → q < length (take start path) → ((s : ℕ) → Contains before s → p < s → s ≤ q → ⊥) →
      Path rows (get_or (take start path) q 0) (get_or (take start path) p 0)
  back p q h within joined =
      rw (at_old p (omega (arith, length_path)), at_old q (omega (arith, length_path)))
      (sound.back p q h (omega (arith, length_path, start_inside)) (λ s there low high.
      elim (start_cases s there) [ inl earlier ↦ joined s earlier low high | inr here ↦ omega (arith, length_path) ]))

  seen_still : (p b : ℕ) → IsSeen marks starts pending least p b → IsSeen marks' before pending least' p b
  seen_still p b was =
      elim was [
        | inl waits ↦ inl waits
        | inr met ↦
            elim met [
              | inl finished ↦ inr (inl (keeps_done b finished))
              | inr stands ↦
                  elim (fate b) [
                    | stays_new was' now out ↦ absurd (let bad : ⊥ = cc (stands.1, was') in bad)
                    | was_done was' now out ↦ inr (inl now)
                    | stays_open q was' low now out ↦
                        let same : q ≡ stands.0 = same_place q stands.0 (sym was' ∙ stands.1) in
                        inr (inr (
                          stands.0,
                          now ∙ ap (λ x. Open x) same,
                          (λ s there up. stands.2 s (before_stands s there) up),
                          elim stands.3 [ inl later ↦ inl later | inr known ↦ inr (notes.keeps b known) ],
                        ))
                    | gets_done q was' low high here now ↦ inr (inl now)
                  ]
            ]
      ]

  seen : (p b : ℕ) → p < length (take start path) → Reads rows (get_or (take start path) p 0) b →
      IsSeen marks' before pending least' p b
  seen p b h r =
      let low : p < start = omega (arith, length_path) in
      seen_still p b (sound.seen p b (omega (arith, start_inside)) (subst (λ x. Reads rows x b) (at_old p low) r))

  -- what a node of the part reads is done or in the part
  data Target (p b : ℕ) : Type 0 where
    to_done : mark_of marks b ≡ Done → Target p b
    to_part : (q : ℕ) → mark_of marks b ≡ Open q → start ≤ q → q < length path → get_or path q 0 ≡ b →
        (p < q) ⊎ IsNoted least b → Target p b

  target : (p b : ℕ) → start ≤ p → p < length path → Reads rows (get_or path p 0) b → Target p b
  target p b low high r =
      elim (sound.seen p b high r) [
        | inl waits ↦ absurd (omega (arith, followed (record { from = p; to = b }) waits))
        | inr met ↦
            elim met [
              | inl finished ↦ to_done finished
              | inr stands ↦
                  let place = sound.open_stands b stands.0 stands.1 in
                  to_part stands.0 stands.1 (stands.2 start start_stands low) place.0 place.1 stands.3
            ]
      ]

  closed : (a b : ℕ) → mark_of marks' a ≡ Done → Reads rows a b → mark_of marks' b ≡ Done
  closed a b e r =
      elim (fate a) [
        | stays_new was now out ↦ absurd (cc)
        | was_done was now out ↦ keeps_done b (sound.closed a b was r)
        | stays_open p was low now out ↦ absurd (cc)
        | gets_done p was low high here now ↦
            elim (target p b low high (subst (λ x. Reads rows x b) (sym here) r)) [
              | to_done finished ↦ keeps_done b finished
              | to_part q stands low' high' there later ↦ settled b (subst (λ x. Contains (drop start path) x) there (in_part q low' high'))
            ]
      ]

  joined_back : (p q : ℕ) → start ≤ p → p < q → q < length path → Path rows (get_or path q 0) (get_or path p 0)
  joined_back p q low h high = sound.back p q h high (λ s there above up. let under = starts_up_to s there in omega arith)

  -- each node of a part of two or more lies on a cycle
  on_cycle : (p : ℕ) → 1 < length (drop start path) → start ≤ p → p < length path →
      LiesOnCycle rows (get_or path p 0)
  on_cycle p two low high =
      elim (cases_lt start p) [
        | inl above ↦ path_joined (joined_back start p (omega arith) above high) (sound.forth start p above high)
        | inr up ↦
            let next : p + 1 < length path = omega (arith, length_part) in
            path_joined (sound.forth p (p + 1) (omega arith) next) (joined_back p (p + 1) low (omega arith) next)
      ]

  least_found : (n : ℕ) → least' ≡ Some n → LiesOnCycle rows n
  least_found n e =
      elim (notes.one_of n e) [
        | inl before' ↦ sound.least_found n before'
        | inr here ↦
            let place = part_place n here.1 in
            subst (λ x. LiesOnCycle rows x) (sound.open_stands n place.0 place.3).1 (on_cycle place.0 here.0 place.1 place.2)
      ]

  -- a node that is a part by itself lies on a cycle only where it is noted
  alone_noted : (p a : ℕ) → length (drop start path) ≤ 1 → mark_of marks a ≡ Open p → start ≤ p →
      p < length path → get_or path p 0 ≡ a → LiesOnCycle rows a → IsNoted least a
  alone_noted p a one stands low high here cycle =
      elim (first_step cycle) [
        | begins c r rest ↦
            elim (target p c low high (subst (λ x. Reads rows x c) (sym here) r)) [
              | to_done finished ↦
                  let again : mark_of marks a ≡ Done = elim rest [ inl same ↦ subst (λ x. mark_of marks x ≡ Done) same finished | inr on ↦ stays_done on finished ] in
                  absurd (let bad : ⊥ = cc in bad)
              | to_part q stands' low' high' there later ↦
                  let place : q ≡ p = omega (arith, length_part) in
                  let same : c ≡ a = sym there ∙ (ap (λ k. get_or path k 0) place ∙ here) in
                  elim later [
                    | inl beyond ↦ absurd (omega arith)
                    | inr known ↦ subst (λ x. IsNoted least x) same known
                  ]
            ]
      ]

  least_noted : (a : ℕ) → mark_of marks' a ≡ Done → LiesOnCycle rows a → IsNoted least' a
  least_noted a e cycle =
      elim (fate a) [
        | stays_new was now out ↦ absurd (cc)
        | was_done was now out ↦ notes.keeps a (sound.least_noted a was cycle)
        | stays_open p was low now out ↦ absurd (cc)
        | gets_done p was low high here now ↦
            elim (cases_lt 1 (length (drop start path))) [
              | inl two ↦ notes.whole two a (subst (λ x. Contains (drop start path) x) here (in_part p low high))
              | inr one ↦ notes.keeps a (alone_noted p a one was low high here cycle)
            ]
      ]

  none_before : least' ≡ None → least ≡ None
  none_before e = no_note least (λ n known. let still = notes.keeps n (n, known, omega arith) in none-some still.0 (sym e ∙ still.1))

  one_alone : least' ≡ None → length (drop start path) ≤ 1
  one_alone e =
      elim (cases_lt 1 (length (drop start path))) [
        | inl two ↦ let known = notes.whole two (get_or path start 0) (in_part start (omega arith) start_inside) in absurd (none-some known.0 (sym e ∙ known.1))
        | inr one ↦ one
      ]

  levelled : least' ≡ None → (k : ℕ) → k < length (done ++ drop start path) → (b : ℕ) →
      Reads rows (get_or (done ++ drop start path) k 0) b → Contains (take k (done ++ drop start path)) b
  levelled e k h b r =
      let part = drop start path in
      elim (cases_lt k (length done)) [
        | inl earlier ↦
            subst (λ xs. Contains xs b) (sym (take-append-le k done part (omega arith)))
            (sound.levelled (none_before e) k earlier b (subst (λ x. Reads rows x b) (get_or_append_left done part 0 k earlier) r))
        | inr past ↦
            let last : k ≡ length done + 0 = omega (arith, length-append done part, one_alone e) in
            let node : get_or (done ++ part) k 0 ≡ get_or path start 0 =
            ap (λ x. get_or (done ++ part) x 0) last ∙ (get_or-append-add done part 0 0 ∙ (get_or-drop start path 0 0 ∙ ap (λ x. get_or path x 0) (add-zero start))) in
            let front : take k (done ++ part) ≡ done = take_at done part k (omega arith) in
            elim (target start b (omega arith) start_inside (subst (λ x. Reads rows x b) node r)) [
              | to_done finished ↦
                  subst (λ xs. Contains xs b) (sym front) (Contains-from_count b done (omega (arith, sound.done_once b finished)))
              | to_part q stands low high there later ↦
                  elim later [
                    | inl beyond ↦ absurd (omega (arith, length_part, one_alone e))
                    | inr known ↦ absurd (none-some known.0 (sym (none_before e) ∙ known.1))
                  ]
            ]
      ]

  -- what holds of the search still does
  pub settled_part : IsConsistent rows marks' (take start path) before pending (done ++ drop start path) least'
  settled_part = record {
    sized = size ∙ sound.sized;
    placed = placed;
    open_stands = open_stands;
    done_once = done_once;
    only_done = only_done;
    starts_rise = before_rises;
    starts_inside = λ s there. let low = before_below s there in omega (arith, length_path);
    starts_at_zero = starts_at_zero;
    edges = edges;
    by_place = sound.by_place;
    forth = forth;
    back = back;
    seen = seen;
    closed = closed;
    least_found = least_found;
    least_noted = least_noted;
    levelled = levelled;
  }

  -- no node is forgotten
  pub keeps_met : (a : ℕ) → mark_of marks' a ≡ New → mark_of marks a ≡ New
  keeps_met a e =
      elim (fate a) [
        | stays_new was now out ↦ was
        | was_done was now out ↦ cc
        | stays_open p was low now out ↦ cc
        | gets_done p was low high here now ↦ cc
      ]
