-- an edge is followed to a node that is done, or to one that is on the path
use Rattle.std.proofs.Common.{◌≡◌, ℕ, ◌<◌, ◌≤◌, List, [], ◌∷◌, ◌++◌, length, get_or, ap, subst, ◌∙◌, sym, arith, inl, inr}
use Rattle.std.specs.Prelude.{Contains, Option, Some}
use Rattle.std.proofs.lemmas.Bool.{cases_lt, cases_order}
use Rattle.levelise.specs.declared.search.Mark.{Mark}
use Rattle.levelise.specs.declared.search.Mark.TheVariants.{Open, Done}
use Rattle.levelise.specs.declared.search.Edge.{Edge}
use Rattle.levelise.specs.Graph.{Reads, Path, step, LiesOnCycle}
use Rattle.levelise.specs.Search.{mark_of, IsNoted, noted, IsSeen, IsConsistent, Rises}
use Rattle.levelise.proofs.Paths.{path_joined}
use Rattle.levelise.proofs.Marks.{front_inside, front_or_last, front_by_place, last_inside, noted_more, noted_itself, noted_one_of, noted_some}

module _ (rows : List (List ℕ)) (marks : List Mark) (path starts : List ℕ) (pending : List Edge) (done : List ℕ) (least : Option ℕ) (sound : IsConsistent rows marks path starts pending done least)
    (rest : List Edge) (e : Edge) (split : pending ≡ rest ++ e ∷ []) where
  seen_dropped : mark_of marks e.to ≡ Done → (p b : ℕ) → IsSeen marks starts pending least p b →
      IsSeen marks starts rest least p b
  seen_dropped finished p b was =
      elim was [
        | inl waits ↦
            elim (front_or_last pending rest e split (record { from = p; to = b }) waits) [
              | inl still ↦ inl still
              | inr here ↦ inr (inl (ap (λ (x : Edge). mark_of marks x.to) (sym here) ∙ finished))
            ]
        | inr met ↦ inr met
      ]

  -- to a node that is done: nothing is to do
  pub dropped : mark_of marks e.to ≡ Done → IsConsistent rows marks path starts rest done least
  dropped finished = record {
    sized = sound.sized;
    placed = sound.placed;
    open_stands = sound.open_stands;
    done_once = sound.done_once;
    only_done = sound.only_done;
    starts_rise = sound.starts_rise;
    starts_inside = sound.starts_inside;
    starts_at_zero = sound.starts_at_zero;
    edges = λ x there. sound.edges x (front_inside pending rest e split x there);
    by_place = front_by_place pending rest e split sound.by_place;
    forth = sound.forth;
    back = sound.back;
    seen = λ p b h r. seen_dropped finished p b (sound.seen p b h r);
    closed = sound.closed;
    least_found = sound.least_found;
    least_noted = sound.least_noted;
    levelled = sound.levelled;
  }

  module _ (in_last_part : (s : ℕ) → Contains starts s → s ≤ e.from)
      (q : ℕ) (stands : mark_of marks e.to ≡ Open q)
      (fewer : List ℕ) (rises : Rises fewer)
      (kept : (s : ℕ) → Contains starts s → s ≤ q → Contains fewer s)
      (only : (s : ℕ) → Contains fewer s → Contains starts s)
      (up_to : (s : ℕ) → Contains fewer s → s ≤ q) where
    inside : e.from < length path
    inside = (sound.edges e (last_inside pending rest e split)).0

    to_inside : q < length path
    to_inside = (sound.open_stands e.to q stands).0

    is_node : get_or path q 0 ≡ e.to
    is_node = (sound.open_stands e.to q stands).1

    one_step : Path rows (get_or path e.from 0) (get_or path q 0)
    one_step = step (subst (λ x. Reads rows (get_or path e.from 0) x) (sym is_node) (sound.edges e (last_inside pending rest e split)).1)

    -- each place of the path leads to the place of the node read
    to_target : (j : ℕ) → j < length path → Path rows (get_or path j 0) (get_or path q 0)
    to_target j h =
        elim (cases_order j e.from) [
          | inl same ↦ subst (λ x. Path rows (get_or path x 0) (get_or path q 0)) (sym same) one_step
          | inr apart ↦
              elim apart [
                | inl before ↦ path_joined (sound.forth j e.from before inside) one_step
                | inr after ↦ path_joined (sound.back e.from j after h (λ s there low high. let up = in_last_part s there in absurd (omega arith))) one_step
              ]
        ]

    back : (i j : ℕ) → i < j → j < length path → ((s : ℕ) → Contains fewer s → i < s → s ≤ j → ⊥) →
        Path rows (get_or path j 0) (get_or path i 0)
    back i j h within joined =
        elim (cases_lt q j) [
          | inl past ↦
              elim (cases_order q i) [
                | inl same ↦ subst (λ x. Path rows (get_or path j 0) (get_or path x 0)) same (to_target j within)
                | inr apart ↦
                    elim apart [
                      | inl before ↦ path_joined (to_target j within) (sound.forth q i before (omega arith))
                      | inr after ↦ path_joined (to_target j within) (sound.back i q after to_inside (λ s there low high. joined s (kept s there high) low (omega arith)))
                    ]
              ]
          | inr up ↦ sound.back i j h within (λ s there low high. joined s (kept s there (omega arith)) low high)
        ]

    seen : (p b : ℕ) → IsSeen marks starts pending least p b → IsSeen marks fewer rest (noted least e.to) p b
    seen p b was =
        elim was [
          | inl waits ↦
              elim (front_or_last pending rest e split (record { from = p; to = b }) waits) [
                | inl still ↦ inl still
                | inr here ↦
                    let to : e.to ≡ b = ap (λ (x : Edge). x.to) here in
                    inr (inr (
                      q,
                      ap (λ x. mark_of marks x) (sym to) ∙ stands,
                      (λ s there low. up_to s there),
                      inr (subst (λ x. IsNoted (noted least e.to) x) to (noted_itself least e.to)),
                    ))
              ]
          | inr met ↦
              elim met [
                | inl finished ↦ inr (inl finished)
                | inr there ↦
                    inr (inr (
                      there.0,
                      there.1,
                      (λ s start low. there.2 s (only s start) low),
                      elim there.3 [ inl later ↦ inl later | inr known ↦ inr (noted_more least e.to b known) ],
                    ))
              ]
        ]

    least_found : (n : ℕ) → noted least e.to ≡ Some n → LiesOnCycle rows n
    least_found n h =
        elim (noted_one_of least e.to n h) [
          | inl before ↦ sound.least_found n before
          | inr here ↦ subst (λ x. LiesOnCycle rows x) (is_node ∙ here) (to_target q to_inside)
        ]

    -- to a node of the path: all parts from its own on are one, and it lies on a cycle
    pub joined : IsConsistent rows marks path fewer rest done (noted least e.to)
    joined = record {
      sized = sound.sized;
      placed = sound.placed;
      open_stands = sound.open_stands;
      done_once = sound.done_once;
      only_done = sound.only_done;
      starts_rise = rises;
      starts_inside = λ s there. sound.starts_inside s (only s there);
      starts_at_zero = λ some. kept 0 (sound.starts_at_zero some) (omega arith);
      edges = λ x there. sound.edges x (front_inside pending rest e split x there);
      by_place = front_by_place pending rest e split sound.by_place;
      forth = sound.forth;
      back = back;
      seen = λ p b h r. seen p b (sound.seen p b h r);
      closed = sound.closed;
      least_found = least_found;
      least_noted = λ b finished cycle. noted_more least e.to b (sound.least_noted b finished cycle);
      levelled = λ none. absurd (noted_some least e.to none);
    }
