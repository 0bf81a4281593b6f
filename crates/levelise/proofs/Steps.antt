-- the steps of the search, on its lists as the code leaves them
use Rattle.std.proofs.Common.{◌≡◌, ℕ, ◌+◌, ◌<◌, ◌≤◌, List, [], ◌∷◌, ◌++◌, length, get_or, take, drop, ap, subst, ◌∙◌, sym, arith, ◌⊎◌, inl, inr}
use Rattle.std.specs.Prelude.{Contains, Option, All}
use Rattle.std.proofs.lemmas.Bool.{cases_lt, cases_order}
use Rattle.std.proofs.lemmas.List.{length-append, length-map, length_push, get_or_past}
use Rattle.std.proofs.lemmas.List.Elements.{All-contains, All-from_get_or, Contains-push}
use Rattle.levelise.specs.declared.search.Mark.{Mark}
use Rattle.levelise.specs.declared.search.Mark.TheVariants.{New, Done}
use Rattle.levelise.specs.declared.search.Edge.{Edge}
use Rattle.levelise.specs.declared.search.Search.{Search}
use Rattle.levelise.specs.Graph.{row_of, Reads, Path, step, ReadsOnlyNodes}
use Rattle.levelise.specs.Search.{mark_of, edges_from, IsConsistent, IsSound, IsLast, NotesPart, Opens, cost_to_come, steps_left}
use Rattle.levelise.proofs.Paths.{path_joined, node_from_Reads}
use Rattle.levelise.proofs.Marks.{is_new, is_open, is_done, kind_of, front_inside, front_or_last, front_by_place, last_inside}
use Rattle.levelise.proofs.Opened.{opened}
use Rattle.levelise.proofs.Costs.{cost-set, cost_falls}
use Rattle.levelise.proofs.Settled.{settled_part, keeps_met}

-- lists that are equal are as good
pub consistent_at : (rows : List (List ℕ)) (marks marks' : List Mark) (path path' starts starts' : List ℕ) (pending pending' : List Edge) (done done' : List ℕ) (least least' : Option ℕ) →
    marks' ≡ marks → path' ≡ path → starts' ≡ starts → pending' ≡ pending → done' ≡ done → least' ≡ least →
    IsConsistent rows marks path starts pending done least →
    IsConsistent rows marks' path' starts' pending' done' least'
consistent_at rows marks marks' path path' starts starts' pending pending' done done' least least' m p s e d l sound =
    subst (λ x. IsConsistent rows x path' starts' pending' done' least') (sym m)
    (subst (λ x. IsConsistent rows marks x starts' pending' done' least') (sym p)
    (subst (λ x. IsConsistent rows marks path x pending' done' least') (sym s)
    (subst (λ x. IsConsistent rows marks path starts x done' least') (sym e)
    (subst (λ x. IsConsistent rows marks path starts pending x least') (sym d)
    (subst (λ x. IsConsistent rows marks path starts pending done x) (sym l) sound)))))

-- what is read is a node
pub read_node : (rows : List (List ℕ)) (a b : ℕ) → ReadsOnlyNodes rows → Reads rows a b → b < length rows
read_node rows a b only r =
    All-contains (λ c. c < length rows) (row_of rows a) b (only a [] (node_from_Reads rows a b r)) r

-- a node that the last edge leads to is put on the path
module _ (rows : List (List ℕ)) (old new : Search) (pending : List Edge) (e : Edge)
    (only : ReadsOnlyNodes rows)
    (sound : IsConsistent rows old.marks.items old.path.items old.starts.items pending old.done.items old.least)
    (split : pending ≡ old.pending.items ++ e ∷ [])
    (in_last_part : (s : ℕ) → Contains old.starts.items s → s ≤ e.from)
    (unmet : mark_of old.marks.items e.to ≡ New)
    (opens : Opens rows old new e.to) where
  edge : (e.from < length old.path.items) × Reads rows (get_or old.path.items e.from 0) e.to
  edge = sound.edges e (last_inside pending old.pending.items e split)

  pub to_node : e.to < length rows
  to_node = read_node rows (get_or old.path.items e.from 0) e.to only edge.1

  reach : (p : ℕ) → p < length old.path.items → Path rows (get_or old.path.items p 0) e.to
  reach p h =
      elim (cases_order p e.from) [
        | inl same ↦ subst (λ x. Path rows (get_or old.path.items x 0) e.to) (sym same) (step edge.1)
        | inr apart ↦
            elim apart [
              | inl before ↦ path_joined (sound.forth p e.from before edge.0) (step edge.1)
              | inr after ↦ path_joined (sound.back e.from p after h (λ s there low high. let up = in_last_part s there in absurd (omega arith))) (step edge.1)
            ]
      ]

  cover : (p b : ℕ) → p < length old.path.items → Contains pending (record { from = p; to = b }) →
      Contains old.pending.items (record { from = p; to = b }) ⊎ (b ≡ e.to)
  cover p b h waits =
      elim (front_or_last pending old.pending.items e split (record { from = p; to = b }) waits) [
        | inl still ↦ inl still
        | inr here ↦ inr (sym (ap (λ (x : Edge). x.to) here))
      ]

  pub opened_next : IsSound rows new
  opened_next =
      consistent_at rows _ new.marks.items _ new.path.items _ new.starts.items _ new.pending.items _ new.done.items _ new.least opens.marks opens.path opens.starts opens.pending opens.done opens.least
      (opened rows old.marks.items old.path.items old.starts.items pending old.done.items old.least sound e.to to_node unmet old.pending.items (front_inside pending old.pending.items e split) (front_by_place pending old.pending.items e split sound.by_place) cover reach)

  pub nearer_opened : steps_left rows new < cost_to_come old.marks.items rows + (length pending + length old.starts.items)
  nearer_opened =
      let make : ℕ → Edge = λ b. record { from = length old.path.items; to = b } in
      let cost = cost-set old.marks.items rows e.to (length old.path.items) (omega (arith, sound.sized, to_node)) to_node unmet in
      let left = ap (λ x. cost_to_come x rows) opens.marks in
      let fewer = ap length split ∙ length_push old.pending.items e in
      let more = ap length opens.pending ∙ length-append old.pending.items (edges_from (length old.path.items) (row_of rows e.to)) in
      let row = length-map (row_of rows e.to) make in
      let parts = ap length opens.starts ∙ length_push old.starts.items (length old.path.items) in
      omega (arith, cost, left, fewer, more, row, parts)

-- a node is put on the empty path
pub opened_first : (rows : List (List ℕ)) (old new : Search) (a : ℕ) → IsSound rows old → old.path.items ≡ [] →
    a < length rows → mark_of old.marks.items a ≡ New → Opens rows old new a → IsSound rows new
opened_first rows old new a sound none node unmet opens =
    let empty : length old.path.items ≡ 0 = ap length none in
    consistent_at rows _ new.marks.items _ new.path.items _ new.starts.items _ new.pending.items _ new.done.items _ new.least opens.marks opens.path opens.starts opens.pending opens.done opens.least
    (opened rows old.marks.items old.path.items old.starts.items old.pending.items old.done.items old.least sound a node unmet old.pending.items (λ e there. there) sound.by_place (λ p b h there. inl there) (λ p h. absurd (omega arith)))

-- the last edge leads to a node
pub edge_node : (rows : List (List ℕ)) (s : Search) (e : Edge) → ReadsOnlyNodes rows → IsSound rows s →
    IsLast s.pending.items e → e.to < length rows
edge_node rows s e only sound last =
    read_node rows (get_or s.path.items e.from 0) e.to only (sound.edges e (last_inside s.pending.items last.0 e last.1)).1

-- what has a mark is a node
pub node_from_mark : (marks : List Mark) (a : ℕ) → (mark_of marks a ≡ New → ⊥) → a < length marks
node_from_mark marks a met =
    elim (cases_lt a (length marks)) [
      | inl inside ↦ inside
      | inr past ↦ absurd (met (get_or_past marks a New past))
    ]

pub path_nodes : (rows : List (List ℕ)) (s : Search) → IsSound rows s →
    All (λ a. a < length s.marks.items) s.path.items
path_nodes rows s sound =
    All-from_get_or (λ a. a < length s.marks.items) s.path.items 0 (λ p h.
    node_from_mark s.marks.items (get_or s.path.items p 0) (λ unmet. let stands = sound.placed p h in let bad : ⊥ = cc in bad))

-- the last part is taken off the path
module _ (rows : List (List ℕ)) (old : Search) (sound : IsSound rows old) (start : ℕ) (starts : List ℕ)
    (split : old.starts.items ≡ starts ++ start ∷ [])
    (followed : All (λ (e : Edge). e.from < start) old.pending.items)
    (part : List ℕ) (whole : part ≡ drop start old.path.items)
    (marks : List Mark) (size : length marks ≡ length old.marks.items)
    (settled : (a : ℕ) → Contains part a → mark_of marks a ≡ Done)
    (others : (a : ℕ) → (Contains part a → ⊥) → mark_of marks a ≡ mark_of old.marks.items a)
    (least : Option ℕ) (notes : NotesPart old.least part least) where
  each_followed : (e : Edge) → Contains old.pending.items e → e.from < start
  each_followed e there = All-contains (λ (e : Edge). e.from < start) old.pending.items e followed there

  each_settled : (a : ℕ) → Contains (drop start old.path.items) a → mark_of marks a ≡ Done
  each_settled = subst (λ xs. (a : ℕ) → Contains xs a → mark_of marks a ≡ Done) whole settled

  each_other : (a : ℕ) → (Contains (drop start old.path.items) a → ⊥) →
      mark_of marks a ≡ mark_of old.marks.items a
  each_other = subst (λ xs. (a : ℕ) → (Contains xs a → ⊥) → mark_of marks a ≡ mark_of old.marks.items a) whole others

  pub settled_next : IsConsistent rows marks (take start old.path.items) starts old.pending.items (old.done.items ++ part) least
  settled_next =
      subst (λ xs. IsConsistent rows marks (take start old.path.items) starts old.pending.items (old.done.items ++ xs) least) (sym whole)
      (settled_part rows old.marks.items old.path.items old.starts.items old.pending.items old.done.items old.least sound start starts split each_followed marks size each_settled each_other least
      (subst (λ xs. NotesPart old.least xs least) whole notes))

  pub nearer_settled : cost_to_come marks rows + (length old.pending.items + length starts) < steps_left rows old
  nearer_settled =
      let fewer = ap length split ∙ length_push starts start in
      let cost = cost_falls old.marks.items marks rows size (keeps_met rows old.marks.items old.path.items old.starts.items old.pending.items old.done.items old.least sound start starts split each_followed marks size each_settled each_other least
      (subst (λ xs. NotesPart old.least xs least) whole notes)) in
      omega (arith, fewer, cost)

-- once the path is empty, each node that was met is done
pub all_done : (rows : List (List ℕ)) (s : Search) → IsSound rows s → s.path.items ≡ [] →
    ((a : ℕ) → a < length rows → mark_of s.marks.items a ≡ New → ⊥) → (a : ℕ) → a < length rows →
    mark_of s.marks.items a ≡ Done
all_done rows s sound none met a h =
    elim (kind_of (mark_of s.marks.items a)) [
      | is_new e ↦ absurd (met a h e)
      | is_open p e ↦
          let empty : length s.path.items ≡ 0 = ap length none in
          absurd (omega (arith, (sound.open_stands a p e).0))
      | is_done e ↦ e
    ]

-- a part begins on the path
pub start_on_path : (rows : List (List ℕ)) (s : Search) (start : ℕ) → IsSound rows s →
    IsLast s.starts.items start → start < length s.path.items
start_on_path rows s start sound last =
    sound.starts_inside start (subst (λ xs. Contains xs start) (sym last.1) (Contains-push last.0 start))
