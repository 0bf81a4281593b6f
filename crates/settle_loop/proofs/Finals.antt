-- A child's outputs have their last values where the inputs in their rows have, and what a visit makes of that.
use Rattle.std.proofs.Common.{◌≡◌, ℕ, suc, ◌-◌, ◌<◌, inl, inr, List, [], ◌∷◌, ◌++◌, length, map, refl, sym, ◌∙◌, ap, subst, arith}
use Rattle.std.specs.Prelude.{Contains, slice_index, slice_index_or, slice_get, Some}
use Rattle.std.specs.List.{flat_map}
use Rattle.std.proofs.lemmas.Bool.{cases_lt}
use Rattle.std.proofs.lemmas.List.{get_or_past, get_or_append_left, get_or-append_right, get_or-map, length-map}
use Rattle.bit_ops.specs.Lists.{words}
use Rattle.code_isa.specs.declared.machine.Kid.{Kid}
use Rattle.code_isa.specs.Dependence.{kid_reads}
use Rattle.code_isa.specs.Checks.{row_at}
use Rattle.code_isa.specs.Tree.{Tree, forest_of, AreLinked, State, States, no_state, state_and, held_of, outs_of, outs_of_all, words_at}
use Rattle.code_isa.specs.Settled.{IsSettled, AreSettled, HaveAllSame}
use Rattle.code_isa.proofs.One.{words_size, out_size, outs_agree}
use Rattle.model_stage.specs.Model.{Model}
use Rattle.sequence_select.specs.Shown.{shown}
use Rattle.wrapper_core.specs.declared.wrapped.Wrapped.{Wrapped}
use Rattle.wrapper_core.specs.Snapshot.{all_shown, states_of}

contains_map : (f : ℕ → ℕ) (xs : List ℕ) (x : ℕ) → Contains xs x → Contains (map f xs) (f x)
contains_map f xs x there = (there.0, omega (arith, length-map xs f, there.1), get_or-map f xs there.0 x (f x) there.1 ∙ ap f there.2)

-- one child and those after it, where some of its held inputs have their last values
module _ (good : ℕ → Type 0) (kid : Kid) (kids : List Kid) (xs ys more less held also : List ℕ) (size_x : length xs ≡ length kid.summary.rows) (size_y : length ys ≡ length kid.summary.rows) (agree : (p : ℕ) → good (slice_index kid.ins p) → slice_index held p ≡ slice_index also p) (first : (o : ℕ) → ((input : ℕ) → Contains (row_at kid.summary o) input → slice_index held input ≡ slice_index also input) → slice_index xs o ≡ slice_index ys o) (rest : (o : ℕ) → ((x : ℕ) → Contains (slice_index_or (flat_map kid_reads kids) o []) x → good x) → slice_index more o ≡ slice_index less o) where
  rows_size : length (kid_reads kid) ≡ length kid.summary.rows
  rows_size = length-map kid.summary.rows (λ (row : List ℕ). map (λ p. slice_index kid.ins p) row)

  first_row : (o : ℕ) → o < length kid.summary.rows → slice_index_or (kid_reads kid ++ flat_map kid_reads kids) o [] ≡ map (λ p. slice_index kid.ins p) (row_at kid.summary o)
  first_row o inside =
      get_or_append_left (kid_reads kid) (flat_map kid_reads kids) [] o (omega (arith, rows_size))
      ∙ get_or-map (λ (row : List ℕ). map (λ p. slice_index kid.ins p) row) kid.summary.rows o [] [] inside

  pub and_final : (o : ℕ) → ((x : ℕ) → Contains (slice_index_or (kid_reads kid ++ flat_map kid_reads kids) o []) x → good x) → slice_index (xs ++ more) o ≡ slice_index (ys ++ less) o
  and_final o read =
      let n : ℕ = length kid.summary.rows in
      elim (cases_lt o n) [
        | inl inside ↦
            get_or_append_left xs more 0 o (omega (arith, size_x))
            ∙ first o (λ input there. agree input (read (slice_index kid.ins input) (subst (λ zs. Contains zs (slice_index kid.ins input)) (sym (first_row o inside)) (contains_map (λ p. slice_index kid.ins p) (row_at kid.summary o) input there))))
            ∙ sym (get_or_append_left ys less 0 o (omega (arith, size_y)))
        | inr past ↦
            let row : slice_index_or (kid_reads kid ++ flat_map kid_reads kids) o [] ≡ slice_index_or (flat_map kid_reads kids) (o - n) [] = get_or-append_right (kid_reads kid) (flat_map kid_reads kids) n o [] rows_size past in
            get_or-append_right xs more n o 0 size_x past ∙ rest (o - n) (λ x there. read x (subst (λ zs. Contains zs x) (sym row) there)) ∙ sym (get_or-append_right ys less n o 0 size_y past)
      ]

module _ {X : Type 0} (model : X → Model) (good : ℕ → Type 0) (u : List ℕ) where
  abbrev tree : Wrapped X → Tree
  tree c = (model c.child).tree

  abbrev now : Wrapped X → State
  now c = (model c.child).state

  -- all children
  pub outs_final : (kids : List Kid) (cs : List (Wrapped X)) (zs : States) → AreLinked (forest_of (map tree cs)) kids → AreSettled (forest_of (map tree cs)) kids u zs → HaveAllSame (states_of (map now cs)) zs →
      ((i : ℕ) (c : Wrapped X) → slice_get cs i ≡ Some c → IsSettled (tree c) (now c)) →
      ((i : ℕ) (c : Wrapped X) → slice_get cs i ≡ Some c → words (shown c.wrapper) ≡ outs_of (tree c) (now c)) →
      ((i : ℕ) (kid : Kid) (c : Wrapped X) → slice_get kids i ≡ Some kid → slice_get cs i ≡ Some c → (p : ℕ) → good (slice_index kid.ins p) → slice_index (held_of (now c)) p ≡ slice_index (words_at u kid.ins) p) →
      (o : ℕ) → ((x : ℕ) → Contains (slice_index_or (flat_map kid_reads kids) o []) x → good x) → slice_index (all_shown cs) o ≡ slice_index (outs_of_all (forest_of (map tree cs)) zs) o
  outs_final kids [] zs linked last same settled shows held o read = refl
  outs_final [] (c ∷ cs) zs linked last same settled shows held o read = absurd linked
  outs_final (kid ∷ kids) (c ∷ cs) no_state linked last same settled shows held o read = absurd last
  outs_final (kid ∷ kids) (c ∷ cs) (state_and z zs) linked last same settled shows held o read =
      ap (λ xs. slice_index (xs ++ all_shown cs) o) (shows 0 c refl)
      ∙ and_final good kid kids (outs_of (tree c) (now c)) (outs_of (tree c) z) (all_shown cs) (outs_of_all (forest_of (map tree cs)) zs) (held_of (now c)) (held_of z)
      (out_size (tree c) (now c) kid linked.0) (out_size (tree c) z kid linked.0)
      (λ p is. held 0 kid c refl refl p is ∙ ap (λ ws. slice_index ws p) (sym last.0))
      (λ p agree. outs_agree (tree c) (now c) z linked.2 (settled 0 c refl) last.1 same.0 p (λ input there. agree input (subst (λ summary. Contains (row_at summary p) input) linked.1 there)))
      (outs_final kids cs zs linked.3 last.2 same.1 (λ i d at. settled (suc i) d at) (λ i d at. shows (suc i) d at) (λ i k d ki di. held (suc i) k d ki di))
      o read

-- words of slots that are the same where it counts
pub words_final : (good : ℕ → Type 0) (v u slots : List ℕ) → ((s : ℕ) → good s → slice_index v s ≡ slice_index u s) → (p : ℕ) → good (slice_index slots p) → slice_index (words_at v slots) p ≡ slice_index (words_at u slots) p
words_final good v u slots same p is =
    elim (cases_lt p (length slots)) [
      | inl inside ↦
          get_or-map (λ slot. slice_index v slot) slots p 0 0 inside ∙ same (slice_index slots p) is ∙ sym (get_or-map (λ slot. slice_index u slot) slots p 0 0 inside)
      | inr past ↦ get_or_past (words_at v slots) p 0 (omega (arith, words_size v slots)) ∙ sym (get_or_past (words_at u slots) p 0 (omega (arith, words_size u slots)))
    ]
