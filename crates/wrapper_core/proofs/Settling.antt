-- Where a world is quiescent, it is in the settled state of its tree.
use Rattle.std.proofs.Common.{◌≡◌, ◌≢◌, ℕ, suc, ◌⊎◌, inl, inr, List, [], ◌∷◌, ◌++◌, length, map, drop, get_or, refl, ◌∙◌, ap, subst, arith}
use Rattle.std.specs.Prelude.{slice_get, Some}
use Rattle.std.proofs.lemmas.Bool.{cases_eq}
use Rattle.bit_ops.specs.Lists.{words}
use Rattle.code_isa.specs.declared.machine.Kid.{Kid}
use Rattle.code_isa.specs.Tree.{forest_of, held_of, outs_of, outs_of_all, words_at}
use Rattle.code_isa.specs.Settled.{IsFilled, IsSettled, AreSettled}
use Rattle.model_stage.specs.Model.{Model}
use Rattle.sequence_select.specs.Shown.{shown}
use Rattle.wrapper_core.specs.declared.wrapped.Wrapped.{Wrapped}
use Rattle.wrapper_core.specs.Snapshot.{Snapshot, all_shown, states_of, tree_in, state_in}
use Rattle.wrapper_core.specs.Events.{IsQuiescent}

-- two lists of numbers are equal or not
pub cases_list : (xs ys : List ℕ) → (xs ≡ ys) ⊎ (xs ≢ ys)
cases_list [] [] = inl refl
cases_list [] (y ∷ ys) = inr (λ e. let size : length {A = ℕ} [] ≡ length (y ∷ ys) = ap length e in let clash : ⊥ = omega (arith, size) in clash)
cases_list (x ∷ xs) [] = inr (λ e. let size : length (x ∷ xs) ≡ length {A = ℕ} [] = ap length e in let clash : ⊥ = omega (arith, size) in clash)
cases_list (x ∷ xs) (y ∷ ys) = elim (cases_eq x y) [
  | inl first ↦ elim (cases_list xs ys) [
    | inl rest ↦ inl (ap (λ z. z ∷ xs) first ∙ ap (λ zs. y ∷ zs) rest)
    | inr other ↦ inr (λ e. other (ap (drop 1) e))
  ]
  | inr other ↦ inr (λ e. other (ap (λ zs. get_or zs 0 0) e))
]

module _ {X : Type 0} (model : X → Model) where
  -- what the wrappers show are the outputs of the children's trees
  shown_outs : (cs : List (Wrapped X)) → ((i : ℕ) (c : Wrapped X) → slice_get cs i ≡ Some c → words (shown c.wrapper) ≡ outs_of (model c.child).tree (model c.child).state) →
      all_shown cs ≡ outs_of_all (forest_of (map (λ (c : Wrapped X). (model c.child).tree) cs)) (states_of (map (λ (c : Wrapped X). (model c.child).state) cs))
  shown_outs [] each = refl
  shown_outs (c ∷ cs) each =
      ap (λ xs. xs ++ all_shown cs) (each 0 c refl) ∙ ap (λ xs. outs_of (model c.child).tree (model c.child).state ++ xs) (shown_outs cs (λ i d at. each (suc i) d at))

  kids_settled : (slots : List ℕ) (kids : List Kid) (cs : List (Wrapped X)) → length cs ≡ length kids →
      ((i : ℕ) (kid : Kid) (c : Wrapped X) → slice_get kids i ≡ Some kid → slice_get cs i ≡ Some c →
      (held_of (model c.child).state ≡ words_at slots kid.ins) × IsSettled (model c.child).tree (model c.child).state) →
      AreSettled (forest_of (map (λ (c : Wrapped X). (model c.child).tree) cs)) kids slots (states_of (map (λ (c : Wrapped X). (model c.child).state) cs))
  kids_settled slots [] [] same each = tt
  kids_settled slots [] (c ∷ cs) same each = absurd (let clash : ⊥ = omega (arith, same) in clash)
  kids_settled slots (kid ∷ kids) [] same each = absurd (let clash : ⊥ = omega (arith, same) in clash)
  kids_settled slots (kid ∷ kids) (c ∷ cs) same each =
      let one = each 0 kid c refl refl in
      (one.0, one.1, kids_settled slots kids cs (let e : length cs ≡ length kids = omega (arith, same) in e) (λ i k d ki di. each (suc i) k d ki di))

  pub quiescent_settled : (s : Snapshot X) → length s.children ≡ length s.code.kids →
      ((i : ℕ) (kid : Kid) (c : Wrapped X) → slice_get s.code.kids i ≡ Some kid → slice_get s.children i ≡ Some c →
      (words (shown c.wrapper) ≡ outs_of (model c.child).tree (model c.child).state) × IsSettled (model c.child).tree (model c.child).state) →
      ((i : ℕ) (c : Wrapped X) → slice_get s.children i ≡ Some c → (kid : Kid) × (slice_get s.code.kids i ≡ Some kid)) →
      IsQuiescent model s → IsSettled (tree_in model s) (state_in model s)
  quiescent_settled s same each kid_of quiet =
      let held : (i : ℕ) (kid : Kid) (c : Wrapped X) → slice_get s.code.kids i ≡ Some kid → slice_get s.children i ≡ Some c → held_of (model c.child).state ≡ words_at s.slots kid.ins =
      λ i kid c ki ci. elim (cases_list (held_of (model c.child).state) (words_at s.slots kid.ins)) [
        | inl equal ↦ equal
        | inr other ↦ absurd (quiet.none i (record { calm = quiet.calm; kid = kid; kid_at = ki; was = c; was_at = ci; differs = other }))
      ] in
      let outs : all_shown s.children ≡ outs_of_all (forest_of (map (λ (c : Wrapped X). (model c.child).tree) s.children)) (states_of (map (λ (c : Wrapped X). (model c.child).state) s.children)) =
      shown_outs s.children (λ i c ci. let one = kid_of i c ci in (each i one.0 c one.1 ci).0) in (
        subst (IsFilled s.code s.held s.registers s.slots) outs quiet.own.filled,
        kids_settled s.slots s.code.kids s.children same (λ i kid c ki ci. (held i kid c ki ci, (each i kid c ki ci).1)),
      )
