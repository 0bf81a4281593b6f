-- Children that are published one by one.
use Rattle.std.proofs.Common.{◌≡◌, ◌≢◌, ℕ, zero, suc, ◌+◌, ◌<◌, ◌≤◌, List, [], ◌∷◌, ◌++◌, length, take, set, refl, sym, ◌∙◌, ap, subst, arith}
use Rattle.std.specs.Prelude.{slice_get, Some}
use Rattle.std.proofs.lemmas.List.{length-set, take_more, take_more_set, take_all}
use Rattle.std.proofs.lemmas.Option.{slice_get_within, get_or_from_slice_get}
use Rattle.model_stage.specs.Model.{Model}
use Rattle.wrapper_core.specs.declared.wrapped.Wrapped.{Wrapped}
use Rattle.wrapper_core.specs.Events.{IsPublished, ArePublished}
use Rattle.wrapper_core.specs.code.Cores.{KeepsOwn, PublishesAt}
use Rattle.wrapper_core.specs.declared.block.Block.{Block}

pub got_other : {X : Type 0} (xs : List X) (i j : ℕ) (y : X) → j ≢ i → slice_get (set xs i y) j ≡ slice_get xs j
got_other [] i j y other = refl
got_other (x ∷ xs) zero zero y other = absurd (other refl)
got_other (x ∷ xs) zero (suc j) y other = refl
got_other (x ∷ xs) (suc i) zero y other = refl
got_other (x ∷ xs) (suc i) (suc j) y other = got_other xs i j y (λ e. other (ap suc e))

pub own_then : (a b c : Block) → KeepsOwn a b → KeepsOwn b c → KeepsOwn a c
own_then a b c first second = record {
  keeps = record { code = second.keeps.code ∙ first.keeps.code; slots = second.keeps.slots ∙ first.keeps.slots };
  held = second.held ∙ first.held;
  registers = second.registers ∙ first.registers;
}

pub own_same : (a : Block) → KeepsOwn a a
own_same a = record { keeps = record { code = refl; slots = refl }; held = refl; registers = refl }

module _ {X : Type 0} (model : X → Model) where
  published_push : (cs ds : List (Wrapped X)) (c d : Wrapped X) → ArePublished model cs ds → IsPublished model c d → ArePublished model (cs ++ c ∷ []) (ds ++ d ∷ [])
  published_push [] [] c d all one = (one, tt)
  published_push [] (y ∷ ds) c d all one = absurd all
  published_push (x ∷ cs) [] c d all one = absurd all
  published_push (x ∷ cs) (y ∷ ds) c d all one = (all.0, published_push cs ds c d all.1 one)

  -- the children below k are published, and the others are as they were
  pub record IsPublishedUpTo (old now : List (Wrapped X)) (k : ℕ) : Type 0 where
    pub each : length now ≡ length old
    pub done : ArePublished model (take k old) (take k now)
    pub later : (j : ℕ) → k ≤ j → slice_get now j ≡ slice_get old j

  pub published_none : (old : List (Wrapped X)) → IsPublishedUpTo old old 0
  published_none old = record { each = refl; done = tt; later = λ j past. refl }

  pub published_more : (old now next : List (Wrapped X)) (k : ℕ) → IsPublishedUpTo old now k → PublishesAt model k now next → IsPublishedUpTo old next (k + 1)
  published_more old now next k was one =
      let inside : k < length now = slice_get_within now k one.was one.was_at in
      let old_at : slice_get old k ≡ Some one.was = sym (was.later k (omega arith)) ∙ one.was_at in
      let inside_old : k < length old = slice_get_within old k one.was old_at in
      let old_front : take (k + 1) old ≡ take k old ++ one.was ∷ [] = take_more old k one.was inside_old ∙ ap (λ x. take k old ++ x ∷ []) (get_or_from_slice_get old k one.was one.was old_at) in
      let next_front : take (k + 1) next ≡ take k now ++ one.now ∷ [] = ap (take (k + 1)) one.rest ∙ take_more_set now k one.now inside in
      record {
        each = ap length one.rest ∙ length-set now k one.now ∙ was.each;
        done = subst (λ xs. ArePublished model xs (take (k + 1) next)) (sym old_front) (subst (ArePublished model (take k old ++ one.was ∷ [])) (sym next_front) (published_push (take k old) (take k now) one.was one.now was.done one.published));
        later = λ j past. ap (λ xs. slice_get xs j) one.rest ∙ got_other now k j one.now (λ e. let clash : ⊥ = omega (arith, e, past) in clash) ∙ was.later j (omega (arith, past));
      }

  pub published_all : (old now : List (Wrapped X)) (k : ℕ) → length old ≤ k → IsPublishedUpTo old now k → ArePublished model old now
  published_all old now k long was =
      subst (λ xs. ArePublished model xs now) (take_all k old long) (subst (ArePublished model (take k old)) (take_all k now (let e : length now ≤ k = omega (arith, long, was.each) in e)) was.done)
