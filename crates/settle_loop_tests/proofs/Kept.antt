-- What events keep, and when a world is at rest.
use Rattle.std.proofs.Common.{◌≡◌, ℕ, zero, suc, List, [], ◌∷◌, map, take, drop, refl, sym, ◌∙◌, ap, subst}
use Rattle.std.proofs.lemmas.Option.{none-some, same_Some}
use Rattle.std.specs.Prelude.{Some, slice_get}
use Rattle.code_isa.specs.Settled.{IsFilled}
use Rattle.model_stage.specs.Model.{Model}
use Rattle.wrapper_core.specs.declared.event.Event.{Event}
use Rattle.wrapper_core.specs.declared.event.Event.TheVariants.{Own, Update, StrikeOwn, Strike, Commit}
use Rattle.wrapper_core.specs.declared.wrapped.Wrapped.{Wrapped}
use Rattle.wrapper_core.specs.Snapshot.{Calm, Snapshot, all_shown}
use Rattle.wrapper_core.specs.Events.{IsUpdatable, Does, DoesOwn, Schedule, IsQuiescent}

module _ {X : Type 0} (model : X → Model) where
  -- an event keeps the machine
  pub does_code : (e : Event) (s z : Snapshot X) → Does model e s z → z.code ≡ s.code
  does_code Own s z does = ap (λ (x : Snapshot X). x.code) does.rest
  does_code (Update i) s z does = ap (λ (x : Snapshot X). x.code) does.rest
  does_code StrikeOwn s z does = ap (λ (x : Snapshot X). x.code) does.rest
  does_code (Strike i) s z does = ap (λ (x : Snapshot X). x.code) does.rest
  does_code Commit s z does = ap (λ (x : Snapshot X). x.code) does.rest

  pub schedule_code : (events : List Event) (s z : Snapshot X) → Schedule model events s z → z.code ≡ s.code
  schedule_code [] s z same = ap (λ (x : Snapshot X). x.code) same
  schedule_code (e ∷ events) s z goes = schedule_code events goes.next z goes.goes ∙ does_code e s goes.next goes.does

  -- after the own code it changes nothing
  own_again : (s z : Snapshot X) → DoesOwn s z → DoesOwn z z
  own_again s z does = record {
    filled = subst (λ (y : Snapshot X). IsFilled y.code y.held y.registers y.slots (all_shown y.children)) (sym does.rest) does.filled;
    rest = refl;
  }

  -- so then the world is quiescent, where no update is enabled
  pub rests : (s z : Snapshot X) → s.phase ≡ Calm → DoesOwn s z → ((i : ℕ) → IsUpdatable model z i → ⊥) → IsQuiescent model z
  rests s z calm does none = record {
    calm = ap (λ (x : Snapshot X). x.phase) does.rest ∙ calm;
    none = none;
    own = own_again s z does;
  }

-- the child at a place is the one that is read there
pub child_is : {X : Type 0} (xs : List (Wrapped X)) (i : ℕ) (x : Wrapped X) (r : X) → slice_get xs i ≡ Some x →
    map (λ (c : Wrapped X). c.child) (take 1 (drop i xs)) ≡ r ∷ [] → x.child ≡ r
child_is [] i x r at read = absurd (none-some x at)
child_is {X = X} (y ∷ ys) zero x r at read =
    let first : y.child ≡ r = cc read in
    ap (λ (c : Wrapped X). c.child) (sym (same_Some y x at)) ∙ first
child_is (y ∷ ys) (suc i) x r at read = child_is ys i x r at read
