-- The events of a world: when each is enabled, and what it does.
use Rattle.std.specs.Prelude.{◌≡◌, ◌≢◌, ℕ, ◌<◌, ◌≤◌, ⊤, Bool, true, false, Option, Some, None, List, [], ◌∷◌, slice_get, slice_set}
use Rattle.bit_ops.specs.Lists.{words, widths}
use Rattle.code_isa.specs.declared.machine.Kid.{Kid}
use Rattle.code_isa.specs.declared.machine.Machine.{Machine}
use Rattle.code_isa.specs.Tree.{held_of, words_at}
use Rattle.code_isa.specs.Settled.{IsFilled}
use Rattle.code_isa.specs.Traces.{sampled, levels_at}
use Rattle.model_stage.specs.Model.{Model, Updates, Strikes, Publishes}
use Rattle.sequence_select.specs.Shown.{Taken}
use Rattle.wrapper_core.specs.declared.event.Event.{Event}
use Rattle.wrapper_core.specs.declared.event.Event.TheVariants.{Own, Update, StrikeOwn, Strike, Commit}
use Rattle.wrapper_core.specs.declared.wrapped.Wrapped.{Wrapped}
use Rattle.wrapper_core.specs.Snapshot.{Calm, Striking, Snapshot, all_shown, with_slots, with_phase, with_children, committed}

-- ---- when an event is enabled

-- the child is there, and it holds other inputs than the words of the slots that it is joined to
pub record IsUpdatable {X : Type 0} (model : X → Model) (s : Snapshot X) (i : ℕ) : Type 0 where
  pub calm : s.phase ≡ Calm
  pub kid : Kid
  pub kid_at : slice_get s.code.kids i ≡ Some kid
  pub was : Wrapped X
  pub was_at : slice_get s.children i ≡ Some was
  pub differs : held_of (model was.child).state ≢ words_at s.slots kid.ins

-- a strike is under way, and the registers are not sampled yet
pub record IsSamplable {X : Type 0} (s : Snapshot X) : Type 0 where
  pub before : List Bool
  pub striking : s.phase ≡ Striking before None

-- a strike is under way, and the child is there and is not struck yet
pub record IsStrikable {X : Type 0} (s : Snapshot X) (i : ℕ) : Type 0 where
  pub before : List Bool
  pub sampled : Option (List ℕ)
  pub striking : s.phase ≡ Striking before sampled
  pub was : Wrapped X
  pub was_at : slice_get s.children i ≡ Some was
  pub unstruck : was.struck ≡ false

-- the registers are sampled, and all children are struck
pub record IsCommittable {X : Type 0} (s : Snapshot X) : Type 0 where
  pub before : List Bool
  pub sampled : List ℕ
  pub striking : s.phase ≡ Striking before (Some sampled)
  pub struck : (i : ℕ) (c : Wrapped X) → slice_get s.children i ≡ Some c → c.struck ≡ true

abbrev pub IsEnabled : {X : Type 0} → (X → Model) → Snapshot X → Event → Type 0
IsEnabled model s Own = s.phase ≡ Calm
IsEnabled model s (Update i) = IsUpdatable model s i
IsEnabled model s StrikeOwn = IsSamplable s
IsEnabled model s (Strike i) = IsStrikable s i
IsEnabled model s Commit = IsCommittable s

-- ---- what an event does

-- the slots hold the held inputs, the registers and the shown outputs, and every instruction has its value
pub record DoesOwn {X : Type 0} (s z : Snapshot X) : Type 0 where
  pub filled : IsFilled s.code s.held s.registers z.slots (all_shown s.children)
  pub rest : z ≡ with_slots s z.slots

-- a wrapper takes the number and the outputs of a model after an update
pub record TakesUpdate (m : Model) (old new : Taken) : Type 0 where
  pub number : new.combo_no ≡ m.number
  pub outs : words new.out_combo ≡ m.shown
  pub wide : widths new.out_combo ≡ widths old.out_combo
  pub seq_no : new.seq_no ≡ old.seq_no
  pub out_seq : new.out_seq ≡ old.out_seq

-- so after a step of clocks
pub record TakesStrike (m : Model) (old new : Taken) : Type 0 where
  pub combo_no : new.combo_no ≡ old.combo_no
  pub out_combo : new.out_combo ≡ old.out_combo
  pub number : new.seq_no ≡ m.number
  pub outs : words new.out_seq ≡ m.shown
  pub wide : widths new.out_seq ≡ widths old.out_seq

-- one child of a list is updated with the words of the slots that it is joined to, and its outputs are taken
pub record UpdatesAt {X : Type 0} (model : X → Model) (i : ℕ) (m : Machine) (slots : List ℕ) (old new : List (Wrapped X)) : Type 0 where
  pub kid : Kid
  pub kid_at : slice_get m.kids i ≡ Some kid
  pub was : Wrapped X
  pub was_at : slice_get old i ≡ Some was
  pub now : Wrapped X
  pub updates : Updates (words_at slots kid.ins) (model was.child) (model now.child)
  pub takes : TakesUpdate (model now.child) was.wrapper now.wrapper
  pub struck : now.struck ≡ was.struck
  pub rest : new ≡ slice_set old i now

-- so in a world, where nothing else changes
pub record DoesUpdate {X : Type 0} (model : X → Model) (i : ℕ) (s z : Snapshot X) : Type 0 where
  pub at : UpdatesAt model i s.code s.slots s.children z.children
  pub rest : z ≡ with_children s z.children

-- the registers whose edge occurs are sampled, by the edges between the levels before and those now
pub record DoesStrikeOwn {X : Type 0} (s z : Snapshot X) : Type 0 where
  pub before : List Bool
  pub striking : s.phase ≡ Striking before None
  pub rest : z ≡ with_phase s (Striking before (Some (sampled before s.levels s.slots s.code.regs s.registers)))

-- one child of a list is struck with the levels that it is joined to, and nothing of it is shown
pub record StrikesAt {X : Type 0} (model : X → Model) (i : ℕ) (m : Machine) (levels : List Bool) (old new : List (Wrapped X)) : Type 0 where
  pub kid : Kid
  pub kid_at : slice_get m.kids i ≡ Some kid
  pub was : Wrapped X
  pub was_at : slice_get old i ≡ Some was
  pub now : Wrapped X
  pub strikes : Strikes (levels_at levels kid.clocks) (model was.child) (model now.child)
  pub wrapper : now.wrapper ≡ was.wrapper
  pub struck : now.struck ≡ true
  pub rest : new ≡ slice_set old i now

-- so in a world, where nothing else changes
pub record DoesStrike {X : Type 0} (model : X → Model) (i : ℕ) (s z : Snapshot X) : Type 0 where
  pub at : StrikesAt model i s.code s.levels s.children z.children
  pub rest : z ≡ with_children s z.children

-- a child is published, and its outputs are taken
pub record IsPublished {X : Type 0} (model : X → Model) (was now : Wrapped X) : Type 0 where
  pub publishes : Publishes (model was.child) (model now.child)
  pub takes : TakesStrike (model now.child) was.wrapper now.wrapper
  pub unstruck : now.struck ≡ false

abbrev pub ArePublished : {X : Type 0} → (X → Model) → List (Wrapped X) → List (Wrapped X) → Type 0
ArePublished model [] [] = Unit {0}
ArePublished model [] (d ∷ ds) = ⊥
ArePublished model (c ∷ cs) [] = ⊥
ArePublished model (c ∷ cs) (d ∷ ds) = IsPublished model c d × ArePublished model cs ds

-- the registers get the words that were sampled, every child is published, and the world is calm
pub record DoesCommit {X : Type 0} (model : X → Model) (s z : Snapshot X) : Type 0 where
  pub before : List Bool
  pub sampled : List ℕ
  pub striking : s.phase ≡ Striking before (Some sampled)
  pub published : ArePublished model s.children z.children
  pub rest : z ≡ committed s sampled z.children

abbrev pub Does : {X : Type 0} → (X → Model) → Event → Snapshot X → Snapshot X → Type 0
Does model Own s z = DoesOwn s z
Does model (Update i) s z = DoesUpdate model i s z
Does model StrikeOwn s z = DoesStrikeOwn s z
Does model (Strike i) s z = DoesStrike model i s z
Does model Commit s z = DoesCommit model s z

-- ---- schedules

-- one event, enabled where it stands, and then others
pub record Goes {X : Type 0} (model : X → Model) (s : Snapshot X) (e : Event) (rest : Snapshot X → Type 0) : Type 0 where
  pub enabled : IsEnabled model s e
  pub next : Snapshot X
  pub does : Does model e s next
  pub goes : rest next

-- the events are a schedule, each enabled where it stands, and lead from the first moment to the second
abbrev pub Schedule : {X : Type 0} → (X → Model) → List Event → Snapshot X → Snapshot X → Type 0
Schedule model [] s z = z ≡ s
Schedule model (e ∷ events) s z = Goes model s e (λ t. Schedule model events t z)

-- calm, no update is enabled, and the own code changes nothing
pub record IsQuiescent {X : Type 0} (model : X → Model) (s : Snapshot X) : Type 0 where
  pub calm : s.phase ≡ Calm
  pub none : (i : ℕ) → IsUpdatable model s i → ⊥
  pub own : DoesOwn s s

-- ---- rooms

-- each child has this much room
abbrev pub HasRoom : {X : Type 0} → (X → Model) → ℕ → Snapshot X → Type 0
HasRoom {X = X} model n s = (i : ℕ) (c : Wrapped X) → slice_get s.children i ≡ Some c → n ≤ (model c.child).room

-- the child that an event updates or strikes has room
abbrev pub HasRoomFor : {X : Type 0} → (X → Model) → Snapshot X → Event → Type 0
HasRoomFor {X = X} model s Own = ⊤
HasRoomFor {X = X} model s (Update i) = (c : Wrapped X) → slice_get s.children i ≡ Some c → 0 < (model c.child).room
HasRoomFor {X = X} model s StrikeOwn = ⊤
HasRoomFor {X = X} model s (Strike i) = (c : Wrapped X) → slice_get s.children i ≡ Some c → 0 < (model c.child).room
HasRoomFor {X = X} model s Commit = ⊤
