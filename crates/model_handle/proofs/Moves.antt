-- What a world keeps, for its tree and its registers.
use Rattle.std.proofs.Common.{◌≡◌, ℕ, suc, ◌+◌, ◌-◌, ◌^◌, ◌<◌, ◌≤◌, List, [], ◌∷◌, length, map, refl, sym, ◌∙◌, ap, subst, arith}
use Rattle.std.specs.Prelude.{slice_get, Some}
use Rattle.std.proofs.lemmas.List.{length-map}
use Rattle.code_isa.specs.declared.machine.Machine.{Machine}
use Rattle.code_isa.specs.Tree.{node, forest_of, State}
use Rattle.code_isa.specs.Settled.{HaveSameRegisters, HaveAllSame}
use Rattle.model_stage.specs.Model.{Model}
use Rattle.wrapper_core.specs.declared.wrapped.Wrapped.{Wrapped}
use Rattle.wrapper_core.specs.Snapshot.{Snapshot, states_of, tree_in, state_in}
use Rattle.wrapper_core.specs.Events.{HasRoom}
use Rattle.settle_loop.specs.Kept.{Keeps}
use Rattle.model_handle.specs.Models.{least_room, room_of}
use Rattle.model_handle.proofs.Rooms.{least_own, least_fits, least_less, got_map, map_got}

-- values that each item keeps
pub maps_same : {X Y : Type 0} (f : X → Y) (cs ds : List X) → length ds ≡ length cs → ((i : ℕ) (c d : X) → slice_get cs i ≡ Some c → slice_get ds i ≡ Some d → f d ≡ f c) → map f ds ≡ map f cs
maps_same f [] [] size each = refl
maps_same f [] (d ∷ ds) size each = absurd (let clash : ⊥ = omega (arith, size) in clash)
maps_same f (c ∷ cs) [] size each = absurd (let clash : ⊥ = omega (arith, size) in clash)
maps_same f (c ∷ cs) (d ∷ ds) size each =
    ap (λ y. y ∷ map f ds) (each 0 c d refl refl)
    ∙ ap (λ ys. f c ∷ ys) (maps_same f cs ds (let e : length ds ≡ length cs = omega (arith, size) in e) (λ i x y xi yi. each (suc i) x y xi yi))

states_same : {X : Type 0} (now : X → State) (cs ds : List X) → length ds ≡ length cs → ((i : ℕ) (c d : X) → slice_get cs i ≡ Some c → slice_get ds i ≡ Some d → HaveSameRegisters (now c) (now d)) → HaveAllSame (states_of (map now cs)) (states_of (map now ds))
states_same now [] [] size each = tt
states_same now [] (d ∷ ds) size each = absurd (let clash : ⊥ = omega (arith, size) in clash)
states_same now (c ∷ cs) [] size each = absurd (let clash : ⊥ = omega (arith, size) in clash)
states_same now (c ∷ cs) (d ∷ ds) size each =
    (each 0 c d refl refl, states_same now cs ds (let e : length ds ≡ length cs = omega (arith, size) in e) (λ i x y xi yi. each (suc i) x y xi yi))

module _ {X : Type 0} (model : X → Model) where
  pub tree_kept : (n : ℕ) (s z : Snapshot X) → Keeps model n s z → tree_in model z ≡ tree_in model s
  tree_kept n s z keeps =
      ap (λ m. node m (forest_of (map (λ (c : Wrapped X). (model c.child).tree) z.children))) keeps.code
      ∙ ap (λ ts. node s.code (forest_of ts)) (maps_same (λ (c : Wrapped X). (model c.child).tree) s.children z.children keeps.each (λ i c d ci di. (keeps.children i c d ci di).tree))

  pub registers_kept : (n : ℕ) (s z : Snapshot X) → Keeps model n s z → HaveSameRegisters (state_in model s) (state_in model z)
  registers_kept n s z keeps =
      (sym keeps.registers, states_same (λ (c : Wrapped X). (model c.child).state) s.children z.children keeps.each (λ i c d ci di. (keeps.children i c d ci di).registers))

  -- a model with room leaves each child as much as settling and a strike take
  pub room_fits : (number : ℕ) (s : Snapshot X) → 0 < room_of model number s → HasRoom model (s.code.chain + 2) s
  room_fits number s room i c ci =
      least_fits (2 ^ 63 - number) (s.code.chain + 2) (map (λ (c : Wrapped X). (model c.child).room) s.children) i (model c.child).room (omega arith) room (got_map (λ (c : Wrapped X). (model c.child).room) s.children i c ci)

  pub room_number : (number : ℕ) (s : Snapshot X) → 0 < room_of model number s → number < 2 ^ 63
  room_number number s room =
      let own = least_own (2 ^ 63 - number) (s.code.chain + 2) (map (λ (c : Wrapped X). (model c.child).room) s.children) in
      omega (arith, room, own)

  -- a call that takes that much lowers the room by one at most
  pub room_less : (number : ℕ) (s z : Snapshot X) → z.code ≡ s.code → length z.children ≡ length s.children →
      ((i : ℕ) (c d : Wrapped X) → slice_get s.children i ≡ Some c → slice_get z.children i ≡ Some d → (model c.child).room ≤ (model d.child).room + (s.code.chain + 2)) →
      room_of model number s ≤ room_of model (number + 1) z + 1
  room_less number s z code each near =
      let room : Wrapped X → ℕ = λ (c : Wrapped X). (model c.child).room in
      subst (λ (m : Machine). room_of model number s ≤ least_room (2 ^ 63 - (number + 1)) (m.chain + 2) (map room z.children) + 1) (sym code)
      (least_less (2 ^ 63 - number) (2 ^ 63 - (number + 1)) (s.code.chain + 2) (map room s.children) (map room z.children) (omega arith)
      (length-map z.children room ∙ each ∙ sym (length-map s.children room)) (omega arith)
      (λ i r k ri ki.
      let one = map_got room s.children i r ri in
      let two = map_got room z.children i k ki in
      let low = near i one.0 two.0 one.1 two.1 in
      omega (arith, low, one.2, two.2)))
