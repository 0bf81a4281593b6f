-- States with the same registers.
use Rattle.std.proofs.Common.{◌≡◌, ℕ, zero, suc, List, [], ◌∷◌, map, set, refl, sym, ◌∙◌, ap, subst}
use Rattle.std.specs.Prelude.{slice_get, Some}
use Rattle.std.proofs.lemmas.Option.{none-some, same_Some}
use Rattle.code_isa.specs.declared.machine.Kid.{Kid}
use Rattle.code_isa.specs.Tree.{Tree, node, Forest, no_tree, tree_and, forest_of, State, state, States, no_state, state_and}
use Rattle.code_isa.specs.Settled.{IsSettled, AreSettled, HaveSameRegisters, HaveAllSame, HasRegisters, AllHaveRegisters}
use Rattle.wrapper_core.specs.Snapshot.{states_of}

mutual
  pub same_refl : (s : State) → HaveSameRegisters s s
  same_refl (state h r u ss) = (refl, all_same_refl ss)

  pub all_same_refl : (ss : States) → HaveAllSame ss ss
  all_same_refl no_state = tt
  all_same_refl (state_and s ss) = (same_refl s, all_same_refl ss)

mutual
  pub same_trans : (s z y : State) → HaveSameRegisters s z → HaveSameRegisters z y → HaveSameRegisters s y
  same_trans (state i r u ss) (state j q v zs) (state k p w ys) a b = (a.0 ∙ b.0, all_same_trans ss zs ys a.1 b.1)

  pub all_same_trans : (ss zs ys : States) → HaveAllSame ss zs → HaveAllSame zs ys → HaveAllSame ss ys
  all_same_trans no_state no_state no_state a b = tt
  all_same_trans no_state no_state (state_and y ys) a b = absurd b
  all_same_trans no_state (state_and z zs) ys a b = absurd a
  all_same_trans (state_and s ss) no_state ys a b = absurd a
  all_same_trans (state_and s ss) (state_and z zs) no_state a b = absurd b
  all_same_trans (state_and s ss) (state_and z zs) (state_and y ys) a b = (same_trans s z y a.0 b.0, all_same_trans ss zs ys a.1 b.1)

mutual
  pub same_sym : (s z : State) → HaveSameRegisters s z → HaveSameRegisters z s
  same_sym (state i r u ss) (state j q v zs) a = (sym a.0, all_same_sym ss zs a.1)

  pub all_same_sym : (ss zs : States) → HaveAllSame ss zs → HaveAllSame zs ss
  all_same_sym no_state no_state a = tt
  all_same_sym no_state (state_and z zs) a = absurd a
  all_same_sym (state_and s ss) no_state a = absurd a
  all_same_sym (state_and s ss) (state_and z zs) a = (same_sym s z a.0, all_same_sym ss zs a.1)

-- a settled state has all registers
mutual
  pub settled_registers : (t : Tree) (s : State) → IsSettled t s → HasRegisters t s
  settled_registers (node m kids) (state h r u ss) settled = (settled.0.registers_each, all_settled_registers kids m.kids u ss settled.1)

  pub all_settled_registers : (trees : Forest) (kids : List Kid) (u : List ℕ) (ss : States) → AreSettled trees kids u ss → AllHaveRegisters trees ss
  all_settled_registers no_tree [] u no_state settled = tt
  all_settled_registers no_tree [] u (state_and s ss) settled = absurd settled
  all_settled_registers no_tree (kid ∷ kids) u ss settled = absurd settled
  all_settled_registers (tree_and t trees) [] u ss settled = absurd settled
  all_settled_registers (tree_and t trees) (kid ∷ kids) u no_state settled = absurd settled
  all_settled_registers (tree_and t trees) (kid ∷ kids) u (state_and s ss) settled = (settled_registers t s settled.1, all_settled_registers trees kids u ss settled.2)

-- of children that have trees and states
module _ {Y : Type 0} (tree : Y → Tree) (now : Y → State) where
  pub children_registers : (cs : List Y) → ((i : ℕ) (c : Y) → slice_get cs i ≡ Some c → IsSettled (tree c) (now c)) → AllHaveRegisters (forest_of (map tree cs)) (states_of (map now cs))
  children_registers [] each = tt
  children_registers (c ∷ cs) each = (settled_registers (tree c) (now c) (each 0 c refl), children_registers cs (λ i d at. each (suc i) d at))

  -- one of the children keeps its registers
  pub same_set : (cs : List Y) (i : ℕ) (c d : Y) (zs : States) → slice_get cs i ≡ Some c → HaveSameRegisters (now c) (now d) → HaveAllSame (states_of (map now cs)) zs → HaveAllSame (states_of (map now (set cs i d))) zs
  same_set [] i c d zs at same all = absurd (none-some c at)
  same_set (x ∷ cs) zero c d no_state at same all = absurd all
  same_set (x ∷ cs) zero c d (state_and z zs) at same all =
      (same_trans (now d) (now c) z (same_sym (now c) (now d) same) (subst (λ y. HaveSameRegisters (now y) z) (same_Some x c at) all.0), all.1)
  same_set (x ∷ cs) (suc i) c d no_state at same all = absurd all
  same_set (x ∷ cs) (suc i) c d (state_and z zs) at same all = (all.0, same_set cs i c d zs at same all.1)

  -- and its tree
  pub trees_set : (cs : List Y) (i : ℕ) (c d : Y) → slice_get cs i ≡ Some c → tree d ≡ tree c → map tree (set cs i d) ≡ map tree cs
  trees_set [] i c d at same = refl
  trees_set (x ∷ cs) zero c d at same = ap (λ t. t ∷ map tree cs) (same ∙ ap tree (sym (same_Some x c at)))
  trees_set (x ∷ cs) (suc i) c d at same = ap (λ ts. tree x ∷ ts) (trees_set cs i c d at same)
