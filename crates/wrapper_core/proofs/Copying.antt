-- Values copied one by one, and compared.
use Rattle.std.proofs.Common.{◌≡◌, ℕ, ◌+◌, ◌<◌, ◌≤◌, List, length, map, take, get_or, set, sym, ◌∙◌, ap, arith}
use Rattle.std.specs.Prelude.{slice_index, slice_get, Some}
use Rattle.std.proofs.lemmas.List.{take_all, length-map, map-set, get_or-map}
use Rattle.std.proofs.lemmas.Option.{slice_get_within, get_or_from_slice_get}
use Rattle.code_isa.specs.Faces.{input_count, ports_of}
use Rattle.sv_base.specs.Classes.{is_value}
use Rattle.sv_base.specs.declared.face.Port.{Port}
use Rattle.bit_ops.specs.declared.value.Bits.{Bits}
use Rattle.wrapper_core.proofs.Lists.{filled_more}
use Rattle.code_isa.specs.Tree.{Tree, node, State, state, top_of, held_of, words_at}
use Rattle.code_isa.specs.Settled.{IsSettled}

-- two lists that agree as far as both go
pub whole : {X : Type 0} (n : ℕ) (xs ys : List X) → length xs ≡ n → length ys ≡ n → take n xs ≡ take n ys → xs ≡ ys
whole n xs ys a b same =
    sym (take_all n xs (let e : length xs ≤ n = omega (arith, a) in e)) ∙ same ∙ take_all n ys (let e : length ys ≤ n = omega (arith, b) in e)

-- a settled tree holds an input for each of its data inputs
pub held_size : (t : Tree) (s : State) → IsSettled t s → length (held_of s) ≡ input_count (top_of t).face
held_size (node m kids) (state held registers slots states) settled = settled.0.held_each ∙ length-map (ports_of is_value m.face) (λ (p : Port). p.width)

pub words_at_each : (ws slots : List ℕ) → length (words_at ws slots) ≡ length slots
words_at_each ws slots = length-map slots (λ slot. slice_index ws slot)

-- the word of a slot that a list names
pub word_at : (ws slots : List ℕ) (k slot : ℕ) → k < length slots → slot ≡ get_or slots k slot → get_or (words_at ws slots) k 0 ≡ slice_index ws slot
word_at ws slots k slot inside is = get_or-map (λ s. slice_index ws s) slots k slot 0 inside ∙ ap (slice_index ws) (sym is)

-- one value more is copied from the slot that a list names
pub copied_next : (f : Bits → ℕ) (slots buffer : List Bits) (places : List ℕ) (k : ℕ) (v : Bits) → k < length buffer → k < length places → slice_index places k < length slots → v ≡ get_or slots (slice_index places k) v →
    take k (map f buffer) ≡ take k (words_at (map f slots) places) → take (k + 1) (map f (set buffer k v)) ≡ take (k + 1) (words_at (map f slots) places)
copied_next f slots buffer places k v room inside there is same =
    ap (take (k + 1)) (map-set f buffer k v)
    ∙ filled_more (map f buffer) (words_at (map f slots) places) k (f v) 0 (omega (arith, length-map buffer f)) (omega (arith, words_at_each (map f slots) places)) same
    (get_or-map (λ s. slice_index (map f slots) s) places k 0 0 inside ∙ get_or-map f slots (slice_index places k) v 0 there ∙ ap f (sym is))

-- one value more is taken
pub taken_next : (f : Bits → ℕ) (buffer : List Bits) (ws : List ℕ) (k : ℕ) (v : Bits) → k < length buffer → slice_get ws k ≡ Some (f v) → take k (map f buffer) ≡ take k ws → take (k + 1) (map f (set buffer k v)) ≡ take (k + 1) ws
taken_next f buffer ws k v room at same =
    ap (take (k + 1)) (map-set f buffer k v)
    ∙ filled_more (map f buffer) ws k (f v) 0 (omega (arith, length-map buffer f)) (slice_get_within ws k (f v) at) same (get_or_from_slice_get ws k (f v) 0 at)
