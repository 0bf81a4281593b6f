-- What the evaluation of one instruction does to the others.
use Rattle.std.proofs.Common.{◌≡◌, ◌≢◌, ℕ, ◌+◌, ◌<◌, ◌≤◌, List, [], ◌∷◌, length, map, get_or, set, take, inl, inr, cond, refl, sym, ◌∙◌, ap, subst, arith, suc}
use Rattle.std.specs.Prelude.{slice_index, slice_get, Some, Contains}
use Rattle.std.proofs.lemmas.Bool.{cases_lt}
use Rattle.std.proofs.lemmas.List.{get_or-set_other, get_or-set_same, length-map, length-append, get_or-map, get_or-append-add, map-set, take-set-le}
use Rattle.std.proofs.Math.Seq.{map-set_same}
use Rattle.std.proofs.lemmas.List.Elements.{All-contains}
use Rattle.std.proofs.lemmas.Option.{slice_get_within, slice_get-get_or, get_or_from_slice_get}
use Rattle.bit_ops.specs.Rows.{value_of}
use Rattle.bit_ops.specs.Lists.{words, widths}
use Rattle.bit_ops.specs.declared.value.Bits.{Bits}
use Rattle.code_isa.specs.declared.machine.Instr.{Instr}
use Rattle.code_isa.specs.declared.machine.Machine.{Machine}
use Rattle.code_isa.specs.Operands.{is_constant}
use Rattle.code_isa.specs.Slots.{given_widths, slot_widths, width_at, first_instruction, operand_slots}
use Rattle.code_isa.specs.Values.{operand_at, instr_value, HasValue, KeepsGiven}
use Rattle.code_isa.specs.Checks.{IsSlotOrdered}

pub map_same : {X Y : Type 0} (f g : X → Y) (xs : List X) → ((x : X) → Contains xs x → f x ≡ g x) → map f xs ≡ map g xs
map_same f g [] h = refl
map_same f g (x ∷ xs) h =
    ap (λ y. y ∷ map f xs) (h x (0, omega arith, refl))
    ∙ ap (λ ys. g x ∷ ys) (map_same f g xs (λ y there. h y (suc there.0, omega (arith, there.1), there.2)))

-- words that agree at an instruction's operands give it the same value
pub value_same : (widths u v : List ℕ) (i : Instr) → ((slot : ℕ) → Contains (operand_slots i) slot → slice_index u slot ≡ slice_index v slot) → instr_value widths u i ≡ instr_value widths v i
value_same widths u v i agree =
    let all : map (operand_at widths u) (operand_slots i) ≡ map (operand_at widths v) (operand_slots i) =
    map_same (operand_at widths u) (operand_at widths v) (operand_slots i) (λ slot there. ap (λ n. (slice_index widths slot, n)) (agree slot there)) in
    ap (λ xs. value_of i.op i.width i.lo (cond (is_constant i.op) ((i.width, i.value) ∷ []) xs)) all

-- an instruction that does not read a slot keeps its value when another slot than its own is set
pub kept : (m : Machine) (u : List ℕ) (slot n j : ℕ) → first_instruction m + j ≢ slot → ((i : Instr) → slice_get m.code j ≡ Some i → Contains (operand_slots i) slot → ⊥) → HasValue m u j → HasValue m (set u slot n) j
kept m u slot n j other unread was i at =
    get_or-set_other u slot (first_instruction m + j) n 0 other ∙ was i at
    ∙ value_same (slot_widths m) u (set u slot n) i (λ s there. sym (get_or-set_other u slot s n 0 (λ e. unread i at (subst (Contains (operand_slots i)) e there))))

-- an instruction whose slot is set to its value has it, since it does not read its own slot
pub gained : (m : Machine) (u : List ℕ) (slot n k : ℕ) (i : Instr) → IsSlotOrdered m → slot ≡ first_instruction m + k → slot < length u → slice_get m.code k ≡ Some i → n ≡ instr_value (slot_widths m) u i → HasValue m (set u slot n) k
gained m u slot n k i order here inside at value other same =
    let e : i ≡ other = let both : Some i ≡ Some other = sym at ∙ same in cc in
    ap (λ s. slice_index (set u slot n) s) (sym here) ∙ get_or-set_same u slot n 0 inside ∙ value
    ∙ value_same (slot_widths m) u (set u slot n) i (λ s there.
    let below : s < first_instruction m + k = All-contains (λ x. x < first_instruction m + k) (operand_slots i) s (order.operands k i at) there in
    sym (get_or-set_other u slot s n 0 (λ e. let clash : ⊥ = omega arith in clash)))
    ∙ ap (λ x. instr_value (slot_widths m) (set u slot n) x) e

-- an earlier instruction does not read the slot of a later one
pub earlier : (m : Machine) (j k slot : ℕ) → IsSlotOrdered m → j ≤ k → slot ≡ first_instruction m + k → (i : Instr) → slice_get m.code j ≡ Some i → Contains (operand_slots i) slot → ⊥
earlier m j k slot order before here i at there =
    let below : slot < first_instruction m + j = All-contains (λ x. x < first_instruction m + j) (operand_slots i) slot (order.operands j i at) there in
    omega arith

-- after the first instructions of a run, how many they are and what it started from
pub record IsUnderway (m : Machine) (old slots : List Bits) (at count : ℕ) : Type 0 where
  pub place : at ≡ first_instruction m + count
  pub shape : widths slots ≡ slot_widths m
  pub given : KeepsGiven m (words old) (words slots)
  pub run : (j : ℕ) → j < count → HasValue m (words slots) j

pub size : (m : Machine) (slots : List Bits) → widths slots ≡ slot_widths m → length slots ≡ first_instruction m + length m.code
size m slots shape =
    sym (length-map slots (λ (b : Bits). b.width)) ∙ ap length shape ∙ length-append (given_widths m) (map (λ (i : Instr). i.width) m.code)
    ∙ ap (λ n. first_instruction m + n) (length-map m.code (λ (i : Instr). i.width))

pub code_width : (m : Machine) (k : ℕ) (i : Instr) → slice_get m.code k ≡ Some i → width_at m (first_instruction m + k) ≡ i.width
code_width m k i at =
    get_or-append-add (given_widths m) (map (λ (j : Instr). j.width) m.code) k 0
    ∙ get_or-map (λ (j : Instr). j.width) m.code k i 0 (slice_get_within m.code k i at) ∙ ap (λ (j : Instr). j.width) (get_or_from_slice_get m.code k i i at)

pub shape_kept : (m : Machine) (slots : List Bits) (slot k : ℕ) (i : Instr) (b : Bits) → widths slots ≡ slot_widths m → slot ≡ first_instruction m + k → slice_get m.code k ≡ Some i → b.width ≡ i.width → widths (set slots slot b) ≡ slot_widths m
shape_kept m slots slot k i b shape here at same =
    let inside : slot < length slots = omega (arith, size m slots shape, slice_get_within m.code k i at) in
    let e : b.width ≡ (get_or slots slot b).width =
    same ∙ sym (code_width m k i at) ∙ ap (width_at m) (sym here) ∙ ap (λ ws. slice_index ws slot) (sym shape)
    ∙ get_or-map (λ (x : Bits). x.width) slots slot b 0 inside in
    map-set_same (λ (x : Bits). x.width) slots slot b b e ∙ shape

pub underway_more : (m : Machine) (old slots : List Bits) (at count : ℕ) (i : Instr) (b : Bits) → IsSlotOrdered m → IsUnderway m old slots at count → slice_get m.code count ≡ Some i → b.width ≡ i.width → b.word ≡ instr_value (widths slots) (words slots) i → IsUnderway m old (set slots at b) (at + 1) (count + 1)
underway_more m old slots at count i b order was there same value =
    let first = first_instruction m in
    let stored : words (set slots at b) ≡ set (words slots) at b.word = map-set (λ (x : Bits). x.word) slots at b in
    let inside : at < length (words slots) = omega (arith, size m slots was.shape, was.place, slice_get_within m.code count i there, length-map slots (λ (x : Bits). x.word)) in
    let worth : b.word ≡ instr_value (slot_widths m) (words slots) i = value ∙ ap (λ ws. instr_value ws (words slots) i) was.shape in
    record {
      place = omega (arith, was.place);
      shape = shape_kept m slots at count i b was.shape was.place there same;
      given = ap (take first) stored ∙ take-set-le first (words slots) at b.word (omega (arith, was.place)) ∙ was.given;
      run = λ j before. subst (λ u. HasValue m u j) (sym stored) (elim (cases_lt j count) [
        | inl below ↦ kept m (words slots) at b.word j (λ e. let clash : ⊥ = omega (arith, was.place) in clash) (earlier m j count at order (omega arith) was.place) (was.run j below)
        | inr past ↦
            let e : count ≡ j = omega arith in
            subst (HasValue m (set (words slots) at b.word)) e (gained m (words slots) at b.word count i order was.place inside there worth)
      ]);
    }

-- an item of a list by its place
pub item_at : {X : Type 0} (xs ys : List X) (k : ℕ) (x : X) → ys ≡ xs → k < length ys → x ≡ get_or ys k x → slice_get xs k ≡ Some x
item_at xs ys k x same inside is =
    let within : k < length xs = subst (λ zs. k < length zs) same inside in
    slice_get-get_or xs k x within ∙ ap (λ y. Some y) (sym (is ∙ ap (λ zs. get_or zs k x) same))
