-- The rows of what each slot reads: how many they are, what stands in them, and where.
use Rattle.std.proofs.Common.{◌≡◌, ℕ, ◌+◌, ◌-◌, ◌^◌, ◌<◌, ◌≤◌, inl, inr, List, [], ◌∷◌, ◌++◌, length, map, get_or, replicate, refl, sym, ◌∙◌, ap, subst, arith}
use Rattle.std.specs.Prelude.{Contains, All, slice_index, slice_index_or, slice_get, Some}
use Rattle.std.specs.List.{flat_map}
use Rattle.std.proofs.lemmas.Bool.{cases_lt}
use Rattle.std.proofs.lemmas.List.{get_or_past, get_or_append_left, get_or-append_right, get_or-append-add, get_or-map, get_or-replicate, get_or_default, length-map, length-append, length-replicate}
use Rattle.std.proofs.lemmas.List.Sums.{length-filter, count_by-le-length}
use Rattle.std.proofs.lemmas.List.Elements.{All-append, All-contains, All-map, All-nil, All-replicate, All-weaker, All-head, All-tail}
use Rattle.std.proofs.lemmas.Option.{slice_get_within, slice_get-get_or, get_or_from_slice_get}
use Rattle.sv_base.specs.Classes.{is_value, is_output}
use Rattle.sv_base.specs.declared.face.Face.{Face}
use Rattle.levelise.specs.Graph.{ReadsOnlyNodes}
use Rattle.code_isa.specs.declared.machine.Reg.{Reg}
use Rattle.code_isa.specs.declared.machine.Kid.{Kid}
use Rattle.code_isa.specs.declared.machine.Instr.{Instr}
use Rattle.code_isa.specs.declared.machine.Machine.{Machine}
use Rattle.code_isa.specs.Faces.{IsFace, ports_of, input_widths, output_widths, input_count}
use Rattle.code_isa.specs.Slots.{given_widths, slot_widths, slot_count, first_instruction, first_register, first_kid_output, operand_slots}
use Rattle.code_isa.specs.Dependence.{kid_reads, reads_of, Reads}
use Rattle.code_isa.specs.Checks.{IsPortShaped, IsSlotOrdered}
use Rattle.code_check.specs.Told.{HasFewSlots}
use Rattle.code_check.specs.code.Reads.{IsNarrow, AreJoinedWithin}

-- ---- how many slots and rows there are

pub slot_total : (m : Machine) → slot_count m ≡ first_instruction m + length m.code
slot_total m =
    length-append (given_widths m) (map (λ (i : Instr). i.width) m.code) ∙ ap (λ n. first_instruction m + n) (length-map m.code (λ (i : Instr). i.width))

pub input_total : (m : Machine) → first_register m ≡ input_count m.face
input_total m = length-map (ports_of is_value m.face) (λ p. p.width)

pub few_inputs : (face : Face) → IsFace face → input_count face ≤ 1024
few_inputs face fits = omega (arith, count_by-le-length (λ p. is_value p.class) face.ports, length-filter (λ p. is_value p.class) face.ports, fits.few)

output_slots : (kid : Kid) → length kid.summary.rows ≡ length (output_widths kid.face)
output_slots kid = kid.summary_fits.rows ∙ sym (length-map (ports_of is_output kid.face) (λ p. p.width))

pub kid_total : (m : Machine) → first_instruction m ≡ first_kid_output m + length (flat_map (λ (kid : Kid). output_widths kid.face) m.kids)
kid_total m =
    let before = input_widths m.face ++ map (λ (r : Reg). r.width) m.regs in
    length-append before (flat_map (λ (kid : Kid). output_widths kid.face) m.kids)
    ∙ ap (λ n. n + length (flat_map (λ (kid : Kid). output_widths kid.face) m.kids)) (length-append (input_widths m.face) (map (λ (r : Reg). r.width) m.regs)
    ∙ ap (λ n. first_register m + n) (length-map m.regs (λ (r : Reg). r.width)))

kid_rows : (kids : List Kid) → length (flat_map kid_reads kids) ≡ length (flat_map (λ (kid : Kid). output_widths kid.face) kids)
kid_rows [] = refl
kid_rows (kid ∷ kids) =
    length-append (kid_reads kid) (flat_map kid_reads kids)
    ∙ ap (λ n. n + length (flat_map kid_reads kids)) (length-map kid.summary.rows (λ (row : List ℕ). map (λ p. slice_index kid.ins p) row) ∙ output_slots kid)
    ∙ ap (λ n. length (output_widths kid.face) + n) (kid_rows kids)
    ∙ sym (length-append (output_widths kid.face) (flat_map (λ (k : Kid). output_widths k.face) kids))

before_rows : Machine → List (List ℕ)
before_rows m = replicate (first_kid_output m) [] ++ flat_map kid_reads m.kids

before_size : (m : Machine) → length (before_rows m) ≡ first_instruction m
unfolding before_rows
before_size m =
    length-append (replicate (first_kid_output m) []) (flat_map kid_reads m.kids)
    ∙ ap (λ n. n + length (flat_map kid_reads m.kids)) (length-replicate {A = List ℕ} (first_kid_output m) [])
    ∙ ap (λ n. first_kid_output m + n) (kid_rows m.kids) ∙ sym (kid_total m)

pub row_total : (m : Machine) → length (reads_of m) ≡ slot_count m
unfolding before_rows
row_total m =
    length-append (before_rows m) (map operand_slots m.code)
    ∙ ap (λ n. n + length (map operand_slots m.code)) (before_size m)
    ∙ ap (λ n. first_instruction m + n) (length-map m.code operand_slots) ∙ sym (slot_total m)

-- ---- what stands in the rows

none_in : (x : ℕ) → Contains [] x → ⊥
none_in x there = let clash : ⊥ = omega (arith, there.1) in clash

found : {P : Type 0} (xs : List Instr) (k : ℕ) → k < length xs → ((i : Instr) → slice_get xs k ≡ Some i → P) → P
found [] k inside use_it = absurd (let clash : ⊥ = omega arith in clash)
found (x ∷ xs) k inside use_it = use_it (get_or (x ∷ xs) k x) (slice_get-get_or (x ∷ xs) k x inside)

-- a data input and a register read nothing
pub given_reads : (m : Machine) (a b : ℕ) → a < first_kid_output m → Reads m a b → ⊥
unfolding before_rows
given_reads m a b low there =
    let none = replicate {A = List ℕ} (first_kid_output m) [] in
    let size : length none ≡ first_kid_output m = length-replicate {A = List ℕ} (first_kid_output m) [] in
    let row : slice_index_or (reads_of m) a [] ≡ [] =
    get_or_append_left (before_rows m) (map operand_slots m.code) [] a (omega (arith, before_size m, kid_total m))
    ∙ get_or_append_left none (flat_map kid_reads m.kids) [] a (omega arith) ∙ get_or-replicate (first_kid_output m) a [] [] low in
    none_in b (subst (λ xs. Contains xs b) row there)

-- a number that is no slot reads nothing
pub past_reads : (m : Machine) (a b : ℕ) → slot_count m ≤ a → Reads m a b → ⊥
past_reads m a b past there = none_in b (subst (λ xs. Contains xs b) (get_or_past (reads_of m) a [] (omega (arith, row_total m))) there)

-- an instruction reads its operands
pub code_reads : (m : Machine) (k b : ℕ) → k < length m.code → Reads m (first_instruction m + k) b → (i : Instr) × (slice_get m.code k ≡ Some i) × Contains (operand_slots i) b
unfolding before_rows
code_reads m k b inside there =
    let row : slice_index_or (reads_of m) (first_instruction m + k) [] ≡ slice_index_or (map operand_slots m.code) k [] =
    ap (λ n. slice_index_or (reads_of m) (n + k) []) (sym (before_size m)) ∙ get_or-append-add (before_rows m) (map operand_slots m.code) k [] in
    found m.code k inside (λ i at.
    let same : slice_index_or (map operand_slots m.code) k [] ≡ operand_slots i = get_or-map operand_slots m.code k i [] inside ∙ ap operand_slots (get_or_from_slice_get m.code k i i at) in
    (i, at, subst (λ xs. Contains xs b) (row ∙ same) there))

-- an instruction reads lower slots alone
pub code_falls : (m : Machine) (a b : ℕ) → IsSlotOrdered m → first_instruction m ≤ a → Reads m a b → b < a
code_falls m a b order high there =
    elim (cases_lt (a - first_instruction m) (length m.code)) [
      | inl inside ↦
          let k : ℕ = a - first_instruction m in
          let place : a ≡ first_instruction m + k = omega arith in
          let read = code_reads m k b inside (subst (λ x. Reads m x b) place there) in
          let below : b < first_instruction m + k = All-contains (λ x. x < first_instruction m + k) (operand_slots read.0) b (order.operands k read.0 read.1) read.2 in
          omega arith
      | inr past ↦ absurd (past_reads m a b (omega (arith, slot_total m)) there)
    ]

-- ---- each entry is a slot

all_flat : {X Y : Type 0} (P : Y → Type 0) (f : X → List Y) (xs : List X) → All (λ x. All P (f x)) xs → All P (flat_map f xs)
all_flat P f [] all = All-nil P
all_flat P f (x ∷ xs) all = All-append P (f x) (flat_map f xs) (All-head (λ y. All P (f y)) x xs all) (all_flat P f xs (All-tail (λ y. All P (f y)) x xs all))

pub kid_inside : (m : Machine) (kid : Kid) → All (λ row. All (λ p. p < input_count kid.face) row) kid.summary.rows → AreJoinedWithin kid
kid_inside m kid within = All-weaker (λ row. All (λ p. p < input_count kid.face) row) (λ row. All (λ p. p < length kid.ins) row) (λ row all k d inside. omega (arith, all k d inside, kid.all_joined)) kid.summary.rows within

joined_slot : (ins : List ℕ) (n p : ℕ) → All (λ slot. slot < n) ins → p < length ins → slice_index ins p < n
joined_slot ins n p all inside = all p 0 inside

kid_read_slots : (kid : Kid) (n : ℕ) → AreJoinedWithin kid → All (λ slot. slot < n) kid.ins → All (λ row. All (λ b. b < n) row) (kid_reads kid)
kid_read_slots kid n within all =
    let read : ℕ → ℕ = λ p. slice_index kid.ins p in
    All-map (λ row. All (λ b. b < n) row) (λ (row : List ℕ). map read row) kid.summary.rows
    (All-weaker (λ row. All (λ p. p < length kid.ins) row) (λ row. All (λ b. b < n) (map read row))
    (λ row low. All-map (λ b. b < n) read row (All-weaker (λ p. p < length kid.ins) (λ p. read p < n) (λ p inside. joined_slot kid.ins n p all inside) row low)) kid.summary.rows within)

all_kids_read : (kids : List Kid) (n : ℕ) → All AreJoinedWithin kids → All (λ kid. All (λ slot. slot < n) kid.ins) kids → All (λ row. All (λ b. b < n) row) (flat_map kid_reads kids)
all_kids_read kids n within all =
    all_flat (λ row. All (λ b. b < n) row) kid_reads kids (λ k d inside. kid_read_slots (get_or kids k d) n (within k d inside) (all k d inside))

pub operands_there : (m : Machine) → IsSlotOrdered m → All (λ i. All (λ slot. slot < slot_count m) (operand_slots i)) m.code
operands_there m order k d inside j e within =
    let i : Instr = get_or m.code k d in
    let at : slice_get m.code k ≡ Some i = slice_get-get_or m.code k d inside in
    let below : get_or (operand_slots i) j e < first_instruction m + k = order.operands k i at j e within in
    omega (arith, slot_total m)

pub all_joined : (m : Machine) → IsPortShaped m → All AreJoinedWithin m.kids
all_joined m ports k d inside = kid_inside m (get_or m.kids k d) (ports.kids k d inside).rows_within

pub all_inside : (m : Machine) → IsPortShaped m → IsSlotOrdered m → ReadsOnlyNodes (reads_of m)
unfolding before_rows
all_inside m ports order =
    let P : List ℕ → Type 0 = λ row. All (λ b. b < slot_count m) row in
    let all : All P (reads_of m) =
    All-append P (before_rows m) (map operand_slots m.code)
    (All-append P (replicate (first_kid_output m) []) (flat_map kid_reads m.kids)
    (All-replicate P (first_kid_output m) [] (All-nil (λ b. b < slot_count m)))
    (all_kids_read m.kids (slot_count m) (all_joined m ports) order.ins))
    (All-map P operand_slots m.code (operands_there m order)) in
    subst (λ n. All (λ row. All (λ b. b < n) row) (reads_of m)) (sym (row_total m)) all

-- ---- slots have at most 32 bits

pub narrow_below : (slots : List ℕ) (n : ℕ) → n < 2 ^ 32 → All (λ slot. slot < n) slots → IsNarrow slots
narrow_below slots n few all = All-weaker (λ slot. slot < n) (λ slot. slot < 2 ^ 32) (λ slot low. omega arith) slots all

pub narrow_kids : (m : Machine) → HasFewSlots m → IsSlotOrdered m → All (λ kid. IsNarrow kid.ins) m.kids
narrow_kids m few order k d inside = narrow_below (get_or m.kids k d).ins (slot_count m) few (order.ins k d inside)

pub narrow_code : (m : Machine) → HasFewSlots m → IsSlotOrdered m → All (λ i. IsNarrow (operand_slots i)) m.code
narrow_code m few order k d inside = narrow_below (operand_slots (get_or m.code k d)) (slot_count m) few (operands_there m order k d inside)
