-- A settled state is one for all inputs and registers.
use Rattle.std.proofs.Common.{◌≡◌, ℕ, zero, suc, ◌+◌, ◌-◌, ◌<◌, ◌≤◌, inl, inr, Bool, true, cond, List, [], ◌∷◌, ◌++◌, length, map, take, replicate, refl, sym, ◌∙◌, ap, subst, arith}
use Rattle.std.specs.Prelude.{Contains, slice_index, slice_index_or, slice_get, Some, count_by, nat_le, nat_lt}
use Rattle.std.specs.List.{flat_map}
use Rattle.std.proofs.lemmas.Bool.{cases_lt, and_from, le-leb, lt-ltb}
use Rattle.std.proofs.lemmas.List.{get_or_past, get_or-take, get_or_append_left, get_or-append_right, get_or-append-add, get_or-map, length-map, length-append, length-replicate, ext_get_or}
use Rattle.std.proofs.lemmas.List.Sums.{sum_by-cons}
use Rattle.std.proofs.lemmas.List.Elements.{All-contains}
use Rattle.std.proofs.lemmas.Option.{slice_get_within, slice_get-get_or, get_or_from_slice_get}
use Rattle.code_isa.specs.declared.machine.Reg.{Reg}
use Rattle.code_isa.specs.declared.machine.Kid.{Kid}
use Rattle.code_isa.specs.declared.machine.Instr.{Instr}
use Rattle.code_isa.specs.declared.machine.Machine.{Machine}
use Rattle.code_isa.specs.Faces.{input_widths, output_widths, output_count}
use Rattle.code_isa.specs.Slots.{slot_widths, slot_count, first_instruction, first_register, first_kid_output, operand_slots, IsInputSlot}
use Rattle.code_isa.specs.Values.{IsRun}
use Rattle.code_isa.specs.Dependence.{kid_reads, reads_of, Reads, Reaches, here, along, IsPath, is_kid_slot}
use Rattle.code_isa.specs.Checks.{IsChecked, IsChained, IsSlotOrdered, row_at}
use Rattle.code_isa.specs.Tree.{Tree, node, Forest, no_tree, tree_and, top_of, IsLinked, AreLinked, State, state, States, no_state, state_and, held_of, slots_of, words_at, outs_of, outs_of_all}
use Rattle.code_isa.specs.Settled.{IsFilled, IsSettled, AreSettled, HaveSameRegisters, HaveAllSame}
use Rattle.code_isa.proofs.Running.{value_same}
use Rattle.code_isa.proofs.Readers.{slot_total}
use Rattle.code_isa.proofs.Counting.{output_slots}
use Rattle.code_isa.proofs.Active.{found_at}

-- ---- what an instruction's slot reads

-- the rows before those of the instructions are as many as the slots before them
pub kid_rows : (kids : List Kid) → length (flat_map kid_reads kids) ≡ length (flat_map (λ (kid : Kid). output_widths kid.face) kids)
kid_rows [] = refl
kid_rows (kid ∷ kids) =
    length-append (kid_reads kid) (flat_map kid_reads kids)
    ∙ ap (λ n. n + length (flat_map kid_reads kids)) (length-map kid.summary.rows (λ (row : List ℕ). map (λ p. slice_index kid.ins p) row) ∙ output_slots kid)
    ∙ ap (λ n. length (output_widths kid.face) + n) (kid_rows kids)
    ∙ sym (length-append (output_widths kid.face) (flat_map (λ (k : Kid). output_widths k.face) kids))

before_rows : Machine → List (List ℕ)
before_rows m = replicate (first_kid_output m) [] ++ flat_map kid_reads m.kids

pub kid_total : (m : Machine) → first_instruction m ≡ first_kid_output m + length (flat_map (λ (kid : Kid). output_widths kid.face) m.kids)
kid_total m =
    let before = input_widths m.face ++ map (λ (r : Reg). r.width) m.regs in
    length-append before (flat_map (λ (kid : Kid). output_widths kid.face) m.kids)
    ∙ ap (λ n. n + length (flat_map (λ (kid : Kid). output_widths kid.face) m.kids)) (length-append (input_widths m.face) (map (λ (r : Reg). r.width) m.regs)
    ∙ ap (λ n. first_register m + n) (length-map m.regs (λ (r : Reg). r.width)))

before_size : (m : Machine) → length (before_rows m) ≡ first_instruction m
unfolding before_rows
before_size m =
    length-append (replicate (first_kid_output m) []) (flat_map kid_reads m.kids)
    ∙ ap (λ n. n + length (flat_map kid_reads m.kids)) (length-replicate {A = List ℕ} (first_kid_output m) [])
    ∙ ap (λ n. first_kid_output m + n) (kid_rows m.kids) ∙ sym (kid_total m)

pub reads_operands : (m : Machine) (k b : ℕ) (i : Instr) → slice_get m.code k ≡ Some i → Contains (operand_slots i) b → Reads m (first_instruction m + k) b
unfolding before_rows
reads_operands m k b i at there =
    let row : slice_index_or (reads_of m) (first_instruction m + k) [] ≡ operand_slots i =
    ap (λ n. slice_index_or (reads_of m) (n + k) []) (sym (before_size m)) ∙ get_or-append-add (before_rows m) (map operand_slots m.code) k []
    ∙ get_or-map operand_slots m.code k i [] (slice_get_within m.code k i at) ∙ ap operand_slots (get_or_from_slice_get m.code k i i at) in
    subst (λ xs. Contains xs b) (sym row) there

-- what a child's output slot reads
pub reads_kid : (m : Machine) (o b : ℕ) → o < length (flat_map kid_reads m.kids) → Contains (slice_index_or (flat_map kid_reads m.kids) o []) b → Reads m (first_kid_output m + o) b
unfolding before_rows
reads_kid m o b inside there =
    let none = replicate {A = List ℕ} (first_kid_output m) [] in
    let size : length none ≡ first_kid_output m = length-replicate {A = List ℕ} (first_kid_output m) [] in
    let row : slice_index_or (reads_of m) (first_kid_output m + o) [] ≡ slice_index_or (flat_map kid_reads m.kids) o [] =
    get_or_append_left (before_rows m) (map operand_slots m.code) [] (first_kid_output m + o) (omega (arith, before_size m, kid_total m, kid_rows m.kids))
    ∙ ap (λ n. slice_index_or (before_rows m) (n + o) []) (sym size) ∙ get_or-append-add none (flat_map kid_reads m.kids) o [] in
    subst (λ xs. Contains xs b) (sym row) there

-- ---- one machine

abbrev weight : Bool → ℕ
weight b = cond b 1 0

-- no path from a slot has more than n output slots of children
pub Bounded : Machine → ℕ → ℕ → Type 0
Bounded m n s = (path : List ℕ) → IsPath m (s ∷ path) → count_by (is_kid_slot m) (s ∷ path) ≤ n

pub bounded_on : (m : Machine) (n s b : ℕ) → Reads m s b → Bounded m n s → Bounded m n b
unfolding Bounded
bounded_on m n s b reads bounded path is =
    let all : count_by (is_kid_slot m) (s ∷ b ∷ path) ≤ n = bounded (b ∷ path) (reads, is) in
    let more = sum_by-cons (λ x. cond (is_kid_slot m x) 1 0) s (b ∷ path) in
    omega (arith, all, more)

pub bounded_kid : (m : Machine) (n s b : ℕ) → is_kid_slot m s ≡ true → Reads m s b → Bounded m n s → Bounded m (n - 1) b
unfolding Bounded
bounded_kid m n s b kid reads bounded path is =
    let all : count_by (is_kid_slot m) (s ∷ b ∷ path) ≤ n = bounded (b ∷ path) (reads, is) in
    let more = sum_by-cons (λ x. cond (is_kid_slot m x) 1 0) s (b ∷ path) in
    let one : weight (is_kid_slot m s) ≡ 1 = ap weight kid in
    omega (arith, all, more, one)

pub bounded_some : (m : Machine) (n s : ℕ) → is_kid_slot m s ≡ true → Bounded m n s → 1 ≤ n
unfolding Bounded
bounded_some m n s kid bounded =
    let all : count_by (is_kid_slot m) (s ∷ []) ≤ n = bounded [] tt in
    let more = sum_by-cons (λ x. cond (is_kid_slot m x) 1 0) s [] in
    let one : weight (is_kid_slot m s) ≡ 1 = ap weight kid in
    omega (arith, all, more, one)

-- every path of a machine has at most as many as its chain says
pub bounded_all : (m : Machine) (s : ℕ) → IsChained m → Bounded m m.chain s
unfolding Bounded
bounded_all m s chained path is = chained (s ∷ path) is

module _ (m : Machine) (u v : List ℕ) (sized_u : length u ≡ slot_count m) (sized_v : length v ≡ slot_count m) (order : IsSlotOrdered m) (run_u : IsRun m u) (run_v : IsRun m v) (registers : (s : ℕ) → first_register m ≤ s → s < first_kid_output m → slice_index u s ≡ slice_index v s) (kids : (s : ℕ) → first_kid_output m ≤ s → s < first_instruction m → ((b : ℕ) → Reads m s b → slice_index u b ≡ slice_index v b) → slice_index u s ≡ slice_index v s) where
  Same : ℕ → Type 0
  Same s = slice_index u s ≡ slice_index v s

  -- the data inputs that a slot reaches agree
  Good : ℕ → Type 0
  Good s = (input : ℕ) → IsInputSlot m input → Reaches m s input → slice_index u input ≡ slice_index v input

  good_on : (s b : ℕ) → Reads m s b → Good s → Good b
  unfolding Good
  good_on s b reads good input is reaches = good input is (along reads reaches)

  within_bound : (n : ℕ) → ((b k : ℕ) → suc k ≡ n → Bounded m k b → Good b → Same b) → (c s : ℕ) → s < c → Bounded m n s → Good s → Same s
  unfolding Good Same
  within_bound n below zero s low bounded good = absurd (let clash : ⊥ = omega arith in clash)
  within_bound n below (suc c) s low bounded good =
      elim (cases_lt s (first_register m)) [
        | inl input ↦ good s input here
        | inr past_inputs ↦ elim (cases_lt s (first_kid_output m)) [
          | inl register ↦ registers s past_inputs register
          | inr past_registers ↦ elim (cases_lt s (first_instruction m)) [
            | inl output ↦
                let kid : is_kid_slot m s ≡ true = and_from (nat_le (first_kid_output m) s) (nat_lt s (first_instruction m)) (le-leb (first_kid_output m) s past_registers) (lt-ltb s (first_instruction m) output) in
                let some : 1 ≤ n = bounded_some m n s kid bounded in
                kids s past_registers output (λ b reads. below b (n - 1) (let e : suc (n - 1) ≡ n = omega arith in e) (bounded_kid m n s b kid reads bounded) (good_on s b reads good))
            | inr past_outputs ↦ elim (cases_lt (s - first_instruction m) (length m.code)) [
              | inl inside ↦
                  let k : ℕ = s - first_instruction m in
                  let place : first_instruction m + k ≡ s = omega arith in
                  found_at m.code k inside (λ i at.
                  ap (slice_index u) (sym place) ∙ run_u k i at
                  ∙ value_same (slot_widths m) u v i (λ b there.
                  let reads : Reads m s b = subst (λ x. Reads m x b) place (reads_operands m k b i at there) in
                  let less : b < first_instruction m + k = All-contains (λ x. x < first_instruction m + k) (operand_slots i) b (order.operands k i at) there in
                  within_bound n below c b (omega arith) (bounded_on m n s b reads bounded) (good_on s b reads good))
                  ∙ sym (run_v k i at) ∙ ap (slice_index v) place)
              | inr outside ↦ get_or_past u s 0 (omega (arith, sized_u, slot_total m)) ∙ sym (get_or_past v s 0 (omega (arith, sized_v, slot_total m)))
            ]
          ]
        ]
      ]

  all_bounds : (n s : ℕ) → Bounded m n s → Good s → Same s
  all_bounds zero s bounded good = within_bound zero (λ b k e. absurd (let clash : ⊥ = omega arith in clash)) (suc s) s (omega arith) bounded good
  all_bounds (suc n) s bounded good =
      within_bound (suc n) (λ b k e low also. all_bounds n b (subst (λ j. Bounded m j b) (let same : k ≡ n = omega arith in same) low) also) (suc s) s (omega arith) bounded good

  -- a slot is the same in both where the data inputs that it reaches are
  pub slot_same : IsChained m → (s : ℕ) → ((input : ℕ) → IsInputSlot m input → Reaches m s input → slice_index u input ≡ slice_index v input) → slice_index u s ≡ slice_index v s
  unfolding Good Same Bounded
  slot_same chained s good = all_bounds m.chain s (λ path is. chained (s ∷ path) is) good

-- ---- the slots before those of instructions

module _ (n : ℕ) (u held registers given : List ℕ) (filled : take n u ≡ held ++ registers ++ given) where
  slot_given : (s : ℕ) → s < n → slice_index u s ≡ slice_index (held ++ registers ++ given) s
  slot_given s low = sym (get_or-take n u s 0 low) ∙ ap (λ xs. slice_index xs s) filled

  pub input_word : (s : ℕ) → s < n → s < length held → slice_index u s ≡ slice_index held s
  input_word s low inside =
      slot_given s low ∙ get_or_append_left (held ++ registers) given 0 s (omega (arith, length-append held registers)) ∙ get_or_append_left held registers 0 s inside

  pub register_word : (s : ℕ) → s < n → length held ≤ s → s < length held + length registers → slice_index u s ≡ slice_index registers (s - length held)
  register_word s low past inside =
      slot_given s low ∙ get_or_append_left (held ++ registers) given 0 s (omega (arith, length-append held registers)) ∙ get_or-append_right held registers (length held) s 0 refl past

  pub given_word : (s p : ℕ) → s < n → p ≡ length held + length registers → p ≤ s → slice_index u s ≡ slice_index given (s - p)
  given_word s p low place past = slot_given s low ∙ get_or-append_right (held ++ registers) given p s 0 (length-append held registers ∙ sym place) past

-- ---- the words of slots that lists name

word_read : (u slots : List ℕ) (k : ℕ) → k < length slots → slice_index (words_at u slots) k ≡ slice_index u (slice_index slots k)
word_read u slots k inside = get_or-map (λ slot. slice_index u slot) slots k 0 0 inside

pub words_size : (u slots : List ℕ) → length (words_at u slots) ≡ length slots
words_size u slots = length-map slots (λ slot. slice_index u slot)

contains_map : (f : ℕ → ℕ) (xs : List ℕ) (x : ℕ) → Contains xs x → Contains (map f xs) (f x)
contains_map f xs x there =
    (there.0, omega (arith, length-map xs f, there.1), get_or-map f xs there.0 x (f x) there.1 ∙ ap f there.2)

-- ---- one machine of a tree

module _ (m : Machine) (i r u g j q v h : List ℕ) (checked : IsChecked m) (a : IsFilled m i r u g) (b : IsFilled m j q v h) (same : r ≡ q) (kids : (o : ℕ) → ((x : ℕ) → Contains (slice_index_or (flat_map kid_reads m.kids) o []) x → slice_index u x ≡ slice_index v x) → slice_index g o ≡ slice_index h o) where
  registers_same : (s : ℕ) → first_register m ≤ s → s < first_kid_output m → slice_index u s ≡ slice_index v s
  registers_same s past low =
      let n = first_instruction m in
      let left = register_word n u i r g a.given_slots s (omega (arith, kid_total m)) (omega (arith, a.held_each)) (omega (arith, a.held_each, a.registers_each)) in
      let right = register_word n v j q h b.given_slots s (omega (arith, kid_total m)) (omega (arith, b.held_each)) (omega (arith, b.held_each, b.registers_each)) in
      left ∙ ap (λ xs. slice_index xs (s - length i)) same ∙ ap (λ k. slice_index q (s - k)) (a.held_each ∙ sym b.held_each) ∙ sym right

  kids_same : (s : ℕ) → first_kid_output m ≤ s → s < first_instruction m → ((x : ℕ) → Reads m s x → slice_index u x ≡ slice_index v x) → slice_index u s ≡ slice_index v s
  kids_same s past low read =
      let n = first_instruction m in
      let p = first_kid_output m in
      let place : p + (s - p) ≡ s = omega arith in
      let left = given_word n u i r g a.given_slots s p low (let e : p ≡ length i + length r = omega (arith, a.held_each, a.registers_each) in e) past in
      let right = given_word n v j q h b.given_slots s p low (let e : p ≡ length j + length q = omega (arith, b.held_each, b.registers_each) in e) past in
      left ∙ kids (s - p) (λ x there. read x (subst (λ k. Reads m k x) place (reads_kid m (s - p) x (omega (arith, kid_total m, kid_rows m.kids)) there))) ∙ sym right

  pub machine_slot : (s : ℕ) → ((input : ℕ) → IsInputSlot m input → Reaches m s input → slice_index i input ≡ slice_index j input) → slice_index u s ≡ slice_index v s
  machine_slot s good =
      slot_same m u v a.sized b.sized checked.slot_order a.run b.run registers_same kids_same checked.chained s (λ input is reaches.
      input_word (first_instruction m) u i r g a.given_slots input (omega (arith, kid_total m)) (omega (arith, a.held_each))
      ∙ good input is reaches ∙ sym (input_word (first_instruction m) v j q h b.given_slots input (omega (arith, kid_total m)) (omega (arith, b.held_each))))

  pub machine_out : (o : ℕ) → ((input : ℕ) → Contains (row_at m.summary o) input → slice_index i input ≡ slice_index j input) → slice_index (words_at u m.outs) o ≡ slice_index (words_at v m.outs) o
  machine_out o agree =
      elim (cases_lt o (length m.outs)) [
        | inl inside ↦
            let slot = slice_index m.outs o in
            let at : slice_get m.outs o ≡ Some slot = slice_get-get_or m.outs o 0 inside in
            word_read u m.outs o inside ∙ machine_slot slot (λ input is reaches. agree input (checked.summarised o slot input at is reaches)) ∙ sym (word_read v m.outs o inside)
        | inr past ↦
            get_or_past (words_at u m.outs) o 0 (omega (arith, words_size u m.outs)) ∙ sym (get_or_past (words_at v m.outs) o 0 (omega (arith, words_size v m.outs)))
      ]

  pub machine_slots : i ≡ j → u ≡ v
  machine_slots inputs = ext_get_or 0 u v (a.sized ∙ sym b.sized) (λ s _. machine_slot s (λ input is reaches. ap (λ xs. slice_index xs input) inputs))

-- ---- the children, one by one

kid_row : (kid : Kid) (o : ℕ) → o < length kid.summary.rows → slice_index_or (kid_reads kid) o [] ≡ map (λ p. slice_index kid.ins p) (row_at kid.summary o)
kid_row kid o inside = get_or-map (λ (row : List ℕ). map (λ p. slice_index kid.ins p) row) kid.summary.rows o [] [] inside

and_agree : (kid : Kid) (kids : List Kid) (u v xs ys more less held also : List ℕ) → length xs ≡ length kid.summary.rows → length ys ≡ length kid.summary.rows → held ≡ words_at u kid.ins → also ≡ words_at v kid.ins → ((o : ℕ) → ((input : ℕ) → Contains (row_at kid.summary o) input → slice_index held input ≡ slice_index also input) → slice_index xs o ≡ slice_index ys o) → ((o : ℕ) → ((x : ℕ) → Contains (slice_index_or (flat_map kid_reads kids) o []) x → slice_index u x ≡ slice_index v x) → slice_index more o ≡ slice_index less o) → (o : ℕ) → ((x : ℕ) → Contains (slice_index_or (kid_reads kid ++ flat_map kid_reads kids) o []) x → slice_index u x ≡ slice_index v x) → slice_index (xs ++ more) o ≡ slice_index (ys ++ less) o
and_agree kid kids u v xs ys more less held also size_x size_y held_is also_is first rest o read =
    let n = length kid.summary.rows in
    let rows : length (kid_reads kid) ≡ n = length-map kid.summary.rows (λ (row : List ℕ). map (λ p. slice_index kid.ins p) row) in
    elim (cases_lt o n) [
      | inl inside ↦
          let row : slice_index_or (kid_reads kid ++ flat_map kid_reads kids) o [] ≡ map (λ p. slice_index kid.ins p) (row_at kid.summary o) =
          get_or_append_left (kid_reads kid) (flat_map kid_reads kids) [] o (omega arith) ∙ kid_row kid o inside in
          let agree : (input : ℕ) → Contains (row_at kid.summary o) input → slice_index held input ≡ slice_index also input = λ input there.
          ap (λ ws. slice_index ws input) held_is
          ∙ elim (cases_lt input (length kid.ins)) [
            | inl joined ↦
                word_read u kid.ins input joined
                ∙ read (slice_index kid.ins input) (subst (λ zs. Contains zs (slice_index kid.ins input)) (sym row) (contains_map (λ p. slice_index kid.ins p) (row_at kid.summary o) input there))
                ∙ sym (word_read v kid.ins input joined)
            | inr past ↦
                get_or_past (words_at u kid.ins) input 0 (omega (arith, words_size u kid.ins)) ∙ sym (get_or_past (words_at v kid.ins) input 0 (omega (arith, words_size v kid.ins)))
          ] ∙ ap (λ ws. slice_index ws input) (sym also_is) in
          get_or_append_left xs more 0 o (omega (arith, size_x)) ∙ first o agree ∙ sym (get_or_append_left ys less 0 o (omega (arith, size_y)))
      | inr past ↦
          let row : slice_index_or (kid_reads kid ++ flat_map kid_reads kids) o [] ≡ slice_index_or (flat_map kid_reads kids) (o - n) [] = get_or-append_right (kid_reads kid) (flat_map kid_reads kids) n o [] rows past in
          get_or-append_right xs more n o 0 size_x past ∙ rest (o - n) (λ x there. read x (subst (λ zs. Contains zs x) (sym row) there)) ∙ sym (get_or-append_right ys less n o 0 size_y past)
    ]

-- as many words as the outputs have rows
pub out_size : (t : Tree) (s : State) (kid : Kid) → (top_of t).face ≡ kid.face → length (outs_of t s) ≡ length kid.summary.rows
out_size t s kid face =
    words_size (slots_of s) (top_of t).outs ∙ (top_of t).all_driven ∙ ap output_count face ∙ sym kid.summary_fits.rows

mutual
  pub outs_agree : (t : Tree) (s z : State) → IsLinked t → IsSettled t s → IsSettled t z → HaveSameRegisters s z → (o : ℕ) → ((input : ℕ) → Contains (row_at (top_of t).summary o) input → slice_index (held_of s) input ≡ slice_index (held_of z) input) → slice_index (outs_of t s) o ≡ slice_index (outs_of t z) o
  outs_agree (node m kids) (state i r u ss) (state j q v zs) linked a b same o agree =
      machine_out m i r u (outs_of_all kids ss) j q v (outs_of_all kids zs) linked.0 a.0 b.0 same.0 (all_agree kids m.kids ss zs u v linked.1 a.1 b.1 same.1) o agree

  pub all_agree : (trees : Forest) (kids : List Kid) (ss zs : States) (u v : List ℕ) → AreLinked trees kids → AreSettled trees kids u ss → AreSettled trees kids v zs → HaveAllSame ss zs → (o : ℕ) → ((x : ℕ) → Contains (slice_index_or (flat_map kid_reads kids) o []) x → slice_index u x ≡ slice_index v x) → slice_index (outs_of_all trees ss) o ≡ slice_index (outs_of_all trees zs) o
  all_agree no_tree kids ss zs u v linked a b same o read = refl
  all_agree (tree_and t trees) [] ss zs u v linked a b same o read = absurd linked
  all_agree (tree_and t trees) (kid ∷ kids) no_state zs u v linked a b same o read = absurd a
  all_agree (tree_and t trees) (kid ∷ kids) (state_and s ss) no_state u v linked a b same o read = absurd b
  all_agree (tree_and t trees) (kid ∷ kids) (state_and s ss) (state_and z zs) u v linked a b same o read =
      and_agree kid kids u v (outs_of t s) (outs_of t z) (outs_of_all trees ss) (outs_of_all trees zs) (held_of s) (held_of z) (out_size t s kid linked.0) (out_size t z kid linked.0) a.0 b.0
      (λ p agree. outs_agree t s z linked.2 a.1 b.1 same.0 p (λ input there. agree input (subst (λ summary. Contains (row_at summary p) input) linked.1 there)))
      (all_agree trees kids ss zs u v linked.3 a.2 b.2 same.1) o read

-- two settled states with the same inputs at the top and the same registers are one
mutual
  pub one_settled : (t : Tree) (s z : State) → IsLinked t → IsSettled t s → IsSettled t z → held_of s ≡ held_of z → HaveSameRegisters s z → s ≡ z
  one_settled (node m kids) (state i r u ss) (state j q v zs) linked a b inputs same =
      let slots : u ≡ v = machine_slots m i r u (outs_of_all kids ss) j q v (outs_of_all kids zs) linked.0 a.0 b.0 same.0 (all_agree kids m.kids ss zs u v linked.1 a.1 b.1 same.1) inputs in
      let below : ss ≡ zs = all_settled kids m.kids ss zs u v linked.1 a.1 b.1 slots same.1 in
      ap (λ x. state x r u ss) inputs ∙ ap (λ x. state j x u ss) same.0 ∙ ap (λ x. state j q x ss) slots ∙ ap (λ x. state j q v x) below

  pub all_settled : (trees : Forest) (kids : List Kid) (ss zs : States) (u v : List ℕ) → AreLinked trees kids → AreSettled trees kids u ss → AreSettled trees kids v zs → u ≡ v → HaveAllSame ss zs → ss ≡ zs
  all_settled no_tree [] no_state no_state u v linked a b slots same = refl
  all_settled no_tree [] no_state (state_and z zs) u v linked a b slots same = absurd b
  all_settled no_tree [] (state_and s ss) zs u v linked a b slots same = absurd a
  all_settled no_tree (kid ∷ kids) ss zs u v linked a b slots same = absurd linked
  all_settled (tree_and t trees) [] ss zs u v linked a b slots same = absurd linked
  all_settled (tree_and t trees) (kid ∷ kids) no_state zs u v linked a b slots same = absurd a
  all_settled (tree_and t trees) (kid ∷ kids) (state_and s ss) no_state u v linked a b slots same = absurd b
  all_settled (tree_and t trees) (kid ∷ kids) (state_and s ss) (state_and z zs) u v linked a b slots same =
      let first : s ≡ z = one_settled t s z linked.2 a.1 b.1 (a.0 ∙ ap (λ ws. words_at ws kid.ins) slots ∙ sym b.0) same.0 in
      let rest : ss ≡ zs = all_settled trees kids ss zs u v linked.3 a.2 b.2 slots same.1 in
      ap (λ x. state_and x ss) first ∙ ap (λ x. state_and z x) rest
