-- A settled state exists for all inputs and registers.
use Rattle.std.proofs.Common.{◌≡◌, ℕ, zero, suc, ◌+◌, ◌-◌, ◌*◌, ◌<◌, ◌≤◌, inl, inr, true, List, [], ◌∷◌, ◌++◌, length, map, take, refl, sym, ◌∙◌, ap, subst, arith}
use Rattle.std.specs.Prelude.{Contains, slice_index, slice_index_or, slice_get, Some, nat_le, nat_lt}
use Rattle.std.specs.List.{flat_map}
use Rattle.std.proofs.lemmas.Bool.{cases_lt, and_from, le-leb, lt-ltb}
use Rattle.std.proofs.lemmas.List.{get_or_past, get_or_append_left, get_or-append_right, get_or-append-add, get_or-map, length-map, length-append, ext_get_or, take_at}
use Rattle.std.proofs.lemmas.List.Elements.{All-contains}
use Rattle.std.proofs.lemmas.Option.{slice_get_within, get_or_from_slice_get}
use Rattle.sv_base.specs.Classes.{is_value}
use Rattle.code_isa.specs.declared.machine.Kid.{Kid}
use Rattle.code_isa.specs.declared.machine.Instr.{Instr}
use Rattle.code_isa.specs.declared.machine.Machine.{Machine}
use Rattle.code_isa.specs.Faces.{ports_of, input_widths, output_widths, input_count}
use Rattle.code_isa.specs.Slots.{slot_widths, slot_count, first_instruction, first_kid_output, operand_slots}
use Rattle.code_isa.specs.Values.{instr_value}
use Rattle.code_isa.specs.Dependence.{kid_reads, Reads, is_kid_slot}
use Rattle.code_isa.specs.Checks.{IsChained, IsSlotOrdered}
use Rattle.code_isa.specs.Tree.{Tree, node, Forest, no_tree, tree_and, top_of, IsLinked, AreLinked, State, state, States, no_state, state_and, held_of, words_at, outs_of, outs_of_all}
use Rattle.code_isa.specs.Settled.{IsFilled, IsSettled, AreSettled, HaveSameRegisters, HaveAllSame, HasRegisters, AllHaveRegisters}
use Rattle.code_isa.proofs.Running.{value_same}
use Rattle.code_isa.proofs.Readers.{slot_total}
use Rattle.code_isa.proofs.Counting.{output_slots}
use Rattle.code_isa.proofs.Active.{found_at}
use Rattle.code_isa.proofs.One.{kid_total, kid_rows, reads_operands, reads_kid, Bounded, bounded_on, bounded_kid, bounded_some, bounded_all, words_size, out_size, all_agree}

-- ---- one machine, whose children's outputs are a function of the slots, each by what it reads

module _ (m : Machine) (order : IsSlotOrdered m) (chain : IsChained m) (held registers : List ℕ) (held_each : length held ≡ length (input_widths m.face)) (registers_each : length registers ≡ length m.regs) (outs : List ℕ → List ℕ) (outs_each : (u : List ℕ) → length (outs u) ≡ length (flat_map (λ (kid : Kid). output_widths kid.face) m.kids)) (outs_by_reads : (u v : List ℕ) (o : ℕ) → ((x : ℕ) → Contains (slice_index_or (flat_map kid_reads m.kids) o []) x → slice_index u x ≡ slice_index v x) → slice_index (outs u) o ≡ slice_index (outs v) o) where
  given_words : List ℕ → List ℕ
  given_words u = held ++ registers ++ outs u

  -- the word of each slot, from those that the slots had before
  next_words : List ℕ → List ℕ
  next_words u = given_words u ++ map (instr_value (slot_widths m) u) m.code

  first_size : length (held ++ registers) ≡ first_kid_output m
  first_size = omega (arith, length-append held registers, held_each, registers_each)

  given_size : (u : List ℕ) → length (given_words u) ≡ first_instruction m
  unfolding given_words
  given_size u = omega (arith, length-append (held ++ registers) (outs u), first_size, outs_each u, kid_total m)

  next_size : (u : List ℕ) → length (next_words u) ≡ slot_count m
  unfolding next_words
  next_size u = omega (arith, length-append (given_words u) (map (instr_value (slot_widths m) u) m.code), given_size u, length-map m.code (instr_value (slot_widths m) u), slot_total m)

  given_next : (u : List ℕ) (s : ℕ) → s < first_instruction m → slice_index (next_words u) s ≡ slice_index (given_words u) s
  unfolding next_words
  given_next u s low = get_or_append_left (given_words u) (map (instr_value (slot_widths m) u) m.code) 0 s (omega (arith, given_size u))

  first_next : (u : List ℕ) (s : ℕ) → s < first_kid_output m → slice_index (next_words u) s ≡ slice_index (held ++ registers) s
  unfolding given_words
  first_next u s low = given_next u s (omega (arith, kid_total m)) ∙ get_or_append_left (held ++ registers) (outs u) 0 s (omega (arith, first_size))

  kid_next : (u : List ℕ) (s : ℕ) → first_kid_output m ≤ s → s < first_instruction m → slice_index (next_words u) s ≡ slice_index (outs u) (s - first_kid_output m)
  unfolding given_words
  kid_next u s past low = given_next u s low ∙ get_or-append_right (held ++ registers) (outs u) (first_kid_output m) s 0 first_size past

  code_next : (u : List ℕ) (k : ℕ) (i : Instr) → slice_get m.code k ≡ Some i → slice_index (next_words u) (first_instruction m + k) ≡ instr_value (slot_widths m) u i
  unfolding next_words
  code_next u k i at =
      ap (λ n. slice_index (next_words u) (n + k)) (sym (given_size u))
      ∙ get_or-append-add (given_words u) (map (instr_value (slot_widths m) u) m.code) k 0
      ∙ get_or-map (instr_value (slot_widths m) u) m.code k i 0 (slice_get_within m.code k i at) ∙ ap (instr_value (slot_widths m) u) (get_or_from_slice_get m.code k i i at)

  -- the words after so many turns
  turns : ℕ → List ℕ
  turns zero = next_words []
  turns (suc n) = next_words (turns n)

  turns_size : (n : ℕ) → length (turns n) ≡ slot_count m
  unfolding turns
  turns_size zero = next_size []
  turns_size (suc n) = next_size (turns n)

  -- a slot has the same word after both numbers of turns
  Same : ℕ → ℕ → ℕ → Type 0
  Same i j s = slice_index (turns i) s ≡ slice_index (turns j) s

  same_past : (i j s : ℕ) → slot_count m ≤ s → Same i j s
  unfolding Same
  same_past i j s past = get_or_past (turns i) s 0 (omega (arith, turns_size i)) ∙ sym (get_or_past (turns j) s 0 (omega (arith, turns_size j)))

  same_first : (i j s : ℕ) → s < first_kid_output m → Same (suc i) (suc j) s
  unfolding Same turns
  same_first i j s low = first_next (turns i) s low ∙ sym (first_next (turns j) s low)

  same_kid : (i j s : ℕ) → first_kid_output m ≤ s → s < first_instruction m → ((b : ℕ) → Reads m s b → Same i j b) → Same (suc i) (suc j) s
  unfolding Same turns
  same_kid i j s past low reads =
      let place : first_kid_output m + (s - first_kid_output m) ≡ s = omega arith in
      kid_next (turns i) s past low
      ∙ outs_by_reads (turns i) (turns j) (s - first_kid_output m) (λ x there. reads x (subst (λ k. Reads m k x) place (reads_kid m (s - first_kid_output m) x (omega (arith, kid_total m, kid_rows m.kids)) there)))
      ∙ sym (kid_next (turns j) s past low)

  same_code : (i j k : ℕ) → k < length m.code → ((b : ℕ) → b < first_instruction m + k → Reads m (first_instruction m + k) b → Same i j b) → Same (suc i) (suc j) (first_instruction m + k)
  unfolding Same turns
  same_code i j k inside reads =
      found_at m.code k inside (λ instr at.
      code_next (turns i) k instr at
      ∙ value_same (slot_widths m) (turns i) (turns j) instr (λ b there.
      reads b (All-contains (λ x. x < first_instruction m + k) (operand_slots instr) b (order.operands k instr at) there) (reads_operands m k b instr at there))
      ∙ sym (code_next (turns j) k instr at))

  -- a slot below c on whose paths there are at most n outputs of children keeps its word from this turn on
  from : ℕ → ℕ
  from n = n * suc (slot_count m)

  from_more : (n : ℕ) → from (suc n) ≡ from n + slot_count m + 1
  unfolding from
  from_more n = omega arith

  within : (n : ℕ) → ((b k : ℕ) → suc k ≡ n → Bounded m k b → (i j : ℕ) → from n ≤ suc i → from n ≤ suc j → Same i j b) → (c s : ℕ) → s < c → Bounded m n s → (i j : ℕ) → from n + c ≤ i → from n + c ≤ j → Same i j s
  within n below zero s low bounded i j at_i at_j = absurd (let clash : ⊥ = omega arith in clash)
  within n below (suc c) s low bounded zero j at_i at_j = absurd (let clash : ⊥ = omega arith in clash)
  within n below (suc c) s low bounded (suc i) zero at_i at_j = absurd (let clash : ⊥ = omega arith in clash)
  within n below (suc c) s low bounded (suc i) (suc j) at_i at_j =
      elim (cases_lt s (first_kid_output m)) [
        | inl first ↦ same_first i j s first
        | inr past ↦ elim (cases_lt s (first_instruction m)) [
          | inl output ↦
              let kid : is_kid_slot m s ≡ true = and_from (nat_le (first_kid_output m) s) (nat_lt s (first_instruction m)) (le-leb (first_kid_output m) s past) (lt-ltb s (first_instruction m) output) in
              let some : 1 ≤ n = bounded_some m n s kid bounded in
              same_kid i j s past output (λ b reads. below b (n - 1) (let e : suc (n - 1) ≡ n = omega arith in e) (bounded_kid m n s b kid reads bounded) i j (omega arith) (omega arith))
          | inr high ↦ elim (cases_lt (s - first_instruction m) (length m.code)) [
            | inl inside ↦
                let k : ℕ = s - first_instruction m in
                let place : first_instruction m + k ≡ s = omega arith in
                subst (Same (suc i) (suc j)) place (same_code i j k inside (λ b lower reads.
                within n below c b (omega arith) (bounded_on m n s b (subst (λ x. Reads m x b) place reads) bounded) i j (omega arith) (omega arith)))
            | inr outside ↦ same_past (suc i) (suc j) s (omega (arith, slot_total m))
          ]
        ]
      ]

  steady : (n s : ℕ) → Bounded m n s → (i j : ℕ) → from (suc n) ≤ suc i → from (suc n) ≤ suc j → Same i j s
  steady zero s bounded i j at_i at_j =
      elim (cases_lt s (slot_count m)) [
        | inl inside ↦ within zero (λ b k e. absurd (let clash : ⊥ = omega arith in clash)) (slot_count m) s inside bounded i j (omega (arith, from_more zero)) (omega (arith, from_more zero))
        | inr past ↦ same_past i j s past
      ]
  steady (suc n) s bounded i j at_i at_j =
      elim (cases_lt s (slot_count m)) [
        | inl inside ↦
            within (suc n) (λ b k e low. steady n b (subst (λ x. Bounded m x b) (let same : k ≡ n = omega arith in same) low)) (slot_count m) s inside bounded i j (omega (arith, from_more (suc n))) (omega (arith, from_more (suc n)))
        | inr past ↦ same_past i j s past
      ]

  last : ℕ
  last = from (suc m.chain)

  -- words that a further turn leaves as they are
  fixed : turns last ≡ next_words (turns last)
  unfolding Same last turns
  fixed =
      let more : turns last ≡ turns (suc last) =
      ext_get_or 0 (turns last) (turns (suc last)) (turns_size last ∙ sym (turns_size (suc last))) (λ s _. steady m.chain s (bounded_all m s chain) last (suc last) (omega arith) (omega arith)) in
      more

  -- slots that are filled
  pub filled : (u : List ℕ) × IsFilled m held registers u (outs u)
  unfolding next_words given_words
  filled =
      let u = turns last in (
        u,
        record {
          sized = turns_size last;
          held_each = held_each;
          registers_each = registers_each;
          given_slots = ap (take (first_instruction m)) fixed ∙ take_at (given_words u) (map (instr_value (slot_widths m) u) m.code) (first_instruction m) (given_size u);
          run = λ k i at. ap (λ xs. slice_index xs (first_instruction m + k)) fixed ∙ code_next u k i at;
        },
      )

-- ---- trees

-- two states with the registers of a third have the same
mutual
  same_both : (s z w : State) → HaveSameRegisters s z → HaveSameRegisters s w → HaveSameRegisters z w
  same_both (state i r u ss) (state j q v zs) (state k p w ws) a b = (sym a.0 ∙ b.0, all_same_both ss zs ws a.1 b.1)

  all_same_both : (ss zs ws : States) → HaveAllSame ss zs → HaveAllSame ss ws → HaveAllSame zs ws
  all_same_both no_state no_state no_state a b = tt
  all_same_both no_state no_state (state_and w ws) a b = absurd b
  all_same_both no_state (state_and z zs) ws a b = absurd a
  all_same_both (state_and s ss) no_state ws a b = absurd a
  all_same_both (state_and s ss) (state_and z zs) no_state a b = absurd b
  all_same_both (state_and s ss) (state_and z zs) (state_and w ws) a b = (same_both s z w a.0 b.0, all_same_both ss zs ws a.1 b.1)

all_outs_size : (trees : Forest) (kids : List Kid) (states : States) (u : List ℕ) → AreLinked trees kids → AreSettled trees kids u states → length (outs_of_all trees states) ≡ length (flat_map (λ (kid : Kid). output_widths kid.face) kids)
all_outs_size no_tree [] states u linked settled = refl
all_outs_size no_tree (kid ∷ kids) states u linked settled = absurd linked
all_outs_size (tree_and t trees) [] states u linked settled = absurd linked
all_outs_size (tree_and t trees) (kid ∷ kids) no_state u linked settled = absurd settled
all_outs_size (tree_and t trees) (kid ∷ kids) (state_and s states) u linked settled =
    let rest = all_outs_size trees kids states u linked.3 settled.2 in
    let here : length (outs_of t s) ≡ length (output_widths kid.face) = out_size t s kid linked.0 ∙ output_slots kid in
    length-append (outs_of t s) (outs_of_all trees states) ∙ ap (λ n. n + length (outs_of_all trees states)) here
    ∙ ap (λ n. length (output_widths kid.face) + n) rest
    ∙ sym (length-append (output_widths kid.face) (flat_map (λ (k : Kid). output_widths k.face) kids))

joined_size : (t : Tree) (kid : Kid) (u : List ℕ) → (top_of t).face ≡ kid.face → length (words_at u kid.ins) ≡ length (input_widths (top_of t).face)
joined_size t kid u face =
    words_size u kid.ins ∙ kid.all_joined ∙ ap input_count (sym face) ∙ sym (length-map (ports_of is_value (top_of t).face) (λ p. p.width))

mutual
  pub settled : (t : Tree) (s : State) → IsLinked t → HasRegisters t s → (held : List ℕ) → length held ≡ length (input_widths (top_of t).face) → (z : State) × IsSettled t z × (held_of z ≡ held) × HaveSameRegisters s z
  settled (node m kids) (state old r u ss) linked registers held each =
      let below : (v : List ℕ) → (zs : States) × AreSettled kids m.kids v zs × HaveAllSame ss zs = all_settled kids m.kids ss linked.1 registers.1 in
      let one = filled m linked.0.slot_order linked.0.chained held r each registers.0 (λ v. outs_of_all kids (below v).0)
      (λ v. all_outs_size kids m.kids (below v).0 v linked.1 (below v).1)
      (λ v w o agree. all_agree kids m.kids (below v).0 (below w).0 v w linked.1 (below v).1 (below w).1 (all_same_both ss (below v).0 (below w).0 (below v).2 (below w).2) o agree) in
      (state held r one.0 (below one.0).0, (one.1, (below one.0).1), refl, (refl, (below one.0).2))

  all_settled : (trees : Forest) (kids : List Kid) (ss : States) → AreLinked trees kids → AllHaveRegisters trees ss → (u : List ℕ) → (zs : States) × AreSettled trees kids u zs × HaveAllSame ss zs
  all_settled no_tree [] no_state linked registers u = (no_state, tt, tt)
  all_settled no_tree [] (state_and s ss) linked registers u = absurd registers
  all_settled no_tree (kid ∷ kids) ss linked registers u = absurd linked
  all_settled (tree_and t trees) [] ss linked registers u = absurd linked
  all_settled (tree_and t trees) (kid ∷ kids) no_state linked registers u = absurd registers
  all_settled (tree_and t trees) (kid ∷ kids) (state_and s ss) linked registers u =
      let one = settled t s linked.2 registers.0 (words_at u kid.ins) (joined_size t kid u linked.0) in
      let rest = all_settled trees kids ss linked.3 registers.1 u in
      (state_and one.0 rest.0, (one.2, one.1, rest.1), (one.3, rest.2))

pub settled_exists : (t : Tree) (s : State) → IsLinked t → HasRegisters t s → length (held_of s) ≡ input_count (top_of t).face → (z : State) × IsSettled t z × (held_of z ≡ held_of s) × HaveSameRegisters s z
settled_exists t s linked registers each =
    settled t s linked registers (held_of s) (each ∙ sym (length-map (ports_of is_value (top_of t).face) (λ p. p.width)))
