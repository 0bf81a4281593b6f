-- Slots by how many outputs of children stand on the paths behind them.
use Rattle.std.proofs.Common.{◌≡◌, ℕ, zero, suc, ◌+◌, ◌-◌, ◌<◌, ◌≤◌, inl, inr, Bool, true, cond, List, [], ◌∷◌, ◌++◌, length, take, sym, ◌∙◌, ap, subst, arith}
use Rattle.std.specs.Prelude.{Contains, slice_index, slice_index_or, count_by, nat_le, nat_lt}
use Rattle.std.specs.List.{flat_map}
use Rattle.std.proofs.lemmas.Bool.{cases_lt, and_from, le-leb, lt-ltb}
use Rattle.std.proofs.lemmas.List.{get_or_past, get_or-take, get_or_append_left, get_or-append_right, length-append}
use Rattle.std.proofs.lemmas.List.Sums.{sum_by-cons}
use Rattle.std.proofs.lemmas.List.Elements.{All-contains}
use Rattle.code_isa.specs.declared.machine.Machine.{Machine}
use Rattle.code_isa.specs.Slots.{slot_widths, first_instruction, first_kid_output, operand_slots}
use Rattle.code_isa.specs.Dependence.{kid_reads, Reads, is_kid_slot}
use Rattle.code_isa.specs.Checks.{IsChained, IsSlotOrdered}
use Rattle.code_isa.specs.Settled.{IsFilled}
use Rattle.code_isa.proofs.Running.{value_same}
use Rattle.code_isa.proofs.Readers.{slot_total}
use Rattle.code_isa.proofs.Active.{found_at}
use Rattle.code_isa.proofs.One.{kid_total, kid_rows, reads_operands, reads_kid}
use Rattle.settle_loop.specs.Finality.{IsBelow}

abbrev weight : Bool → ℕ
weight b = cond b 1 0

-- what a slot reads is below as well
pub below_on : (m : Machine) (n s b : ℕ) → Reads m s b → IsBelow m n s → IsBelow m n b
below_on m n s b reads below path is =
    let all : count_by (is_kid_slot m) (s ∷ b ∷ path) < n = below (b ∷ path) (reads, is) in
    let more = sum_by-cons (λ x. cond (is_kid_slot m x) 1 0) s (b ∷ path) in
    omega (arith, all, more)

-- what an output of a child reads is below one less
pub below_kid : (m : Machine) (n s b : ℕ) → is_kid_slot m s ≡ true → Reads m s b → IsBelow m (suc n) s → IsBelow m n b
below_kid m n s b kid reads below path is =
    let all : count_by (is_kid_slot m) (s ∷ b ∷ path) < suc n = below (b ∷ path) (reads, is) in
    let more = sum_by-cons (λ x. cond (is_kid_slot m x) 1 0) s (b ∷ path) in
    let one : weight (is_kid_slot m s) ≡ 1 = ap weight kid in
    omega (arith, all, more, one)

pub below_none : (m : Machine) (s : ℕ) → IsBelow m 0 s → ⊥
below_none m s below =
    let none : count_by (is_kid_slot m) (s ∷ []) < 0 = below [] tt in
    omega (arith, none)

pub below_more : (m : Machine) (n s : ℕ) → IsBelow m n s → IsBelow m (n + 1) s
below_more m n s below path is = let low = below path is in omega (arith, low)

-- every slot is below the chain and one more
pub below_all : (m : Machine) (s : ℕ) → IsChained m → IsBelow m (m.chain + 1) s
below_all m s chained path is = let low = chained (s ∷ path) is in omega (arith, low)

-- where the outputs of children that read slots below n are given last values, each slot below one more has its last value
module _ (m : Machine) (held registers v u g h : List ℕ) (n : ℕ) (order : IsSlotOrdered m) (now : IsFilled m held registers v g) (last : IsFilled m held registers u h) (outs : (o : ℕ) → ((x : ℕ) → Contains (slice_index_or (flat_map kid_reads m.kids) o []) x → IsBelow m n x) → slice_index g o ≡ slice_index h o) where
  first_size : length (held ++ registers) ≡ first_kid_output m
  first_size = omega (arith, length-append held registers, now.held_each, now.registers_each)

  given_word : (w f : List ℕ) → take (first_instruction m) w ≡ held ++ registers ++ f → (s : ℕ) → s < first_instruction m → slice_index w s ≡ slice_index (held ++ registers ++ f) s
  given_word w f filled s low = sym (get_or-take (first_instruction m) w s 0 low) ∙ ap (λ xs. slice_index xs s) filled

  first_final : (s : ℕ) → s < first_kid_output m → slice_index v s ≡ slice_index u s
  first_final s low =
      let inside : s < first_instruction m = omega (arith, kid_total m) in
      given_word v g now.given_slots s inside
      ∙ get_or_append_left (held ++ registers) g 0 s (omega (arith, first_size))
      ∙ sym (get_or_append_left (held ++ registers) h 0 s (omega (arith, first_size)))
      ∙ sym (given_word u h last.given_slots s inside)

  kid_final : (s : ℕ) → first_kid_output m ≤ s → s < first_instruction m → IsBelow m (suc n) s → slice_index v s ≡ slice_index u s
  kid_final s past low below =
      let p : ℕ = first_kid_output m in
      let place : p + (s - p) ≡ s = omega arith in
      let kid : is_kid_slot m s ≡ true = and_from (nat_le p s) (nat_lt s (first_instruction m)) (le-leb p s past) (lt-ltb s (first_instruction m) low) in
      given_word v g now.given_slots s low
      ∙ get_or-append_right (held ++ registers) g p s 0 first_size past
      ∙ outs (s - p) (λ x there. below_kid m n s x kid (subst (λ k. Reads m k x) place (reads_kid m (s - p) x (omega (arith, kid_total m, kid_rows m.kids)) there)) below)
      ∙ sym (get_or-append_right (held ++ registers) h p s 0 first_size past)
      ∙ sym (given_word u h last.given_slots s low)

  slot_final : (c s : ℕ) → s < c → IsBelow m (suc n) s → slice_index v s ≡ slice_index u s
  slot_final zero s low below = absurd (let clash : ⊥ = omega arith in clash)
  slot_final (suc c) s low below =
      elim (cases_lt s (first_kid_output m)) [
        | inl first ↦ first_final s first
        | inr past ↦ elim (cases_lt s (first_instruction m)) [
          | inl output ↦ kid_final s past output below
          | inr high ↦ elim (cases_lt (s - first_instruction m) (length m.code)) [
            | inl inside ↦
                let k : ℕ = s - first_instruction m in
                let place : first_instruction m + k ≡ s = omega arith in
                found_at m.code k inside (λ i at.
                ap (slice_index v) (sym place) ∙ now.run k i at
                ∙ value_same (slot_widths m) v u i (λ b there.
                let reads : Reads m s b = subst (λ x. Reads m x b) place (reads_operands m k b i at there) in
                let less : b < first_instruction m + k = All-contains (λ x. x < first_instruction m + k) (operand_slots i) b (order.operands k i at) there in
                slot_final c b (omega arith) (below_on m (suc n) s b reads below))
                ∙ sym (last.run k i at) ∙ ap (slice_index u) place)
            | inr outside ↦ get_or_past v s 0 (omega (arith, now.sized, slot_total m)) ∙ sym (get_or_past u s 0 (omega (arith, last.sized, slot_total m)))
          ]
        ]
      ]

  pub slots_final : (s : ℕ) → IsBelow m (n + 1) s → slice_index v s ≡ slice_index u s
  slots_final s below = slot_final (suc s) s (omega arith) (subst (λ k. IsBelow m k s) (let e : n + 1 ≡ suc n = omega arith in e) below)
