-- What an instruction takes from values that stand in slots.
use Rattle.std.proofs.Common.{◌≡◌, ℕ, ◌<◌, List, [], ◌∷◌, length, map, get_or, false, cond, sym, ◌∙◌, ap, subst, lit<}
use Rattle.std.specs.Prelude.{slice_index, All}
use Rattle.std.proofs.lemmas.List.{get_or-map}
use Rattle.bit_ops.specs.Width.{WidthsFit}
use Rattle.bit_ops.specs.Rows.{value_of}
use Rattle.bit_ops.specs.Lists.{words, widths}
use Rattle.bit_ops.specs.declared.value.Bits.{Bits}
use Rattle.bit_ops.specs.declared.operation.Op.{Op}
use Rattle.code_isa.specs.declared.machine.Instr.{Instr}
use Rattle.code_isa.specs.Operands.{operand_count, is_constant}
use Rattle.code_isa.specs.Slots.{taken_slots, operand_slots}
use Rattle.code_isa.specs.Values.{operand_widths, operand_at, operands, instr_value}

pub width_read : (slots : List Bits) (k : ℕ) (x : Bits) → k < length slots → x ≡ get_or slots k x → slice_index (widths slots) k ≡ x.width
width_read slots k x within is = get_or-map (λ (b : Bits). b.width) slots k x 0 within ∙ ap (λ (b : Bits). b.width) (sym is)

pub word_read : (slots : List Bits) (k : ℕ) (x : Bits) → k < length slots → x ≡ get_or slots k x → slice_index (words slots) k ≡ x.word
word_read slots k x within is = get_or-map (λ (b : Bits). b.word) slots k x 0 within ∙ ap (λ (b : Bits). b.word) (sym is)

abbrev pair_of : ℕ → ℕ → ℕ × ℕ
pair_of n a = (n, a)

pair_read : (slots : List Bits) (k : ℕ) (x : Bits) → k < length slots → x ≡ get_or slots k x → operand_at (widths slots) (words slots) k ≡ pair_of x.width x.word
pair_read slots k x within is =
    ap (λ n. pair_of n (slice_index (words slots) k)) (width_read slots k x within is) ∙ ap (λ n. pair_of x.width n) (word_read slots k x within is)

-- an instruction whose operation takes two operands
module _ (slots : List Bits) (i : Instr) (op : Op) (x y : Bits) (is : i.op ≡ op) (two : operand_count op ≡ 2) (plain : is_constant op ≡ false) (there : All (λ slot. slot < length slots) (operand_slots i)) (first : x ≡ get_or slots i.a x) (second : y ≡ get_or slots i.b y) where
  both : operand_slots i ≡ i.a ∷ i.b ∷ []
  both = ap (λ o. taken_slots (operand_count o) i) is ∙ ap (λ n. taken_slots n i) two

  no_constant : is_constant i.op ≡ false
  no_constant = ap is_constant is ∙ plain

  a_there : i.a < length slots
  a_there = let all : All (λ slot. slot < length slots) (i.a ∷ i.b ∷ []) = subst (All (λ slot. slot < length slots)) both there in all 0 0 (lit< tt)

  b_there : i.b < length slots
  b_there = let all : All (λ slot. slot < length slots) (i.a ∷ i.b ∷ []) = subst (All (λ slot. slot < length slots)) both there in all 1 0 (lit< tt)

  two_operands : operands (widths slots) (words slots) i ≡ (x.width, x.word) ∷ (y.width, y.word) ∷ []
  two_operands =
      let pair = operand_at (widths slots) (words slots) in
      ap (λ b. cond b ((i.width, i.value) ∷ []) (map pair (operand_slots i))) no_constant
      ∙ ap (λ xs. map pair xs) both
      ∙ ap (λ p. p ∷ pair i.b ∷ []) (pair_read slots i.a x a_there first)
      ∙ ap (λ p. (x.width, x.word) ∷ p ∷ []) (pair_read slots i.b y b_there second)

  pub two_value : instr_value (widths slots) (words slots) i ≡ value_of op i.width i.lo ((x.width, x.word) ∷ (y.width, y.word) ∷ [])
  two_value = ap (λ xs. value_of i.op i.width i.lo xs) two_operands ∙ ap (λ o. value_of o i.width i.lo ((x.width, x.word) ∷ (y.width, y.word) ∷ [])) is

  pub two_fit : WidthsFit i.op i.width i.lo (operand_widths (widths slots) i) → WidthsFit op i.width i.lo (x.width ∷ y.width ∷ [])
  two_fit fits =
      let read : ℕ → ℕ = λ slot. slice_index (widths slots) slot in
      let same : operand_widths (widths slots) i ≡ x.width ∷ y.width ∷ [] =
      ap (λ b. cond b (i.width ∷ []) (map read (operand_slots i))) no_constant
      ∙ ap (λ xs. map read xs) both
      ∙ ap (λ p. p ∷ read i.b ∷ []) (width_read slots i.a x a_there first)
      ∙ ap (λ p. x.width ∷ p ∷ []) (width_read slots i.b y b_there second) in
      subst (λ o. WidthsFit o i.width i.lo (x.width ∷ y.width ∷ [])) is (subst (λ ws. WidthsFit i.op i.width i.lo ws) same fits)

-- an instruction whose operation takes one
module _ (slots : List Bits) (i : Instr) (op : Op) (x : Bits) (is : i.op ≡ op) (one : operand_count op ≡ 1) (plain : is_constant op ≡ false) (there : All (λ slot. slot < length slots) (operand_slots i)) (first : x ≡ get_or slots i.a x) where
  alone : operand_slots i ≡ i.a ∷ []
  alone = ap (λ o. taken_slots (operand_count o) i) is ∙ ap (λ n. taken_slots n i) one

  alone_there : i.a < length slots
  alone_there = let all : All (λ slot. slot < length slots) (i.a ∷ []) = subst (All (λ slot. slot < length slots)) alone there in all 0 0 (lit< tt)

  pub one_value : instr_value (widths slots) (words slots) i ≡ value_of op i.width i.lo ((x.width, x.word) ∷ [])
  one_value =
      let pair = operand_at (widths slots) (words slots) in
      let same : operands (widths slots) (words slots) i ≡ (x.width, x.word) ∷ [] =
      ap (λ b. cond b ((i.width, i.value) ∷ []) (map pair (operand_slots i))) (ap is_constant is ∙ plain)
      ∙ ap (λ xs. map pair xs) alone
      ∙ ap (λ p. p ∷ []) (pair_read slots i.a x alone_there first) in
      ap (λ xs. value_of i.op i.width i.lo xs) same ∙ ap (λ o. value_of o i.width i.lo ((x.width, x.word) ∷ [])) is
