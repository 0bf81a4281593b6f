-- A slot that is given another value of its width.
use Rattle.std.proofs.Common.{◌≡◌, ℕ, ◌+◌, ◌<◌, List, length, map, get_or, set, sym, ◌∙◌, ap}
use Rattle.std.proofs.lemmas.List.{length-map, length-append, get_or-map, map-set}
use Rattle.std.proofs.Math.Seq.{map-set_same}
use Rattle.bit_ops.specs.Lists.{words, widths}
use Rattle.bit_ops.specs.declared.value.Bits.{Bits}
use Rattle.code_isa.specs.declared.machine.Instr.{Instr}
use Rattle.code_isa.specs.declared.machine.Machine.{Machine}
use Rattle.code_isa.specs.Slots.{slot_widths, given_widths, first_instruction}

-- how many slots there are
pub slots_room : (m : Machine) (slots : List Bits) → widths slots ≡ slot_widths m → length slots ≡ first_instruction m + length m.code
slots_room m slots shape =
    sym (length-map slots (λ (b : Bits). b.width)) ∙ ap length shape ∙ length-append (given_widths m) (map (λ (i : Instr). i.width) m.code)
    ∙ ap (λ n. first_instruction m + n) (length-map m.code (λ (i : Instr). i.width))

pub words_set : (slots : List Bits) (s : ℕ) (b : Bits) → words (set slots s b) ≡ set (words slots) s b.word
words_set slots s b = map-set (λ (x : Bits). x.word) slots s b

-- the old value of the slot was read
pub widths_kept : (slots : List Bits) (s : ℕ) (old b : Bits) → s < length slots → old ≡ get_or slots s old → b.width ≡ old.width → widths (set slots s b) ≡ widths slots
widths_kept slots s old b inside is same =
    let e : b.width ≡ (get_or slots s b).width =
    same ∙ ap (λ (x : Bits). x.width) is ∙ sym (get_or-map (λ (x : Bits). x.width) slots s old 0 inside) ∙ get_or-map (λ (x : Bits). x.width) slots s b 0 inside in
    map-set_same (λ (x : Bits). x.width) slots s b b e
