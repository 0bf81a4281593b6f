-- Slots of a machine without children, to which other inputs or registers are given.
use Rattle.std.proofs.Common.{◌≡◌, ℕ, ◌+◌, ◌<◌, ◌≤◌, List, [], ◌++◌, length, map, take, drop, sym, ◌∙◌, ap, subst, arith}
use Rattle.std.specs.Prelude.{All}
use Rattle.std.specs.List.{flat_map}
use Rattle.std.proofs.lemmas.List.{take-take, drop-take, take_at, length-map, length-append, get_or_append_left}
use Rattle.code_isa.specs.declared.machine.Machine.{Machine}
use Rattle.code_isa.specs.declared.machine.Reg.{Reg}
use Rattle.code_isa.specs.declared.machine.Kid.{Kid}
use Rattle.code_isa.specs.declared.machine.Instr.{Instr}
use Rattle.sv_base.specs.Classes.{is_value}
use Rattle.sv_base.specs.declared.face.Port.{Port}
use Rattle.bit_ops.specs.Lists.{words, widths}
use Rattle.bit_ops.specs.declared.value.Bits.{Bits}
use Rattle.code_isa.specs.Checks.{IsChecked}
use Rattle.code_isa.specs.Tree.{words_at}
use Rattle.code_isa.specs.Faces.{input_widths, output_widths, input_count, ports_of}
use Rattle.code_isa.specs.Slots.{first_register, first_instruction, slot_count, slot_widths}
use Rattle.bit_ops.specs.Width.{IsWidth}
use Rattle.code_isa.proofs.Counting.{widths_fit}
use Rattle.code_isa.proofs.Worked.{given_size}
use Rattle.leaf_model.specs.Leaf.{held_in, registers_in, placed}
use Rattle.leaf_model.specs.Known.{count_is, words_each, widths_each}
use Rattle.leaf_model.proofs.Lists.{front, middle, take_placed, drop_placed, placed_middle}

-- each data input has a width that a value may have
pub inputs_fit : (m : Machine) → All IsWidth (input_widths m.face)
inputs_fit m k d inside =
    let inputs = input_widths m.face in
    let regs = map (λ (r : Reg). r.width) m.regs in
    let outputs = flat_map (λ (kid : Kid). output_widths kid.face) m.kids in
    let code = map (λ (i : Instr). i.width) m.code in
    let first : k < length (inputs ++ regs) = omega (arith, inside, length-append inputs regs) in
    let second : k < length (inputs ++ regs ++ outputs) = omega (arith, first, length-append (inputs ++ regs) outputs) in
    let third : k < length (inputs ++ regs ++ outputs ++ code) = omega (arith, second, length-append (inputs ++ regs ++ outputs) code) in
    subst IsWidth (get_or_append_left (inputs ++ regs ++ outputs) code d k second ∙ get_or_append_left (inputs ++ regs) outputs d k first ∙ get_or_append_left inputs regs d k inside) (widths_fit m k d third)

-- the widths of the data inputs' slots, and those of the registers'
pub input_slots_wide : (m : Machine) (n : ℕ) → n ≡ first_register m → input_widths m.face ≡ take n (drop 0 (slot_widths m))
input_slots_wide m n is =
    sym (front (input_widths m.face) (map (λ (r : Reg). r.width) m.regs) (flat_map (λ (kid : Kid). output_widths kid.face) m.kids) (map (λ (i : Instr). i.width) m.code) n (sym is))

pub register_slots_wide : (m : Machine) (n first : ℕ) → n ≡ length m.regs → first ≡ first_register m → map (λ (r : Reg). r.width) m.regs ≡ take n (drop first (slot_widths m))
register_slots_wide m n first is at =
    sym (middle (input_widths m.face) (map (λ (r : Reg). r.width) m.regs) (flat_map (λ (kid : Kid). output_widths kid.face) m.kids) (map (λ (i : Instr). i.width) m.code) n (length-map m.regs (λ (r : Reg). r.width) ∙ sym is))
    ∙ ap (λ k. take n (drop k (slot_widths m))) (sym at)

module _ (m : Machine) (alone : m.kids ≡ []) where
  agree : (n : ℕ) (xs ys : List ℕ) → n ≤ first_instruction m → take (first_instruction m) xs ≡ take (first_instruction m) ys → take n xs ≡ take n ys
  agree n xs ys low same = sym (take-take n (first_instruction m) xs low) ∙ ap (take n) same ∙ take-take n (first_instruction m) ys low

  -- slots that agree before those of the instructions have the same inputs and registers
  pub held_agree : (xs ys : List ℕ) → take (first_instruction m) xs ≡ take (first_instruction m) ys → held_in m xs ≡ held_in m ys
  held_agree xs ys same = agree (first_register m) xs ys (omega (arith, given_size m alone)) same

  pub registers_agree : (xs ys : List ℕ) → take (first_instruction m) xs ≡ take (first_instruction m) ys → registers_in m xs ≡ registers_in m ys
  registers_agree xs ys same =
      let inputs = first_register m in
      let count = length m.regs in
      sym (drop-take inputs count xs) ∙ ap (drop inputs) (agree (inputs + count) xs ys (omega (arith, given_size m alone)) same) ∙ drop-take inputs count ys

  module _ (old new values : List ℕ) (first : ℕ) (sized : length old ≡ slot_count m) (given : take (first_instruction m) new ≡ take (first_instruction m) (placed old first values)) where
    -- other inputs are given
    pub inputs_held : first ≡ 0 → length values ≡ first_register m → held_in m new ≡ values
    inputs_held here size =
        held_agree new (placed old first values) given ∙ ap (λ n. held_in m (placed old n values)) here
        ∙ take_at values (drop (0 + length values) old) (first_register m) size

    pub inputs_keep : first ≡ 0 → length values ≡ first_register m → registers_in m new ≡ registers_in m old
    inputs_keep here size =
        registers_agree new (placed old first values) given
        ∙ ap (take (length m.regs)) (drop_placed old (first_register m) first values (omega (arith, here, size)) (omega (arith, here)))

    -- other registers are given
    pub registers_given : first ≡ first_register m → length values ≡ length m.regs → registers_in m new ≡ values
    registers_given at size =
        registers_agree new (placed old first values) given
        ∙ ap (λ n. take n (drop (first_register m) (placed old first values))) (sym size)
        ∙ ap (λ n. take (length values) (drop n (placed old first values))) (sym at)
        ∙ placed_middle old first values (omega (arith, at, sized, given_size m alone, count_is m))

    pub registers_keep : first ≡ first_register m → held_in m new ≡ held_in m old
    registers_keep at =
        held_agree new (placed old first values) given
        ∙ take_placed old (first_register m) first values (omega (arith, at)) (omega (arith, at, sized, given_size m alone, count_is m))

-- as many data inputs as slots before the registers
pub inputs_count : (m : Machine) → input_count m.face ≡ first_register m
inputs_count m = sym (length-map (ports_of is_value m.face) (λ (p : Port). p.width))

-- as many words as slots
pub words_sized : (m : Machine) (slots : List Bits) → widths slots ≡ slot_widths m → length (words slots) ≡ slot_count m
words_sized m slots shape = words_each slots ∙ sym (widths_each slots) ∙ ap length shape

-- the output slots have the widths of the outputs
pub outputs_wide : (m : Machine) → IsChecked m → (ws : List ℕ) → ws ≡ slot_widths m → words_at ws m.outs ≡ output_widths m.face
outputs_wide m is_checked ws shape = ap (λ us. words_at us m.outs) shape ∙ is_checked.slot_width.outs

-- what a run of the code says, of an equal machine and of equal values
pub given_moved : (m other : Machine) (old new values given : List ℕ) (first : ℕ) → other ≡ m → given ≡ values →
    take (first_instruction other) new ≡ take (first_instruction other) (placed old first given) → take (first_instruction m) new ≡ take (first_instruction m) (placed old first values)
given_moved m other old new values given first same are was =
    subst (λ (x : Machine). take (first_instruction x) new ≡ take (first_instruction x) (placed old first values)) same (was ∙ ap (λ vs. take (first_instruction other) (placed old first vs)) are)
