-- What registers take, one by one.
use Rattle.std.proofs.Common.{◌≡◌, ℕ, zero, suc, ◌+◌, ◌<◌, ◌≤◌, Bool, List, [], ◌∷◌, length, map, take, drop, get_or, set, refl, sym, ◌∙◌, ap, arith}
use Rattle.std.specs.Prelude.{slice_index, if◌then◌else◌}
use Rattle.std.proofs.lemmas.List.{get_or-take, get_or-drop, get_or-map, length-take-le, length-drop, length-map, map-set}
use Rattle.bit_ops.specs.Lists.{words, widths}
use Rattle.bit_ops.specs.declared.value.Bits.{Bits}
use Rattle.code_isa.specs.declared.machine.Reg.{Reg}
use Rattle.code_isa.specs.Traces.{edge_occurs, level_at, sampled}
use Rattle.leaf_model.specs.Known.{words_each, widths_each}
use Rattle.leaf_model.proofs.Lists.{filled_more, read_at}

-- the word that a register takes
abbrev pub picked : List ℕ → List Bool → List Bool → Reg → ℕ → ℕ
picked slots old new reg word = if edge_occurs reg.falling (level_at old reg.clock) (level_at new reg.clock) then slice_index slots reg.next else word

pub sampled_size : (old new : List Bool) (slots : List ℕ) (regs : List Reg) (ws : List ℕ) → length ws ≡ length regs → length (sampled old new slots regs ws) ≡ length regs
sampled_size old new slots [] [] same = refl
sampled_size old new slots [] (w ∷ ws) same = absurd (let clash : ⊥ = omega (arith, same) in clash)
sampled_size old new slots (r ∷ regs) [] same = absurd (let clash : ⊥ = omega (arith, same) in clash)
sampled_size old new slots (r ∷ regs) (w ∷ ws) same = ap suc (sampled_size old new slots regs ws (let e : length ws ≡ length regs = omega (arith, same) in e))

pub sampled_at : (old new : List Bool) (slots : List ℕ) (regs : List Reg) (ws : List ℕ) (r : ℕ) (reg : Reg) → length ws ≡ length regs → r < length regs → reg ≡ get_or regs r reg → slice_index (sampled old new slots regs ws) r ≡ picked slots old new reg (slice_index ws r)
sampled_at old new slots [] ws r reg same inside at = absurd (let clash : ⊥ = omega (arith, inside) in clash)
sampled_at old new slots (x ∷ regs) [] r reg same inside at = absurd (let clash : ⊥ = omega (arith, same) in clash)
sampled_at old new slots (x ∷ regs) (w ∷ ws) zero reg same inside at = ap (λ (y : Reg). picked slots old new y w) (sym at)
sampled_at old new slots (x ∷ regs) (w ∷ ws) (suc r) reg same inside at = sampled_at old new slots regs ws r reg (let e : length ws ≡ length regs = omega (arith, same) in e) (let e : r < length regs = omega (arith, inside) in e) at

-- a register with the value of its slot
module _ (slots : List Bits) (regs : List Reg) (first r : ℕ) (reg : Reg) (own : Bits) (low : first + length regs ≤ length slots) (inside : r < length regs) (reg_is : reg ≡ get_or regs r reg) (own_is : own ≡ get_or slots (first + r) own) where
  reg_width : slice_index (map (λ (x : Reg). x.width) regs) r ≡ reg.width
  reg_width = get_or-map (λ (x : Reg). x.width) regs r reg 0 inside ∙ ap (λ (x : Reg). x.width) (sym reg_is)

  own_size : length (take (length regs) (drop first (words slots))) ≡ length regs
  own_size = length-take-le (length regs) (drop first (words slots)) (omega (arith, length-drop first (words slots), words_each slots, low))

  -- the word of a register's slot
  pub own_word : slice_index (take (length regs) (drop first (words slots))) r ≡ own.word
  own_word =
      get_or-take (length regs) (drop first (words slots)) r 0 inside ∙ get_or-drop first (words slots) r 0
      ∙ read_at (λ (b : Bits). b.word) slots (first + r) own (omega (arith, low, inside)) own_is

  -- and its width
  pub own_width : take (length regs) (drop first (widths slots)) ≡ map (λ (x : Reg). x.width) regs → own.width ≡ reg.width
  own_width wide =
      sym (get_or-take (length regs) (drop first (widths slots)) r 0 inside ∙ get_or-drop first (widths slots) r 0
      ∙ read_at (λ (b : Bits). b.width) slots (first + r) own (omega (arith, low, inside)) own_is)
      ∙ ap (λ ws. slice_index ws r) wide ∙ reg_width

  -- one register more has taken what it takes
  pub words_more : (old new : List Bool) (next : List Bits) (v : Bits) → length next ≡ length regs → v.word ≡ picked (words slots) old new reg own.word →
      take r (words next) ≡ take r (sampled old new (words slots) regs (take (length regs) (drop first (words slots)))) →
      take (r + 1) (words (set next r v)) ≡ take (r + 1) (sampled old new (words slots) regs (take (length regs) (drop first (words slots))))
  words_more old new next v size is same =
      let all = sampled old new (words slots) regs (take (length regs) (drop first (words slots))) in
      ap (take (r + 1)) (map-set (λ (b : Bits). b.word) next r v)
      ∙ filled_more (words next) all r v.word 0 (omega (arith, inside, size, words_each next)) (omega (arith, inside, sampled_size old new (words slots) regs (take (length regs) (drop first (words slots))) own_size)) same
      (sampled_at old new (words slots) regs (take (length regs) (drop first (words slots))) r reg own_size inside reg_is ∙ ap (picked (words slots) old new reg) own_word ∙ sym is)

  -- so for the widths
  pub widths_more : (next : List Bits) (v : Bits) → length next ≡ length regs → v.width ≡ reg.width → take r (widths next) ≡ take r (map (λ (x : Reg). x.width) regs) → take (r + 1) (widths (set next r v)) ≡ take (r + 1) (map (λ (x : Reg). x.width) regs)
  widths_more next v size is same =
      ap (take (r + 1)) (map-set (λ (b : Bits). b.width) next r v)
      ∙ filled_more (widths next) (map (λ (x : Reg). x.width) regs) r v.width 0 (omega (arith, inside, size, widths_each next)) (omega (arith, inside, length-map regs (λ (x : Reg). x.width))) same
      (reg_width ∙ sym is)
