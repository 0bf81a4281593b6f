-- A machine that is checked: inverters of one input.
use Rattle.std.proofs.Common.{◌≡◌, ◌≢◌, ℕ, zero, suc, ◌+◌, ◌<◌, ◌≤◌, false, List, [], ◌∷◌, ◌++◌, length, map, get_or, replicate, refl, sym, ◌∙◌, ap, subst, arith, inl, inr, cond, add-one}
use Rattle.std.specs.Prelude.{Contains, All, AllPairs, slice_get, slice_index, slice_index_or, Some, count_by, filter, nat_le, nat_lt}
use Rattle.std.specs.List.{flat_map}
use Rattle.std.proofs.lemmas.Bool.{cases_Bool, and_parts, leb-true, ltb-true}
use Rattle.std.proofs.lemmas.List.{length-map, length-append, length-replicate, get_or-replicate}
use Rattle.std.proofs.lemmas.List.Sums.{sum_by-cons}
use Rattle.std.proofs.lemmas.List.Elements.{All-replicate}
use Rattle.std.proofs.lemmas.Option.{slice_get_within, get_or_from_slice_get, slice_get-get_or}
use Rattle.bit_ops.specs.Width.{WidthsFit}
use Rattle.bit_ops.specs.declared.operation.Op.TheVariants as op
use Rattle.sv_base.specs.Classes.{is_clock, is_value, is_output}
use Rattle.sv_base.specs.declared.face.Class.TheVariants as class
use Rattle.sv_base.specs.declared.face.Port.{Port}
use Rattle.code_isa.specs.declared.machine.Reg.{Reg}
use Rattle.code_isa.specs.declared.machine.Kid.{Kid}
use Rattle.code_isa.specs.declared.machine.Instr.{Instr}
use Rattle.code_isa.specs.declared.machine.Machine.{Machine}
use Rattle.code_isa.specs.Faces.{input_widths, output_widths, ports_of, input_count, clock_count}
use Rattle.code_isa.specs.Operands.{operand_count, is_constant}
use Rattle.code_isa.specs.Slots.{taken_slots, given_widths, slot_widths, slot_count, width_at, first_instruction, first_register, first_kid_output, operand_slots}
use Rattle.code_isa.specs.Values.{operand_widths}
use Rattle.code_isa.specs.Dependence.{is_kid_slot}
use Rattle.code_isa.specs.Checks.{IsFaceShape, IsPortShaped, IsSlotOrdered, IsSlotWide, IsAcyclic, IsSummarised, IsChained, IsChecked, row_at}
use Rattle.code_isa.proofs.Running.{code_width}
use Rattle.code_isa.proofs.Readers.{slot_total}

-- a machine with no children
module _ (m : Machine) (alone : m.kids ≡ []) where
  pub given_size : first_instruction m ≡ first_kid_output m
  given_size =
      let before = input_widths m.face ++ map (λ (r : Reg). r.width) m.regs in
      ap (λ kids. length (before ++ flat_map (λ (kid : Kid). output_widths kid.face) kids)) alone
      ∙ length-append before [] ∙ (let e : length before + 0 ≡ length before = omega arith in e)
      ∙ length-append (input_widths m.face) (map (λ (r : Reg). r.width) m.regs) ∙ ap (λ n. first_register m + n) (length-map m.regs (λ (r : Reg). r.width))

  pub alone_acyclic : IsAcyclic m
  alone_acyclic slot between path = let clash : ⊥ = omega (arith, given_size, between.0, between.1) in clash

  no_kid_slot : (slot : ℕ) → is_kid_slot m slot ≡ false
  no_kid_slot slot =
      elim (cases_Bool (is_kid_slot m slot)) [
        | inl is_so ↦
            let parts = and_parts (nat_le (first_kid_output m) slot) (nat_lt slot (first_instruction m)) is_so in
            let low : first_kid_output m ≤ slot = leb-true (first_kid_output m) slot parts.0 in
            let high : slot < first_instruction m = ltb-true slot (first_instruction m) parts.1 in
            let clash : ⊥ = omega (arith, given_size) in
            absurd clash
        | inr is_not ↦ is_not
      ]

  none_counted : (path : List ℕ) → count_by (is_kid_slot m) path ≡ 0
  none_counted [] = refl
  none_counted (x ∷ path) =
      sum_by-cons (λ s. cond (is_kid_slot m s) 1 0) x path ∙ ap (λ b. cond b 1 0 + count_by (is_kid_slot m) path) (no_kid_slot x)
      ∙ (let e : 0 + count_by (is_kid_slot m) path ≡ 0 = omega (arith, none_counted path) in e)

  pub alone_chained : IsChained m
  alone_chained path _ = omega (arith, none_counted path)

two_pairs : {X : Type 0} (R : X → X → Type 0) (x y : X) → R x y → AllPairs R (x ∷ y ∷ [])
two_pairs R x y r zero zero d before inside = absurd (let clash : ⊥ = omega arith in clash)
two_pairs R x y r zero (suc zero) d before inside = r
two_pairs R x y r zero (suc (suc k)) d before inside = absurd (let clash : ⊥ = omega arith in clash)
two_pairs R x y r (suc j) zero d before inside = absurd (let clash : ⊥ = omega arith in clash)
two_pairs R x y r (suc j) (suc k) d before inside = absurd (let clash : ⊥ = omega arith in clash)

-- inverters of one data input: each instruction is its complement, and the one output shows the first
pub record AreInverters (m : Machine) (a y : List ℕ) (i : Instr) (n : ℕ) : Type 0 where
  pub differ : a ≢ y
  pub ports : m.face.ports ≡ record { name = a; class = class.Value; signed = false; width = 1 } ∷ record { name = y; class = class.Output; signed = false; width = 1 } ∷ []
  pub rows : m.summary.rows ≡ (0 ∷ []) ∷ []
  pub regs : m.regs ≡ []
  pub kids : m.kids ≡ []
  pub code : m.code ≡ replicate n i
  pub some : 1 ≤ n
  pub outs : m.outs ≡ 1 ∷ []
  pub op : i.op ≡ op.Not
  pub width : i.width ≡ 1
  pub first : i.a ≡ 0

module _ (m : Machine) (a y : List ℕ) (i : Instr) (n : ℕ) (is : AreInverters m a y i n) where
  given : given_widths m ≡ 1 ∷ []
  given =
      let registers = map (λ (r : Reg). r.width) m.regs in
      let outputs = λ (kids : List Kid). flat_map (λ (kid : Kid). output_widths kid.face) kids in
      ap (λ ports. map (λ (p : Port). p.width) (filter (λ (p : Port). is_value p.class) ports) ++ registers ++ outputs m.kids) is.ports
      ∙ ap (λ regs. (1 ∷ []) ++ map (λ (r : Reg). r.width) regs ++ outputs m.kids) is.regs
      ∙ ap (λ kids. ((1 ∷ []) ++ []) ++ outputs kids) is.kids

  inputs : input_widths m.face ≡ 1 ∷ []
  inputs = ap (λ ports. map (λ (p : Port). p.width) (filter (λ (p : Port). is_value p.class) ports)) is.ports

  input_number : input_count m.face ≡ 1
  input_number = ap (λ ports. length (filter (λ (p : Port). is_value p.class) ports)) is.ports

  pub first_is_one : first_instruction m ≡ 1
  first_is_one = ap length given

  code_size : length m.code ≡ n
  code_size = ap length is.code ∙ length-replicate n i

  same_instruction : (k : ℕ) (j : Instr) → slice_get m.code k ≡ Some j → j ≡ i
  same_instruction k j at =
      sym (get_or_from_slice_get m.code k j j at) ∙ ap (λ xs. get_or xs k j) is.code ∙ get_or-replicate n k i j (omega (arith, slice_get_within m.code k j at, code_size))

  operand : operand_slots i ≡ 0 ∷ []
  operand = ap (λ o. taken_slots (operand_count o) i) is.op ∙ ap (λ s. s ∷ []) is.first

  total : slot_count m ≡ 1 + n
  total = slot_total m ∙ ap (λ k. k + length m.code) first_is_one ∙ ap (λ k. 1 + k) code_size

  first_width : width_at m 0 ≡ 1
  first_width = ap (λ ws. slice_index (ws ++ map (λ (j : Instr). j.width) m.code) 0) given

  second_width : width_at m 1 ≡ 1
  second_width =
      let at : slice_get m.code 0 ≡ Some i = ap (λ xs. slice_get xs 0) is.code ∙ slice_get-get_or (replicate n i) 0 i (omega (arith, is.some, length-replicate n i)) ∙ ap (λ j. Some j) (get_or-replicate n 0 i i is.some) in
      ap (width_at m) (let e : 1 ≡ first_instruction m + 0 = omega (arith, first_is_one) in e) ∙ code_width m 0 i at ∙ is.width

  only : {X : Type 0} (P : X → Type 0) (xs : List X) (x : X) → xs ≡ x ∷ [] → P x → All P xs
  only P xs x same holds = subst (All P) (sym same) (λ k d inside. let e : 0 ≡ k = omega arith in subst (λ j. P (get_or (x ∷ []) j d)) e holds)

  none : {X : Type 0} (P : X → Type 0) (xs : List X) → xs ≡ [] → All P xs
  none P xs same = subst (All P) (sym same) (λ k d inside. absurd (let clash : ⊥ = omega arith in clash))

  shaped : IsPortShaped m
  shaped = record {
    own = record {
      names_differ = subst (AllPairs (λ (p q : Port). p.name ≢ q.name)) (sym is.ports) (two_pairs (λ (p q : Port). p.name ≢ q.name) _ _ is.differ);
      clocks_narrow = none (λ (p : Port). p.width ≡ 1) (ports_of is_clock m.face) (ap (λ ports. filter (λ (p : Port). is_clock p.class) ports) is.ports);
      rows_rise = only (λ (row : List ℕ). AllPairs (λ p q. p < q) row) m.summary.rows (0 ∷ []) is.rows (λ j k d before inside. absurd (let clash : ⊥ = omega arith in clash));
      rows_within = only (λ (row : List ℕ). All (λ p. p < input_count m.face) row) m.summary.rows (0 ∷ []) is.rows (only (λ p. p < input_count m.face) (0 ∷ []) 0 refl (omega (arith, input_number)));
    };
    kids = none (λ (kid : Kid). IsFaceShape kid.face kid.summary) m.kids is.kids;
    register_clocks = none (λ (r : Reg). r.clock < clock_count m.face) m.regs is.regs;
    kid_clocks = none (λ (kid : Kid). All (λ c. c < clock_count m.face) kid.clocks) m.kids is.kids;
  }

  ordered : IsSlotOrdered m
  ordered = record {
    operands = λ k j at. subst (λ x. All (λ slot. slot < first_instruction m + k) (operand_slots x)) (sym (same_instruction k j at))
        (only (λ slot. slot < first_instruction m + k) (operand_slots i) 0 operand (omega (arith, first_is_one)));
    nexts = none (λ (r : Reg). r.next < slot_count m) m.regs is.regs;
    ins = none (λ (kid : Kid). All (λ slot. slot < slot_count m) kid.ins) m.kids is.kids;
    outs = only (λ slot. slot < slot_count m) m.outs 1 is.outs (omega (arith, total, is.some));
  }

  operand_width : operand_widths (slot_widths m) i ≡ 1 ∷ []
  operand_width =
      let read = λ (slot : ℕ). slice_index (slot_widths m) slot in
      ap (λ o. cond (is_constant o) (i.width ∷ []) (map read (operand_slots i))) is.op ∙ ap (map read) operand ∙ ap (λ w. w ∷ []) first_width

  fits : WidthsFit i.op i.width i.lo (operand_widths (slot_widths m) i)
  fits = subst (λ o. WidthsFit o i.width i.lo (operand_widths (slot_widths m) i)) (sym is.op) (subst (λ ws. WidthsFit op.Not i.width i.lo ws) (sym operand_width) (sym is.width))

  wide : IsSlotWide m
  wide = record {
    operations = subst (All (λ j. WidthsFit j.op j.width j.lo (operand_widths (slot_widths m) j))) (sym is.code) (All-replicate (λ (j : Instr). WidthsFit j.op j.width j.lo (operand_widths (slot_widths m) j)) n i fits);
    nexts = none (λ (r : Reg). width_at m r.next ≡ r.width) m.regs is.regs;
    outs = ap (map (width_at m)) is.outs ∙ ap (λ w. w ∷ []) second_width ∙ sym (ap (λ ports. map (λ (p : Port). p.width) (filter (λ (p : Port). is_output p.class) ports)) is.ports);
    ins = none (λ (kid : Kid). map (width_at m) kid.ins ≡ input_widths kid.face) m.kids is.kids;
  }

  map-replicate : (k : ℕ) → map (λ (j : Instr). j.width) (replicate k i) ≡ replicate k 1
  map-replicate zero = refl
  map-replicate (suc k) = ap (λ w. w ∷ map (λ (j : Instr). j.width) (replicate k i)) is.width ∙ ap (λ ws. 1 ∷ ws) (map-replicate k)

  summarised : IsSummarised m
  summarised k slot input shown within path =
      let first : k ≡ 0 = omega (arith, slice_get_within m.outs k slot shown, ap length is.outs) in
      let zero_input : input ≡ 0 = omega (arith, ap length inputs) in
      let row : row_at m.summary k ≡ 0 ∷ [] = ap (row_at m.summary) first ∙ ap (λ rows. slice_index_or rows 0 []) is.rows in
      subst (λ x. Contains (row_at m.summary k) x) (sym zero_input) (subst (λ xs. Contains xs 0) (sym row) (0, omega arith, refl))

  pub one_bit_each : slot_widths m ≡ replicate (n + 1) 1
  one_bit_each =
      ap (λ ws. ws ++ map (λ (j : Instr). j.width) m.code) given ∙ ap (λ xs. 1 ∷ map (λ (j : Instr). j.width) xs) is.code
      ∙ ap (λ ws. 1 ∷ ws) (map-replicate n) ∙ sym (ap (λ k. replicate {A = ℕ} k 1) (add-one n))

  pub inverters_checked : IsChecked m
  inverters_checked = record {
    port_shape = shaped;
    slot_order = ordered;
    slot_width = wide;
    acyclic = alone_acyclic m is.kids;
    summarised = summarised;
    chained = alone_chained m is.kids;
  }
