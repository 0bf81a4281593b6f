-- What a leaf means is settled.
use Rattle.std.proofs.Common.{◌≡◌, ℕ, ◌+◌, List, [], ◌++◌, length, map, take, drop, sym, ◌∙◌, ap, subst, arith}
use Rattle.std.proofs.lemmas.List.{append-nil, take-take, drop-take, take-append-drop, length-take-le, length-drop, length-map, length-append}
use Rattle.bit_ops.specs.Lists.{words, widths}
use Rattle.bit_ops.specs.declared.value.Bits.{Bits}
use Rattle.sv_base.specs.declared.face.Port.{Port}
use Rattle.sv_base.specs.Classes.{is_output}
use Rattle.code_isa.specs.declared.machine.Machine.{Machine}
use Rattle.code_isa.specs.declared.machine.Instr.{Instr}
use Rattle.code_isa.specs.Faces.{ports_of}
use Rattle.code_isa.specs.Slots.{first_register, first_instruction, slot_count, given_widths}
use Rattle.code_isa.specs.Values.{IsRun}
use Rattle.code_isa.specs.Tree.{node, no_tree, AreLinked, no_state}
use Rattle.code_isa.specs.Settled.{IsSettled, AreSettled}
use Rattle.code_isa.proofs.Worked.{given_size}
use Rattle.model_stage.specs.Model.{IsModel, IsReady, IsStruck}
use Rattle.leaf_model.specs.declared.leaf.Leaf.{Leaf}
use Rattle.leaf_model.specs.Leaf.{held_in, registers_in, state_at, model_of, stage_of, IsLeaf, IsReadyLeaf, IsStruckLeaf}

-- two pieces of a list beside each other
pub take_add : {X : Type 0} (xs : List X) (n k : ℕ) → take n xs ++ take k (drop n xs) ≡ take (n + k) xs
take_add xs n k =
    let front = take (n + k) xs in
    ap (λ zs. zs ++ take k (drop n xs)) (sym (take-take n (n + k) xs (omega arith)))
    ∙ ap (λ zs. take n front ++ zs) (sym (drop-take n k xs))
    ∙ take-append-drop n front

-- the instructions' slots are the last
pub count_is : (m : Machine) → slot_count m ≡ first_instruction m + length m.code
count_is m = length-append (given_widths m) (map (λ (i : Instr). i.width) m.code) ∙ ap (λ n. first_instruction m + n) (length-map m.code (λ (i : Instr). i.width))

-- a machine with no children whose code is run is settled
pub alone_settled : (m : Machine) (slots : List ℕ) → m.kids ≡ [] → length slots ≡ slot_count m → IsRun m slots → IsSettled (node m no_tree) (state_at m slots)
alone_settled m slots alone sized run =
    let inputs = first_register m in
    let count = length m.regs in
    let given : first_instruction m ≡ inputs + count = given_size m alone in
    let total = count_is m in (
      record {
        sized = sized;
        held_each = length-take-le inputs slots (omega (arith, sized, given, total));
        registers_each = length-take-le count (drop inputs slots) (omega (arith, length-drop inputs slots, sized, given, total));
        given_slots = ap (λ n. take n slots) given ∙ sym (take_add slots inputs count) ∙ sym (append-nil (held_in m slots ++ registers_in m slots));
        run = run;
      },
      subst (λ kids. AreSettled no_tree kids slots no_state) (sym alone) tt,
    )

-- as many words as values
pub words_each : (xs : List Bits) → length (words xs) ≡ length xs
words_each xs = length-map xs (λ (b : Bits). b.word)

pub widths_each : (xs : List Bits) → length (widths xs) ≡ length xs
widths_each xs = length-map xs (λ (b : Bits). b.width)

-- what a leaf means is a model in either stage
pub leaf_is_model : (leaf : Leaf) → IsLeaf leaf → IsModel (model_of leaf)
leaf_is_model leaf was =
    let m = leaf.code.value in
    record {
      linked = (was.checked, subst (AreLinked no_tree) (sym was.alone) tt);
      settled = alone_settled m (words leaf.slots.items) was.alone (words_each leaf.slots.items ∙ sym (widths_each leaf.slots.items) ∙ ap length was.shape) was.run;
      levels_each = was.levels_each;
      shown_each = words_each leaf.shown.items ∙ sym (widths_each leaf.shown.items) ∙ ap length was.shown_wide ∙ length-map (ports_of is_output m.face) (λ (p : Port). p.width);
      numbers = omega (arith, was.numbers);
    }

-- that a ready leaf is a ready model
pub leaf_is_ready : (leaf : Leaf) → IsReadyLeaf leaf → IsReady (model_of leaf)
leaf_is_ready leaf was = record {
  model = leaf_is_model leaf was.known;
  stage = ap stage_of was.unstruck;
  shown = was.shown;
}

-- that a struck leaf is a struck model
pub leaf_is_struck : (leaf : Leaf) → IsStruckLeaf leaf → IsStruck (model_of leaf)
leaf_is_struck leaf was = record {
  model = leaf_is_model leaf was.known;
  stage = ap stage_of was.struck;
}
