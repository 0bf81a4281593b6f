-- A machine has no more slots than its library has bytes.
use Rattle.std.proofs.Common.{◌≡◌, ℕ, ◌+◌, ◌≤◌, Bool, List, [], ◌∷◌, ◌++◌, length, map, refl, ap, arith, inl, inr}
use Rattle.std.specs.Prelude.{filter}
use Rattle.std.specs.List.{flat_map}
use Rattle.std.specs.Int.{w16, w32, w64, to_be_bytes}
use Rattle.std.proofs.lemmas.Bool.{cases_Bool}
use Rattle.std.proofs.lemmas.List.{length-append, length-map}
use Rattle.std.proofs.lemmas.List.Folds.{flat_map-map}
use Rattle.sv_base.specs.Classes.{is_value, is_output}
use Rattle.sv_base.specs.declared.face.Port.{Port}
use Rattle.sv_base.specs.declared.face.Face.{Face}
use Rattle.code_isa.specs.Faces.{ports_of, input_widths, output_widths}
use Rattle.code_isa.specs.Slots.{slot_count}
use Rattle.code_isa.specs.declared.machine.Reg.{Reg}
use Rattle.code_isa.specs.declared.machine.Kid.{Kid}
use Rattle.code_isa.specs.declared.machine.Instr.{Instr}
use Rattle.code_isa.specs.declared.machine.Machine.{Machine}
use Rattle.code_check.specs.Told.{HasFewSlots}
use Rattle.sealed_library.specs.declared.limits.TheConstants.{LIBRARY_LIMIT}
use Rattle.sealed_library.specs.Version1.{name_field, width_field, class_field, flag_field, operation_field, port_field, face_field, summary_field, Register, register_fields, register_field, Child, child_fields, child_field, Instruction, instruction_fields, instruction_field, part_fields, parts_field, machine_fields, machine_field}
use Rattle.sealed_library.specs.Library.{library_text, Spells}

-- a list has no more items than its text has bytes, where each item has a byte or more
each_one : {X : Type 0} (f : X → List ℕ) → ((x : X) → 1 ≤ length (f x)) → (xs : List X) → length xs ≤ length (flat_map f xs)
each_one f some [] = omega arith
each_one f some (x ∷ xs) = omega (arith, length-append (f x) (flat_map f xs), some x, each_one f some xs)

-- the same where an item counts for several
each_many : {X Y : Type 0} (f : X → List ℕ) (g : X → List Y) → ((x : X) → length (g x) ≤ length (f x)) → (xs : List X)
    → length (flat_map g xs) ≤ length (flat_map f xs)
each_many f g some [] = omega arith
each_many f g some (x ∷ xs) = omega (arith, length-append (f x) (flat_map f xs), length-append (g x) (flat_map g xs), some x, each_many f g some xs)

filter_short : {X : Type 0} (test : X → Bool) (xs : List X) → length (filter test xs) ≤ length xs
filter_short test [] = omega arith
filter_short test (x ∷ xs) =
    let rest : length (filter test xs) ≤ length xs = filter_short test xs in
    elim (cases_Bool (test x)) [
      | inl passes ↦ rw passes (omega arith)
      | inr fails ↦ rw fails (omega arith)
    ]

port_size : (p : Port) → 1 ≤ length (port_field.spell p)
unfolding port_field class_field
port_size p = omega (arith, length-append (name_field.spell p.name) (class_field.spell p.class ++ (flag_field.spell p.signed ++ width_field.spell p.width)))

face_size : (f : Face) → length f.ports ≤ length (face_field.spell f)
unfolding face_field
face_size f = omega (
  arith,
  length-append (name_field.spell f.name) (to_be_bytes w16 (length f.ports) ++ flat_map port_field.spell f.ports),
  length-append (to_be_bytes w16 (length f.ports)) (flat_map port_field.spell f.ports),
  each_one port_field.spell port_size f.ports,
)

inputs_few : (f : Face) → length (input_widths f) ≤ length (face_field.spell f)
inputs_few f = omega (arith, length-map (ports_of is_value f) (λ (p : Port). p.width), filter_short (λ (p : Port). is_value p.class) f.ports, face_size f)

outputs_few : (f : Face) → length (output_widths f) ≤ length (face_field.spell f)
outputs_few f = omega (arith, length-map (ports_of is_output f) (λ (p : Port). p.width), filter_short (λ (p : Port). is_output p.class) f.ports, face_size f)

register_size : (r : Register) → 1 ≤ length (register_field.spell r)
unfolding register_field width_field
register_size r = omega arith

instruction_size : (i : Instruction) → 1 ≤ length (instruction_field.spell i)
unfolding instruction_field operation_field
instruction_size i = omega arith

child_size : (k : Child) → length (output_widths k.1.0) ≤ length (child_field.spell k)
unfolding child_field
child_size k =
    let behind : List ℕ = (summary_field k.1.0).spell k.1.1.0 ++ (flat_map (to_be_bytes w64) k.1.1.1.0 ++ flat_map (to_be_bytes w32) k.1.1.1.1) in
    omega (arith, length-append k.0 (face_field.spell k.1.0 ++ behind), length-append (face_field.spell k.1.0) behind, outputs_few k.1.0)

-- the slots of registers, children and code
parts_size : (m : Machine)
    → length m.regs + length (flat_map (λ (kid : Kid). output_widths kid.face) m.kids) + length m.code ≤ length ((parts_field m.face).spell (part_fields m))
unfolding parts_field
parts_size m =
    let regs : List ℕ = flat_map register_field.spell (map register_fields m.regs) in
    let kids : List ℕ = flat_map child_field.spell (map child_fields m.kids) in
    let code : List ℕ = flat_map instruction_field.spell (map instruction_fields m.code) in
    let outs : List ℕ = flat_map (to_be_bytes w64) m.outs in
    let regs_count : List ℕ = to_be_bytes w64 (length (map register_fields m.regs)) in
    let kids_count : List ℕ = to_be_bytes w32 (length (map child_fields m.kids)) in
    let code_count : List ℕ = to_be_bytes w64 (length (map instruction_fields m.code)) in
    let regs_many : length m.regs ≤ length regs =
    omega (arith, each_one register_field.spell register_size (map register_fields m.regs), length-map m.regs register_fields) in
    let kids_many : length (flat_map (λ (kid : Kid). output_widths kid.face) m.kids) ≤ length kids =
    omega (
      arith,
      each_many (λ (kid : Kid). child_field.spell (child_fields kid)) (λ (kid : Kid). output_widths kid.face) (λ kid. child_size (child_fields kid)) m.kids,
      ap length (flat_map-map child_field.spell child_fields m.kids),
    ) in
    let code_many : length m.code ≤ length code =
    omega (arith, each_one instruction_field.spell instruction_size (map instruction_fields m.code), length-map m.code instruction_fields) in
    omega (
      arith,
      regs_many,
      kids_many,
      code_many,
      length-append (regs_count ++ regs) ((kids_count ++ kids) ++ ((code_count ++ code) ++ outs)),
      length-append regs_count regs,
      length-append (kids_count ++ kids) ((code_count ++ code) ++ outs),
      length-append kids_count kids,
      length-append (code_count ++ code) outs,
      length-append code_count code,
    )

machine_size : (m : Machine) → slot_count m ≤ length (machine_field.spell (machine_fields m))
unfolding machine_field
machine_size m =
    let inputs : List ℕ = input_widths m.face in
    let regs : List ℕ = map (λ (r : Reg). r.width) m.regs in
    let kids : List ℕ = flat_map (λ (kid : Kid). output_widths kid.face) m.kids in
    let code : List ℕ = map (λ (i : Instr). i.width) m.code in
    let parts : List ℕ = (parts_field m.face).spell (part_fields m) in
    let chain : List ℕ = to_be_bytes w32 m.chain in
    let summary : List ℕ = (summary_field m.face).spell m.summary in
    let face : List ℕ = face_field.spell m.face in
    let count : slot_count m ≡ length (((inputs ++ regs) ++ kids) ++ code) = refl in
    let size : length (machine_field.spell (machine_fields m)) ≡ length (face ++ (summary ++ (chain ++ parts))) = refl in
    omega (
      arith,
      count,
      size,
      inputs_few m.face,
      parts_size m,
      length-append ((inputs ++ regs) ++ kids) code,
      length-append (inputs ++ regs) kids,
      length-append inputs regs,
      length-map m.regs (λ (r : Reg). r.width),
      length-map m.code (λ (i : Instr). i.width),
      length-append face (summary ++ (chain ++ parts)),
      length-append summary (chain ++ parts),
      length-append chain parts,
    )

pub slots_few : (bytes : List ℕ) (m : Machine) → length bytes ≤ LIBRARY_LIMIT → Spells bytes m → HasFewSlots m
unfolding library_text
slots_few bytes m short spells = omega (arith, machine_size m, ap length spells.text)
