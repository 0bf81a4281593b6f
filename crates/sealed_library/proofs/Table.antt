-- The laws of the table of fields, and machines with one table of fields are one.
use Rattle.std.proofs.Common.{◌≡◌, ℕ, zero, suc, ◌+◌, Bool, true, false, List, [], ◌∷◌, length, Option, Some, refl, sym, ap, ◌∙◌, arith, eqb}
use Rattle.std.specs.Prelude.{slice_get, nat_lt, ◌&&◌}
use Rattle.std.proofs.lemmas.Bool.{and_parts, eqb-true}
use Rattle.std.specs.Int.{w8, w16, w32, w64}
use Rattle.bit_ops.specs.declared.operation.Op.{Op}
use Rattle.bit_ops.specs.declared.operation.Op.TheVariants as op
use Rattle.sv_base.specs.Spelling.{is_name}
use Rattle.sv_base.specs.declared.face.Class.{Class}
use Rattle.sv_base.specs.declared.face.Class.TheVariants.{Value, Clock, Idle, Output}
use Rattle.sv_base.specs.declared.face.Face.{Face}
use Rattle.code_isa.specs.Faces.{input_count, clock_count, output_count}
use Rattle.code_isa.specs.Operands.{operand_count, names_position, is_constant}
use Rattle.sealed_library.specs.declared.limits.TheConstants.{DIGEST_LENGTH}
use Rattle.sealed_library.specs.Fields.{Field, number, bytes_of, ◌▷◌, sized, repeated, counted}
use Rattle.sealed_library.specs.Version1.{name_length, name_field, width_field, word_field, slot_field, class_number, class_of, class_field, flag_number, flag_of, flag_field, operations, operation_number, operation_field, port_field, port_count, face_field, row_field, summary_field, Register, register_field, Child, child_field, where_it_is, operands_field, Instruction, instruction_field, chain_field, parts_field, machine_field}
use Rattle.sealed_library.proofs.Laws.{IsLawful, IsCode, wide8, wide16, wide32, wide64, lawful_number, lawful_bytes, lawful_nothing, lawful_named, lawful_tested, lawful_then, lawful_sized, lawful_repeated, lawful_counted, lawful_seen}

lawful8 : IsLawful (number w8)
lawful8 = lawful_number w8 wide8

lawful16 : IsLawful (number w16)
lawful16 = lawful_number w16 wide16

pub lawful32 : IsLawful (number w32)
lawful32 = lawful_number w32 wide32

pub lawful64 : IsLawful (number w64)
lawful64 = lawful_number w64 wide64

pub lawful_name : IsLawful name_field
unfolding name_field
lawful_name =
    let text : IsLawful (sized name_length length bytes_of) =
    lawful_sized name_length length bytes_of (lawful_tested (number w16) _ lawful16) lawful_bytes (λ n text h. h.0) in
    lawful_tested (sized name_length length bytes_of) is_name text

pub lawful_width : IsLawful width_field
unfolding width_field
lawful_width = lawful_tested (number w8) _ lawful8

pub lawful_word : (bits : ℕ) → IsLawful (word_field bits)
unfolding word_field
lawful_word bits = lawful_tested (number w64) _ lawful64

-- ---- bytes that stand for things

some_is : {X : Type 0} (x y : X) → (let a : Option X = Some x in a) ≡ Some y → x ≡ y
some_is x y e = cc

class_code : IsCode class_number class_of
class_code = record {
  small = elim [ Value ↦ omega arith | Clock ↦ omega arith | Idle ↦ omega arith | Output ↦ omega arith ];
  there = elim [ Value ↦ refl | Clock ↦ refl | Idle ↦ refl | Output ↦ refl ];
  back = class_back;
} where
  class_back : (n : ℕ) (c : Class) → class_of n ≡ Some c → class_number c ≡ n
  class_back zero c e = ap class_number (sym (some_is Value c e))
  class_back (suc zero) c e = ap class_number (sym (some_is Clock c e))
  class_back (suc (suc zero)) c e = ap class_number (sym (some_is Idle c e))
  class_back (suc (suc (suc zero))) c e = ap class_number (sym (some_is Output c e))
  class_back (suc (suc (suc (suc n)))) c e = absurd cc

lawful_class : IsLawful class_field
unfolding class_field
lawful_class = lawful_named class_number class_of class_code

flag_code : IsCode flag_number flag_of
flag_code = record {
  small = elim [ false ↦ omega arith | true ↦ omega arith ];
  there = elim [ false ↦ refl | true ↦ refl ];
  back = flag_back;
} where
  flag_back : (n : ℕ) (b : Bool) → flag_of n ≡ Some b → flag_number b ≡ n
  flag_back zero b e = ap flag_number (sym (some_is false b e))
  flag_back (suc zero) b e = ap flag_number (sym (some_is true b e))
  flag_back (suc (suc n)) b e = absurd cc

lawful_flag : IsLawful flag_field
unfolding flag_field
lawful_flag = lawful_named flag_number flag_of flag_code

-- whether the things of a list have the numbers from k on
abbrev are_numbered : {X : Type 0} → (X → ℕ) → ℕ → List X → Bool
are_numbered number_of k [] = true
are_numbered number_of k (x ∷ xs) = eqb (number_of x) k && are_numbered number_of (k + 1) xs

number_at : {X : Type 0} (number_of : X → ℕ) (k : ℕ) (xs : List X) → are_numbered number_of k xs ≡ true → (n : ℕ) (x : X)
    → slice_get xs n ≡ Some x → number_of x ≡ k + n
number_at number_of k [] all n x e = absurd cc
number_at number_of k (y ∷ xs) all zero x e =
    let parts = and_parts (eqb (number_of y) k) (are_numbered number_of (k + 1) xs) all in
    ap number_of (sym (some_is y x e)) ∙ eqb-true (number_of y) k parts.0 ∙ (let same : k ≡ k + 0 = omega arith in same)
number_at number_of k (y ∷ xs) all (suc n) x e =
    let parts = and_parts (eqb (number_of y) k) (are_numbered number_of (k + 1) xs) all in
    number_at number_of (k + 1) xs parts.1 n x e ∙ (let same : k + 1 + n ≡ k + suc n = omega arith in same)

operation_code : IsCode operation_number (λ n. slice_get operations n)
operation_code = record {
  small = elim [
    | op.Const ↦ omega arith
    | op.Zext ↦ omega arith
    | op.Sext ↦ omega arith
    | op.Slice ↦ omega arith
    | op.Concat ↦ omega arith
    | op.Not ↦ omega arith
    | op.Neg ↦ omega arith
    | op.And ↦ omega arith
    | op.Or ↦ omega arith
    | op.Xor ↦ omega arith
    | op.Add ↦ omega arith
    | op.Sub ↦ omega arith
    | op.Mul ↦ omega arith
    | op.DivU ↦ omega arith
    | op.DivS ↦ omega arith
    | op.ModU ↦ omega arith
    | op.ModS ↦ omega arith
    | op.Shl ↦ omega arith
    | op.ShrU ↦ omega arith
    | op.ShrS ↦ omega arith
    | op.Eq ↦ omega arith
    | op.LtU ↦ omega arith
    | op.LtS ↦ omega arith
    | op.RedAnd ↦ omega arith
    | op.RedOr ↦ omega arith
    | op.RedXor ↦ omega arith
    | op.Mux ↦ omega arith
    | op.Insert ↦ omega arith
  ];
  there = elim [
    | op.Const ↦ refl
    | op.Zext ↦ refl
    | op.Sext ↦ refl
    | op.Slice ↦ refl
    | op.Concat ↦ refl
    | op.Not ↦ refl
    | op.Neg ↦ refl
    | op.And ↦ refl
    | op.Or ↦ refl
    | op.Xor ↦ refl
    | op.Add ↦ refl
    | op.Sub ↦ refl
    | op.Mul ↦ refl
    | op.DivU ↦ refl
    | op.DivS ↦ refl
    | op.ModU ↦ refl
    | op.ModS ↦ refl
    | op.Shl ↦ refl
    | op.ShrU ↦ refl
    | op.ShrS ↦ refl
    | op.Eq ↦ refl
    | op.LtU ↦ refl
    | op.LtS ↦ refl
    | op.RedAnd ↦ refl
    | op.RedOr ↦ refl
    | op.RedXor ↦ refl
    | op.Mux ↦ refl
    | op.Insert ↦ refl
  ];
  back = λ n o e. number_at operation_number 0 operations refl n o e ∙ (let same : 0 + n ≡ n = omega arith in same);
}

lawful_operation : IsLawful operation_field
unfolding operation_field
lawful_operation = lawful_named operation_number (λ n. slice_get operations n) operation_code

-- ---- faces and summaries

pub lawful_port : IsLawful port_field
unfolding port_field
lawful_port =
    lawful_seen _ _ (name_field ▷ λ _. class_field ▷ λ _. flag_field ▷ λ _. width_field)
    (lawful_then name_field (λ _. class_field ▷ λ _. flag_field ▷ λ _. width_field) lawful_name (λ _.
    lawful_then class_field (λ _. flag_field ▷ λ _. width_field) lawful_class (λ _.
    lawful_then flag_field (λ _. width_field) lawful_flag (λ _. lawful_width))))
    (λ p. refl) (λ x. refl)

pub lawful_face : IsLawful face_field
unfolding face_field
lawful_face =
    lawful_seen _ _ (name_field ▷ λ _. counted port_count port_field)
    (lawful_then name_field (λ _. counted port_count port_field) lawful_name (λ _.
    lawful_counted port_count port_field (lawful_tested (number w16) _ lawful16) lawful_port))
    (λ f. refl) (λ x. refl)

pub lawful_row : IsLawful row_field
unfolding row_field
lawful_row = lawful_counted (number w16) (number w16) lawful16 lawful16

pub lawful_summary : (f : Face) → IsLawful (summary_field f)
unfolding summary_field
lawful_summary f = lawful_seen _ _ (repeated row_field (output_count f)) (lawful_repeated row_field (output_count f) lawful_row) (λ s. refl) (λ rows. refl)

-- ---- registers, children and code

pub lawful_register : IsLawful register_field
unfolding register_field
lawful_register =
    lawful_then width_field (λ bits. word_field bits ▷ λ _. number w32 ▷ λ _. flag_field ▷ λ _. slot_field) lawful_width (λ bits.
    lawful_then (word_field bits) (λ _. number w32 ▷ λ _. flag_field ▷ λ _. slot_field) (lawful_word bits) (λ _.
    lawful_then (number w32) (λ _. flag_field ▷ λ _. slot_field) lawful32 (λ _.
    lawful_then flag_field (λ _. slot_field) lawful_flag (λ _. lawful64))))

pub lawful_child : IsLawful child_field
unfolding child_field
lawful_child =
    let ins : Face → Field (List ℕ) = λ f. repeated slot_field (input_count f) in
    let clocks : Face → Field (List ℕ) = λ f. repeated (number w32) (clock_count f) in
    lawful_then (bytes_of DIGEST_LENGTH) (λ _. face_field ▷ λ f. summary_field f ▷ λ _. ins f ▷ λ _. clocks f) (lawful_bytes DIGEST_LENGTH) (λ _.
    lawful_then face_field (λ f. summary_field f ▷ λ _. ins f ▷ λ _. clocks f) lawful_face (λ f.
    lawful_then (summary_field f) (λ _. ins f ▷ λ _. clocks f) (lawful_summary f) (λ _.
    lawful_then (ins f) (λ _. clocks f) (lawful_repeated slot_field (input_count f) lawful64) (λ _.
    lawful_repeated (number w32) (clock_count f) lawful32))))

pub lawful_where : (there : Bool) (f : Field ℕ) → IsLawful f → IsLawful (where_it_is there f)
lawful_where true f lf = lf
lawful_where false f lf = lawful_nothing

lawful_operands : (o : Op) (bits : ℕ) → IsLawful (operands_field o bits)
unfolding operands_field
lawful_operands o bits =
    let second : Field ℕ = where_it_is (nat_lt 1 (operand_count o)) slot_field in
    let first : Field ℕ = where_it_is (nat_lt 0 (operand_count o)) slot_field in
    let low : Field ℕ = where_it_is (names_position o) (number w8) in
    let last : Field ℕ = where_it_is (is_constant o) (word_field bits) in
    lawful_then _ (λ _. first ▷ λ _. second ▷ λ _. low ▷ λ _. last) (lawful_where (nat_lt 2 (operand_count o)) slot_field lawful64) (λ _.
    lawful_then first (λ _. second ▷ λ _. low ▷ λ _. last) (lawful_where (nat_lt 0 (operand_count o)) slot_field lawful64) (λ _.
    lawful_then second (λ _. low ▷ λ _. last) (lawful_where (nat_lt 1 (operand_count o)) slot_field lawful64) (λ _.
    lawful_then low (λ _. last) (lawful_where (names_position o) (number w8) lawful8) (λ _.
    lawful_where (is_constant o) (word_field bits) (lawful_word bits)))))

pub lawful_instruction : IsLawful instruction_field
unfolding instruction_field
lawful_instruction =
    lawful_then operation_field (λ o. width_field ▷ λ bits. operands_field o bits) lawful_operation (λ o.
    lawful_then width_field (λ bits. operands_field o bits) lawful_width (λ bits. lawful_operands o bits))

-- ---- the whole

pub lawful_parts : (f : Face) → IsLawful (parts_field f)
unfolding parts_field
lawful_parts f =
    let kids : Field (List Child) = counted (number w32) child_field in
    let code : Field (List Instruction) = counted (number w64) instruction_field in
    let outs : Field (List ℕ) = repeated slot_field (output_count f) in
    let regs : Field (List Register) = counted (number w64) register_field in
    lawful_then regs (λ _. kids ▷ λ _. code ▷ λ _. outs) (lawful_counted (number w64) register_field lawful64 lawful_register) (λ _.
    lawful_then kids (λ _. code ▷ λ _. outs) (lawful_counted (number w32) child_field lawful32 lawful_child) (λ _.
    lawful_then code (λ _. outs) (lawful_counted (number w64) instruction_field lawful64 lawful_instruction) (λ _.
    lawful_repeated slot_field (output_count f) lawful64)))

pub lawful_chain : IsLawful chain_field
lawful_chain = lawful_tested (number w32) _ lawful32

pub lawful_machine : IsLawful machine_field
unfolding machine_field
lawful_machine =
    lawful_then face_field (λ f. summary_field f ▷ λ _. chain_field ▷ λ _. parts_field f) lawful_face (λ f.
    lawful_then (summary_field f) (λ _. chain_field ▷ λ _. parts_field f) (lawful_summary f) (λ _.
    lawful_then chain_field (λ _. parts_field f) lawful_chain (λ _. lawful_parts f)))
