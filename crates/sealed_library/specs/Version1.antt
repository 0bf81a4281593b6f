-- The table of fields of version 1. Numbers have their highest byte first.
use Rattle.std.specs.Prelude.{ℕ, ◌^◌, Bool, true, false, ◌&&◌, nat_le, nat_lt, List, [], ◌∷◌, length, map, Option, slice_get}
use Rattle.std.specs.Int.{w8, w16, w32, w64}
use Rattle.bit_ops.specs.declared.value.TheConstants.{MAX_WIDTH}
use Rattle.bit_ops.specs.declared.operation.Op.{Op}
use Rattle.bit_ops.specs.declared.operation.Op.TheVariants.{Const, Zext, Sext, Slice, Concat, Not, Neg, And, Or, Xor, Add, Sub, Mul, DivU, DivS, ModU, ModS, Shl, ShrU, ShrS, Eq, LtU, LtS, RedAnd, RedOr, RedXor, Mux, Insert}
use Rattle.sv_base.specs.Spelling.{is_name}
use Rattle.sv_base.specs.declared.name.TheConstants.{NAME_LIMIT}
use Rattle.sv_base.specs.declared.face.Class.{Class}
use Rattle.sv_base.specs.declared.face.Class.TheVariants.{Value, Clock, Idle, Output}
use Rattle.sv_base.specs.declared.face.Port.{Port}
use Rattle.sv_base.specs.declared.face.Face.{Face}
use Rattle.sv_base.specs.declared.face.Summary.{Summary}
use Rattle.code_isa.specs.Faces.{input_count, clock_count, output_count}
use Rattle.code_isa.specs.Operands.{operand_count, names_position, is_constant}
use Rattle.code_isa.specs.declared.machine.Reg.{Reg}
use Rattle.code_isa.specs.declared.machine.Kid.{Kid}
use Rattle.code_isa.specs.declared.machine.Instr.{Instr}
use Rattle.code_isa.specs.declared.machine.Machine.{Machine}
use Rattle.sealed_library.specs.declared.limits.TheConstants.{PORT_LIMIT, CHAIN_LIMIT, DIGEST_LENGTH}
use Rattle.sealed_library.specs.Fields.{Field, number, bytes_of, nothing, named, tested, ◌▷◌, sized, repeated, counted, seen}

-- ---- names, widths and words

-- how many bytes a name has
abbrev pub name_length : Field ℕ
name_length = tested (number w16) (λ n. nat_le 1 n && nat_le n NAME_LIMIT)

-- a name by its form (IEEE 1800-2017, 5.6), behind its length; it may be a reserved word
unfoldable pub name_field : Field (List ℕ)
name_field = tested (sized name_length (λ text. length text) bytes_of) (λ text. is_name text)

-- how many bits a port, a register or a result has
unfoldable pub width_field : Field ℕ
width_field = tested (number w8) (λ n. nat_le 1 n && nat_le n MAX_WIDTH)

-- a word of so many bits
unfoldable pub word_field : ℕ → Field ℕ
word_field bits = tested (number w64) (λ n. nat_lt n (2 ^ bits))

-- the number of a slot
abbrev pub slot_field : Field ℕ
slot_field = number w64

-- ---- bytes that stand for things

-- the number of a class, and the class of a number
abbrev pub class_number : Class → ℕ
class_number Value = 0
class_number Clock = 1
class_number Idle = 2
class_number Output = 3

abbrev pub class_of : ℕ → Option Class
class_of n = slice_get (Value ∷ Clock ∷ Idle ∷ Output ∷ []) n

unfoldable pub class_field : Field Class
class_field = named class_number class_of

-- the number of a flag, and the flag of a number
abbrev pub flag_number : Bool → ℕ
flag_number false = 0
flag_number true = 1

abbrev pub flag_of : ℕ → Option Bool
flag_of n = slice_get (false ∷ true ∷ []) n

unfoldable pub flag_field : Field Bool
flag_field = named flag_number flag_of

-- the operations in the order of their numbers, from 0 on
abbrev pub operations : List Op
operations =
    Const ∷ Zext ∷ Sext ∷ Slice ∷ Concat ∷ Not ∷ Neg ∷ And ∷ Or ∷ Xor ∷ Add ∷ Sub ∷ Mul ∷ DivU ∷ DivS ∷
    ModU ∷ ModS ∷ Shl ∷ ShrU ∷ ShrS ∷ Eq ∷ LtU ∷ LtS ∷ RedAnd ∷ RedOr ∷ RedXor ∷ Mux ∷ Insert ∷ []

-- the number of an operation
abbrev pub operation_number : Op → ℕ
operation_number Const = 0
operation_number Zext = 1
operation_number Sext = 2
operation_number Slice = 3
operation_number Concat = 4
operation_number Not = 5
operation_number Neg = 6
operation_number And = 7
operation_number Or = 8
operation_number Xor = 9
operation_number Add = 10
operation_number Sub = 11
operation_number Mul = 12
operation_number DivU = 13
operation_number DivS = 14
operation_number ModU = 15
operation_number ModS = 16
operation_number Shl = 17
operation_number ShrU = 18
operation_number ShrS = 19
operation_number Eq = 20
operation_number LtU = 21
operation_number LtS = 22
operation_number RedAnd = 23
operation_number RedOr = 24
operation_number RedXor = 25
operation_number Mux = 26
operation_number Insert = 27

unfoldable pub operation_field : Field Op
operation_field = named operation_number (λ n. slice_get operations n)

-- ---- faces and summaries

-- name, class (0 data, 1 clock, 2 idle, 3 output), sign (1 where it is signed), width
unfoldable pub port_field : Field Port
port_field = seen (λ p. (p.name, (p.class, (p.signed, p.width)))) (λ x. record { name = x.0; class = x.1.0; signed = x.1.1.0; width = x.1.1.1 })
    (name_field ▷ λ _. class_field ▷ λ _. flag_field ▷ λ _. width_field)

-- how many ports a face has
abbrev pub port_count : Field ℕ
port_count = tested (number w16) (λ n. nat_le n PORT_LIMIT)

-- name, and the ports behind their count
unfoldable pub face_field : Field Face
face_field = seen (λ f. (f.name, f.ports)) (λ x. record { name = x.0; ports = x.1 }) (name_field ▷ λ _. counted port_count port_field)

-- the positions of an output's row, behind their count
unfoldable pub row_field : Field (List ℕ)
row_field = counted (number w16) (number w16)

-- a row for each output of a face
unfoldable pub summary_field : Face → Field Summary
summary_field f = seen (λ s. s.rows) (λ rows. record { rows = rows }) (repeated row_field (output_count f))

-- ---- registers

-- width, initial word, position of the clock, edge (1 where it is the falling one), next slot
abbrev pub Register : Type 0
Register = ℕ × (ℕ × (ℕ × (Bool × ℕ)))

abbrev pub register_fields : Reg → Register
register_fields r = (r.width, (r.init, (r.clock, (r.falling, r.next))))

unfoldable pub register_field : Field Register
register_field = width_field ▷ λ bits. word_field bits ▷ λ _. number w32 ▷ λ _. flag_field ▷ λ _. slot_field

-- ---- children

-- digest, face, summary, the slot of each data input, the position of each clock
abbrev pub Child : Type 0
Child = List ℕ × (Face × (Summary × (List ℕ × List ℕ)))

abbrev pub child_fields : Kid → Child
child_fields k = (k.digest, (k.face, (k.summary, (k.ins, k.clocks))))

unfoldable pub child_field : Field Child
child_field =
    bytes_of DIGEST_LENGTH ▷ λ _. face_field ▷ λ f. summary_field f ▷ λ _. repeated slot_field (input_count f) ▷ λ _. repeated (number w32) (clock_count f)

-- ---- code

-- a field where an instruction has it, and no byte where it has none
abbrev pub where_it_is : Bool → Field ℕ → Field ℕ
where_it_is true f = f
where_it_is false f = nothing

-- the slots of the operands in the order of the operation, a choice's condition first; the lowest position; the word of a constant
abbrev pub Operands : Type 0
Operands = ℕ × (ℕ × (ℕ × (ℕ × ℕ)))

abbrev pub operand_fields : Instr → Operands
operand_fields i = (i.c, (i.a, (i.b, (i.lo, i.value))))

unfoldable pub operands_field : Op → ℕ → Field Operands
operands_field op bits =
    where_it_is (nat_lt 2 (operand_count op)) slot_field ▷ λ _. where_it_is (nat_lt 0 (operand_count op)) slot_field ▷ λ _.
    where_it_is (nat_lt 1 (operand_count op)) slot_field ▷ λ _. where_it_is (names_position op) (number w8) ▷ λ _.
    where_it_is (is_constant op) (word_field bits)

-- operation, width, operands
abbrev pub Instruction : Type 0
Instruction = Op × (ℕ × Operands)

abbrev pub instruction_fields : Instr → Instruction
instruction_fields i = (i.op, (i.width, operand_fields i))

unfoldable pub instruction_field : Field Instruction
instruction_field = operation_field ▷ λ op. width_field ▷ λ bits. operands_field op bits

-- ---- the whole

-- the greatest chain
abbrev pub chain_field : Field ℕ
chain_field = tested (number w32) (λ n. nat_le n CHAIN_LIMIT)

-- registers, children, code, the slot of each output
abbrev pub Parts : Type 0
Parts = List Register × (List Child × (List Instruction × List ℕ))

abbrev pub part_fields : Machine → Parts
part_fields m = (map register_fields m.regs, (map child_fields m.kids, (map instruction_fields m.code, m.outs)))

unfoldable pub parts_field : Face → Field Parts
parts_field f =
    counted (number w64) register_field ▷ λ _. counted (number w32) child_field ▷ λ _. counted (number w64) instruction_field ▷ λ _.
    repeated slot_field (output_count f)

-- face, summary, chain, parts
abbrev pub Fields : Type 0
Fields = Face × (Summary × (ℕ × Parts))

abbrev pub machine_fields : Machine → Fields
machine_fields m = (m.face, (m.summary, (m.chain, part_fields m)))

unfoldable pub machine_field : Field Fields
machine_field = face_field ▷ λ f. summary_field f ▷ λ _. chain_field ▷ λ _. parts_field f
