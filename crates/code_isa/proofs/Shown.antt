-- Worked values of the definitions, each by computing.
use Rattle.std.proofs.Common.{◌≡◌, [], ◌∷◌, true, false, refl}
use Rattle.bit_ops.specs.declared.operation.Op.TheVariants as op
use Rattle.code_isa.specs.Operands.{operand_count, names_position}
use Rattle.code_isa.specs.Marks.{members_of, bit_of}
use Rattle.code_isa.specs.Activity.{count_below, differs}
use Rattle.code_isa.specs.Tree.{words_at}
use Rattle.code_isa.specs.Traces.{edge_occurs, levels_at}

-- a choice takes three operands, an insertion two and a position
choice_takes_three : operand_count op.Mux ≡ 3
choice_takes_three = refl

insertion_names_a_position : names_position op.Insert ≡ true
insertion_names_a_position = refl

-- the members of a set of four positions, of which 0 and 2 are in it
two_members : members_of (5 ∷ []) 4 ≡ true ∷ false ∷ true ∷ false ∷ []
two_members = refl

-- position 64 is the lowest bit of the second word
second_word : bit_of (0 ∷ 1 ∷ []) 64 ≡ 1
second_word = refl

-- the word of slot 1 is another than it was
one_differs : differs (0 ∷ 1 ∷ []) (0 ∷ 0 ∷ []) 1 ≡ true
one_differs = refl

two_differ : count_below (differs (0 ∷ 1 ∷ 1 ∷ []) (1 ∷ 0 ∷ 1 ∷ [])) 3 ≡ 2
two_differ = refl

-- a child's inputs that are joined to slots 2 and 0
joined : words_at (7 ∷ 8 ∷ 9 ∷ []) (2 ∷ 0 ∷ []) ≡ 9 ∷ 7 ∷ []
joined = refl

-- a rising edge goes from 0 to 1, a falling one from 1 to 0
rises : edge_occurs false false true ≡ true
rises = refl

falls : edge_occurs true false true ≡ false
falls = refl

second_clock : levels_at (false ∷ true ∷ []) (1 ∷ []) ≡ true ∷ []
second_clock = refl
