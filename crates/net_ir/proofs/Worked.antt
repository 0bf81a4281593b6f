-- Worked registers, by computation.
use Rattle.std.proofs.Common.{◌≡◌, ℕ, zero, suc, [], ◌∷◌, Option, None, Some, refl}
use Rattle.net_ir.specs.Register.{runs_from, part_of, register_words}

-- bits 0 and 1 of process 0, bit 2 of no process, bit 3 of process 0, bit 4 of process 1
abbrev worked_holder : ℕ → Option ℕ
worked_holder zero = Some 0
worked_holder (suc zero) = Some 0
worked_holder (suc (suc zero)) = None
worked_holder (suc (suc (suc zero))) = Some 0
worked_holder (suc (suc (suc (suc k)))) = Some 1

two_processes_and_a_gap : runs_from worked_holder 7 0 5 ≡
    record { var = 7; low = 0; width = 2; driver = 0 } ∷ record { var = 7; low = 3; width = 1; driver = 0 } ∷ record { var = 7; low = 4; width = 1; driver = 1 } ∷ []
two_processes_and_a_gap = refl

middle_bits : part_of 0b1011_0110 2 4 ≡ 0b1101
middle_bits = refl

words_of_two : register_words (record { var = 1; low = 0; width = 4; driver = 0 } ∷ record { var = 0; low = 4; width = 4; driver = 2 } ∷ []) (0xab ∷ 0xcd ∷ []) ≡ 0xd ∷ 0xa ∷ []
words_of_two = refl
