-- Which ports are of a class, what stands at them, and levels of clocks as words.
use Rattle.std.specs.Prelude.{ℕ, Bool, true, false, List, [], ◌∷◌, if◌then◌else◌}
use Rattle.sv_base.specs.declared.face.Class.{Class}
use Rattle.sv_base.specs.declared.face.Class.TheVariants.{Value, Clock, Idle, Output}
use Rattle.sv_base.specs.declared.face.Port.{Port}

-- a data input
abbrev pub is_value : Class → Bool
is_value Value = true
is_value Clock = false
is_value Idle = false
is_value Output = false

abbrev pub is_clock : Class → Bool
is_clock Value = false
is_clock Clock = true
is_clock Idle = false
is_clock Output = false

abbrev pub is_output : Class → Bool
is_output Value = false
is_output Clock = false
is_output Idle = false
is_output Output = true

-- an input of any class
abbrev pub is_input : Class → Bool
is_input Value = true
is_input Clock = true
is_input Idle = true
is_input Output = false

-- a level as a word of one bit
abbrev pub level_word : Bool → ℕ
level_word false = 0
level_word true = 1

-- of a list with an entry for each port those of the ports of some classes, in port order
abbrev pub words_of_class : (Class → Bool) → List Port → List ℕ → List ℕ
words_of_class chosen [] words = []
words_of_class chosen (p ∷ ports) [] = []
words_of_class chosen (p ∷ ports) (word ∷ words) =
    if chosen p.class then word ∷ words_of_class chosen ports words else words_of_class chosen ports words
