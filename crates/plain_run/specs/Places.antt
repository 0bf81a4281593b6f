-- The places of the ports of a class among the variables, and words that are set at places.
use Rattle.std.specs.Prelude.{ℕ, ◌+◌, Bool, true, false, List, [], ◌∷◌, slice_set, if◌then◌else◌}
use Rattle.sv_base.specs.declared.face.Class.{Class}
use Rattle.sv_base.specs.declared.face.Class.TheVariants.{Value, Clock, Idle, Output}
use Rattle.sv_base.specs.declared.face.Port.{Port}
use Rattle.sv_base.specs.Classes.{is_value, is_clock, is_output}

-- whether a class is that of idle inputs
abbrev pub is_idle : Class → Bool
is_idle Value = false
is_idle Clock = false
is_idle Idle = true
is_idle Output = false

-- whether a class is this one
abbrev pub is_of : Class → Class → Bool
is_of Value = is_value
is_of Clock = is_clock
is_of Idle = is_idle
is_of Output = is_output

-- the places of the ports of some classes, the first port having place n
abbrev pub places_from : (Class → Bool) → ℕ → List Port → List ℕ
places_from chosen n [] = []
places_from chosen n (p ∷ ports) = if chosen p.class then n ∷ places_from chosen (n + 1) ports else places_from chosen (n + 1) ports

-- the words after each of these places has taken its word, the first of them first
abbrev pub set_places : List ℕ → List ℕ → List ℕ → List ℕ
set_places [] given words = words
set_places (p ∷ places) [] words = words
set_places (p ∷ places) (w ∷ given) words = set_places places given (slice_set words p w)
