-- What the outside does to a design, one step at a time.
use Rattle.std.specs.Prelude.{◌≡◌, ℕ, ◌<◌, ◌^◌, ◌==◌, Bool, true, false, List, [], ◌∷◌, Some, slice_get, slice_set}
use Rattle.std.specs.List.{AllByRecursion}
use Rattle.sv_base.specs.declared.face.Class.{Class}
use Rattle.sv_base.specs.declared.face.Class.TheVariants.{Value, Clock, Idle, Output}
use Rattle.sv_base.specs.declared.face.Port.{Port}

-- a port, by its place among the ports counted from 0, and the word that it is set to
pub record Setting : Type 0 where
  pub port : ℕ
  pub word : ℕ

-- a step sets data inputs or it sets clocks, never both; either may set idle inputs
pub data Step : Type 0 where
  Values : (settings : List Setting) → Step
  Clocks : (settings : List Setting) → Step

-- the words of ports after settings, the first of them first
abbrev pub set_all : List Setting → List ℕ → List ℕ
set_all [] words = words
set_all (s ∷ settings) words = set_all settings (slice_set words s.port s.word)

-- whether a data step may set a port of this class and width: a data input, or an idle one
abbrev pub values_may_set : Class → ℕ → Bool
values_may_set Value width = true
values_may_set Clock width = false
values_may_set Idle width = true
values_may_set Output width = false

-- whether a clock step may: a clock, or an idle input of one bit
abbrev pub clocks_may_set : Class → ℕ → Bool
clocks_may_set Value width = false
clocks_may_set Clock width = true
clocks_may_set Idle width = width == 1
clocks_may_set Output width = false

-- a setting names a port that is there and may be set, and whose width holds its word
pub record IsFitting (may_set : Class → ℕ → Bool) (ports : List Port) (setting : Setting) : Type 0 where
  pub port : Port
  pub at : slice_get ports setting.port ≡ Some port
  pub allowed : may_set port.class port.width ≡ true
  pub word_fits : setting.word < 2 ^ port.width

-- each setting of a step does
abbrev pub StepFits : List Port → Step → Type 0
StepFits ports (Values settings) = AllByRecursion (IsFitting values_may_set ports) settings
StepFits ports (Clocks settings) = AllByRecursion (IsFitting clocks_may_set ports) settings
