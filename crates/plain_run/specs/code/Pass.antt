-- One pass over continuous assignments, each taken once.
use Rattle.std.specs.Prelude.{◌≡◌, ℕ, ◌<◌, List, [], ◌∷◌, Some, slice_index, slice_get}
use Rattle.std.specs.Int.{bit_at}
use Rattle.net_ir.specs.declared.design.Role.TheVariants.{Input, Output, Inner}
use Rattle.net_ir.specs.declared.design.Var.{Var}
use Rattle.net_ir.specs.declared.design.Driver.{Driver}
use Rattle.net_ir.specs.declared.design.Driver.TheVariants as driver
use Rattle.net_ir.specs.declared.design.Driver.TheVariants.{Assign, Comb, Clocked}
use Rattle.bit_ops.specs.declared.value.Bits.{Bits}
use Rattle.net_ir.specs.declared.design.Role.{Role}
use Rattle.bit_ops.specs.Lists.{words}
use Rattle.net_ir.specs.declared.design.Spec.{Spec}
use Rattle.net_ir.specs.Value.{val, widths_of}
use Rattle.net_ir.specs.Target.{writes_to, overlaid}
use Rattle.net_ir.specs.Drive.{NoneHolds}
use Rattle.net_ir.specs.Register.{registers_of, register_words}
use Rattle.sv_base.specs.Meaning.{State}

-- what a variable of this role has before any driver's turn, of the level that is set and the word that a register holds
abbrev pub source_at : Role → Bits → Bits → Bits
source_at Input input held = input
source_at Output input held = held
source_at Inner input held = held

abbrev pub source_of : Var → Bits → Bits → Bits
source_of v input held = source_at v.role input held

-- the same of each variable
abbrev pub sources_of : List Var → List Bits → List Bits → List Bits
sources_of [] inputs held = []
sources_of (v ∷ vars) [] held = []
sources_of (v ∷ vars) (input ∷ inputs) [] = []
sources_of (v ∷ vars) (input ∷ inputs) (h ∷ held) = source_of v input h ∷ sources_of vars inputs held

-- each bit that no register has is as at first, so that what is held of it is its initial value
abbrev pub KeepsInitial : Spec → List ℕ → Type 0
KeepsInitial spec held = (x k : ℕ) (v : Var) → slice_get spec.vars x ≡ Some v → k < v.width → NoneHolds spec.vars spec.drivers x k → bit_at (slice_index held x) k ≡ bit_at v.init.word k

-- the state with these levels of inputs, and these values held: a value for each variable stands in each list, of which the levels of
-- inputs count, and the bits of registers
abbrev pub state_of : Spec → List Bits → List Bits → State
state_of spec inputs held = record { inputs = words inputs; registers = register_words (registers_of spec) (words held) }

-- the valuation after a driver's turn: a continuous assignment writes what it gives
abbrev pub turn : List Var → Driver → List ℕ → List ℕ
turn vars (Assign target value place) u = overlaid u (writes_to vars u target (val (widths_of vars) u value))
turn vars (Comb body place) u = u
turn vars (Clocked triggers body place) u = u
turn vars (driver.Instance made) u = u

-- the valuation after each of the drivers in turn
abbrev pub run : List Var → List Driver → List ℕ → List ℕ
run vars [] u = u
run vars (d ∷ drivers) u = run vars drivers (turn vars d u)
