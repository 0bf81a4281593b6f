-- What a step makes of a state.
use Rattle.std.specs.Prelude.{◌≡◌, ℕ, ◌+◌, ◌<◌, ◌^◌, List, Some, length, slice_index, slice_get}
use Rattle.std.specs.Int.{bit_at}
use Rattle.sv_base.specs.Steps.{Step, Values, Clocks, set_all}
use Rattle.sv_base.specs.Meaning.{State}
use Rattle.net_ir.specs.declared.design.Spec.{Spec}
use Rattle.net_ir.specs.Statement.{bit_after}
use Rattle.net_ir.specs.Register.{Register, registers_of}
use Rattle.net_ir.specs.Run.{all_sampled}
use Rattle.net_ir.specs.Solution.{Solves}

-- the next words of the registers, where the inputs change from `before` to `after`, u is the solution before the step and
-- `kept` the words until then: each bit has what its last write gives it, and is kept where there is none
pub record Samples (spec : Spec) (u before after kept next : List ℕ) : Type 0 where
  pub each : length next ≡ length (registers_of spec)
  pub fits : (i : ℕ) (r : Register) → slice_get (registers_of spec) i ≡ Some r → slice_index next i < 2 ^ r.width
  pub bits : (i k : ℕ) (r : Register) → slice_get (registers_of spec) i ≡ Some r → k < r.width →
      bit_at (slice_index next i) k ≡ bit_after (all_sampled spec u before after) r.var (r.low + k) (bit_at (slice_index kept i) k)

-- A step leads from old to new. A data step sets the named inputs and keeps the registers. A clock step sets the named levels,
-- and registers whose edge occurs sample in the solution before the step.
abbrev pub Follows : Spec → State → Step → State → Type 0
Follows spec old (Values settings) new = (new.inputs ≡ set_all settings old.inputs) × (new.registers ≡ old.registers)
Follows spec old (Clocks settings) new =
    (new.inputs ≡ set_all settings old.inputs)
    × ((u : List ℕ) × Solves spec old u × Samples spec u old.inputs new.inputs old.registers new.registers)
