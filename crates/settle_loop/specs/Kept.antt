-- What settling leaves as it was.
use Rattle.std.specs.Prelude.{◌≡◌, ℕ, ◌+◌, ◌≤◌, Some, length, slice_get}
use Rattle.code_isa.specs.Settled.{HaveSameRegisters}
use Rattle.model_stage.specs.Model.{Model}
use Rattle.wrapper_core.specs.declared.wrapped.Wrapped.{Wrapped}
use Rattle.wrapper_core.specs.Snapshot.{Snapshot}

-- a child after at most so many updates: it has its tree, the levels of its clocks and its registers
pub record IsKept {X : Type 0} (model : X → Model) (updates : ℕ) (c d : Wrapped X) : Type 0 where
  pub tree : (model d.child).tree ≡ (model c.child).tree
  pub levels : (model d.child).levels ≡ (model c.child).levels
  pub registers : HaveSameRegisters (model c.child).state (model d.child).state
  pub least : (model c.child).number ≤ (model d.child).number
  pub most : (model d.child).number ≤ (model c.child).number + updates
  pub room : (model c.child).room ≤ (model d.child).room + updates
  pub struck : d.struck ≡ c.struck

-- a world after at most so many updates of each child: held inputs, registers, levels and phase are as they were
pub record Keeps {X : Type 0} (model : X → Model) (updates : ℕ) (s z : Snapshot X) : Type 0 where
  pub code : z.code ≡ s.code
  pub held : z.held ≡ s.held
  pub registers : z.registers ≡ s.registers
  pub levels : z.levels ≡ s.levels
  pub phase : z.phase ≡ s.phase
  pub each : length z.children ≡ length s.children
  pub children : (i : ℕ) (c d : Wrapped X) → slice_get s.children i ≡ Some c → slice_get z.children i ≡ Some d → IsKept model updates c d
