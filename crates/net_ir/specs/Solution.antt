-- The solution of a design: what each net equals. It names no order.
use Rattle.std.specs.Prelude.{◌≡◌, ℕ, ◌+◌, ◌<◌, ◌^◌, List, Some, length, slice_index, slice_get}
use Rattle.std.specs.List.{AllByRecursion}
use Rattle.std.specs.Int.{bit_at}
use Rattle.net_ir.specs.declared.design.Role.TheVariants.{Input}
use Rattle.net_ir.specs.declared.design.Var.{Var}
use Rattle.net_ir.specs.declared.design.Driver.{Driver}
use Rattle.net_ir.specs.declared.design.Spec.{Spec}
use Rattle.sv_base.specs.Meaning.{State}
use Rattle.net_ir.specs.Drive.{gives, NoneWrites}
use Rattle.net_ir.specs.Register.{Register, registers_of}

-- there is a word for each variable, and it fits the variable's width
pub record IsValuation (vars : List Var) (u : List ℕ) : Type 0 where
  pub each : length u ≡ length vars
  pub fits : (x : ℕ) (v : Var) → slice_get vars x ≡ Some v → slice_index u x < 2 ^ v.width

-- what a driver gives is what stands in the valuation
abbrev pub IsDriven : List Var → List ℕ → Driver → Type 0
IsDriven vars u d = (x k bit : ℕ) → gives vars d u x k ≡ Some bit → bit_at (slice_index u x) k ≡ bit

-- the bits of register i stand in the valuation as its word has them
abbrev pub IsHeld : List ℕ → List ℕ → ℕ → Register → Type 0
IsHeld held u i r = (k : ℕ) → k < r.width → bit_at (slice_index u r.var) (r.low + k) ≡ bit_at (slice_index held i) k

-- u solves the design in this state
pub record Solves (spec : Spec) (state : State) (u : List ℕ) : Type 0 where
  pub valuation : IsValuation spec.vars u
  -- each input is as it is set
  pub set : (x : ℕ) (v : Var) → slice_get spec.vars x ≡ Some v → v.role ≡ Input → slice_index u x ≡ slice_index state.inputs x
  -- each bit of a register is as the register has it
  pub registered : (i : ℕ) (r : Register) → slice_get (registers_of spec) i ≡ Some r → IsHeld state.registers u i r
  -- each bit that a driver gives at all times is what it gives on u
  pub driven : AllByRecursion (IsDriven spec.vars u) spec.drivers
  -- each other bit has its initial value
  pub undriven : (x k : ℕ) (v : Var) → slice_get spec.vars x ≡ Some v → (v.role ≡ Input → ⊥) → k < v.width → NoneWrites spec.vars spec.drivers x k → bit_at (slice_index u x) k ≡ bit_at v.init.word k
