-- What has to hold of a design so that it can be played: the form of designs for which it does may grow.
use Rattle.std.specs.Prelude.{◌≡◌, ℕ, ◌<◌, ◌^◌, false, List, Some, length, slice_index, slice_get}
use Rattle.sv_base.specs.Meaning.{State}
use Rattle.net_ir.specs.declared.design.Role.TheVariants.{Input}
use Rattle.net_ir.specs.declared.design.Var.{Var}
use Rattle.net_ir.specs.declared.design.Spec.{Spec}
use Rattle.net_ir.specs.Face.{is_inner, ports_of}
use Rattle.net_ir.specs.Solution.{Solves}

-- the level of each input fits its width
abbrev pub HasLevels : Spec → State → Type 0
HasLevels spec state = (x : ℕ) (v : Var) → slice_get spec.vars x ≡ Some v → v.role ≡ Input → slice_index state.inputs x < 2 ^ v.width

-- a design has exactly one solution for all levels of its inputs and all words of its registers
pub record HasOneSolution (spec : Spec) : Type 0 where
  pub there : (state : State) → HasLevels spec state → (u : List ℕ) × Solves spec state u
  pub only : (state : State) (u v : List ℕ) → Solves spec state u → Solves spec state v → u ≡ v

-- the ports are the first variables: only what the module alone sees stands behind them
abbrev pub HasPortsFirst : Spec → Type 0
HasPortsFirst spec = (x : ℕ) (v : Var) → slice_get spec.vars x ≡ Some v → is_inner v.role ≡ false → x < length (ports_of spec)
