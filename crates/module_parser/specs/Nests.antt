-- A function value that reads targets, statements or items inside one another to a depth.
use Rattle.std.specs.Prelude.{ℕ, Result}
use Rattle.std.specs.declared.alloc.Global.{Global}
use denote.Ref.{MutBor}
use Rattle.sv_base.specs.declared.fault.Fault.{Fault}
use Rattle.expr_parser.specs.Input.{Input, Parser, Gives}

pub record Nests {A : Type 0} (level : ℕ → Parser A) (depth : ℕ) (pre : Global → MutBor Input → ℕ → Type 0)
    (post : Global → MutBor Input → ℕ → Result A Fault → MutBor Input → Type 0) : Type 0 where
  pub callable : (alloc : Global) (old : MutBor Input) → pre alloc old depth
  pub reads : (alloc : Global) (old new : MutBor Input) (r : Result A Fault) → post alloc old depth r new → Gives (level depth old.now) r new.now
