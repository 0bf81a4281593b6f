-- A function value that reads expressions inside one another to a depth.
use Rattle.std.specs.Prelude.{ℕ, Result}
use Rattle.std.specs.declared.alloc.Global.{Global}
use denote.Ref.{MutBor}
use Rattle.sv_ast.specs.declared.expression.Expr.{Expr}
use Rattle.sv_base.specs.declared.fault.Fault.{Fault}
use Rattle.expr_parser.specs.Input.{Input, Gives}
use Rattle.expr_parser.specs.Reading.{expr}

pub record Nests (depth : ℕ) (pre : Global → MutBor Input → ℕ → ℕ → Type 0)
    (post : Global → MutBor Input → ℕ → ℕ → Result Expr Fault → MutBor Input → Type 0) : Type 0 where
  pub callable : (alloc : Global) (old : MutBor Input) (least : ℕ) → pre alloc old depth least
  pub reads : (alloc : Global) (old new : MutBor Input) (least : ℕ) (r : Result Expr Fault) → post alloc old depth least r new
      → Gives (expr depth least old.now) r new.now
