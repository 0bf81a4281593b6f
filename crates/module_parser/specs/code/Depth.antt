-- A function value that reads what a parser reads, with others inside one another to a depth.
use Rattle.std.specs.Prelude.{ℕ, Result}
use Rattle.std.specs.declared.alloc.Global.{Global}
use denote.Ref.{MutBor}
use Rattle.sv_base.specs.declared.fault.Fault.{Fault}
use Rattle.expr_parser.specs.Input.{Input, Parser, Gives}

abbrev pub ReadsAt : {A : Type 0} → Parser A → ℕ → (Global → MutBor Input → ℕ → Result A Fault → MutBor Input → Type 0) → Type 0
ReadsAt {A} p depth post = (alloc : Global) (old new : MutBor Input) (r : Result A Fault) → post alloc old depth r new → Gives (p old.now) r new.now
