-- A function value that reads what a parser reads.
use Rattle.std.specs.Prelude.{Result}
use Rattle.std.specs.declared.alloc.Global.{Global}
use denote.Ref.{MutBor}
use Rattle.sv_base.specs.declared.fault.Fault.{Fault}
use Rattle.expr_parser.specs.Input.{Input, Parser, Gives}

abbrev pub Reads : {A : Type 0} → Parser A → (Global → MutBor Input → Result A Fault → MutBor Input → Type 0) → Type 0
Reads {A} p post = (alloc : Global) (old new : MutBor Input) (r : Result A Fault) → post alloc old r new → Gives (p old.now) r new.now
