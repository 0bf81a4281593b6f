-- Assignments whose value is refused behind their target.
use Rattle.std.proofs.Common.{◌≡◌, Bool, List, Ok, Err, subst}
use Rattle.sv_base.specs.declared.refusal.Place.{Place}
use Rattle.sv_base.specs.declared.fault.Fault.{Fault}
use Rattle.sv_ast.specs.declared.expression.Expr.{Expr}
use Rattle.sv_ast.specs.declared.expression.Lval.{Lval}
use Rattle.const_eval.specs.Expressions.{◌>>=◌}
use Rattle.const_eval.specs.code.Agreeing.{Agrees}
use Rattle.const_eval.proofs.Judging.{agrees_behind, refused_first}
use Rattle.net_ir.specs.declared.term.Term.{Term}
use Rattle.net_ir.specs.declared.design.Var.{Var}
use Rattle.net_ir.specs.declared.statement.Target.{Target}
use Rattle.elaborate.specs.Names.{Names}
use Rattle.elaborate.specs.Targets.{target_of, place_of, value_for, unnamed}

-- what was found is what is said
abbrev pub Same : {A : Type 0} → A → A → Type 0
Same found a = found ≡ a

-- the target is found, and its value is refused
pub value_refused : (needed : Bool) (names : Names) (vars : List Var) (to : Lval) (e : Expr) (target : Target) (place : Place) (fault : Fault) →
    Agrees (Same {A = Target}) (Ok target) (target_of needed names vars to) → place ≡ place_of to →
    Agrees (Same {A = Term}) (Err fault) (value_for names vars place target e) → Agrees (Same {A = Target × Term}) (Err fault) (unnamed needed names vars to e)
value_refused needed names vars to e target place fault h is told =
    agrees_behind (Same {A = Target}) (Same {A = Target × Term}) target (target_of needed names vars to) (λ t. value_for names vars (place_of to) t e >>= λ value. Ok (t, value)) (Err fault) h (λ t same.
    refused_first (Same {A = Term}) (Same {A = Target × Term}) fault (value_for names vars (place_of to) t e) (λ value. Ok (t, value))
    (subst (λ t. Agrees (Same {A = Term}) (Err fault) (value_for names vars (place_of to) t e)) same
    (subst (λ p. Agrees (Same {A = Term}) (Err fault) (value_for names vars p target e)) is told)))
