-- What the names of a module stand for, and expressions over them.
use Rattle.std.specs.Prelude.{ℕ, Bool, true, List, Option, None, Some, option_map, Result, if◌then◌else◌}
use Rattle.std.specs.Str.{bytes_eq}
use Rattle.sv_base.specs.declared.refusal.Refusal.{Refusal}
use Rattle.sv_ast.specs.declared.expression.Expr.{Expr}
use Rattle.const_eval.specs.declared.env.Bound.{Bound}
use Rattle.const_eval.specs.Constant.{named_of}
use Rattle.const_eval.specs.Expressions.{Judged, meaning_of}
use Rattle.net_ir.specs.declared.term.Term.{Term}
use Rattle.net_ir.specs.declared.design.Var.{Var}
use Rattle.elaborate.specs.declared.names.Seen.{Seen}
use Rattle.elaborate.specs.declared.names.Seen.TheVariants.{Stands, Label}
use Rattle.width_rules.specs.Built.{term_of}
use Rattle.width_rules.specs.Selecting.{Lookup}

-- what each name stands for, where it is visible
abbrev pub Names : Type 0
Names = List ℕ → Option Seen

-- no name is visible
abbrev pub no_names : Names
no_names name = None

-- from now on a name stands for this
abbrev pub with_name : Names → List ℕ → Seen → Names
with_name names name seen n = if bytes_eq name n then Some seen else names n

abbrev pub bound_in : Option Seen → Option Bound
bound_in None = None
bound_in (Some (Stands bound)) = Some bound
bound_in (Some Label) = None

-- what the names that have a value stand for
abbrev pub bounds : Names → Lookup
bounds names name = bound_in (names name)

-- what an expression means where a constant is needed, or its first refusal
abbrev pub constant_at : Names → Expr → Judged
constant_at names e = meaning_of (λ name. option_map named_of (bounds names name)) true e

-- the term of an expression, and its own sign, or its first refusal
abbrev pub term_at : Names → List Var → Option ℕ → Bool → Expr → Result (Term × Bool) Refusal
term_at names vars target unsigned e = term_of (bounds names) vars target unsigned e
