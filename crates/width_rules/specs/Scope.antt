-- What names mean in a scope, where its nets and variables have words.
use Rattle.std.specs.Prelude.{◌≡◌, ℕ, ◌<◌, false, List, length, Option, None, Some, slice_get, slice_index, ⊤}
use Rattle.std.specs.List.{AllByRecursion}
use Rattle.bit_ops.specs.Width.{IsWidth}
use Rattle.sv_ast.specs.declared.expression.Expr.{Expr}
use Rattle.const_eval.specs.declared.env.Bound.{Bound}
use Rattle.const_eval.specs.declared.env.Bound.TheVariants.{Constant, Variable}
use Rattle.const_eval.specs.Selects.{Named}
use Rattle.const_eval.specs.Env.{bound_of}
use Rattle.const_eval.specs.Constant.{constant_named, no_constant}
use Rattle.const_eval.specs.Expressions.{Judged, meaning_of}
use Rattle.net_ir.specs.declared.design.Var.{Var}
use Rattle.net_ir.specs.Value.{widths_of, AreWordsOf}
use Rattle.width_rules.specs.declared.scope.Scope.{Scope}

-- a net or variable that has this word; bits can be selected from it where its declaration has a range
abbrev pub variable_named : Option Var → ℕ → Named
variable_named None word = no_constant
variable_named (Some v) word = record { constant = false; ranged = v.ranged; size = v.width; signed = v.signed; low = v.low; word = word }

-- what a bound name means, where variables have these words
abbrev pub named_in : List Var → List ℕ → Bound → Named
named_in vars u (Constant value low) = constant_named value low
named_in vars u (Variable x) = variable_named (slice_get vars x) (slice_index u x)

abbrev pub named_where : List Var → List ℕ → Option Bound → Option Named
named_where vars u None = None
named_where vars u (Some bound) = Some (named_in vars u bound)

-- what each visible name means, where names stand for these constants, nets and variables, which have the words u
abbrev pub names_by : (List ℕ → Option Bound) → List Var → List ℕ → List ℕ → Option Named
names_by lookup vars u name = named_where vars u (lookup name)

-- so in a scope
abbrev pub names_in : Scope → List ℕ → List ℕ → Option Named
names_in scope u name = names_by (bound_of scope.names) scope.vars u name

-- what an expression means, or its first refusal, where names stand for these constants, nets and variables
abbrev pub meaning_by : (List ℕ → Option Bound) → List Var → List ℕ → Expr → Judged
meaning_by lookup vars u e = meaning_of (names_by lookup vars u) false e

-- so in a scope
abbrev pub meaning_in : Scope → List ℕ → Expr → Judged
meaning_in scope u e = meaning_by (bound_of scope.names) scope.vars u e

-- each name of a net or variable stands for one that is there, and each of these has a width that a value may have
pub record AreThere (lookup : List ℕ → Option Bound) (vars : List Var) : Type 0 where
  pub there : (name : List ℕ) (x : ℕ) → lookup name ≡ Some (Variable x) → x < length vars
  pub widths : AllByRecursion (λ (v : Var). IsWidth v.width) vars

-- so in a scope
abbrev pub IsScope : Scope → Type 0
IsScope scope = AreThere (bound_of scope.names) scope.vars

-- the words of a scope's nets and variables, each one of its width
abbrev pub AreWordsIn : Scope → List ℕ → Type 0
AreWordsIn scope u = AreWordsOf (widths_of scope.vars) u

-- what a bound name stands for is there
abbrev pub IsAmong : List Var → Bound → Type 0
IsAmong vars (Constant value low) = ⊤
IsAmong vars (Variable x) = x < length vars

-- so in a scope
abbrev pub IsBoundIn : Scope → Bound → Type 0
IsBoundIn scope bound = IsAmong scope.vars bound
