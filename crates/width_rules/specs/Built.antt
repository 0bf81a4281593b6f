-- The term of an expression, or its first refusal, as a function of what names stand for (IEEE 1800-2017, 11.6 to 11.8).
use Rattle.std.specs.Prelude.{ℕ, Bool, true, false, List, [], ◌∷◌, Option, Result, Ok, Err, option_map}
use Rattle.sv_base.specs.declared.refusal.Refusal.{Refusal}
use Rattle.sv_ast.specs.declared.expression.Id.{Id}
use Rattle.sv_ast.specs.declared.expression.Sel.{Sel}
use Rattle.sv_ast.specs.declared.expression.Expr.{Expr}
use Rattle.sv_ast.specs.declared.expression.Expr.TheOpen as expr
use Rattle.sv_ast.specs.declared.expression.Expr.TheOpen.{Expr-F, Sel-F}
use Rattle.sv_ast.specs.declared.expression.Expr.TheFolds.{fold-Expr, fold-Sel, map-Expr, map-Sel}
use Rattle.net_ir.specs.declared.design.Var.{Var}
use Rattle.net_ir.specs.declared.term.Term.{Term, Const}
use Rattle.const_eval.specs.declared.env.Const as constant
use Rattle.const_eval.specs.declared.env.Bound.{Bound}
use Rattle.const_eval.specs.Constant.{named_of}
use Rattle.const_eval.specs.WholeNumbers.{whole_number_of, count_of}
use Rattle.const_eval.specs.Expressions as spec
use Rattle.const_eval.specs.Expressions.{Names, Judged, Select, expression_layer, select_layer, second_select, ◌>>=◌}
use Rattle.width_rules.specs.declared.measured.Measured.{Measured}
use Rattle.width_rules.specs.declared.pending.Pending.{Fill}
use Rattle.width_rules.specs.declared.joined.Joined.{Joined}
use Rattle.width_rules.specs.declared.joined.Joined.TheVariants.{Nothing}
use Rattle.width_rules.specs.declared.taking.Taking.{Taking}
use Rattle.width_rules.specs.declared.taking.Taking.TheVariants.{At, DownTo, UpFrom, DownFrom}
use Rattle.width_rules.specs.Assigning.{assigned_term}
use Rattle.width_rules.specs.Values.{constant_of}
use Rattle.width_rules.specs.Operations.{alone, unary_on, binary_on, chosen, system_on}
use Rattle.width_rules.specs.Joining.{joined_with, concatenation, repeated}
use Rattle.width_rules.specs.Selecting.{Lookup, bound_by, whole, take}

-- what each visible name means where a constant is needed
abbrev pub constants_of : Lookup → Names
constants_of lookup name = option_map named_of (lookup name)

-- What is found of an expression: what it means where its nets and variables have no words, which is its value where a constant is
-- needed, and what is measured of it.
pub record Built : Type 0 where
  pub meaning : Bool → Judged
  pub measured : Result Measured Refusal

-- so of a select
pub record BuiltSelect : Type 0 where
  pub select : Select
  pub taking : Result Taking Refusal

-- an expression where a constant is needed
abbrev pub constant_in : Built → Result constant.Const Refusal
constant_in part = constant_of (part.meaning true)

-- ---- selects

-- the positions of a select; both bounds of a part and the width of an indexed part are constants
abbrev pub taking_layer : Sel-F Built BuiltSelect → Result Taking Refusal
taking_layer (expr.Bit place at) = at.measured >>= λ p. Ok (At p)
taking_layer (expr.Part place high low) = constant_in high >>= λ m. constant_in low >>= λ l. Ok (DownTo m l)
taking_layer (expr.Up place at width) = at.measured >>= λ p. constant_in width >>= λ w. Ok (UpFrom p w)
taking_layer (expr.Down place at width) = at.measured >>= λ p. constant_in width >>= λ w. Ok (DownFrom p w)

-- what one select takes of a name
abbrev pub selected_by : List Var → Id → Bound → BuiltSelect → Result Measured Refusal
selected_by vars name bound s = s.taking >>= λ taking. take vars name bound taking

-- a name with its selects: none, or one; a second one is refused
abbrev pub selected : List Var → Id → Bound → List BuiltSelect → Result Measured Refusal
selected vars name bound [] = Ok (whole vars name bound)
selected vars name bound (s ∷ []) = selected_by vars name bound s
selected vars name bound (s ∷ t ∷ more) = s.taking >>= λ _. t.taking >>= λ _. Err (second_select t.select.place)

abbrev pub read : Lookup → List Var → Id → List BuiltSelect → Result Measured Refusal
read lookup vars name selects = bound_by lookup name >>= λ bound. selected vars name bound selects

-- ---- expressions

-- a number and a fill, which are constants
abbrev pub literal : Id → Result Measured Refusal
literal text = constant_of (spec.literal text) >>= λ c. Ok (alone c.value.width c.signed (Const c.value))

abbrev pub filled : Id → Result Measured Refusal
filled text = constant_of (spec.filled text) >>= λ c. Ok (record { size = 1; signed = false; pending = Fill c.value })

-- parts, behind those that are joined
abbrev pub joined_after : Joined → List Built → Result Joined Refusal
joined_after joined [] = Ok joined
joined_after joined (p ∷ ps) = p.measured >>= λ m. joined_after (joined_with joined m) ps

-- an expression, from what is found of its parts
abbrev pub measured_layer : Lookup → List Var → Expr-F Built BuiltSelect → Result Measured Refusal
measured_layer lookup vars (expr.Number text) = literal text
measured_layer lookup vars (expr.Fill text) = filled text
measured_layer lookup vars (expr.Read name selects) = read lookup vars name selects
measured_layer lookup vars (expr.Unary sign operand) = operand.measured >>= λ a. unary_on sign a
measured_layer lookup vars (expr.Binary sign left right) = left.measured >>= λ a. right.measured >>= λ b. binary_on sign a b
measured_layer lookup vars (expr.Choice sign test first second) =
    test.measured >>= λ c. first.measured >>= λ a. second.measured >>= λ b. Ok (chosen c a b)
measured_layer lookup vars (expr.Concat place parts) = joined_after Nothing parts >>= λ joined. concatenation place joined
measured_layer lookup vars (expr.Repeat place count parts) =
    constant_in count >>= λ c. joined_after Nothing parts >>= λ joined. repeated place (count_of (whole_number_of c)) joined
measured_layer lookup vars (expr.System name argument) = argument.measured >>= λ a. system_on name a

-- what its parts mean, of an expression and of a select
abbrev pub meanings_in : Expr-F Built BuiltSelect → Expr-F (Bool → Judged) Select
meanings_in = map-Expr Built BuiltSelect (Bool → Judged) Select (λ part. part.meaning) (λ part. part.select)

abbrev pub positions_in : Sel-F Built BuiltSelect → Sel-F (Bool → Judged) Select
positions_in = map-Sel Built BuiltSelect (Bool → Judged) Select (λ part. part.meaning) (λ part. part.select)

abbrev pub built_layer : Lookup → List Var → Expr-F Built BuiltSelect → Built
built_layer lookup vars layer = record { meaning = expression_layer (constants_of lookup) (meanings_in layer); measured = measured_layer lookup vars layer }

abbrev pub built_select_layer : Sel-F Built BuiltSelect → BuiltSelect
built_select_layer layer = record { select = select_layer (positions_in layer); taking = taking_layer layer }

-- what is found of an expression where names stand for these constants, nets and variables
abbrev pub built_of : Lookup → List Var → Expr → Built
built_of lookup vars e = fold-Expr Built BuiltSelect (built_layer lookup vars) built_select_layer e

-- what is found of a select
abbrev pub built_select_of : Lookup → List Var → Sel → BuiltSelect
built_select_of lookup vars s = fold-Sel Built BuiltSelect (built_layer lookup vars) built_select_layer s

-- The size, the sign and the pending term that an expression has by itself, or its first refusal: its parts are walked through from
-- left to right, and each part before the whole.
abbrev pub measured_of : Lookup → List Var → Expr → Result Measured Refusal
measured_of lookup vars e = (built_of lookup vars e).measured

-- The term of an expression and the expression's own sign, or its first refusal: of the size of the target where one is told, else of
-- its own; in an unsigned context where that is asked for, else in one of its own sign.
abbrev pub term_of : Lookup → List Var → Option ℕ → Bool → Expr → Result (Term × Bool) Refusal
term_of lookup vars target unsigned e = measured_of lookup vars e >>= λ m. Ok (assigned_term m target unsigned, m.signed)
