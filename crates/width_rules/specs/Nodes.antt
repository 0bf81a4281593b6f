-- How many nodes terms and expressions have.
use Rattle.std.specs.Prelude.{ℕ, ◌+◌, List, [], ◌∷◌}
use Rattle.net_ir.specs.declared.term.Term.{Term}
use Rattle.net_ir.specs.declared.term.Term.TheOpen as term
use Rattle.net_ir.specs.declared.term.Term.TheOpen.{Term-F}
use Rattle.net_ir.specs.declared.term.Term.TheFolds.{fold-Term}
use Rattle.sv_ast.specs.declared.expression.Expr.{Expr}
use Rattle.sv_ast.specs.declared.expression.Sel.{Sel}
use Rattle.sv_ast.specs.declared.expression.Expr.TheOpen as expr
use Rattle.sv_ast.specs.declared.expression.Expr.TheOpen.{Expr-F, Sel-F}
use Rattle.sv_ast.specs.declared.expression.Expr.TheFolds.{fold-Expr, fold-Sel}

-- the sum of numbers
abbrev pub sum_of : List ℕ → ℕ
sum_of [] = 0
sum_of (n ∷ ns) = n + sum_of ns

abbrev pub nodes_layer : Term-F ℕ → ℕ
nodes_layer (term.Const bits) = 1
nodes_layer (term.Read var place) = 1
nodes_layer (term.Pick base low at at_signed down width) = 1 + base + at
nodes_layer (term.Apply op width lo args) = 1 + sum_of args

-- how many nodes a term has: constants, reads, picks and operations
abbrev pub nodes_of : Term → ℕ
nodes_of = fold-Term ℕ nodes_layer

abbrev pub select_parts_layer : Sel-F ℕ ℕ → ℕ
select_parts_layer (expr.Bit place at) = 1 + at
select_parts_layer (expr.Part place high low) = 1 + high + low
select_parts_layer (expr.Up place at width) = 1 + at + width
select_parts_layer (expr.Down place at width) = 1 + at + width

abbrev pub parts_layer : Expr-F ℕ ℕ → ℕ
parts_layer (expr.Number text) = 1
parts_layer (expr.Fill text) = 1
parts_layer (expr.Read name selects) = 1 + sum_of selects
parts_layer (expr.Unary sign operand) = 1 + operand
parts_layer (expr.Binary sign left right) = 1 + left + right
parts_layer (expr.Choice sign test first second) = 1 + test + first + second
parts_layer (expr.Concat place parts) = 1 + sum_of parts
parts_layer (expr.Repeat place count parts) = 1 + count + sum_of parts
parts_layer (expr.System name argument) = 1 + argument

-- how many nodes an expression has: each expression and each select in it
abbrev pub parts_of : Expr → ℕ
parts_of e = fold-Expr ℕ ℕ parts_layer select_parts_layer e

-- how many nodes a select has
abbrev pub select_parts : Sel → ℕ
select_parts s = fold-Sel ℕ ℕ parts_layer select_parts_layer s
