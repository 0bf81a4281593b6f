-- The meaning of an expression as a function of whether a constant is needed.
use Rattle.std.specs.Prelude.{Bool}
use Rattle.sv_ast.specs.declared.expression.Expr.{Expr}
use Rattle.sv_ast.specs.declared.expression.Expr.TheFolds.{fold-Expr}
use Rattle.const_eval.specs.Expressions.{Names, Judged, Select, expression_layer, select_layer}

-- the meaning of an expression, where a constant is needed or not
abbrev pub means : Names → Expr → Bool → Judged
means names = fold-Expr (Bool → Judged) Select (expression_layer names) select_layer
