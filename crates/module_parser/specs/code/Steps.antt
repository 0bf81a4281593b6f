-- Parts of rules that are read by functions of their own, beside those of `Parts`.
use Rattle.std.specs.Prelude.{ℕ, List, [], ◌∷◌, Option, Some, None, codes}
use Rattle.sv_ast.specs.declared.expression.Id.{Id}
use Rattle.sv_ast.specs.declared.expression.Expr.{Expr}
use Rattle.sv_ast.specs.declared.item.Range.{Range}
use Rattle.sv_ast.specs.declared.item.Edge.{Edge}
use Rattle.sv_ast.specs.declared.module.Param.{Param}
use Rattle.sv_ast.specs.declared.module.PortDecl.{PortDecl}
use Rattle.expr_parser.specs.Input.{Parser, ◌>>=◌, ◌>>◌, pure}
use Rattle.expr_parser.specs.Reading.{any}
use Rattle.module_parser.specs.declared.module.Head.{Head}
use Rattle.module_parser.specs.Words.{is_no_keyword}
use Rattle.module_parser.specs.Input.{many}
use Rattle.module_parser.specs.Reading.{word, sign, identifier, listed, label, end_label, parenthesised, edge, header_parameters, header_ports}

-- what stands behind this sign
abbrev pub behind_sign : {A : Type 0} → List ℕ → Parser A → Parser A
behind_sign text r = sign text >> r

-- two expressions with `:` between
abbrev pub bounds : Parser Range
bounds = do
  high ← any
  sign (codes ":")
  low ← any
  pure (record { high = high; low = low })

-- an expression with `;` behind it
abbrev pub ended : Parser Expr
ended = do
  found ← any
  sign (codes ";")
  pure found

-- what the variable of a loop begins with, and the test
abbrev pub start : Parser (Expr × Expr)
start = do
  sign (codes "=")
  first ← ended
  test ← ended
  pure (first, test)

-- the labels of an item, with the `:` behind them
abbrev pub labels : Parser (List Expr)
labels = do
  found ← listed any
  sign (codes ":")
  pure found

-- what stands between `begin` and `end`
abbrev pub labelled_parts : {A : Type 0} → Parser A → Parser (Option Id × List A)
labelled_parts r = do
  name ← label
  parts ← many (is_no_keyword (codes "end")) (λ _. r)
  pure (name, parts)

-- `end`, with the name of the beginning again or without one
abbrev pub block_end : Option Id → Parser (Unit {0})
block_end name = word (codes "end") >> end_label name

-- the one edge that a clocked process waits for
abbrev pub edges : Parser (List Edge)
edges = do
  sign (codes "@")
  found ← parenthesised edge
  pure (found ∷ [])

-- the edge of an event control as a list, where it has one
abbrev pub listed_edge : Option Edge → Option (List Edge)
listed_edge None = None
listed_edge (Some found) = Some (found ∷ [])

-- the parameters and ports of a header, with the `;` behind them
abbrev pub header_lists : Parser (List Param × List PortDecl)
header_lists = do
  params ← header_parameters
  found ← header_ports
  sign (codes ";")
  pure (params, found)

-- what stands before the items of a module
abbrev pub module_head : Parser Head
module_head = do
  word (codes "module")
  name ← identifier
  lists ← header_lists
  pure (record { name = name; params = lists.0; ports = lists.1 })
