-- Parts of rules that are read by functions of their own.
use Rattle.std.specs.Prelude.{List, [], ◌∷◌, Option, codes}
use Rattle.sv_ast.specs.declared.statement.Loop.{Loop}
use Rattle.sv_ast.specs.declared.statement.CaseItem.{CaseItem}
use Rattle.sv_ast.specs.declared.statement.Stmt.{Stmt}
use Rattle.sv_ast.specs.declared.statement.Stmt.TheVariants as stmt
use Rattle.expr_parser.specs.Input.{Parser, ◌>>=◌, ◌>>◌, pure}
use Rattle.expr_parser.specs.Reading.{any}
use Rattle.module_parser.specs.Words.{is_keyword, is_no_keyword}
use Rattle.module_parser.specs.Input.{many, opened}
use Rattle.module_parser.specs.Reading.{word, loop, maybe, parenthesised, case_item}

-- the header of a loop that declares its variable
abbrev pub counted : Parser Loop
counted = word (codes "int") >> loop

-- what stands behind `else`
abbrev pub otherwise : {A : Type 0} → Parser A → Parser (Option A)
otherwise r = maybe (is_keyword (codes "else")) (opened (is_keyword (codes "else")) (λ _. r))

-- the items of a `case`, one or more
abbrev pub case_items : Parser Stmt → Parser (List CaseItem)
case_items statement = do
  first ← case_item statement []
  rest ← many (is_no_keyword (codes "endcase")) (λ found. case_item statement (first ∷ found))
  pure (first ∷ rest)

-- a `case` before its `endcase`
abbrev pub choice_front : Parser Stmt → Parser Stmt
choice_front statement = opened (is_keyword (codes "case")) (λ opens. do
  test ← parenthesised any
  first ← case_item statement []
  rest ← many (is_no_keyword (codes "endcase")) (λ found. case_item statement (first ∷ found))
  pure (stmt.Case opens.place test (first ∷ rest)))
