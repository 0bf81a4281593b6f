-- Reading an expression from tokens, from left to right.
use Rattle.std.specs.Prelude.{ℕ, zero, suc, ◌+◌, ◌==◌, Bool, false, if◌then◌else◌, ◌||◌, nat_lt, List, [], ◌∷◌, ◌++◌, codes, Option, Some, None, Ok}
use Rattle.sv_base.specs.declared.refusal.Place.{Place}
use Rattle.sv_lexer.specs.declared.token.Token.{Token}
use Rattle.sv_ast.specs.declared.expression.Id.{Id}
use Rattle.sv_ast.specs.declared.expression.Sel.{Sel}
use Rattle.sv_ast.specs.declared.expression.Sel.TheVariants as sel
use Rattle.sv_ast.specs.declared.expression.Expr.{Expr}
use Rattle.sv_ast.specs.declared.expression.Expr.TheVariants as e
use Rattle.expr_parser.specs.Spelling.{is_identifier, is_function, is_unary, is_number, is_fill, binds, right_least}
use Rattle.expr_parser.specs.Grammar.{signed_strength}
use Rattle.expr_parser.specs.Nesting.{greatest_nesting}
use Rattle.expr_parser.specs.Input.{Parser, ◌>>=◌, ◌>>◌, ◌<$>◌, pure, refuse, next, sees, skip, take_id, expect, rise, enter, leave, turns}

-- how tightly the next token binds between two operands
abbrev pub binds_next : Option Token → ℕ
binds_next None = 0
binds_next (Some t) = binds t

-- how tightly the operand behind the next token holds together at least
abbrev pub right_least_next : Option Token → ℕ
right_least_next None = 0
right_least_next (Some t) = right_least t

-- whether no operator that binds so stands in an expression that holds together at least so tightly, where 0 is none
abbrev pub is_looser : ℕ → ℕ → Bool
is_looser level least = level == 0 || nat_lt level least

-- whether the next token may stand before an operand
abbrev pub is_unary_next : Option Token → Bool
is_unary_next None = false
is_unary_next (Some t) = is_unary t

-- an opening bracket, which counts from itself on
abbrev pub opening : List ℕ → Parser Id
opening text = λ i. if sees text i then (rise >> take_id) i else refuse i

-- The number says what is read: an expression that holds together at least so tightly, thus `? :` only where it is 0.
module _ (expr : ℕ → Parser Expr) where
  -- a whole expression, whose operators no longer count behind it
  unfoldable pub whole : Parser Expr
  whole = do
    outer ← enter
    tree ← expr 0
    leave outer
    pure tree

  -- behind `[` and the first expression: the select of the name
  abbrev pub select_from : Place → Expr → Parser Sel
  select_from place first = λ i.
      if sees (codes ":") i then (skip >> sel.Part place first <$> whole) i
      else (if sees (codes "+:") i then (skip >> sel.Up place first <$> whole) i
      else (if sees (codes "-:") i then (skip >> sel.Down place first <$> whole) i
      else Ok (sel.Bit place first, i)))

  unfoldable pub select : Parser Sel
  select = do
    outer ← enter
    opens ← opening (codes "[")
    first ← whole
    found ← select_from opens.place first
    expect (codes "]")
    leave outer
    pure found

  -- the select of a name, if one stands there
  unfoldable pub selects : Parser (List Sel)
  selects = λ i. if sees (codes "[") i then (select >>= λ found. pure (found ∷ [])) i else Ok ([], i)

  -- a name, a number or a fill
  unfoldable pub read : Parser Expr
  read = do
    name ← take_id
    found ← selects
    pure (e.Read name found)

  -- behind `(`, up to its `)`
  unfoldable pub parenthesised : Parser Expr
  parenthesised = do
    outer ← enter
    opening (codes "(")
    tree ← whole
    expect (codes ")")
    leave outer
    pure tree

  unfoldable pub system : Parser Expr
  system = do
    function ← take_id
    argument ← parenthesised
    pure (e.System function argument)

  -- more expressions with commas before them, behind these
  unfoldable pub list_from : ℕ → List Expr → Parser (List Expr)
  list_from zero found = pure found
  list_from (suc n) found = λ i.
      if sees (codes ",") i then (skip >> whole >>= λ tree. list_from n (found ++ tree ∷ [])) i else Ok (found, i)

  unfoldable pub more : Expr → Parser (List Expr)
  more first = λ i. list_from (turns i) (first ∷ []) i

  -- behind the second `{` of a replication, from it on to the first `}`
  unfoldable pub repeated : Parser (List Expr)
  repeated = do
    outer ← enter
    opening (codes "{")
    first ← whole
    parts ← more first
    expect (codes "}")
    leave outer
    pure parts

  -- behind `{` and the first expression: a replication, or a concatenation
  abbrev pub braced_from : Place → Expr → Parser Expr
  braced_from place first = λ i.
      if sees (codes "{") i then (e.Repeat place first <$> repeated) i else (e.Concat place <$> more first) i

  unfoldable pub braced : Parser Expr
  braced = do
    outer ← enter
    opens ← opening (codes "{")
    first ← whole
    tree ← braced_from opens.place first
    expect (codes "}")
    leave outer
    pure tree

  abbrev pub primary_by : Option Token → Parser Expr
  primary_by None = refuse
  primary_by (Some t) =
      if is_number t.kind then e.Number <$> take_id
      else (if is_fill t.kind then e.Fill <$> take_id
      else (if is_identifier t then read
      else (if is_function t then system else (λ i.
      if sees (codes "(") i then parenthesised i else (if sees (codes "{") i then braced i else refuse i)))))

  unfoldable pub primary : Parser Expr
  primary = λ i. primary_by (next i) i

  unfoldable pub prefixed : Parser Expr
  prefixed = do
    rise
    sign ← take_id
    operand ← expr signed_strength
    pure (e.Unary sign operand)

  unfoldable pub operand : Parser Expr
  operand = λ i. if is_unary_next (next i) then prefixed i else primary i

  -- the operator that comes next and its second operand
  unfoldable pub operation : Expr → ℕ → Parser Expr
  operation left least = do
    rise
    sign ← take_id
    right ← expr least
    pure (e.Binary sign left right)

  unfoldable pub climb : ℕ → ℕ → Expr → Parser Expr
  climb least zero left = pure left
  climb least (suc n) left = λ i.
      if is_looser (binds_next (next i)) least then Ok (left, i)
      else (operation left (right_least_next (next i)) >>= climb least n) i

  unfoldable pub operations : ℕ → Expr → Parser Expr
  operations least left = λ i. climb least (turns i) left i

  -- behind a condition, from `?` on
  unfoldable pub chosen : Expr → Parser Expr
  chosen test = do
    rise
    question ← take_id
    first ← expr 0
    expect (codes ":")
    second ← expr 0
    pure (e.Choice question test first second)

  unfoldable pub level : ℕ → Parser Expr
  level least = do
    first ← operand
    left ← operations least first
    (λ i. if least == 0 then (if sees (codes "?") i then chosen left i else Ok (left, i)) else Ok (left, i))

-- with at most so many expressions inside one another, operands among them
unfoldable pub expr : ℕ → ℕ → Parser Expr
expr zero least = refuse
expr (suc depth) least = level (expr depth) least

-- Each expression inside another has an operator or a bracket before it that counts, so there is at most one more than may be open.
abbrev pub any : Parser Expr
any = whole (expr (greatest_nesting + 1))
