-- Reading the modules of a file from tokens, from left to right.
use Rattle.std.specs.Prelude.{ℕ, zero, suc, ◌+◌, Bool, true, false, List, [], ◌∷◌, codes, Option, Some, None}
use Rattle.sv_lexer.specs.declared.token.Token.{Token}
use Rattle.sv_ast.specs.declared.expression.Id.{Id}
use Rattle.sv_ast.specs.declared.expression.Sel.{Sel}
use Rattle.sv_ast.specs.declared.expression.Sel.TheVariants as sel
use Rattle.sv_ast.specs.declared.expression.Expr.{Expr}
use Rattle.sv_ast.specs.declared.expression.Expr.TheVariants as e
use Rattle.sv_ast.specs.declared.expression.Lval.{Lval}
use Rattle.sv_ast.specs.declared.expression.Lval.TheVariants as lval
use Rattle.sv_ast.specs.declared.statement.Step.{Step}
use Rattle.sv_ast.specs.declared.statement.Loop.{Loop}
use Rattle.sv_ast.specs.declared.statement.CaseItem.{CaseItem}
use Rattle.sv_ast.specs.declared.statement.Stmt.{Stmt}
use Rattle.sv_ast.specs.declared.statement.Stmt.TheVariants as stmt
use Rattle.sv_ast.specs.declared.item.Range.{Range}
use Rattle.sv_ast.specs.declared.item.Shape.{Shape}
use Rattle.sv_ast.specs.declared.item.Decl.{Decl}
use Rattle.sv_ast.specs.declared.item.Pair.{Pair}
use Rattle.sv_ast.specs.declared.item.Edge.{Edge}
use Rattle.sv_ast.specs.declared.item.Arg.{Arg}
use Rattle.sv_ast.specs.declared.item.Inst.{Inst}
use Rattle.sv_ast.specs.declared.item.Block.{Block}
use Rattle.sv_ast.specs.declared.item.Item.{Item}
use Rattle.sv_ast.specs.declared.item.Item.TheVariants as item
use Rattle.sv_ast.specs.declared.module.Param.{Param}
use Rattle.sv_ast.specs.declared.module.PortDecl.{PortDecl}
use Rattle.sv_ast.specs.declared.module.Module.{Module}
use Rattle.expr_parser.specs.Spelling.{is_identifier, is_this}
use Rattle.module_parser.specs.Words.{is_keyword, is_keyword_of, is_sign_of, is_named, is_no_keyword, is_no_sign, is_any, begins_target, vector_types, integer_types, signs, parameter_words, directions, edges}
use Rattle.expr_parser.specs.Nesting.{greatest_nesting}
use Rattle.expr_parser.specs.Input.{Parser, ◌>>=◌, ◌>>◌, ◌<$>◌, pure, refuse}
use Rattle.expr_parser.specs.Reading.{any}
use Rattle.module_parser.specs.Grammar.{is_first_default, net_words, process_of, declaring_words, no_shape}
use Rattle.module_parser.specs.Input.{take_one, pass, when, many, opened, watched}

-- What stands inside something of its own sort has a token before it that counts as nesting.
abbrev pub levels : ℕ
levels = greatest_nesting + 1

-- ---- small parts

abbrev pub word : List ℕ → Parser (Unit {0})
word text = pass (is_keyword text)

abbrev pub sign : List ℕ → Parser (Unit {0})
sign text = pass (is_this text)

abbrev pub identifier : Parser Id
identifier = take_one is_identifier

-- what may stand there where a token of this sort comes
abbrev pub maybe : {A : Type 0} → (Token → Bool) → Parser A → Parser (Option A)
maybe test r = when test (Some <$> r) (pure None)

-- one or more with commas between
abbrev pub listed : {A : Type 0} → Parser A → Parser (List A)
listed r = do
  first ← r
  rest ← many (is_this (codes ",")) (λ _. sign (codes ",") >> r)
  pure (first ∷ rest)

-- between `(` and `)`
abbrev pub parenthesised : {A : Type 0} → Parser A → Parser A
parenthesised r = do
  inner ← opened (is_this (codes "(")) (λ _. r)
  sign (codes ")")
  pure inner

-- ---- targets of assignments (10.4, 11.4.12, 11.5.1)

abbrev pub select_from : Id → Expr → Parser Sel
select_from opens first =
    when (is_this (codes ":")) (sign (codes ":") >> sel.Part opens.place first <$> any)
    (when (is_this (codes "+:")) (sign (codes "+:") >> sel.Up opens.place first <$> any)
    (when (is_this (codes "-:")) (sign (codes "-:") >> sel.Down opens.place first <$> any)
    (pure (sel.Bit opens.place first))))

unfoldable pub select : Parser Sel
select = do
  found ← opened (is_this (codes "[")) (λ opens. any >>= select_from opens)
  sign (codes "]")
  pure found

unfoldable pub selects : Parser (List Sel)
selects = when (is_this (codes "[")) ((λ found. found ∷ []) <$> select) (pure [])

unfoldable pub named_target : Parser Lval
named_target = do
  name ← identifier
  found ← selects
  pure (lval.Of name found)

module _ (target : Parser Lval) where
  unfoldable pub target_list : Parser Lval
  target_list = do
    found ← opened (is_this (codes "{")) (λ opens. lval.List opens.place <$> listed target)
    sign (codes "}")
    pure found

  unfoldable pub target_level : Parser Lval
  target_level = when (is_this (codes "{")) target_list named_target

-- with targets inside one another to this depth
unfoldable pub target_to : ℕ → Parser Lval
target_to zero = refuse
target_to (suc n) = target_level (target_to n)

unfoldable pub target : Parser Lval
target = target_to levels

-- ---- loops (12.7.1, 27.4)

-- the step of the loop over this variable
unfoldable pub step : Id → Parser Step
step variable = do
  name ← take_one (is_named variable.name)
  when (is_sign_of (codes "++" ∷ codes "--" ∷ []))
      (do
        by ← take_one (is_sign_of (codes "++" ∷ codes "--" ∷ []))
        pure (record { name = name; sign = by; value = None }))
      (do
        by ← take_one (is_sign_of (codes "=" ∷ codes "+=" ∷ codes "-=" ∷ []))
        value ← any
        pure (record { name = name; sign = by; value = Some value }))

unfoldable pub loop : Parser Loop
loop = do
  name ← identifier
  sign (codes "=")
  first ← any
  sign (codes ";")
  test ← any
  sign (codes ";")
  by ← step name
  pure (record { name = name; first = first; test = test; step = by })

-- ---- blocks (9.3, 27)

unfoldable pub label : Parser (Option Id)
label = maybe (is_this (codes ":")) (sign (codes ":") >> identifier)

-- behind an end: the name of the beginning, where it had one
unfoldable pub end_label : Option Id → Parser (Unit {0})
end_label None = pure tt
end_label (Some name) = when (is_this (codes ":")) (sign (codes ":") >> pass (is_named name.name)) (pure tt)

-- `begin`, a label, some of these, and `end` with the same label
unfoldable pub block_of : {A : Type 0} → Parser A → Parser (Option Id × List A)
block_of r = do
  inner ← opened (is_keyword (codes "begin")) (λ _. do
    name ← label
    parts ← many (is_no_keyword (codes "end")) (λ _. r)
    pure (name, parts))
  word (codes "end")
  end_label inner.0
  pure inner

-- ---- statements (clause 12)

module _ (statement : Parser Stmt) where
  unfoldable pub block : Parser Stmt
  block = do
    inner ← block_of statement
    pure (stmt.Block inner.0 inner.1)

  -- an `else` belongs to the nearest `if` (12.4)
  unfoldable pub conditional : Parser Stmt
  conditional = do
    front ← opened (is_keyword (codes "if")) (λ opens. do
      test ← parenthesised any
      first ← statement
      pure (stmt.If opens.place test first))
    second ← maybe (is_keyword (codes "else")) (opened (is_keyword (codes "else")) (λ _. statement))
    pure (front second)

  unfoldable pub default_item : Parser CaseItem
  default_item = do
    word (codes "default")
    maybe (is_this (codes ":")) (sign (codes ":"))
    body ← statement
    pure (record { labels = []; body = body })

  unfoldable pub labelled_item : Parser CaseItem
  labelled_item = do
    labels ← listed any
    sign (codes ":")
    body ← statement
    pure (record { labels = labels; body = body })

  -- behind these items, of which one at most is a `default`
  unfoldable pub case_item : List CaseItem → Parser CaseItem
  case_item found = when (is_first_default found) default_item labelled_item

  unfoldable pub choice : Parser Stmt
  choice = do
    inner ← opened (is_keyword (codes "case")) (λ opens. do
      test ← parenthesised any
      first ← case_item []
      rest ← many (is_no_keyword (codes "endcase")) (λ found. case_item (first ∷ found))
      pure (stmt.Case opens.place test (first ∷ rest)))
    word (codes "endcase")
    pure inner

  unfoldable pub repetition : Parser Stmt
  repetition = opened (is_keyword (codes "for")) (λ opens. do
    head ← parenthesised (word (codes "int") >> loop)
    body ← statement
    pure (stmt.For opens.place head body))

  unfoldable pub assignment : Parser Stmt
  assignment = do
    written ← target
    by ← take_one (is_sign_of (codes "=" ∷ codes "<=" ∷ []))
    value ← any
    sign (codes ";")
    pure (stmt.Assign written (by) value)

  unfoldable pub statement_level : Parser Stmt
  statement_level =
      when (is_keyword (codes "begin")) block
      (when (is_keyword (codes "if")) conditional
      (when (is_keyword (codes "case")) choice
      (when (is_keyword (codes "for")) repetition
      (when begins_target assignment
      (sign (codes ";") >> pure stmt.Empty)))))

-- with statements inside one another to this depth
unfoldable pub statement_to : ℕ → Parser Stmt
statement_to zero = refuse
statement_to (suc n) = statement_level (statement_to n)

unfoldable pub statement : Parser Stmt
statement = statement_to levels

-- ---- declarations (clause 6)

unfoldable pub range : Parser Range
range = do
  inner ← opened (is_this (codes "[")) (λ _. do
    high ← any
    sign (codes ":")
    low ← any
    pure (record { high = high; low = low }))
  sign (codes "]")
  pure inner

unfoldable pub sign_word : Parser (Option Id)
sign_word = maybe (is_keyword_of signs) (take_one (is_keyword_of signs))

-- a sign and a range, behind the words of a type
unfoldable pub bare : List Id → Parser Shape
bare words = do
  signed ← sign_word
  bounds ← maybe (is_this (codes "[")) range
  pure (record { words = words; sign = signed; range = bounds })

unfoldable pub vector_shape : Parser Shape
vector_shape = do
  type ← take_one (is_keyword_of vector_types)
  bare (type ∷ [])

unfoldable pub integer_shape : Parser Shape
integer_shape = do
  type ← take_one (is_keyword_of integer_types)
  signed ← sign_word
  pure (record { words = type ∷ []; sign = signed; range = None })

unfoldable pub net_shape : Parser Shape
net_shape = do
  wire ← take_one (is_keyword (codes "wire"))
  logic ← maybe (is_keyword (codes "logic")) (take_one (is_keyword (codes "logic")))
  bare (net_words (wire) logic)

-- a type with its sign and range, or these alone
unfoldable pub variable_shape : Parser Shape
variable_shape =
    when (is_keyword_of vector_types) vector_shape
    (when (is_keyword_of integer_types) integer_shape (bare []))

unfoldable pub port_shape : Parser Shape
port_shape = when (is_keyword (codes "wire")) net_shape variable_shape

unfoldable pub value : Parser Expr
value = sign (codes "=") >> any

unfoldable pub declared : Parser Decl
declared = do
  name ← identifier
  first ← maybe (is_this (codes "=")) value
  pure (record { name = name; value = first })

unfoldable pub parameter : Parser Decl
parameter = do
  name ← identifier
  first ← value
  pure (record { name = name; value = Some first })

-- ---- instances (23.3.2)

-- behind `.p`: `(e)`, `()`, or nothing where it stands for `.p(p)`
unfoldable pub connected : Id → Parser Arg
connected port =
    when (is_this (codes "("))
    (do
      joined ← parenthesised (maybe (is_no_sign (codes ")")) any)
      pure (record { port = Some port; value = joined }))
    (pure (record { port = Some port; value = Some (e.Read port []) }))

unfoldable pub named_arg : Parser Arg
named_arg = sign (codes ".") >> identifier >>= connected

unfoldable pub ordered_arg : Parser Arg
ordered_arg = (λ found. record { port = None; value = Some found }) <$> any

-- all by name, or all by order
unfoldable pub args : Parser (List Arg)
args =
    when (is_no_sign (codes ")")) (when (is_this (codes ".")) (listed named_arg) (listed ordered_arg)) (pure [])

unfoldable pub instance : Parser Inst
instance = do
  name ← identifier
  joined ← parenthesised args
  pure (record { name = name; args = joined })

-- ---- items

unfoldable pub parameters : Parser Item
parameters = do
  keyword ← take_one (is_keyword_of parameter_words)
  shape ← variable_shape
  found ← listed parameter
  sign (codes ";")
  pure (item.Param (keyword) shape found)

unfoldable pub declaration : Parser Item
declaration = do
  shape ← port_shape
  found ← listed declared
  sign (codes ";")
  pure (item.Declare shape found)

unfoldable pub genvars : Parser Item
genvars = do
  word (codes "genvar")
  names ← listed identifier
  sign (codes ";")
  pure (item.Genvar names)

unfoldable pub pair : Parser Pair
pair = do
  written ← target
  sign (codes "=")
  found ← any
  pure (record { target = written; value = found })

unfoldable pub assignments : Parser Item
assignments = do
  word (codes "assign")
  pairs ← listed pair
  sign (codes ";")
  pure (item.Assign pairs)

unfoldable pub combinational : Parser Item
combinational = do
  keyword ← take_one (is_keyword (codes "always_comb"))
  body ← statement
  pure (item.Comb keyword.place body)

unfoldable pub edge : Parser Edge
edge = do
  keyword ← take_one (is_keyword_of edges)
  name ← identifier
  pure (record { word = keyword; name = name })

unfoldable pub clocked : Parser Item
clocked = do
  keyword ← take_one (is_keyword (codes "always_ff"))
  sign (codes "@")
  found ← parenthesised edge
  body ← statement
  pure (item.Clocked keyword.place (found ∷ []) body)

-- `*` or an edge
abbrev pub event : Parser (Option Edge)
event = when (is_this (codes "*")) (sign (codes "*") >> pure None) (Some <$> edge)

-- `*`, `(*)` or an edge
unfoldable pub control : Parser (Option Edge)
control = when (is_this (codes "*")) (sign (codes "*") >> pure None) (parenthesised event)

unfoldable pub always : Parser Item
always = do
  keyword ← take_one (is_keyword (codes "always"))
  sign (codes "@")
  found ← control
  body ← statement
  pure (process_of keyword found body)

-- the values of an instance's parameters
abbrev pub parameter_values : Parser (List Arg)
parameter_values = when (is_this (codes "#")) (sign (codes "#") >> parenthesised args) (pure [])

unfoldable pub instances : Parser Item
instances = do
  of_module ← identifier
  values ← parameter_values
  found ← listed instance
  sign (codes ";")
  pure (item.Instance of_module values found)

module _ (item_rule : Parser Item) where
  unfoldable pub generated : Parser Item
  generated = do
    inner ← opened (is_keyword (codes "generate")) (λ _. many (is_no_keyword (codes "endgenerate")) (λ _. item_rule))
    word (codes "endgenerate")
    pure (item.Generate inner)

  -- from `begin` to `end`
  abbrev pub labelled : Parser Block
  labelled = (λ inner. record { label = inner.0; items = inner.1 }) <$> block_of item_rule

  -- a block, or one item that stands for itself
  unfoldable pub generate_block : Parser Block
  generate_block =
      when (is_keyword (codes "begin")) labelled ((λ found. record { label = None; items = found ∷ [] }) <$> item_rule)

  unfoldable pub loop_head : Parser (Bool × Loop)
  loop_head =
      when (is_keyword (codes "genvar")) (word (codes "genvar") >> (λ head. (true, head)) <$> loop)
      ((λ head. (false, head)) <$> loop)

  unfoldable pub generate_loop : Parser Item
  generate_loop = opened (is_keyword (codes "for")) (λ opens. do
    head ← parenthesised loop_head
    body ← generate_block
    pure (item.For opens.place head.0 head.1 body))

  -- behind the first block of a condition
  abbrev pub generate_else : Parser (Option Block)
  generate_else = maybe (is_keyword (codes "else")) (opened (is_keyword (codes "else")) (λ _. generate_block))

  unfoldable pub generate_conditional : Parser Item
  generate_conditional = do
    front ← opened (is_keyword (codes "if")) (λ opens. do
      test ← parenthesised any
      first ← generate_block
      pure (item.If opens.place test first))
    second ← generate_else
    pure (front second)

  -- what is no declaration and no process
  abbrev pub structure : Parser Item
  structure =
      when (is_keyword (codes "generate")) generated
      (when (is_keyword (codes "for")) generate_loop
      (when (is_keyword (codes "if")) generate_conditional
      (when is_identifier instances
      (sign (codes ";") >> pure item.Empty))))

  unfoldable pub item_level : Parser Item
  item_level =
      when (is_keyword_of parameter_words) parameters
      (when (is_keyword_of declaring_words) declaration
      (when (is_keyword (codes "genvar")) genvars
      (when (is_keyword (codes "assign")) assignments
      (when (is_keyword (codes "always_comb")) combinational
      (when (is_keyword (codes "always_ff")) clocked
      (when (is_keyword (codes "always")) always structure))))))

-- with items inside one another to this depth
unfoldable pub item_to : ℕ → Parser Item
item_to zero = refuse
item_to (suc n) = item_level (item_to n)

unfoldable pub item_of : Parser Item
item_of = item_to levels

-- ---- modules (23.2)

unfoldable pub header_parameter : Parser Param
header_parameter = do
  keyword ← maybe (is_keyword_of parameter_words) (take_one (is_keyword_of parameter_words))
  shape ← variable_shape
  name ← identifier
  found ← value
  pure (record { keyword = keyword; shape = shape; name = name; value = found })

unfoldable pub header_parameters : Parser (List Param)
header_parameters = when (is_this (codes "#")) (sign (codes "#") >> parenthesised (listed header_parameter)) (pure [])

unfoldable pub whole_port : Parser PortDecl
whole_port = do
  direction ← take_one (is_keyword_of directions)
  shape ← port_shape
  name ← identifier
  pure (record { direction = Some (direction); shape = shape; name = name })

-- a name alone takes what the port before it has
unfoldable pub further_port : Parser PortDecl
further_port =
    when is_identifier ((λ name. record { direction = None; shape = no_shape; name = name }) <$> identifier) whole_port

unfoldable pub ports : Parser (List PortDecl)
ports = do
  first ← whole_port
  rest ← many (is_this (codes ",")) (λ _. sign (codes ",") >> further_port)
  pure (first ∷ rest)

-- what stands between the parentheses of a header
abbrev pub port_list : Parser (List PortDecl)
port_list = when (is_no_sign (codes ")")) ports (pure [])

unfoldable pub header_ports : Parser (List PortDecl)
header_ports = when (is_this (codes "(")) (parenthesised port_list) (pure [])

-- the items up to `endmodule`
abbrev pub body_items : Parser (List Item)
body_items = do
  items ← many (is_no_keyword (codes "endmodule")) (λ _. item_of)
  word (codes "endmodule")
  pure items

-- those, and whether a mark stands before or among them
unfoldable pub body : Parser (List Item × Bool)
body = watched body_items

unfoldable pub module_of : Parser Module
module_of = do
  word (codes "module")
  name ← identifier
  params ← header_parameters
  found ← header_ports
  sign (codes ";")
  inner ← body
  end_label (Some name)
  pure (record { name = name; marked = inner.1; params = params; ports = found; items = inner.0 })

-- every token belongs to a module
unfoldable pub file : Parser (List Module)
file = many is_any (λ _. module_of)
