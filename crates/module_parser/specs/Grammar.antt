-- The grammar of a file: which tokens are which modules (IEEE 1800-2017, annex A, as far as `docs/language.md` takes it).
-- Each rule names what stands there in order, and the tree that it is.
use Rattle.std.specs.Prelude.{ℕ, zero, suc, Bool, true, false, not, ◌&&◌, ◌||◌, List, [], ◌∷◌, ◌++◌, codes, Option, Some, None}
use Rattle.sv_lexer.specs.declared.token.Token.{Token}
use Rattle.sv_ast.specs.declared.expression.Id.{Id}
use Rattle.sv_ast.specs.declared.expression.Sel.{Sel}
use Rattle.sv_ast.specs.declared.expression.Sel.TheVariants as sel
use Rattle.sv_ast.specs.declared.expression.Expr.{Expr}
use Rattle.sv_ast.specs.declared.expression.Expr.TheVariants as e
use Rattle.sv_ast.specs.declared.expression.Lval.{Lval}
use Rattle.sv_ast.specs.declared.expression.Lval.TheVariants as lval
use Rattle.sv_ast.specs.declared.statement.Step.{Step}
use Rattle.sv_ast.specs.declared.statement.Loop.{Loop}
use Rattle.sv_ast.specs.declared.statement.CaseItem.{CaseItem}
use Rattle.sv_ast.specs.declared.statement.Stmt.{Stmt}
use Rattle.sv_ast.specs.declared.statement.Stmt.TheVariants as stmt
use Rattle.sv_ast.specs.declared.item.Range.{Range}
use Rattle.sv_ast.specs.declared.item.Shape.{Shape}
use Rattle.sv_ast.specs.declared.item.Decl.{Decl}
use Rattle.sv_ast.specs.declared.item.Pair.{Pair}
use Rattle.sv_ast.specs.declared.item.Edge.{Edge}
use Rattle.sv_ast.specs.declared.item.Arg.{Arg}
use Rattle.sv_ast.specs.declared.item.Inst.{Inst}
use Rattle.sv_ast.specs.declared.item.Block.{Block}
use Rattle.sv_ast.specs.declared.item.Item.{Item}
use Rattle.sv_ast.specs.declared.item.Item.TheVariants as item
use Rattle.sv_ast.specs.declared.module.Param.{Param}
use Rattle.sv_ast.specs.declared.module.PortDecl.{PortDecl}
use Rattle.sv_ast.specs.declared.module.Module.{Module}
use Rattle.expr_parser.specs.Spelling.{is_identifier, is_this}
use Rattle.module_parser.specs.Words.{is_keyword, is_keyword_of, is_sign_of, is_named, is_no_keyword, is_no_sign, is_any, begins_target, vector_types, integer_types, signs, parameter_words, directions, edges}
use Rattle.module_parser.specs.Rule.{Rule, Test, give, one, skip, ◌>>=◌, ◌>>◌, ◌<$>◌, when, many, opened, expression, watched}

-- ---- small parts

abbrev pub word : List ℕ → Rule (Unit {0})
word text = skip (is_keyword text)

abbrev pub sign : List ℕ → Rule (Unit {0})
sign text = skip (is_this text)

abbrev pub identifier : Rule Id
identifier = one is_identifier

abbrev pub is_empty : {A : Type 0} → List A → Bool
is_empty [] = true
is_empty (x ∷ xs) = false

-- what may stand there where a token of this sort comes
abbrev pub maybe : {A : Type 0} → (Token → Bool) → Rule A → Rule (Option A)
maybe test r = when test (Some <$> r) (give None)

-- one or more with commas between
abbrev pub listed : {A : Type 0} → Rule A → Rule (List A)
listed r = do
  first ← r
  rest ← many (is_this (codes ",")) (λ _. sign (codes ",") >> r)
  give (first ∷ rest)

-- between `(` and `)`
abbrev pub parenthesised : {A : Type 0} → Rule A → Rule A
parenthesised r = do
  inner ← opened (is_this (codes "(")) (λ _. r)
  sign (codes ")")
  give inner

-- ---- targets of assignments (10.4, 11.4.12, 11.5.1)

abbrev pub select_from : Id → Expr → Rule Sel
select_from opens first =
    when (is_this (codes ":")) (sign (codes ":") >> sel.Part opens.place first <$> expression)
    (when (is_this (codes "+:")) (sign (codes "+:") >> sel.Up opens.place first <$> expression)
    (when (is_this (codes "-:")) (sign (codes "-:") >> sel.Down opens.place first <$> expression)
    (give (sel.Bit opens.place first))))

abbrev pub select : Rule Sel
select = do
  found ← opened (is_this (codes "[")) (λ opens. expression >>= select_from opens)
  sign (codes "]")
  give found

abbrev pub selects : Rule (List Sel)
selects = when (is_this (codes "[")) ((λ found. found ∷ []) <$> select) (give [])

abbrev pub named_target : Rule Lval
named_target = do
  name ← identifier
  found ← selects
  give (lval.Of name found)

module _ (target : Rule Lval) where
  abbrev pub target_list : Rule Lval
  target_list = do
    found ← opened (is_this (codes "{")) (λ opens. lval.List opens.place <$> listed target)
    sign (codes "}")
    give found

  abbrev pub target_level : Rule Lval
  target_level = when (is_this (codes "{")) target_list named_target

-- with targets inside one another to this depth
abbrev pub target_to : ℕ → Rule Lval
target_to zero = λ tree text next. ⊥
target_to (suc n) = target_level (target_to n)

abbrev pub target : Rule Lval
target = λ tree text next. (n : ℕ) × target_to n tree text next

-- ---- loops (12.7.1, 27.4)

-- the step of the loop over this variable
abbrev pub step : Id → Rule Step
step variable = do
  name ← one (is_named variable.name)
  when (is_sign_of (codes "++" ∷ codes "--" ∷ []))
      (do
        by ← one (is_sign_of (codes "++" ∷ codes "--" ∷ []))
        give (record { name = name; sign = by; value = None }))
      (do
        by ← one (is_sign_of (codes "=" ∷ codes "+=" ∷ codes "-=" ∷ []))
        value ← expression
        give (record { name = name; sign = by; value = Some value }))

abbrev pub loop : Rule Loop
loop = do
  name ← identifier
  sign (codes "=")
  first ← expression
  sign (codes ";")
  test ← expression
  sign (codes ";")
  by ← step name
  give (record { name = name; first = first; test = test; step = by })

-- ---- blocks (9.3, 27)

abbrev pub label : Rule (Option Id)
label = maybe (is_this (codes ":")) (sign (codes ":") >> identifier)

-- behind an end: the name of the beginning, where it had one
abbrev pub end_label : Option Id → Rule (Unit {0})
end_label None = give tt
end_label (Some name) = when (is_this (codes ":")) (sign (codes ":") >> skip (is_named name.name)) (give tt)

-- `begin`, a label, some of these, and `end` with the same label
abbrev pub block_of : {A : Type 0} → Rule A → Rule (Option Id × List A)
block_of r = do
  inner ← opened (is_keyword (codes "begin")) (λ _. do
    name ← label
    parts ← many (is_no_keyword (codes "end")) (λ _. r)
    give (name, parts))
  word (codes "end")
  end_label inner.0
  give inner

-- ---- statements (clause 12)

-- whether a `default` stands among these (12.5)
abbrev pub has_default : List CaseItem → Bool
has_default [] = false
has_default (c ∷ cs) = is_empty c.labels || has_default cs

-- a `default` with none before it
abbrev pub is_first_default : List CaseItem → Test
is_first_default found token = is_keyword (codes "default") token && not (has_default found)

module _ (statement : Rule Stmt) where
  abbrev pub block : Rule Stmt
  block = do
    inner ← block_of statement
    give (stmt.Block inner.0 inner.1)

  -- an `else` belongs to the nearest `if` (12.4)
  abbrev pub conditional : Rule Stmt
  conditional = do
    front ← opened (is_keyword (codes "if")) (λ opens. do
      test ← parenthesised expression
      first ← statement
      give (stmt.If opens.place test first))
    second ← maybe (is_keyword (codes "else")) (opened (is_keyword (codes "else")) (λ _. statement))
    give (front second)

  abbrev pub default_item : Rule CaseItem
  default_item = do
    word (codes "default")
    maybe (is_this (codes ":")) (sign (codes ":"))
    body ← statement
    give (record { labels = []; body = body })

  abbrev pub labelled_item : Rule CaseItem
  labelled_item = do
    labels ← listed expression
    sign (codes ":")
    body ← statement
    give (record { labels = labels; body = body })

  -- behind these items, of which one at most is a `default`
  abbrev pub case_item : List CaseItem → Rule CaseItem
  case_item found = when (is_first_default found) default_item labelled_item

  abbrev pub choice : Rule Stmt
  choice = do
    inner ← opened (is_keyword (codes "case")) (λ opens. do
      test ← parenthesised expression
      first ← case_item []
      rest ← many (is_no_keyword (codes "endcase")) (λ found. case_item (first ∷ found))
      give (stmt.Case opens.place test (first ∷ rest)))
    word (codes "endcase")
    give inner

  abbrev pub repetition : Rule Stmt
  repetition = opened (is_keyword (codes "for")) (λ opens. do
    head ← parenthesised (word (codes "int") >> loop)
    body ← statement
    give (stmt.For opens.place head body))

  abbrev pub assignment : Rule Stmt
  assignment = do
    written ← target
    by ← one (is_sign_of (codes "=" ∷ codes "<=" ∷ []))
    value ← expression
    sign (codes ";")
    give (stmt.Assign written (by) value)

  abbrev pub statement_level : Rule Stmt
  statement_level =
      when (is_keyword (codes "begin")) block
      (when (is_keyword (codes "if")) conditional
      (when (is_keyword (codes "case")) choice
      (when (is_keyword (codes "for")) repetition
      (when begins_target assignment
      (sign (codes ";") >> give stmt.Empty)))))

-- with statements inside one another to this depth
abbrev pub statement_to : ℕ → Rule Stmt
statement_to zero = λ tree text next. ⊥
statement_to (suc n) = statement_level (statement_to n)

abbrev pub statement : Rule Stmt
statement = λ tree text next. (n : ℕ) × statement_to n tree text next

-- ---- declarations (clause 6)

abbrev pub range : Rule Range
range = do
  inner ← opened (is_this (codes "[")) (λ _. do
    high ← expression
    sign (codes ":")
    low ← expression
    give (record { high = high; low = low }))
  sign (codes "]")
  give inner

abbrev pub sign_word : Rule (Option Id)
sign_word = maybe (is_keyword_of signs) (one (is_keyword_of signs))

-- a sign and a range, behind the words of a type
abbrev pub bare : List Id → Rule Shape
bare words = do
  signed ← sign_word
  bounds ← maybe (is_this (codes "[")) range
  give (record { words = words; sign = signed; range = bounds })

abbrev pub vector_shape : Rule Shape
vector_shape = do
  type ← one (is_keyword_of vector_types)
  bare (type ∷ [])

abbrev pub integer_shape : Rule Shape
integer_shape = do
  type ← one (is_keyword_of integer_types)
  signed ← sign_word
  give (record { words = type ∷ []; sign = signed; range = None })

abbrev pub net_words : Id → Option Id → List Id
net_words wire None = wire ∷ []
net_words wire (Some logic) = wire ∷ logic ∷ []

abbrev pub net_shape : Rule Shape
net_shape = do
  wire ← one (is_keyword (codes "wire"))
  logic ← maybe (is_keyword (codes "logic")) (one (is_keyword (codes "logic")))
  bare (net_words (wire) logic)

-- a type with its sign and range, or these alone
abbrev pub variable_shape : Rule Shape
variable_shape =
    when (is_keyword_of vector_types) vector_shape
    (when (is_keyword_of integer_types) integer_shape (bare []))

abbrev pub port_shape : Rule Shape
port_shape = when (is_keyword (codes "wire")) net_shape variable_shape

abbrev pub value : Rule Expr
value = sign (codes "=") >> expression

abbrev pub declared : Rule Decl
declared = do
  name ← identifier
  first ← maybe (is_this (codes "=")) value
  give (record { name = name; value = first })

abbrev pub parameter : Rule Decl
parameter = do
  name ← identifier
  first ← value
  give (record { name = name; value = Some first })

-- ---- instances (23.3.2)

-- behind `.p`: `(e)`, `()`, or nothing where it stands for `.p(p)`
abbrev pub connected : Id → Rule Arg
connected port =
    when (is_this (codes "("))
    (do
      joined ← parenthesised (maybe (is_no_sign (codes ")")) expression)
      give (record { port = Some port; value = joined }))
    (give (record { port = Some port; value = Some (e.Read port []) }))

abbrev pub named_arg : Rule Arg
named_arg = sign (codes ".") >> identifier >>= connected

abbrev pub ordered_arg : Rule Arg
ordered_arg = (λ found. record { port = None; value = Some found }) <$> expression

-- all by name, or all by order
abbrev pub args : Rule (List Arg)
args =
    when (is_no_sign (codes ")")) (when (is_this (codes ".")) (listed named_arg) (listed ordered_arg)) (give [])

abbrev pub instance : Rule Inst
instance = do
  name ← identifier
  joined ← parenthesised args
  give (record { name = name; args = joined })

-- ---- items

abbrev pub parameters : Rule Item
parameters = do
  keyword ← one (is_keyword_of parameter_words)
  shape ← variable_shape
  found ← listed parameter
  sign (codes ";")
  give (item.Param (keyword) shape found)

abbrev pub declaration : Rule Item
declaration = do
  shape ← port_shape
  found ← listed declared
  sign (codes ";")
  give (item.Declare shape found)

abbrev pub genvars : Rule Item
genvars = do
  word (codes "genvar")
  names ← listed identifier
  sign (codes ";")
  give (item.Genvar names)

abbrev pub pair : Rule Pair
pair = do
  written ← target
  sign (codes "=")
  found ← expression
  give (record { target = written; value = found })

abbrev pub assignments : Rule Item
assignments = do
  word (codes "assign")
  pairs ← listed pair
  sign (codes ";")
  give (item.Assign pairs)

abbrev pub combinational : Rule Item
combinational = do
  keyword ← one (is_keyword (codes "always_comb"))
  body ← statement
  give (item.Comb keyword.place body)

abbrev pub edge : Rule Edge
edge = do
  keyword ← one (is_keyword_of edges)
  name ← identifier
  give (record { word = keyword; name = name })

abbrev pub clocked : Rule Item
clocked = do
  keyword ← one (is_keyword (codes "always_ff"))
  sign (codes "@")
  found ← parenthesised edge
  body ← statement
  give (item.Clocked keyword.place (found ∷ []) body)

-- `*`, `(*)` or an edge
abbrev pub control : Rule (Option Edge)
control =
    when (is_this (codes "*")) (sign (codes "*") >> give None)
    (parenthesised (when (is_this (codes "*")) (sign (codes "*") >> give None) (Some <$> edge)))

abbrev pub process_of : Id → Option Edge → Stmt → Item
process_of keyword None body = item.Comb keyword.place body
process_of keyword (Some found) body = item.Clocked keyword.place (found ∷ []) body

abbrev pub always : Rule Item
always = do
  keyword ← one (is_keyword (codes "always"))
  sign (codes "@")
  found ← control
  body ← statement
  give (process_of keyword found body)

abbrev pub instances : Rule Item
instances = do
  of_module ← identifier
  values ← when (is_this (codes "#")) (sign (codes "#") >> parenthesised args) (give [])
  found ← listed instance
  sign (codes ";")
  give (item.Instance of_module values found)

-- the words with which a declaration of nets or variables begins
abbrev pub declaring_words : List (List ℕ)
declaring_words = codes "wire" ∷ vector_types ++ integer_types

module _ (item_rule : Rule Item) where
  abbrev pub generated : Rule Item
  generated = do
    inner ← opened (is_keyword (codes "generate")) (λ _. many (is_no_keyword (codes "endgenerate")) (λ _. item_rule))
    word (codes "endgenerate")
    give (item.Generate inner)

  -- a block, or one item that stands for itself
  abbrev pub generate_block : Rule Block
  generate_block =
      when (is_keyword (codes "begin")) ((λ inner. record { label = inner.0; items = inner.1 }) <$> block_of item_rule)
      ((λ found. record { label = None; items = found ∷ [] }) <$> item_rule)

  abbrev pub loop_head : Rule (Bool × Loop)
  loop_head =
      when (is_keyword (codes "genvar")) (word (codes "genvar") >> (λ head. (true, head)) <$> loop)
      ((λ head. (false, head)) <$> loop)

  abbrev pub generate_loop : Rule Item
  generate_loop = opened (is_keyword (codes "for")) (λ opens. do
    head ← parenthesised loop_head
    body ← generate_block
    give (item.For opens.place head.0 head.1 body))

  abbrev pub generate_conditional : Rule Item
  generate_conditional = do
    front ← opened (is_keyword (codes "if")) (λ opens. do
      test ← parenthesised expression
      first ← generate_block
      give (item.If opens.place test first))
    second ← maybe (is_keyword (codes "else")) (opened (is_keyword (codes "else")) (λ _. generate_block))
    give (front second)

  abbrev pub item_level : Rule Item
  item_level =
      when (is_keyword_of parameter_words) parameters
      (when (is_keyword_of declaring_words) declaration
      (when (is_keyword (codes "genvar")) genvars
      (when (is_keyword (codes "assign")) assignments
      (when (is_keyword (codes "always_comb")) combinational
      (when (is_keyword (codes "always_ff")) clocked
      (when (is_keyword (codes "always")) always
      (when (is_keyword (codes "generate")) generated
      (when (is_keyword (codes "for")) generate_loop
      (when (is_keyword (codes "if")) generate_conditional
      (when is_identifier instances
      (sign (codes ";") >> give item.Empty)))))))))))

-- with items inside one another to this depth
abbrev pub item_to : ℕ → Rule Item
item_to zero = λ tree text next. ⊥
item_to (suc n) = item_level (item_to n)

abbrev pub item_of : Rule Item
item_of = λ tree text next. (n : ℕ) × item_to n tree text next

-- ---- modules (23.2)

abbrev pub header_parameter : Rule Param
header_parameter = do
  keyword ← maybe (is_keyword_of parameter_words) (one (is_keyword_of parameter_words))
  shape ← variable_shape
  name ← identifier
  found ← value
  give (record { keyword = keyword; shape = shape; name = name; value = found })

abbrev pub header_parameters : Rule (List Param)
header_parameters = when (is_this (codes "#")) (sign (codes "#") >> parenthesised (listed header_parameter)) (give [])

abbrev pub whole_port : Rule PortDecl
whole_port = do
  direction ← one (is_keyword_of directions)
  shape ← port_shape
  name ← identifier
  give (record { direction = Some (direction); shape = shape; name = name })

abbrev pub no_shape : Shape
no_shape = record { words = []; sign = None; range = None }

-- a name alone takes what the port before it has
abbrev pub further_port : Rule PortDecl
further_port =
    when is_identifier ((λ name. record { direction = None; shape = no_shape; name = name }) <$> identifier) whole_port

abbrev pub ports : Rule (List PortDecl)
ports = do
  first ← whole_port
  rest ← many (is_this (codes ",")) (λ _. sign (codes ",") >> further_port)
  give (first ∷ rest)

abbrev pub header_ports : Rule (List PortDecl)
header_ports =
    when (is_this (codes "(")) (parenthesised (when (is_no_sign (codes ")")) ports (give []))) (give [])

-- the items up to `endmodule`, and whether a mark stands between the `;` of the header and `endmodule`
abbrev pub body : Rule (List Item × Bool)
body = watched (do
  items ← many (is_no_keyword (codes "endmodule")) (λ _. item_of)
  word (codes "endmodule")
  give items)

abbrev pub module_of : Rule Module
module_of = do
  word (codes "module")
  name ← identifier
  params ← header_parameters
  found ← header_ports
  sign (codes ";")
  inner ← body
  end_label (Some name)
  give (record { name = name; marked = inner.1; params = params; ports = found; items = inner.0 })

-- every token belongs to a module
abbrev pub file : Rule (List Module)
file = many is_any (λ _. module_of)
