-- Which sources have the form that is supported so far: one module without parameters, of declarations, continuous assignments and
-- clocked processes without loops.
use Rattle.std.specs.Prelude.{Bool, true, false, ◌&&◌, List, [], ◌∷◌, Option, None, Some}
use Rattle.std.specs.List.{list_all}
use Rattle.sv_ast.specs.declared.statement.Stmt.{Stmt}
use Rattle.sv_ast.specs.declared.statement.CaseItem.{CaseItem}
use Rattle.sv_ast.specs.declared.statement.Stmt.TheOpen as statement
use Rattle.sv_ast.specs.declared.statement.Stmt.TheOpen.{Stmt-F, CaseItem-F}
use Rattle.sv_ast.specs.declared.statement.Stmt.TheFolds.{fold-Stmt, fold-CaseItem}
use Rattle.sv_ast.specs.declared.item.Item.{Item, out-Item}
use Rattle.sv_ast.specs.declared.item.Block.{Block}
use Rattle.sv_ast.specs.declared.item.Item.TheOpen as item
use Rattle.sv_ast.specs.declared.item.Item.TheOpen.{Item-F}
use Rattle.sv_ast.specs.declared.module.Param.{Param}
use Rattle.sv_ast.specs.declared.module.Module.{Module}

-- what is said of a part that may be missing, where it is there
abbrev pub if_there : Option Bool → Bool
if_there None = true
if_there (Some says) = says

-- a statement has no loop, where its parts have none
abbrev pub is_loopless_layer : Stmt-F Bool Bool → Bool
is_loopless_layer (statement.Block label parts) = list_all (λ says. says) parts
is_loopless_layer (statement.If place test first second) = first && if_there second
is_loopless_layer (statement.Case place value arms) = list_all (λ says. says) arms
is_loopless_layer (statement.For place header body) = false
is_loopless_layer (statement.Assign to sign value) = true
is_loopless_layer statement.Empty = true

abbrev pub is_loopless_arm_layer : CaseItem-F Bool Bool → Bool
is_loopless_arm_layer arm = arm.body

-- whether a statement has no loop, at any depth
abbrev pub is_loopless : Stmt → Bool
is_loopless = fold-Stmt Bool Bool is_loopless_layer is_loopless_arm_layer

-- whether an arm of a `case` has none
abbrev pub is_loopless_arm : CaseItem → Bool
is_loopless_arm = fold-CaseItem Bool Bool is_loopless_layer is_loopless_arm_layer

-- whether an item is a declaration, a continuous assignment, a clocked process without loops, or empty
abbrev pub is_supported_layer : Item-F Item Block → Bool
is_supported_layer (item.Param word shape decls) = false
is_supported_layer (item.Declare shape decls) = true
is_supported_layer (item.Genvar names) = false
is_supported_layer (item.Assign pairs) = true
is_supported_layer (item.Comb place body) = false
is_supported_layer (item.Clocked place edges body) = is_loopless body
is_supported_layer (item.Instance name args made) = false
is_supported_layer (item.Generate items) = false
is_supported_layer (item.For place fresh header block) = false
is_supported_layer (item.If place test first second) = false
is_supported_layer item.Empty = true

abbrev pub is_supported_item : Item → Bool
is_supported_item i = is_supported_layer (out-Item i)

abbrev pub is_without : List Param → Bool
is_without [] = true
is_without (p ∷ ps) = false

-- whether a module has no parameters, and each of its items is such a one
abbrev pub is_supported_module : Module → Bool
is_supported_module m = is_without m.params && list_all is_supported_item m.items

-- whether the modules of a source are one such module
abbrev pub is_supported : List Module → Bool
is_supported [] = false
is_supported (m ∷ []) = is_supported_module m
is_supported (m ∷ n ∷ more) = false
