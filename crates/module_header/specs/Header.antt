-- What an entry or a port of a module's header takes from the one before it (IEEE 1800-2017, 6.20 and 23.2.2.3).
use Rattle.std.specs.Prelude.{Bool, true, false, ◌&&◌, if◌then◌else◌, List, [], ◌∷◌, Option, Some, None, is_none, codes}
use Rattle.std.specs.Option.{option_copied}
use Rattle.std.specs.Str.{bytes_eq}
use Rattle.sv_ast.specs.declared.expression.Id.{Id}
use Rattle.sv_ast.specs.declared.expression.Expr.{Expr}
use Rattle.sv_ast.specs.declared.item.Shape.{Shape}
use Rattle.sv_ast.specs.declared.module.Param.{Param}
use Rattle.sv_ast.specs.declared.module.PortDecl.{PortDecl}
use Rattle.module_header.specs.declared.header.EntryKind.{EntryKind}
use Rattle.module_header.specs.declared.header.EntryKind.TheVariants as kinds
use Rattle.module_header.specs.declared.header.Entry.{Entry}
use Rattle.module_header.specs.declared.header.Port.{Port}

-- no word
abbrev pub is_nil : List Id → Bool
is_nil [] = true
is_nil (word ∷ words) = false

-- a type of no word, sign or range
abbrev pub is_unsaid : Shape → Bool
is_unsaid shape = is_nil shape.words && is_none shape.sign && is_none shape.range

-- one's own, or that of the one before
abbrev pub own_or : Option Id → Option Id → Option Id
own_or None before = before
own_or (Some own) before = Some own

-- the kind of an entry with this keyword
abbrev pub kind_of : Id → EntryKind
kind_of keyword = if bytes_eq keyword.name (codes "localparam") then kinds.Localparam else kinds.Parameter

-- that of one's own keyword, or that of the entry before
abbrev pub kind_or : Option Id → EntryKind → EntryKind
kind_or None before = before
kind_or (Some own) before = kind_of own

-- the kind of an entry behind one of this kind
abbrev pub entry_kind : EntryKind → Param → EntryKind
entry_kind before p = kind_or p.keyword before

-- the type of an entry: that of the entry before it, where it has no keyword and no type itself
abbrev pub entry_shape : Option Shape → Param → Shape
entry_shape None p = p.shape
entry_shape (Some before) p = if is_none p.keyword && is_unsaid p.shape then before else p.shape

-- the direction of a port, and its type: those of the port before it where it is a name alone
abbrev pub port_direction : Option Id → PortDecl → Option Id
port_direction before p = own_or p.direction before

abbrev pub port_shape : Option Shape → PortDecl → Shape
port_shape None p = p.shape
port_shape (Some before) p = if is_none p.direction then before else p.shape

-- an entry of a header with all that it has
pub record HeaderEntry : Type 0 where
  pub kind : EntryKind
  pub shape : Shape
  pub name : Id
  pub value : Expr

-- the entry that the program's value stands for
abbrev pub entry_of : Entry → HeaderEntry
entry_of e = record { kind = e.kind; shape = e.shape.now; name = e.name.now; value = e.value.now }

-- the entries behind one of this kind and this type
abbrev pub entries_behind : EntryKind → Option Shape → List Param → List HeaderEntry
entries_behind kind shape [] = []
entries_behind kind shape (p ∷ ps) =
    record { kind = entry_kind kind p; shape = entry_shape shape p; name = p.name; value = p.value }
    ∷ entries_behind (entry_kind kind p) (Some (entry_shape shape p)) ps

-- the entries of a header, of which a first one without a keyword is a `parameter` (6.20.1)
abbrev pub entries : List Param → List HeaderEntry
entries params = entries_behind kinds.Parameter None params

-- a port of a header with all that it has
pub record HeaderPort : Type 0 where
  pub direction : Option Id
  pub shape : Shape
  pub name : Id

-- the port that the program's value stands for
abbrev pub port_of : Port → HeaderPort
port_of p = record { direction = option_copied p.direction; shape = p.shape.now; name = p.name.now }

-- the ports behind one with this direction and this type
abbrev pub ports_behind : Option Id → Option Shape → List PortDecl → List HeaderPort
ports_behind direction shape [] = []
ports_behind direction shape (p ∷ ps) =
    record { direction = port_direction direction p; shape = port_shape shape p; name = p.name }
    ∷ ports_behind (port_direction direction p) (Some (port_shape shape p)) ps

-- the ports of a header (23.2.2.3)
abbrev pub ports : List PortDecl → List HeaderPort
ports declared = ports_behind None None declared
