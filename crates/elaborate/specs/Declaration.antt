-- What ports and declarations add to a module (IEEE 1800-2017, 6.5, 6.8, 10.3.1 and 23.2.2).
use Rattle.std.specs.Prelude.{ℕ, nat_lt, ℤ, Bool, true, false, ◌||◌, List, [], ◌∷◌, length, codes, Option, None, Some, Result, Ok, Err, if◌then◌else◌}
use Rattle.bit_ops.specs.declared.value.Bits.{Bits}
use Rattle.sv_base.specs.declared.refusal.Refusal.{Refusal}
use Rattle.sv_ast.specs.declared.expression.Id.{Id}
use Rattle.sv_ast.specs.declared.expression.Expr.{Expr}
use Rattle.sv_ast.specs.declared.item.Shape.{Shape}
use Rattle.sv_ast.specs.declared.item.Decl.{Decl}
use Rattle.module_header.specs.Header.{HeaderPort, is_nil}
use Rattle.const_eval.specs.declared.env.Bound.TheVariants.{Variable}
use Rattle.const_eval.specs.Meaning as meaning
use Rattle.const_eval.specs.Expressions.{◌>>=◌}
use Rattle.net_ir.specs.declared.design.Role.{Role}
use Rattle.net_ir.specs.declared.design.Role.TheVariants as role
use Rattle.net_ir.specs.declared.design.Var.{Var}
use Rattle.net_ir.specs.declared.design.Driver.TheVariants.{Assign}
use Rattle.net_ir.specs.declared.statement.Target.{Target, Of}
use Rattle.width_rules.specs.Values.{bits_of}
use Rattle.elaborate.specs.declared.extent.Extent.{Extent}
use Rattle.elaborate.specs.declared.limits.TheConstants.{PORT_LIMIT}
use Rattle.elaborate.specs.declared.names.Seen.TheVariants.{Stands}
use Rattle.elaborate.specs.Names.{Names, with_name, constant_at, term_at}
use Rattle.elaborate.specs.Refusals.{named, too_many, fresh}
use Rattle.elaborate.specs.Reached.{Reached, Step, in_turn, with_var, with_driver, counted}
use Rattle.elaborate.specs.Extent.{says, is_net, span_of, extent_of}

-- a net or variable of this extent, with this initial value
abbrev pub var_of : Role → Bool → Extent → Id → Bits → Var
var_of role wire x name init = record { name = name.name; place = name.place; role = role; width = x.width; low = x.low; ranged = x.ranged; signed = x.signed; wire = wire; init = init }

-- ---- ports

abbrev pub role_of : Option Id → Role
role_of direction = if says (codes "output") direction then role.Output else role.Input

-- whether a port is a net: where it says so, or has no type (23.2.2.3)
abbrev pub is_net_port : List Id → Bool
is_net_port words = is_nil words || is_net words

-- a port's name, once its range is known
abbrev pub named_port : HeaderPort → Option (ℤ × ℤ) → Step
named_port p span r =
    fresh r.names p.name >>= λ _. extent_of p.name p.shape span >>= λ x.
    if nat_lt (length r.vars) PORT_LIMIT
    then Ok (with_var (var_of (role_of p.direction) (is_net_port p.shape.words) x p.name (bits_of x.width 0)) r)
    else Err (too_many (codes "ports") p.name.place)

-- a port
abbrev pub port : HeaderPort → Step
port p r = named p.name (span_of r.names p.shape.range) >>= λ span. named_port p span r

-- ---- declarations

-- The initial value of a variable: the constant as it is assigned to so many bits. The variable is visible in it.
abbrev pub initial : Id → Names → Id → ℕ → ℕ → Expr → Result Bits Refusal
initial first names name number width e =
    named first (constant_at (with_name names name.name (Stands (Variable number))) e) >>= λ m.
    Ok (bits_of width (meaning.assigned (Some width) false m))

-- a variable with its initial value
abbrev pub initialised : Id → Extent → Id → Expr → Step
initialised first x name e r =
    initial first r.names name (length r.vars) x.width e >>= λ init. Ok (with_var (var_of role.Inner false x name init) r)

-- what is assigned to the whole of the net or variable that was declared last, of this number
abbrev pub whole_target : Id → ℕ → Target
whole_target name number = Of (Some number) name.name name.place None

-- a net that is driven by an expression of its own: a continuous assignment (10.3.1); the net is visible in it
abbrev pub driven : Id → Extent → Id → Expr → Step
driven first x name e r =
    named first (term_at s.names s.vars (Some x.width) false e) >>= λ value. counted name.place s >>= λ t.
    Ok (with_driver (Assign (whole_target name (length r.vars)) value.0 name.place) t)
  where
    s : Reached
    s = with_var (var_of role.Inner true x name (bits_of x.width 0)) r

-- a declared name of this extent, with its value, where it has one
abbrev pub valued : Id → Bool → Extent → Id → Option Expr → Step
valued first wire x name None r = Ok (with_var (var_of role.Inner wire x name (bits_of x.width 0)) r)
valued first wire x name (Some e) r = if wire then driven first x name e r else initialised first x name e r

-- a declared name, once the range of its declaration is known; `first` is the first name of the declaration
abbrev pub declared_name : Id → Shape → Option (ℤ × ℤ) → Decl → Step
declared_name first shape span d r =
    fresh r.names d.name >>= λ _. extent_of first shape span >>= λ x. valued first (is_net shape.words) x d.name d.value r

-- a declaration, whose range is told of its first name
abbrev pub declaration : Shape → List Decl → Step
declaration shape [] r = Ok r
declaration shape (d ∷ more) r =
    named d.name (span_of r.names shape.range) >>= λ span. in_turn (declared_name d.name shape span) (d ∷ more) r
