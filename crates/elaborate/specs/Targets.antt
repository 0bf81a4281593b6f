-- What assignments write, and the values that they give (IEEE 1800-2017, 10.3, 10.4, 11.4.12 and 11.5.1).
use Rattle.std.specs.Prelude.{ℕ, ◌==◌, Bool, true, false, nat_lt, ℤ, pos, ◌+ℤ◌, ◌-ℤ◌, List, [], ◌∷◌, Option, None, Some, slice_get, Result, Ok, Err, if◌then◌else◌}
use Rattle.bit_ops.specs.declared.value.TheConstants.{MAX_WIDTH}
use Rattle.sv_base.specs.declared.kind.Kind.TheVariants.{UnknownName, BadRange, TooWide}
use Rattle.sv_base.specs.declared.refusal.Place.{Place}
use Rattle.sv_base.specs.declared.refusal.Refusal.{Refusal}
use Rattle.sv_ast.specs.declared.expression.Id.{Id}
use Rattle.sv_ast.specs.declared.expression.Expr.{Expr}
use Rattle.sv_ast.specs.declared.expression.Sel.{Sel, out-Sel}
use Rattle.sv_ast.specs.declared.expression.Expr.TheOpen as sel
use Rattle.sv_ast.specs.declared.expression.Expr.TheOpen.{Sel-F}
use Rattle.sv_ast.specs.declared.expression.Lval.{Lval}
use Rattle.sv_ast.specs.declared.expression.Lval.TheOpen as lval
use Rattle.sv_ast.specs.declared.expression.Lval.TheOpen.{Lval-F}
use Rattle.sv_ast.specs.declared.expression.Lval.TheFolds.{fold-Lval}
use Rattle.const_eval.specs.declared.env.Bound.TheVariants.{Constant, Variable}
use Rattle.const_eval.specs.Meaning.{Meaning, own, number}
use Rattle.const_eval.specs.Expressions.{◌>>=◌, refused_at, unnamed_at, second_select, as_width}
use Rattle.net_ir.specs.declared.term.Term.{Term, Const}
use Rattle.net_ir.specs.declared.design.Var.{Var}
use Rattle.net_ir.specs.declared.statement.Pos.{Pos}
use Rattle.net_ir.specs.declared.statement.Target.{Target, Of, List as Parts}
use Rattle.net_ir.specs.Target.{target_width}
use Rattle.width_rules.specs.Values.{bits_of}
use Rattle.elaborate.specs.declared.names.Seen.{Seen}
use Rattle.elaborate.specs.declared.names.Seen.TheVariants.{Stands, Label}
use Rattle.elaborate.specs.Names.{Names, constant_at, term_at}
use Rattle.elaborate.specs.Refusals.{named}

-- ---- positions

-- a constant as a term of its own size, with its sign
abbrev pub constant_term : Meaning → Term × Bool
constant_term m = (Const (bits_of m.size (own m)), m.signed)

-- a position, which is a constant where one is needed
abbrev pub position_at : Bool → Names → List Var → Expr → Result (Term × Bool) Refusal
position_at true names vars e = constant_at names e >>= λ m. Ok (constant_term m)
position_at false names vars e = term_at names vars None false e

-- so many bits from a position up, or from it down
abbrev pub pos_of : Term × Bool → Bool → ℕ → Pos
pos_of at down width = record { at = at.0; at_signed = at.1; down = down; width = width }

-- what a select says: the width that it asks for, and from which position
pub record Selection : Type 0 where
  pub width : ℤ
  pub at : Term × Bool
  pub down : Bool

-- so many bits from a position up, or from it down
abbrev pub indexed : Bool → Names → List Var → Expr → Expr → Bool → Result Selection Refusal
indexed needed names vars at width down =
    position_at needed names vars at >>= λ p. constant_at names width >>= λ n. Ok (record { width = number n; at = p; down = down })

-- a select of a target: its positions are constants where they are needed; both bounds of a part and the width of an indexed
-- part always are
abbrev pub select_layer : Bool → Names → List Var → Sel-F Expr Sel → Result Selection Refusal
select_layer needed names vars (sel.Bit place at) =
    position_at needed names vars at >>= λ p. Ok (record { width = pos 1; at = p; down = false })
select_layer needed names vars (sel.Part place high low) =
    constant_at names high >>= λ m. constant_at names low >>= λ l.
    Ok (record { width = number m -ℤ number l +ℤ pos 1; at = constant_term l; down = false })
select_layer needed names vars (sel.Up place at width) = indexed needed names vars at width false
select_layer needed names vars (sel.Down place at width) = indexed needed names vars at width true

abbrev pub select_at : Bool → Names → List Var → Sel → Result Selection Refusal
select_at needed names vars s = select_layer needed names vars (out-Sel s)

-- where the `[` of a select stands
abbrev pub place_in_select : Sel-F Expr Sel → Place
place_in_select (sel.Bit place at) = place
place_in_select (sel.Part place high low) = place
place_in_select (sel.Up place at width) = place
place_in_select (sel.Down place at width) = place

abbrev pub place_of_select : Sel → Place
place_of_select s = place_in_select (out-Sel s)

-- ---- names

-- the variable that a visible name stands for, where it stands for one
abbrev pub variable_of : Seen → Option ℕ
variable_of (Stands (Variable x)) = Some x
variable_of other = None

-- whether bits can be selected from what a variable's declaration says, and from what a name stands for
abbrev pub is_ranged_var : Option Var → Bool
is_ranged_var None = false
is_ranged_var (Some v) = v.ranged

abbrev pub is_ranged : List Var → Seen → Bool
is_ranged vars (Stands (Variable x)) = is_ranged_var (slice_get vars x)
is_ranged vars (Stands (Constant value low)) = true
is_ranged vars Label = false

-- a name where it is visible
abbrev pub visible : Id → Option Seen → Result Seen Refusal
visible name None = Err (refused_at UnknownName name)
visible name (Some seen) = Ok seen

-- the bits that a select takes of a name that has a range
abbrev pub bits_taken : Bool → Id → Selection → Result (Option Pos) Refusal
bits_taken ranged name s =
    if ranged
    then (as_width (refused_at BadRange name) name.place s.width >>= λ width. Ok (Some (pos_of s.at s.down width)))
    else Err (refused_at BadRange name)

-- the bits that a target takes of a name: all, or those of one select; a second one is refused
abbrev pub selected : Bool → Names → List Var → Id → Bool → List Sel → Result (Option Pos) Refusal
selected needed names vars name ranged [] = Ok None
selected needed names vars name ranged (s ∷ []) = select_at needed names vars s >>= λ taken. bits_taken ranged name taken
selected needed names vars name ranged (s ∷ t ∷ more) =
    select_at needed names vars s >>= λ _. select_at needed names vars t >>= λ _. Err (second_select (place_of_select t))

-- a name with its selects as a target; one that stands for no net or variable is a target without one
abbrev pub named_target : Bool → Names → List Var → Id → List Sel → Result Target Refusal
named_target needed names vars name selects =
    visible name (names name.name) >>= λ seen.
    selected needed names vars name (is_ranged vars seen) selects >>= λ bits.
    Ok (Of (variable_of seen) name.name name.place bits)

-- ---- targets

-- what each of some parts gives, from the left
abbrev pub all_of : {A : Type 0} → List (Result A Refusal) → Result (List A) Refusal
all_of [] = Ok []
all_of (part ∷ parts) = part >>= λ a. all_of parts >>= λ more. Ok (a ∷ more)

abbrev pub target_layer : Bool → Names → List Var → Lval-F (Result Target Refusal) → Result Target Refusal
target_layer needed names vars (lval.Of name selects) = named_target needed names vars name selects
target_layer needed names vars (lval.List place parts) = all_of parts >>= λ targets. Ok (Parts targets)

-- a target, whose positions are constants where they are needed
abbrev pub target_of : Bool → Names → List Var → Lval → Result Target Refusal
target_of needed names vars = fold-Lval (Result Target Refusal) (target_layer needed names vars)

-- the first of some names
abbrev pub first_of : List (Option Id) → Option Id
first_of [] = None
first_of (None ∷ more) = first_of more
first_of (Some name ∷ more) = Some name

abbrev pub first_name_layer : Lval-F (Option Id) → Option Id
first_name_layer (lval.Of name selects) = Some name
first_name_layer (lval.List place parts) = first_of parts

-- the first name of a target
abbrev pub first_name : Lval → Option Id
first_name = fold-Lval (Option Id) first_name_layer

abbrev pub place_layer : Lval-F Place → Place
place_layer (lval.Of name selects) = name.place
place_layer (lval.List place parts) = place

-- where the first token of a target stands
abbrev pub place_of : Lval → Place
place_of = fold-Lval Place place_layer

-- what a part of an assignment gives; where it has too many bits, that is told of the first name assigned
abbrev pub named_by : {A : Type 0} → Option Id → Result A Refusal → Result A Refusal
named_by None part = part
named_by (Some name) part = named name part

-- the width of a target, where it takes bits, and no more than a value may have
abbrev pub target_size : Place → ℕ → Result (Option ℕ) Refusal
target_size place width =
    if nat_lt MAX_WIDTH width then Err (unnamed_at TooWide place)
    else Ok (if width == 0 then None else Some width)

-- the value that is assigned to a target
abbrev pub value_for : Names → List Var → Place → Target → Expr → Result Term Refusal
value_for names vars place target e =
    target_size place (target_width vars target) >>= λ width. term_at names vars width false e >>= λ value. Ok value.0

-- an assignment: what it writes, then its value
abbrev pub unnamed : Bool → Names → List Var → Lval → Expr → Result (Target × Term) Refusal
unnamed needed names vars to e =
    target_of needed names vars to >>= λ target. value_for names vars (place_of to) target e >>= λ value. Ok (target, value)

-- so, where too many bits are told of the first name that is assigned
abbrev pub assignment : Bool → Names → List Var → Lval → Expr → Result (Target × Term) Refusal
assignment needed names vars to e = named_by (first_name to) (unnamed needed names vars to e)
