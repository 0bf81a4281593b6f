-- Terms of names and of what is selected of them (IEEE 1800-2017, 11.5.1).
use Rattle.std.specs.Prelude.{ℕ, ℤ, pos, ◌+ℤ◌, ◌-ℤ◌, Bool, true, false, List, [], if◌then◌else◌, Option, Result, Ok, Err}
use Rattle.sv_base.specs.declared.kind.Kind.TheVariants.{BadRange, UnknownName}
use Rattle.sv_base.specs.declared.refusal.Refusal.{Refusal}
use Rattle.sv_ast.specs.declared.expression.Id.{Id}
use Rattle.net_ir.specs.declared.design.Var.{Var}
use Rattle.net_ir.specs.declared.term.Term as term
use Rattle.net_ir.specs.declared.term.Term.{Term, Read, Pick}
use Rattle.const_eval.specs.declared.env.Bound.{Bound}
use Rattle.const_eval.specs.declared.env.Bound.TheVariants.{Constant, Variable}
use Rattle.const_eval.specs.Selects.{Named}
use Rattle.const_eval.specs.WholeNumbers.{whole_number_of}
use Rattle.const_eval.specs.Expressions.{refused_at, or_refused, as_width, ◌>>=◌}
use Rattle.width_rules.specs.declared.measured.Measured.{Measured}
use Rattle.width_rules.specs.declared.taking.Taking.{Taking}
use Rattle.width_rules.specs.declared.taking.Taking.TheVariants.{At, DownTo, UpFrom, DownFrom}
use Rattle.width_rules.specs.Scope.{named_in}
use Rattle.width_rules.specs.Waiting.{own_term}
use Rattle.width_rules.specs.Operations.{alone}

-- what each visible name stands for
abbrev pub Lookup : Type 0
Lookup = List ℕ → Option Bound

-- what a name stands for
abbrev pub bound_by : Lookup → Id → Result Bound Refusal
bound_by lookup name = or_refused (refused_at UnknownName name) (lookup name.name)

-- the size, sign and range of what a name stands for, whatever words variables have
abbrev pub shape_of : List Var → Bound → Named
shape_of vars bound = named_in vars [] bound

-- the whole of it as a term
abbrev pub name_term : Id → Bound → Term
name_term name (Constant value low) = term.Const value.value
name_term name (Variable x) = Read x name.place

-- a whole name
abbrev pub whole : List Var → Id → Bound → Measured
whole vars name bound = alone (shape_of vars bound).size (shape_of vars bound).signed (name_term name bound)

-- so many bits of a name from a position up, or from it down; the position is a number by a sign
abbrev pub picked : List Var → Id → Bound → Term → Bool → Bool → ℕ → Measured
picked vars name bound at signed down w = alone w false (Pick (name_term name bound) (shape_of vars bound).low at signed down w)

-- a whole number as the width of a part of a name, where bits can be selected from it
abbrev pub taken_width : ℤ → Named → Id → Result ℕ Refusal
taken_width width named name = if named.ranged then as_width (refused_at BadRange name) name.place width else Err (refused_at BadRange name)

-- so many bits of a name from a position on, as far as the number says that is their count
abbrev pub taken : ℤ → List Var → Id → Bound → Term → Bool → Bool → Result Measured Refusal
taken width vars name bound at signed down = taken_width width (shape_of vars bound) name >>= λ w. Ok (picked vars name bound at signed down w)

-- what a select takes of a name: the bit at a position, the bits from one position down to another, so many bits from a position
-- up, or so many from a position down
abbrev pub take : List Var → Id → Bound → Taking → Result Measured Refusal
take vars name bound (At at) = taken (pos 1) vars name bound (own_term at) at.signed false
take vars name bound (DownTo high low) =
    taken (whole_number_of high -ℤ whole_number_of low +ℤ pos 1) vars name bound (term.Const low.value) low.signed false
take vars name bound (UpFrom at width) = taken (whole_number_of width) vars name bound (own_term at) at.signed false
take vars name bound (DownFrom at width) = taken (whole_number_of width) vars name bound (own_term at) at.signed true
