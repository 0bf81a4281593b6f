-- What the text of a module has given so far.
use Rattle.std.specs.Prelude.{ℕ, ◌+◌, nat_lt, List, [], ◌∷◌, ◌++◌, length, codes, Result, Ok, Err, if◌then◌else◌}
use Rattle.sv_base.specs.declared.refusal.Place.{Place}
use Rattle.sv_base.specs.declared.refusal.Refusal.{Refusal}
use Rattle.const_eval.specs.declared.env.Bound.TheVariants.{Variable}
use Rattle.const_eval.specs.Expressions.{◌>>=◌}
use Rattle.net_ir.specs.declared.design.Var.{Var}
use Rattle.net_ir.specs.declared.design.Driver.{Driver}
use Rattle.elaborate.specs.declared.limits.TheConstants.{ASSIGNMENT_LIMIT}
use Rattle.elaborate.specs.declared.names.Seen.TheVariants.{Stands}
use Rattle.elaborate.specs.Names.{Names, no_names, with_name}
use Rattle.elaborate.specs.Refusals.{too_many}

-- the names that are visible, the nets and variables, the drivers, and how many assignments there are
pub record Reached : Type 0 where
  pub names : Names
  pub vars : List Var
  pub drivers : List Driver
  pub assignments : ℕ

-- before its first word
abbrev pub start : Reached
start = record { names = no_names; vars = []; drivers = []; assignments = 0 }

-- a step of the text: what it adds, or its refusal
abbrev pub Step : Type 0
Step = Reached → Result Reached Refusal

-- a step for each of a list, one behind another
abbrev pub in_turn : {A : Type 0} → (A → Step) → List A → Step
in_turn step [] r = Ok r
in_turn step (a ∷ more) r = step a r >>= λ s. in_turn step more s

-- one net or variable more, for which its name stands from now on
abbrev pub with_var : Var → Reached → Reached
with_var v r = record {
  names = with_name r.names v.name (Stands (Variable (length r.vars)));
  vars = r.vars ++ v ∷ [];
  drivers = r.drivers;
  assignments = r.assignments;
}

-- one driver more
abbrev pub with_driver : Driver → Reached → Reached
with_driver d r = record { names = r.names; vars = r.vars; drivers = r.drivers ++ d ∷ []; assignments = r.assignments }

-- one assignment more, at this place, where they are not too many
abbrev pub counted : Place → Step
counted place r =
    if nat_lt r.assignments ASSIGNMENT_LIMIT
    then Ok (record { names = r.names; vars = r.vars; drivers = r.drivers; assignments = r.assignments + 1 })
    else Err (too_many (codes "assignments") place)
