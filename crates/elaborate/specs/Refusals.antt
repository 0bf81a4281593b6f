-- Refusals that name what is declared or assigned.
use Rattle.std.specs.Prelude.{ℕ, Bool, true, false, is_some, List, codes, Result, Ok, Err, if◌then◌else◌}
use Rattle.sv_base.specs.declared.kind.Kind.{Kind}
use Rattle.sv_base.specs.declared.kind.Kind.TheVariants.{DuplicateName, Unsupported, TooWide, TooMany}
use Rattle.sv_base.specs.declared.refusal.Place.{Place}
use Rattle.sv_base.specs.declared.refusal.Refusal.{Refusal}
use Rattle.sv_ast.specs.declared.expression.Id.{Id}
use Rattle.const_eval.specs.Expressions.{refused_at}
use Rattle.elaborate.specs.Names.{Names}

abbrev pub is_too_wide : Kind → Bool
is_too_wide TooWide = true
is_too_wide other = false

-- a refusal of too many bits is told of this name
abbrev pub told_of : Id → Refusal → Refusal
told_of name refusal = if is_too_wide refusal.kind then refused_at TooWide name else refusal

-- what a part gives; where it has too many bits, that is told of this name
abbrev pub named : {A : Type 0} → Id → Result A Refusal → Result A Refusal
named name (Ok a) = Ok a
named name (Err refusal) = Err (told_of name refusal)

-- more of something than its limit, told at this place by the limit's word
abbrev pub too_many : List ℕ → Place → Refusal
too_many word place = record { kind = TooMany; place = place; name = word }

-- a name that is not declared yet
abbrev pub fresh : Names → Id → Result (Unit {0}) Refusal
fresh names name = if is_some (names name.name) then Err (refused_at DuplicateName name) else Ok tt

-- what is not elaborated so far
abbrev pub not_yet : Refusal
not_yet = record { kind = Unsupported; place = record { file = 0; line = 0 }; name = codes "plain" }
