-- Refusals in their order, of which a call answers the first.
use Rattle.std.specs.Prelude.{◌≡◌, List, [], ◌∷◌, Option, None, Some}
use Rattle.sv_base.specs.declared.refusal.Refusal.{Refusal}
use Rattle.sv_base.specs.declared.fault.Fault.{Fault}
use Rattle.sv_base.specs.Faults.{IfRefused}

-- the first of refusals, where there is one
abbrev pub first_of : List Refusal → Option Refusal
first_of [] = None
first_of (refusal ∷ rest) = Some refusal

-- a fault that refuses does so by the first of these
abbrev pub IsFirst : List Refusal → Fault → Type 0
IsFirst refusals = IfRefused (λ refusal. first_of refusals ≡ Some refusal)
