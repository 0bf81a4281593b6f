-- What a fault says.
use Rattle.std.specs.Prelude.{⊤}
use Rattle.sv_base.specs.declared.refusal.Refusal.{Refusal}
use Rattle.sv_base.specs.declared.fault.Fault.{Fault}
use Rattle.sv_base.specs.declared.fault.Fault.TheVariants.{Refused, NoMemory}

-- a fault refuses only so; memory may run out at anything
abbrev pub IfRefused : (Refusal → Type 0) → Fault → Type 0
IfRefused P (Refused refusal) = P refusal
IfRefused P NoMemory = ⊤
