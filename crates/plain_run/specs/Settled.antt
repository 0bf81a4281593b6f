-- A plain design that is settled.
use Rattle.std.specs.Prelude.{ℕ, ◌≤◌, List, length, refl}
use Rattle.std.proofs.Props.{props}
use Rattle.std.proofs.lemmas.List.{length-map}
use Rattle.std.proofs.Common.{sym, subst}
use Rattle.bit_ops.specs.declared.value.Bits.{Bits}
use Rattle.bit_ops.specs.Lists.{words}
use Rattle.sv_base.specs.Classes.{is_output, words_of_class}
use Rattle.sv_base.specs.Meaning.{State, Held, held_in}
use Rattle.net_ir.specs.declared.design.Spec.{Spec}
use Rattle.net_ir.specs.Face.{ports_of}
use Rattle.plain_run.specs.code.Pass.{state_of}
use Rattle.net_ir.specs.Solution.{Solves}
use Rattle.net_ir.specs.Benched.{ShowsOutputs}

-- what is held where the variables have these levels as inputs and these values as registers
abbrev pub held_of : Spec → List Bits → List Bits → Held
held_of spec inputs registers = held_in (ports_of spec) (state_of spec inputs registers)

-- that words solve a design has one proof at most
pub Solves-prop : (spec : Spec) (state : State) (u : List ℕ) → IsProp (Solves spec state u)
Solves-prop spec state u = hlevel props

-- where the values solve the design, its outputs have their words
pub shows_outputs : (spec : Spec) (inputs registers values : List Bits) → length (ports_of spec) ≤ length inputs →
    Solves spec (state_of spec inputs registers) (words values) →
    ShowsOutputs spec (held_of spec inputs registers) (words_of_class is_output (ports_of spec) (words values))
shows_outputs spec inputs registers values long solves = record {
  state = state_of spec inputs registers;
  held_of = record { long = subst (λ n. length (ports_of spec) ≤ n) (sym (length-map inputs (λ b. b.word))) long; same = refl };
  solution = words values;
  solves = solves;
  outputs_are = refl;
}
