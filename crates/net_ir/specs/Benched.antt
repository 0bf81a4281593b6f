-- What a design means on a bench, which is not told idle inputs.
use Rattle.std.specs.Prelude.{◌≡◌, ℕ, ◌≤◌, List, length}
use Rattle.sv_base.specs.Classes.{is_clock, is_output, words_of_class}
use Rattle.sv_base.specs.Meaning.{State, Held, Meaning, held_in}
use Rattle.net_ir.specs.declared.design.Spec.{Spec}
use Rattle.net_ir.specs.Face.{ports_of}
use Rattle.net_ir.specs.Register.{initial_words}
use Rattle.net_ir.specs.Solution.{Solves}
use Rattle.net_ir.specs.Stepping.{Samples}

-- a bench holds what it would in this state, whatever the levels of idle inputs
pub record IsHeldOf (spec : Spec) (held : Held) (state : State) : Type 0 where
  pub long : length (ports_of spec) ≤ length state.inputs
  pub same : held_in (ports_of spec) state ≡ held

-- the outputs have these words in the solution of such a state
pub record ShowsOutputs (spec : Spec) (held : Held) (outputs : List ℕ) : Type 0 where
  pub state : State
  pub held_of : IsHeldOf spec held state
  pub solution : List ℕ
  pub solves : Solves spec state solution
  pub outputs_are : outputs ≡ words_of_class is_output (ports_of spec) solution

-- the registers sample these words in the solution of such a state, where the clocks take these levels
pub record SamplesWords (spec : Spec) (held : Held) (levels registers : List ℕ) : Type 0 where
  pub state : State
  pub held_of : IsHeldOf spec held state
  pub solution : List ℕ
  pub solves : Solves spec state solution
  -- levels of all inputs after the step, of which those of clocks count
  pub after : List ℕ
  pub long : length (ports_of spec) ≤ length after
  pub levels_are : words_of_class is_clock (ports_of spec) after ≡ levels
  pub samples : Samples spec solution state.inputs after state.registers registers

-- what a design means on a bench, whose registers stand in the order of the design
abbrev pub meaning_of : Spec → Meaning
meaning_of spec = record {
  ports = ports_of spec;
  initial = initial_words spec;
  shows = ShowsOutputs spec;
  samples = SamplesWords spec;
}
