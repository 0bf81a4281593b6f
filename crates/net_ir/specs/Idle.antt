-- Idle inputs, and what does not depend on them.
use Rattle.std.specs.Prelude.{◌≡◌, ℕ, ◌<◌, ◌≤◌, ◌^◌, List, Some, length, slice_index, slice_get}
use Rattle.sv_base.specs.declared.face.Class.TheVariants.{Idle}
use Rattle.sv_base.specs.declared.face.Port.{Port}
use Rattle.sv_base.specs.Classes.{is_clock, is_output, words_of_class}
use Rattle.sv_base.specs.Meaning.{State, held_in}
use Rattle.net_ir.specs.declared.design.Spec.{Spec}
use Rattle.net_ir.specs.Face.{ports_of}
use Rattle.net_ir.specs.Solution.{Solves}
use Rattle.net_ir.specs.Stepping.{Samples}

-- two states differ only in the levels of idle inputs, and those of the second fit
pub record DifferInIdle (ports : List Port) (s t : State) : Type 0 where
  pub long : length ports ≤ length s.inputs
  pub also_long : length ports ≤ length t.inputs
  pub same : held_in ports s ≡ held_in ports t
  pub fits : (x : ℕ) (p : Port) → slice_get ports x ≡ Some p → p.class ≡ Idle → slice_index t.inputs x < 2 ^ p.width

-- what the solution u of one state shows, a solution of the other shows too, and from both registers sample the same
pub record IsAlike (spec : Spec) (s t : State) (u : List ℕ) : Type 0 where
  pub solution : List ℕ
  pub solves : Solves spec t solution
  pub outputs : words_of_class is_output (ports_of spec) solution ≡ words_of_class is_output (ports_of spec) u
  pub samples : (after others next : List ℕ) → length (ports_of spec) ≤ length after → length (ports_of spec) ≤ length others →
      words_of_class is_clock (ports_of spec) after ≡ words_of_class is_clock (ports_of spec) others →
      Samples spec u s.inputs after s.registers next → Samples spec solution t.inputs others t.registers next

-- idle inputs change nothing that is seen
abbrev pub IgnoresIdle : Spec → Type 0
IgnoresIdle spec = (s t : State) (u : List ℕ) → DifferInIdle (ports_of spec) s t → Solves spec s u → IsAlike spec s t u
