-- The trace of a design over steps.
use Rattle.std.specs.Prelude.{◌≡◌, ℕ, List, length, take}
use Rattle.net_ir.specs.declared.design.Spec.{Spec}
use Rattle.sv_base.specs.Steps.{Step}
use Rattle.sv_base.specs.Runs.{Runs}
use Rattle.sv_base.specs.Meaning.{State}
use Rattle.sv_base.specs.TraceText.{trace_text}
use Rattle.net_ir.specs.Face.{ports_of}
use Rattle.net_ir.specs.Run.{start}
use Rattle.net_ir.specs.Solution.{Solves}
use Rattle.net_ir.specs.Stepping.{Follows}

-- the row that a state shows: the words of the ports, which are the first variables, in the solution
pub record Shows (spec : Spec) (state : State) (row : List ℕ) : Type 0 where
  pub solution : List ℕ
  pub solves : Solves spec state solution
  pub row_is : row ≡ take (length (ports_of spec)) solution

-- the bytes are the design's trace over these steps: the text of the rows of a run from its first state
pub record IsTrace (spec : Spec) (steps : List Step) (bytes : List ℕ) : Type 0 where
  pub rows : List (List ℕ)
  pub last : State
  pub run : Runs (Shows spec) (Follows spec) (start spec) steps rows last
  pub text : bytes ≡ trace_text (ports_of spec) rows
