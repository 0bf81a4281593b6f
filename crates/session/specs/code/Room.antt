-- The room of the buffers of a run.
use Rattle.std.specs.Prelude.{◌≤◌, List, length, map}
use Rattle.std.specs.Vec.{vec_capacity}
use Rattle.sv_base.specs.declared.face.Port.{Port}
use Rattle.trace_writer.specs.Room.{line_room}
use Rattle.session.specs.declared.memory.Buffers.{Buffers}

-- there is room for a value of each port, and for each line of a trace
pub record HasRoom (ports : List Port) (buffers : Buffers) : Type 0 where
  pub values : length ports ≤ vec_capacity buffers.values
  pub text : line_room (map (λ (p : Port). p.width) ports) ≤ vec_capacity buffers.text
