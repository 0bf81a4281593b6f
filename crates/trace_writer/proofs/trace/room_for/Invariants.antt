use Rattle.std.proofs.Common.{◌≡◌, take, map}
use Rattle.sv_base.specs.declared.face.Port.{Port}
use Rattle.trace_writer.specs.Room.{line_room}
use Rattle.trace_writer.proofs.trace.room_for.Given as goal

-- what the ports so far take
abbrev pub invariant-loop-port : goal.invariant-loop-port
invariant-loop-port l = l.room ≡ line_room (map (λ (p : Port). p.width) (take l.port-index l.ports))
