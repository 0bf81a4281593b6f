use Rattle.std.proofs.Common.{◌≡◌, ◌+◌, ◌-◌, ◌≤◌, None}
use Rattle.sv_base.specs.Meaning.{MeansSame}
use Rattle.session.specs.code.Room.{HasRoom}
use Rattle.session.proofs.Underway.{IsUnderway}
use Rattle.session.proofs.playing.play.Given as goal

abbrev pub invariant-steps : goal.invariant-steps
invariant-steps g l = record {
  few : l.number ≤ l.max_steps;
  same : MeansSame (g.B.Bench.meaning l.fn.bench) (g.B.Bench.meaning l.bench);
  left : l.max_steps ≤ g.B.Bench.room l.bench + l.number;
  reader : l.reader.ports ≡ l.face.ports;
  good : l.reader.bad ≡ None;
  room : HasRoom l.face.ports l.buffers;
  ground : g.S.Source.same_ground l.fn.source l.source;
  source_later : g.S.Source.faults l.fn.source ≤ g.S.Source.faults l.source;
  out_later : g.K.Sink.faults l.fn.out ≤ g.K.Sink.faults l.out;
  underway : IsUnderway (g.B.Bench.meaning l.fn.bench) l.max_steps (g.S.Source.left l.fn.source) (g.K.Sink.written l.fn.out) l.number l.reader
      (g.B.Bench.held l.bench) (g.S.Source.left l.source) (g.K.Sink.written l.out);
}

abbrev pub decreases-steps : goal.decreases-steps
decreases-steps g l = l.max_steps - l.number
