use Rattle.std.proofs.Common.{◌+◌, Ok, Err, refl, sym, ap, subst, ◌∙◌, arith}
use Rattle.std.specs.Prelude.{◌==◌}
use Rattle.io_edge.specs.Told.{Added, AddedShort}
use Rattle.sv_base.specs.TraceText.{line}
use Rattle.sv_base.specs.Meaning.{row_of}
use Rattle.stimulus_reader.specs.Reading.{Reading, at_front, Reads, IsStep, IsBad}
use Rattle.session.specs.code.Room.{HasRoom}
use Rattle.session.proofs.Underway.{Makes, underway_first, underway_next}
use Rattle.session.proofs.Ends.{played_out, played_to_bad, too_many, at_bad_so, played_to_read, played_to_write, played_to_first, played_none, same_itself}
use Rattle.session.proofs.Ends.{same_after, stepped, room_left}
use Rattle.session.proofs.playing.play.Goals as goal

pub returns-in-Err-clause-played : goal.returns-in-Err-clause-played
returns-in-Err-clause-played g c =
    played_none (g.B.Bench.meaning c.args.bench.now) c.args.max_steps (g.S.Source.left c.args.source.now) (g.K.Sink.written c.args.out.now)
    (g.B.Bench.held c.args.bench.now) (g.B.Bench.outputs c.args.bench.now)
    c.requires.start (g.met.B.Bench.each c.args.bench.now) (g.met.B.Bench.settled c.args.bench.now)

pub returns-in-Err-begin-clause-played : goal.returns-in-Err-begin-clause-played
returns-in-Err-begin-clause-played g c =
    let ports = c.as_slice-ports.ensures in
    played_to_first (g.B.Bench.meaning c.args.bench.now) c.args.max_steps c.as_slice-ports.result.now
    (g.S.Source.left c.args.source.now) _ _ c.in-Ok.memory.reader (g.B.Bench.held c.args.bench.now) (g.B.Bench.outputs c.args.bench.now)
    (ports ∙ c.requires.face) (c.in-Ok.ensures.reader ∙ ap at_front (sym ports)) c.requires.start (g.met.B.Bench.each c.args.bench.now)
    (g.met.B.Bench.settled c.args.bench.now) c.in-Err-begin.ensures.short

pub steps-init : goal.steps-init
steps-init g c =
    let ports = c.as_slice-ports.ensures in
    record {
      few = omega arith;
      same = same_itself (g.B.Bench.meaning c.args.bench.now);
      left = omega (arith, c.requires.room);
      reader = ap (λ (r : Reading). r.ports) c.in-Ok.ensures.reader;
      good = ap (λ (r : Reading). r.bad) c.in-Ok.ensures.reader;
      room = subst (λ ps. HasRoom ps c.begin.new.buffers) ports c.begin.ensures.room;
      ground = g.met.S.Source.ground_at_once c.args.source.now;
      source_later = omega arith;
      out_later = c.begin.ensures.later;
      underway = underway_first (g.B.Bench.meaning c.args.bench.now) c.args.max_steps c.as_slice-ports.result.now
          (g.S.Source.left c.args.source.now) _ _ c.in-Ok.memory.reader (g.B.Bench.held c.args.bench.now) (g.B.Bench.outputs c.args.bench.now)
          (ports ∙ c.requires.face) (c.in-Ok.ensures.reader ∙ ap at_front (sym ports)) c.requires.start (g.met.B.Bench.each c.args.bench.now)
          (g.met.B.Bench.settled c.args.bench.now) c.in-Ok-begin.ensures.whole;
    }

-- ---- the ends

pub returns-in-Ok-None-clause-played : goal.returns-in-Ok-None-clause-played
returns-in-Ok-None-clause-played g c =
    let reads = c.in-Ok-None.ensures.reads in
    played_out (g.B.Bench.meaning c.args.bench.now) c.args.max_steps _ _ c.steps.number c.steps.reader c.next_step.new.self
    (g.B.Bench.held c.steps.bench) _ _ _ reads.0 c.steps.invariant.underway reads.1 c.in-Ok-None.ensures.end
    (subst (λ next. Reads c.steps.reader c.next_step.new.self (Ok next) reads.0) c.in-Ok-None.field-0-is reads.2)

pub returns-then-number-max_steps-clause-played : goal.returns-then-number-max_steps-clause-played
returns-then-number-max_steps-clause-played g c =
    let reads = c.in-Ok-Some.ensures.reads in
    let step : IsStep c.steps.reader c.next_step.new.self c.in-Ok-Some.kind reads.0 =
    subst (λ next. Reads c.steps.reader c.next_step.new.self (Ok next) reads.0) c.in-Ok-Some.field-0-is reads.2 in
    played_to_bad (g.B.Bench.meaning c.args.bench.now) c.args.max_steps _ _ c.steps.number c.steps.reader c.next_step.new.self
    (g.B.Bench.held c.steps.bench) _ _ _ reads.0 c.too_many.result c.steps.invariant.underway reads.1 c.in-Ok-Some.ensures.end
    (too_many c.args.max_steps c.steps.number c.steps.reader c.next_step.new.self c.in-Ok-Some.kind reads.0 c.too_many.result c.line_number.result
    c.if-number-max_steps.true step c.line_number.ensures c.too_many.ensures)

pub returns-in-Err-Bad-clause-played : goal.returns-in-Err-Bad-clause-played
returns-in-Err-Bad-clause-played g c =
    let reads = c.in-Err-Bad.ensures.reads in
    let bad : IsBad c.steps.reader c.next_step.new.self c.in-Err-Bad.line c.in-Err-Bad.reason reads.0 =
    subst (λ fault. Reads c.steps.reader c.next_step.new.self (Err fault) reads.0) c.in-Err-Bad.field-0-is reads.2 c.steps.invariant.good in
    played_to_bad (g.B.Bench.meaning c.args.bench.now) c.args.max_steps _ _ c.steps.number c.steps.reader c.next_step.new.self
    (g.B.Bench.held c.steps.bench) _ _ _ reads.0 c.refuse.result c.steps.invariant.underway reads.1 c.in-Err-Bad.ensures.end
    (at_bad_so c.args.max_steps c.steps.number c.steps.reader c.next_step.new.self reads.0 c.in-Err-Bad.line _ c.in-Err-Bad.reason _
    (c.steps.number == c.args.max_steps) c.refuse.result (sym c.in-Err-Bad.line-is) (sym c.in-Err-Bad.reason-is) refl
    c.steps.invariant.few bad c.refuse.ensures.many c.refuse.ensures.bad)

pub returns-in-Err-ReadFault-clause-played : goal.returns-in-Err-ReadFault-clause-played
returns-in-Err-ReadFault-clause-played g c =
    let reads = c.in-Err-ReadFault.ensures.reads in
    played_to_read (g.B.Bench.meaning c.args.bench.now) c.args.max_steps _ _ c.steps.number c.steps.reader c.next_step.new.self
    (g.B.Bench.held c.steps.bench) _ _ _ reads.0 c.steps.invariant.underway reads.1 c.in-Err-ReadFault.ensures.end
    (subst (λ fault. Reads c.steps.reader c.next_step.new.self (Err fault) reads.0) c.in-Err-ReadFault.field-0-is reads.2)

-- ---- a step

pub steps-preserved : goal.steps-preserved
steps-preserved g c =
    let ports = c.as_slice-ports.ensures in
    let at = g.B.Bench.meaning c.args.bench.now in
    let reads = c.in-Ok-Some.ensures.reads in
    let outputs = g.B.Bench.outputs c.make_step.new.bench in
    let values = c.next_step.new.self.values in
    let row = row_of at.ports values outputs in
    let step : IsStep c.steps.reader c.next_step.new.self c.in-Ok-Some.kind reads.0 =
    subst (λ next. Reads c.steps.reader c.next_step.new.self (Ok next) reads.0) c.in-Ok-Some.field-0-is reads.2 in
    let makes = subst (λ k. Makes (g.B.Bench.meaning c.steps.bench) c.next_step.new.self.ports (g.B.Bench.held c.steps.bench) k values
    (g.B.Bench.held c.make_step.new.bench)) c.in-Ok-Some.kind-is c.make_step.ensures.step in
    let made = stepped at (g.B.Bench.meaning c.steps.bench)
    (g.B.Bench.meaning c.make_step.new.bench) c.args.max_steps _ _ c.steps.number c.steps.reader c.next_step.new.self (g.B.Bench.held c.steps.bench)
    (g.B.Bench.held c.make_step.new.bench) _ _ _
    c.in-Ok-Some.kind reads.0 outputs c.steps.invariant.underway c.steps.invariant.same c.make_step.ensures.same
    (room_left c.steps.number c.args.max_steps c.steps.invariant.few c.if-number-max_steps.false)
    c.in-Ok-Some.ensures.ports (c.steps.invariant.reader ∙ c.requires.face) reads.1 c.in-Ok-Some.ensures.end step makes
    (g.met.B.Bench.each c.make_step.new.bench) (g.met.B.Bench.settled c.make_step.new.bench) in
    let offered : Added (g.K.Sink.written c.steps.out) (g.K.Sink.written c.write_line.new.out) (line (c.steps.number + 1) at.ports row) =
    subst (λ ps. Added (g.K.Sink.written c.steps.out) (g.K.Sink.written c.write_line.new.out) (line (c.steps.number + 1) ps (row_of ps values outputs)))
    (ports ∙ c.requires.face) c.in-Ok-write_line.ensures.whole in
    record {
      few = let below = room_left c.steps.number c.args.max_steps c.steps.invariant.few c.if-number-max_steps.false in omega arith;
      same = same_after at (g.B.Bench.meaning c.steps.bench) (g.B.Bench.meaning c.make_step.new.bench) c.steps.invariant.same c.make_step.ensures.same;
      left = omega (arith, c.steps.invariant.left, c.make_step.ensures.room);
      reader = c.in-Ok-Some.ensures.ports ∙ c.steps.invariant.reader;
      good = c.in-Ok-Some.ensures.good;
      room = subst (λ ps. HasRoom ps c.write_line.new.buffers) ports c.write_line.ensures.room;
      ground = g.met.S.Source.ground_after _ _ _ c.steps.invariant.ground c.in-Ok-Some.ensures.ground;
      source_later = omega (arith, c.steps.invariant.source_later, c.in-Ok-Some.ensures.later);
      out_later = omega (arith, c.steps.invariant.out_later, c.write_line.ensures.later);
      underway = underway_next at c.args.max_steps _ _ (c.steps.number + 1) c.next_step.new.self (g.B.Bench.held c.make_step.new.bench) _ _ _ row made offered;
    }

pub returns-in-Err-write_line-clause-played : goal.returns-in-Err-write_line-clause-played
returns-in-Err-write_line-clause-played g c =
    let ports = c.as_slice-ports.ensures in
    let at = g.B.Bench.meaning c.args.bench.now in
    let reads = c.in-Ok-Some.ensures.reads in
    let outputs = g.B.Bench.outputs c.make_step.new.bench in
    let values = c.next_step.new.self.values in
    let row = row_of at.ports values outputs in
    let step : IsStep c.steps.reader c.next_step.new.self c.in-Ok-Some.kind reads.0 =
    subst (λ next. Reads c.steps.reader c.next_step.new.self (Ok next) reads.0) c.in-Ok-Some.field-0-is reads.2 in
    let makes = subst (λ k. Makes (g.B.Bench.meaning c.steps.bench) c.next_step.new.self.ports (g.B.Bench.held c.steps.bench) k values
    (g.B.Bench.held c.make_step.new.bench)) c.in-Ok-Some.kind-is c.make_step.ensures.step in
    let made = stepped at (g.B.Bench.meaning c.steps.bench)
    (g.B.Bench.meaning c.make_step.new.bench) c.args.max_steps _ _ c.steps.number c.steps.reader c.next_step.new.self (g.B.Bench.held c.steps.bench)
    (g.B.Bench.held c.make_step.new.bench) _ _ _
    c.in-Ok-Some.kind reads.0 outputs c.steps.invariant.underway c.steps.invariant.same c.make_step.ensures.same
    (room_left c.steps.number c.args.max_steps c.steps.invariant.few c.if-number-max_steps.false)
    c.in-Ok-Some.ensures.ports (c.steps.invariant.reader ∙ c.requires.face) reads.1 c.in-Ok-Some.ensures.end step makes
    (g.met.B.Bench.each c.make_step.new.bench) (g.met.B.Bench.settled c.make_step.new.bench) in
    played_to_write at c.args.max_steps _ _ (c.steps.number + 1) c.next_step.new.self (g.B.Bench.held c.make_step.new.bench) _ _ _ row made
    (subst (λ ps. AddedShort (g.K.Sink.written c.steps.out) (g.K.Sink.written c.write_line.new.out) (line (c.steps.number + 1) ps (row_of ps values outputs)))
    (ports ∙ c.requires.face) c.in-Err-write_line.ensures.short)

pub returns-in-Err-write_line-clause-ground : goal.returns-in-Err-write_line-clause-ground
returns-in-Err-write_line-clause-ground g c = g.met.S.Source.ground_after _ _ _ c.steps.invariant.ground c.in-Ok-Some.ensures.ground
