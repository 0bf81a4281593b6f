use Rattle.std.proofs.Common.{arith, ◌∙◌}
use Rattle.stimulus_reader.proofs.StimulusBytes.{found_in, takes_byte, open_more}
use Rattle.stimulus_reader.proofs.found.take_line.Goals as goal

pub bytes-preserved : goal.bytes-preserved
bytes-preserved g c =
    let before = c.bytes.invariant in
    record {
      so_far = rw c.push_reserved.ensures.items (takes_byte _ _ _ _ _ _ c.args.at c.len.result c.args.line.now.items c.bytes.line.items _ c.in-More.byte before.so_far c.in_ok-next_byte.ensures.next c.in-More.ensures);
      end = λ seen. c.next_byte.ensures.end (before.end seen);
      open_line = rw c.push_reserved.ensures.items (open_more c.args.at c.len.result c.bytes.line.items _ c.in-More.byte before.open_line (omega (arith, c.bytes.line.ok.0)) c.in-More.ensures);
      capacity = c.push_reserved.ensures.capacity ∙ before.capacity;
      ground = g.met.S.Source.ground_after c.args.source.now c.bytes.source c.next_byte.new.source before.ground c.next_byte.ensures.ground;
      later = let first = before.later in let second = c.next_byte.ensures.later in omega (arith, first, second);
    }

pub returns-in-Done-clause-found : goal.returns-in-Done-clause-found
returns-in-Done-clause-found g c =
    let open_line = c.bytes.invariant.open_line in
    found_in _ _ _ _ _ _ c.args.at c.len.result c.args.line.now.items c.bytes.line.items _ c.in-Done.found c.bytes.invariant.so_far c.in_ok-next_byte.ensures.next open_line.no_lf open_line.in_line open_line.in_file (omega (arith, c.bytes.line.ok.0)) c.in-Done.ensures
