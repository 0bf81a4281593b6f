use Rattle.std.proofs.Common.{refl, ap, ℕ, List, Some}
use Rattle.stimulus_reader.specs.Reading.{Reading}
use Rattle.stimulus_reader.specs.code.Fields.{judged_of}
use Rattle.stimulus_reader.specs.declared.judge.LineJudge.TheInside.{Inside}
use Rattle.stimulus_reader.proofs.StimulusBytes.{goes_as}
use Rattle.stimulus_reader.proofs.StimulusJudging.{found_kept, found_long}
use Rattle.stimulus_reader.proofs.StimulusGiven.{line_gives, long_gives}
use Rattle.stimulus_reader.proofs.judge.LineJudge.one_line.Goals as goal

pub returns-in-Ok-Line-clause-gives : goal.returns-in-Ok-Line-clause-gives
returns-in-Ok-Line-clause-gives g c =
    let view = c.self.view_is in
    let found = c.in-Ok-Line.ensures.found in (
      found.0,
      found.1,
      line_gives c.args.self.now _ c.judge.new.self c.args.piece.now c.take_line.new.piece c.in-Ok-Line.ended c.judge.result found.0
          (record { ports = ap (λ (r : Reading). r.ports) view; number = ap (λ (r : Reading). r.number) view; at = ap (λ (r : Reading). r.at) view; last = ap (λ (r : Reading). r.last) view; values = ap (λ (r : Reading). r.values) view })
          c.judge.ensures.judges
          (goes_as _ _ c.args.piece.now c.take_line.new.piece found.0 (λ x y is. found_kept c.self.inside c.args.self.now c.take_line.new.line.items c.in-Ok-Line.field-0 c.in-Ok-Line.ended x y view c.requires c.in-Ok-Line.field-0-is is) found.2),
    )

pub returns-in-Ok-Long-clause-gives : goal.returns-in-Ok-Long-clause-gives
returns-in-Ok-Long-clause-gives g c =
    let view = c.self.view_is in
    let inside = c.self.inside in
    let after : Inside = record { ports = inside.ports; number = inside.number; at = inside.at; last = inside.number; line = c.clear.new.self; settings = inside.settings; values = inside.values; inputs = inside.inputs; levels = inside.levels; bad = Some c.in-Ok-Long.reason } in
    let found = c.in-Ok-Long.ensures.found in (
      found.0,
      found.1,
      long_gives c.args.self.now (judged_of after) c.args.piece.now c.take_line.new.piece c.self.inside.number c.in-Ok-Long.reason c.take_line.new.line.items found.0
          (goes_as _ _ c.args.piece.now c.take_line.new.piece found.0 (λ x y is. found_long c.self.inside c.args.self.now c.take_line.new.line.items c.in-Ok-Long.field-0 c.in-Ok-Long.reason x y view c.requires c.in-Ok-Long.field-0-is is) found.2)
          (ap (λ (r : Reading). r.number) view) (ap (λ (word : List ℕ). Some (record { line = c.self.inside.number; reason = c.in-Ok-Long.reason; word = word })) c.clear.ensures.items) refl,
    )
