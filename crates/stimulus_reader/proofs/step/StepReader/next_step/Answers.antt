use Rattle.std.proofs.Common.{sym, subst, ap, ◌∙◌, arith}
use Rattle.std.proofs.lemmas.Result.{err_from_is_err_and}
use Rattle.stimulus_reader.specs.Reading.{Reading, IsTold}
use Rattle.stimulus_reader.specs.code.Judging.{reading_with}
use Rattle.stimulus_reader.proofs.StimulusGiven.{passed_more, passed_end, passed_step, passed_fault, gives_at, told_again}
use Rattle.stimulus_reader.proofs.step.StepReader.next_step.Goals as goal

pub returns-in-Some-clause-reads : goal.returns-in-Some-clause-reads
returns-in-Some-clause-reads g c =
    told_again _ c.args.self.now c.self.inside.judge.bad c.in-Some.fault (sym (ap (λ (r : Reading). r.bad) c.self.view_is)) (sym c.in-Some.is ∙ c.fault.ensures.fault)

pub returns-in-Some-clause-told : goal.returns-in-Some-clause-told
returns-in-Some-clause-told g c = subst (λ (r : Reading). IsTold r c.in-Some.fault) c.self.view_is c.in-Some.ensures.told

pub returns-in_err-one_line-clause-reads : goal.returns-in_err-one_line-clause-reads
returns-in_err-one_line-clause-reads g c =
    let p = err_from_is_err_and c.from_residual.result c.from_residual.ensures.1 in
    rw (p.1, p.2) (passed_fault _ _ _ c.args.self.now _ (reading_with c.one_line.new.self c.one_line.new.piece) c.in_err-one_line.field-0.0 c.lines.invariant.so_far c.in_err-one_line.ensures.gives)

pub lines-preserved : goal.lines-preserved
lines-preserved g c =
    let before = c.lines.invariant in
    record {
      so_far = passed_more _ _ _ _ _ _ before.so_far (gives_at _ _ _ _ _ _ c.in-Skipped.is c.in_ok-one_line.ensures.gives);
      end = λ seen. c.one_line.ensures.end (before.end seen);
      good = c.in_ok-one_line.ensures.good;
      ground = g.met.S.Source.ground_after c.args.source.now c.lines.source c.one_line.new.source before.ground c.one_line.ensures.ground;
      later = let first = before.later in let second = c.one_line.ensures.later in omega (arith, first, second);
    }

pub returns-in-End-clause-reads : goal.returns-in-End-clause-reads
returns-in-End-clause-reads g c = passed_end _ _ _ _ _ _ c.lines.invariant.so_far (gives_at _ _ _ _ _ _ c.in-End.is c.in_ok-one_line.ensures.gives)

pub returns-in-Step-clause-reads : goal.returns-in-Step-clause-reads
returns-in-Step-clause-reads g c = passed_step _ _ _ _ _ _ c.in-Step.kind c.lines.invariant.so_far (gives_at _ _ _ _ _ _ c.in-Step.is c.in_ok-one_line.ensures.gives)
