use Rattle.std.proofs.Common.{subst}
use Rattle.std.specs.Prelude.{map, IfSome}
use Rattle.std.specs.String.{string_bytes}
use Rattle.io_edge.specs.Fault.{Rose}
use Rattle.lib_create.specs.code.Verdicts.{verdict_seen}
use Rattle.lib_create.specs.Answer.{CutShort}
use Rattle.lib_create.proofs.Answering.{Gave, where_told, stop_message, end_answered, end_cut, end_message, end_complete, succeeded}
use Rattle.lib_create.proofs.run.run_words.Goals as goal

pub returns-in-Ok-clause-answered : goal.returns-in-Ok-clause-answered
returns-in-Ok-clause-answered g c small =
    end_answered (g.D.Folder.content c.args.folder.now) (map string_bytes c.args.words.now.items) (verdict_seen c.in-Ok.verdict) c.report.result _ _ _ _ _
    (subst (λ ws. IfSome (g.D.Folder.content c.args.folder.now) (λ files. Gave files (map string_bytes ws) (verdict_seen c.in-Ok.verdict) (g.K.Sink.written c.args.out.now) (g.K.Sink.written c.simulate.new.out))) c.as_slice.ensures.value c.in-Ok.ensures.ends)
    c.report.ensures.told small

pub returns-in-Err-clause-cut_short : goal.returns-in-Err-clause-cut_short
returns-in-Err-clause-cut_short g c above =
    subst (λ ws. IfSome (g.D.Folder.content c.args.folder.now) (λ files. CutShort files (map string_bytes ws) (g.K.Sink.written c.args.out.now) (g.K.Sink.written c.simulate.new.out))) c.as_slice.ensures.value c.in-Err.ensures.cut

pub returns-in-Err-clause-message_cut : goal.returns-in-Err-clause-message_cut
returns-in-Err-clause-message_cut g c eight =
    where_told (g.D.Folder.content c.args.folder.now) _
    (λ files. stop_message c.in-Err.stop c.complain.result (Rose (g.E.Sink.faults c.args.err.now) (g.E.Sink.faults c.complain.new.err)) _ _ _ _ _ _ _
    c.in-Err.ensures.cause c.complain.ensures.told eight files (map string_bytes c.args.words.now.items))

pub returns-in-Ok-clause-cut_short : goal.returns-in-Ok-clause-cut_short
returns-in-Ok-clause-cut_short g c above =
    end_cut (g.D.Folder.content c.args.folder.now) (map string_bytes c.args.words.now.items) (verdict_seen c.in-Ok.verdict) _ _
    (subst (λ ws. IfSome (g.D.Folder.content c.args.folder.now) (λ files. Gave files (map string_bytes ws) (verdict_seen c.in-Ok.verdict) (g.K.Sink.written c.args.out.now) (g.K.Sink.written c.simulate.new.out))) c.as_slice.ensures.value c.in-Ok.ensures.ends)

pub returns-in-Ok-clause-message_cut : goal.returns-in-Ok-clause-message_cut
returns-in-Ok-clause-message_cut g c eight =
    end_message (g.D.Folder.content c.args.folder.now) (map string_bytes c.args.words.now.items) (verdict_seen c.in-Ok.verdict) c.report.result _ _ _ _ _ _ _
    (subst (λ ws. IfSome (g.D.Folder.content c.args.folder.now) (λ files. Gave files (map string_bytes ws) (verdict_seen c.in-Ok.verdict) (g.K.Sink.written c.args.out.now) (g.K.Sink.written c.simulate.new.out))) c.as_slice.ensures.value c.in-Ok.ensures.ends)
    c.report.ensures.told eight

pub returns-in-Ok-clause-complete : goal.returns-in-Ok-clause-complete
returns-in-Ok-clause-complete g c calm =
    end_complete (g.D.Folder.content c.args.folder.now) (map string_bytes c.args.words.now.items) (verdict_seen c.in-Ok.verdict) c.report.result _ _ _ _ _
    (subst (λ ws. IfSome (g.D.Folder.content c.args.folder.now) (λ files. Gave files (map string_bytes ws) (verdict_seen c.in-Ok.verdict) (g.K.Sink.written c.args.out.now) (g.K.Sink.written c.simulate.new.out))) c.as_slice.ensures.value c.in-Ok.ensures.ends)
    c.report.ensures.told calm.err

pub returns-in-Ok-clause-succeeds : goal.returns-in-Ok-clause-succeeds
returns-in-Ok-clause-succeeds g c calm =
    succeeded (record { designs = c.one_source.ensures.designs; solution = c.one_source.ensures.solution; refusals = c.one_source.ensures.refusals; apart = c.one_source.ensures.apart })
    (g.D.Folder.content c.args.folder.now) (map string_bytes c.args.words.now.items) c.report.result _ _ _ _
    (end_complete (g.D.Folder.content c.args.folder.now) (map string_bytes c.args.words.now.items) (verdict_seen c.in-Ok.verdict) c.report.result _ _ _ _ _
    (subst (λ ws. IfSome (g.D.Folder.content c.args.folder.now) (λ files. Gave files (map string_bytes ws) (verdict_seen c.in-Ok.verdict) (g.K.Sink.written c.args.out.now) (g.K.Sink.written c.simulate.new.out))) c.as_slice.ensures.value c.in-Ok.ensures.ends)
    c.report.ensures.told calm.err)
