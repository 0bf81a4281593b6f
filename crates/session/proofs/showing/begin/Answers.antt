use Rattle.std.proofs.Common.{subst}
use Rattle.std.proofs.lemmas.Result.{err_from_is_err_and, on_err_weaker}
use Rattle.io_edge.specs.Told.{Added, AddedShort}
use Rattle.sv_base.specs.TraceText.{header}
use Rattle.session.proofs.Texts.{short_of_more, short_after}
use Rattle.session.proofs.showing.begin.Goals as goal

pub returns-in_err-offer-clause-short : goal.returns-in_err-offer-clause-short
returns-in_err-offer-clause-short g c =
    let p = err_from_is_err_and c.from_residual.result c.from_residual.ensures.1 in
    rw p.1 (short_of_more _ _ (header c.args.ports.now) _
    (subst (λ xs. AddedShort (g.K.Sink.written c.args.out.now) (g.K.Sink.written c.offer.new.sink) xs) c.requires.head c.in_err-offer.ensures.short))

pub returns-clause-short : goal.returns-clause-short
returns-clause-short g c =
    on_err_weaker c.write_line.result
    (short_after _ _ _ (header c.args.ports.now) _
    (subst (λ xs. Added (g.K.Sink.written c.args.out.now) (g.K.Sink.written c.offer.new.sink) xs) c.requires.head c.in_ok-offer.ensures.whole))
    c.write_line.ensures.short
