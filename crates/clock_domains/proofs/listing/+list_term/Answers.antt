use Rattle.std.proofs.Common.{sym, ap, ◌∙◌, ◌++◌}
use Rattle.std.specs.List.{flat_map}
use Rattle.net_ir.specs.Value.{reads_of}
use Rattle.net_ir.proofs.Marking.{reads_pick, reads_apply}
use Rattle.clock_domains.proofs.Walks.{on_ok, list_both}
use Rattle.clock_domains.proofs.listing.+list_term.Goals as goal

pub loop-arg-init : goal.loop-arg-init
loop-arg-init t c =
    let before = c.args.reads.now.items in
    ap (λ xs. before ++ flat_map reads_of xs) c.as_slice-arg-items.ensures
    ∙ ap (λ reads. before ++ reads) (sym (ap reads_of c.in-Apply.is ∙ reads_apply c.in-Apply.op c.in-Apply.width c.in-Apply.lo c.in-Apply.args))

pub returns-in_ok-list_term-in-Pick : goal.returns-in_ok-list_term-in-Pick
returns-in_ok-list_term-in-Pick t c =
    let before = c.args.reads.now.items in
    let then = c.list_term.new.reads.items in
    on_ok c.list_term-in-Pick.result
    (λ second.
    list_both (reads_of c.in-Pick.base) (reads_of c.in-Pick.at) before then c.list_term-in-Pick.new.reads.items
    (c.in_ok-list_term-in-Pick.ensures ∙ ap (λ x. before ++ reads_of x) c.get.ensures)
    (second ∙ ap (λ x. then ++ reads_of x) c.get-in-Pick.ensures)
    ∙ ap (λ reads. before ++ reads) (sym (ap reads_of c.in-Pick.is ∙ reads_pick c.in-Pick.base c.in-Pick.low c.in-Pick.at c.in-Pick.at_signed
    c.in-Pick.down c.in-Pick.width)))
    c.list_term-in-Pick.ensures
