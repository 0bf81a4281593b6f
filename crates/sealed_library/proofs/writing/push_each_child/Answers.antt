use Rattle.std.proofs.Common.{subst}
use Rattle.sealed_library.specs.Version1.{child_field, child_fields}
use Rattle.sealed_library.specs.code.Writing.{Writes}
use Rattle.sealed_library.proofs.Loops.{writes_more_seen}
use Rattle.sealed_library.proofs.writing.push_each_child.Goals as goal

pub loop-item-preserved : goal.loop-item-preserved
loop-item-preserved c =
    writes_more_seen child_field child_fields c.args.kids.now c.loop-item.item-index c.item-item.result c.args.into.now.items
    c.loop-item.into.items c.push_child.new.into.items c.loop-item-test.true c.loop-item.invariant
    (subst (λ item. Writes child_field c.loop-item.into.items c.push_child.new.into.items (child_fields item)) c.item-item.is
    c.in_ok-push_child.ensures)
