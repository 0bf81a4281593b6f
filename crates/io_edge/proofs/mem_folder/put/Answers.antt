use Rattle.std.proofs.Common.{refl}
use Rattle.io_edge.proofs.Places.{files_of-set, files_of-push, named_at_place}
use Rattle.io_edge.proofs.mem_folder.put.Goals as goal

pub returns-in-Some-clause-ok : goal.returns-in-Some-clause-ok
returns-in-Some-clause-ok c =
    let found = rw c.deref.ensures.value at c.in-Some.ensures in
    rw (c.index_mut.ensures.value, named_at_place _ _ c.in-Some.place c.index_mut.result.now found, files_of-set _ _ _ c.in_ok-copy.copy found, c.in_ok-copy.ensures.items) refl

pub returns-in_ok-push-in-None-clause-ok : goal.returns-in_ok-push-in-None-clause-ok
returns-in_ok-push-in-None-clause-ok c =
    let found = rw c.deref.ensures.value at c.in-None.ensures in
    rw (c.in_ok-push-in-None.ensures.items, c.in_ok-of-in-None.ensures, files_of-push _ _ c.in_ok-copy.copy found, c.in_ok-copy.ensures.items) refl
