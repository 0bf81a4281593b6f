use Rattle.std.proofs.Common.{sym}
use Rattle.io_edge.specs.Entries.{get-files_of}
use Rattle.io_edge.proofs.Places.{find_at_place, find_without_place}
use Rattle.io_edge.proofs.mem_folder.MemFolderFolder.read_at.Goals as goal

pub returns-in-None-clause-answer : goal.returns-in-None-clause-answer
returns-in-None-clause-answer c =
    let found = rw (c.as_bytes.ensures.value, c.deref-2.ensures.value) at c.in-None.ensures in
    rw (get-files_of, find_without_place _ _ found) tt

pub returns-in-Some-clause-answer : goal.returns-in-Some-clause-answer
returns-in-Some-clause-answer c =
    let found = rw (c.as_bytes.ensures.value, c.deref-2.ensures.value) at c.in-Some.ensures in
    rw (get-files_of, find_at_place _ _ c.in-Some.place c.index.result.now found) (rw (sym c.index.ensures) (rw c.deref-in-Some.ensures.value at c.copy_next.ensures.next))
