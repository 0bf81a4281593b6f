use Rattle.std.proofs.Common.{◌≡◌, ◌+◌, ◌-◌, ◌≤◌, length}
use Rattle.std.specs.Prelude.{IfSome}
use Rattle.std.specs.FinMap.{get}
use Rattle.lib_create.specs.code.Loading.{IsFrontOf}
use Rattle.lib_create.proofs.load.load.Given as goal

-- a front of the file was read, and nothing else has changed
abbrev pub invariant-loop-piece : goal.invariant-loop-piece
invariant-loop-piece g l = record {
  unchanged : g.D.Folder.content l.folder ≡ g.D.Folder.content l.fn.folder;
  later : g.D.Folder.read_faults l.fn.folder ≤ g.D.Folder.read_faults l.folder;
  no_write : g.D.Folder.write_faults l.folder ≡ g.D.Folder.write_faults l.fn.folder;
  front : IfSome (g.D.Folder.content l.fn.folder) (λ files. IsFrontOf (get files l.name) l.bytes.items);
}

abbrev pub decreases-loop-piece : goal.decreases-loop-piece
decreases-loop-piece g l = l.limit + 1 - length l.bytes.items
