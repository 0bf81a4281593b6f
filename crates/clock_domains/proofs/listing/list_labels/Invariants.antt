use Rattle.std.proofs.Common.{◌≡◌, ◌++◌, length}
use Rattle.net_ir.specs.code.Classing.{labels_read}
use Rattle.clock_domains.proofs.listing.list_labels.Given as goal

-- those that are listed and those of the rest are all
abbrev pub invariant-loop-rest : goal.invariant-loop-rest
invariant-loop-rest l = l.reads.items ++ labels_read l.rest ≡ l.fn.reads.items ++ labels_read l.labels

abbrev pub decreases-loop-rest : goal.decreases-loop-rest
decreases-loop-rest l = length l.rest
