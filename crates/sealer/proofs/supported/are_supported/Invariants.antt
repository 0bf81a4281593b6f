use Rattle.std.proofs.Common.{◌≡◌, drop}
use Rattle.std.specs.List.{list_all}
use Rattle.sealer.specs.Supported.{is_supported_item}
use Rattle.sealer.proofs.supported.are_supported.Given as goal

-- the rest of the items decides
abbrev pub invariant-loop-item : goal.invariant-loop-item
invariant-loop-item l = list_all is_supported_item (drop l.item-index l.items) ≡ list_all is_supported_item l.items
