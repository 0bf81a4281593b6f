use Rattle.std.proofs.Common.{arith}
use Rattle.std.proofs.lemmas.Grind.{common_steps}
use Rattle.module_parser.specs.Reading.{item_of}
use Rattle.module_parser.proofs.module.body_items.Goals as goal

pub returns-in_err-items : goal.returns-in_err-items
unfolding item_of
returns-in_err-items c = let e = c.in_err-items.ensures item_of (λ alloc old new r h. h.1) in grind (arith, common_steps)

pub returns-in_err-items-2 : goal.returns-in_err-items-2
unfolding item_of
returns-in_err-items-2 c = let e = c.in_ok-items.ensures item_of (λ alloc old new r h. h.1) in grind (arith, common_steps)

pub returns : goal.returns
unfolding item_of
returns c = let e = c.in_ok-items.ensures item_of (λ alloc old new r h. h.1) in grind (arith, common_steps)
