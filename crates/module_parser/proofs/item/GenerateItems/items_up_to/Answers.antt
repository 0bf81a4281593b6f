use Rattle.std.proofs.Common.{arith}
use Rattle.std.proofs.lemmas.Grind.{common_steps}
use Rattle.module_parser.specs.Reading.{item_to}
use Rattle.module_parser.proofs.item.GenerateItems.items_up_to.Goals as goal

pub returns-in_err-found : goal.returns-in_err-found
returns-in_err-found g c =
    let e = c.in_err-found.ensures (item_to c.args.self.now.depth) (λ alloc old new r h. grind (arith, common_steps)) in
    grind (arith, common_steps)

pub returns : goal.returns
returns g c =
    let e = c.in_ok-found.ensures (item_to c.args.self.now.depth) (λ alloc old new r h. grind (arith, common_steps)) in
    grind (arith, common_steps)
