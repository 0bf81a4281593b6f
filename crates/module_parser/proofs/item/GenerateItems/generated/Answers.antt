use Rattle.std.proofs.Common.{rules, arith, ◌∙◌, ap}
use Rattle.std.proofs.lemmas.Grind.{common_steps}
use Rattle.sv_ast.specs.declared.item.Item.TheVariants as item
use Rattle.expr_parser.specs.Input.{and_then, pure}
use Rattle.module_parser.specs.Reading.{item_to}
use Rattle.module_parser.proofs.Generated.{generated_steps}
use Rattle.module_parser.proofs.item.GenerateItems.generated.Goals as goal

pub returns-in_err-expect_word : goal.returns-in_err-expect_word
returns-in_err-expect_word g c =
    let e = generated_steps (item_to c.args.self.now.depth) _ _ _ _ _ _ _ c.enter-outer.ensures c.in_ok-open_word.ensures c.in_ok-found.ensures c.leave.ensures in
    first_of (search rules, grind (arith, common_steps))

pub returns : goal.returns
returns g c =
    generated_steps (item_to c.args.self.now.depth) _ _ _ _ _ _ _ c.enter-outer.ensures c.in_ok-open_word.ensures c.in_ok-found.ensures c.leave.ensures
    ∙ ap (λ r. and_then r (λ _. pure (item.Generate c.in_ok-found.found))) c.in_ok-expect_word.ensures
