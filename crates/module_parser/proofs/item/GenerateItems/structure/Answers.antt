use Rattle.std.proofs.Common.{arith, ◌∙◌, sym}
use Rattle.std.proofs.lemmas.Grind.{common_steps}
use Rattle.module_parser.proofs.Branches.{passed, behind}
use Rattle.module_parser.proofs.item.GenerateItems.structure.Goals as goal

pub returns-in_ok-expect : goal.returns-in_ok-expect
returns-in_ok-expect g c =
    passed _ _ (sym c.sees_word.ensures ∙ c.if-sees_word.false)
    ∙ passed _ _ (sym c.sees_word-else-sees_word.ensures ∙ c.if-sees_word-2.false)
    ∙ passed _ _ (sym c.sees_word-else-sees_word-2.ensures ∙ c.if-sees_word-3.false)
    ∙ passed _ _ (sym c.sees_identifier.ensures ∙ c.if-sees_identifier.false)
    ∙ behind _ c.in_ok-expect.ensures

pub returns-then-sees_word : goal.returns-then-sees_word
returns-then-sees_word g c = grind (arith, common_steps)

pub returns-then-sees_word-2 : goal.returns-then-sees_word-2
returns-then-sees_word-2 g c = grind (arith, common_steps)

pub returns-then-sees_word-3 : goal.returns-then-sees_word-3
returns-then-sees_word-3 g c = grind (arith, common_steps)

pub returns-then-sees_identifier : goal.returns-then-sees_identifier
returns-then-sees_identifier g c = grind (arith, common_steps)
