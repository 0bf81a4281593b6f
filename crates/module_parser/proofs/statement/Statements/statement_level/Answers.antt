use Rattle.std.proofs.Common.{arith, ◌∙◌, sym}
use Rattle.std.proofs.lemmas.Grind.{common_steps}
use Rattle.module_parser.specs.Reading.{statement_level}
use Rattle.module_parser.proofs.Branches.{passed, behind}
use Rattle.module_parser.proofs.statement.Statements.statement_level.Goals as goal

pub returns-in_ok-expect : goal.returns-in_ok-expect
unfolding statement_level
returns-in_ok-expect g c =
    passed _ _ (sym c.sees_word.ensures ∙ c.if-sees_word.false)
    ∙ passed _ _ (sym c.sees_word-else-sees_word.ensures ∙ c.if-sees_word-2.false)
    ∙ passed _ _ (sym c.sees_word-else-sees_word-2.ensures ∙ c.if-sees_word-3.false)
    ∙ passed _ _ (sym c.sees_word-else-sees_word-3.ensures ∙ c.if-sees_word-4.false)
    ∙ passed _ _ (sym c.sees_target.ensures ∙ c.if-sees_target.false)
    ∙ behind _ c.in_ok-expect.ensures

pub returns-then-sees_word : goal.returns-then-sees_word
unfolding statement_level
returns-then-sees_word g c = grind (arith, common_steps)

pub returns-then-sees_word-2 : goal.returns-then-sees_word-2
unfolding statement_level
returns-then-sees_word-2 g c = grind (arith, common_steps)

pub returns-then-sees_word-3 : goal.returns-then-sees_word-3
unfolding statement_level
returns-then-sees_word-3 g c = grind (arith, common_steps)

pub returns-then-sees_word-4 : goal.returns-then-sees_word-4
unfolding statement_level
returns-then-sees_word-4 g c = grind (arith, common_steps)

pub returns-then-sees_target : goal.returns-then-sees_target
unfolding statement_level
returns-then-sees_target g c = grind (arith, common_steps)
