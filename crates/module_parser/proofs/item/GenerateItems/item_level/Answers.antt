use Rattle.std.proofs.Common.{arith, ◌∙◌, sym}
use Rattle.std.proofs.lemmas.Grind.{common_steps}
use Rattle.module_parser.specs.Reading.{item_level}
use Rattle.module_parser.proofs.Branches.{taken, passed, alike}
use Rattle.module_parser.proofs.item.GenerateItems.item_level.Goals as goal

pub returns-then-sees_word_of-2 : goal.returns-then-sees_word_of-2
unfolding item_level
returns-then-sees_word_of-2 g c =
    alike c.declaration.result c.declaration.new.tokens
    (passed _ _ (sym c.sees_word_of.ensures ∙ c.if-sees_word_of.false)
    ∙ taken _ _ (sym c.sees_word_of-else-sees_word_of.ensures ∙ c.if-sees_word_of-2.true))
    c.declaration.ensures

pub returns-then-sees_word : goal.returns-then-sees_word
unfolding item_level
returns-then-sees_word g c =
    alike c.genvars.result c.genvars.new.tokens
    (passed _ _ (sym c.sees_word_of.ensures ∙ c.if-sees_word_of.false)
    ∙ passed _ _ (sym c.sees_word_of-else-sees_word_of.ensures ∙ c.if-sees_word_of-2.false)
    ∙ taken _ _ (sym c.sees_word.ensures ∙ c.if-sees_word.true))
    c.genvars.ensures

pub returns-then-sees_word-2 : goal.returns-then-sees_word-2
unfolding item_level
returns-then-sees_word-2 g c =
    alike c.assignments.result c.assignments.new.tokens
    (passed _ _ (sym c.sees_word_of.ensures ∙ c.if-sees_word_of.false)
    ∙ passed _ _ (sym c.sees_word_of-else-sees_word_of.ensures ∙ c.if-sees_word_of-2.false)
    ∙ passed _ _ (sym c.sees_word.ensures ∙ c.if-sees_word.false)
    ∙ taken _ _ (sym c.sees_word-else-sees_word.ensures ∙ c.if-sees_word-2.true))
    c.assignments.ensures

pub returns-else-sees_word-2 : goal.returns-else-sees_word-2
unfolding item_level
returns-else-sees_word-2 g c =
    alike c.process_or_structure.result c.process_or_structure.new.tokens
    (passed _ _ (sym c.sees_word_of.ensures ∙ c.if-sees_word_of.false)
    ∙ passed _ _ (sym c.sees_word_of-else-sees_word_of.ensures ∙ c.if-sees_word_of-2.false)
    ∙ passed _ _ (sym c.sees_word.ensures ∙ c.if-sees_word.false)
    ∙ passed _ _ (sym c.sees_word-else-sees_word.ensures ∙ c.if-sees_word-2.false))
    c.process_or_structure.ensures

pub returns-then-sees_word_of : goal.returns-then-sees_word_of
unfolding item_level
returns-then-sees_word_of g c = grind (arith, common_steps)
