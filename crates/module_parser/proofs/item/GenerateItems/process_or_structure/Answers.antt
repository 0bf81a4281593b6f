use Rattle.std.proofs.Common.{◌∙◌, sym}
use Rattle.module_parser.proofs.Branches.{taken, passed, alike}
use Rattle.module_parser.proofs.item.GenerateItems.process_or_structure.Goals as goal

pub returns-then-sees_word : goal.returns-then-sees_word
returns-then-sees_word g c =
    alike c.combinational.result c.combinational.new.tokens
    (taken _ _ (sym c.sees_word.ensures ∙ c.if-sees_word.true))
    c.combinational.ensures

pub returns-then-sees_word-2 : goal.returns-then-sees_word-2
returns-then-sees_word-2 g c =
    alike c.clocked.result c.clocked.new.tokens
    (passed _ _ (sym c.sees_word.ensures ∙ c.if-sees_word.false)
    ∙ taken _ _ (sym c.sees_word-else-sees_word.ensures ∙ c.if-sees_word-2.true))
    c.clocked.ensures

pub returns-then-sees_word-3 : goal.returns-then-sees_word-3
returns-then-sees_word-3 g c =
    alike c.always.result c.always.new.tokens
    (passed _ _ (sym c.sees_word.ensures ∙ c.if-sees_word.false)
    ∙ passed _ _ (sym c.sees_word-else-sees_word.ensures ∙ c.if-sees_word-2.false)
    ∙ taken _ _ (sym c.sees_word-else-sees_word-2.ensures ∙ c.if-sees_word-3.true))
    c.always.ensures

pub returns-else-sees_word-3 : goal.returns-else-sees_word-3
returns-else-sees_word-3 g c =
    alike c.structure.result c.structure.new.tokens
    (passed _ _ (sym c.sees_word.ensures ∙ c.if-sees_word.false)
    ∙ passed _ _ (sym c.sees_word-else-sees_word.ensures ∙ c.if-sees_word-2.false)
    ∙ passed _ _ (sym c.sees_word-else-sees_word-2.ensures ∙ c.if-sees_word-3.false))
    c.structure.ensures
