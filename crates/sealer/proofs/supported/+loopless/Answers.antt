use Rattle.std.proofs.Common.{sym, ap, ◌∙◌}
use Rattle.std.specs.List.{list_all}
use Rattle.sealer.specs.Supported as spec
use Rattle.sealer.proofs.Loopless.{block_is, case_is}
use Rattle.sealer.proofs.supported.+loopless.Goals as goal

pub is_loopless-returns-in-Block : goal.is_loopless-returns-in-Block
is_loopless-returns-in-Block t c =
    c.are_loopless.ensures ∙ ap (list_all spec.is_loopless) c.as_slice.ensures ∙ sym (ap spec.is_loopless c.in-Block.is ∙ block_is c.in-Block.field-0 c.in-Block.parts)

pub is_loopless-returns-in-Case : goal.is_loopless-returns-in-Case
is_loopless-returns-in-Case t c =
    c.are_loopless_arms.ensures ∙ ap (list_all spec.is_loopless_arm) c.as_slice-in-Case.ensures
    ∙ sym (ap spec.is_loopless c.in-Case.is ∙ case_is c.in-Case.field-0 c.in-Case.field-1 c.in-Case.arms)
