use Rattle.std.proofs.Common.{sym, ap, ◌∙◌, ◌++◌}
use Rattle.std.specs.List.{flat_map}
use Rattle.plain_run.specs.code.Marks.{named_in, named_in_arm}
use Rattle.plain_run.proofs.Marking.{block_named, case_named}
use Rattle.plain_run.proofs.marks.+naming.Goals as goal

pub push_targets-loop-part-init : goal.push_targets-loop-part-init
push_targets-loop-part-init t c =
    ap (λ xs. c.args.names.now.items ++ flat_map named_in xs) c.as_slice-part-items.ensures
    ∙ sym (ap (λ names. c.args.names.now.items ++ names) (ap named_in c.in-Block.is ∙ block_named c.in-Block.parts))

pub push_targets-loop-arm-init : goal.push_targets-loop-arm-init
push_targets-loop-arm-init t c =
    ap (λ xs. c.args.names.now.items ++ flat_map named_in_arm xs) c.as_slice-arm-items.ensures
    ∙ sym (ap (λ names. c.args.names.now.items ++ names) (ap named_in c.in-Case.is ∙ case_named c.in-Case.field-0 c.in-Case.arms))
