use Rattle.std.proofs.Common.{◌≡◌, ◌∙◌, ap, length, false, rules}
use Rattle.std.specs.Prelude.{replicate}
use Rattle.std.proofs.lemmas.Grind.{common_steps}
use Rattle.net_ir.specs.Marks.{mark_all}
use Rattle.net_ir.proofs.Marking.{marks_tell}
use Rattle.clock_domains.specs.Each.{of_each}
use Rattle.clock_domains.specs.Clocks.{clocks_at}
use Rattle.clock_domains.proofs.clocks.clock_marks.Goals as goal

pub returns : goal.returns
returns c =
    let falses : c.in_ok-marks.marks.items ≡ replicate (length c.args.spec.now.vars) false = search (rules, common_steps) in
    marks_tell (length c.args.spec.now.vars) (of_each clocks_at c.args.spec.now.drivers c.args.children.now) c.in_ok-marks.marks.items
    c.mark_clocks.new.marks.items falses
    (c.mark_clocks.ensures ∙ ap (λ ds. mark_all (of_each clocks_at ds c.args.children.now) c.in_ok-marks.marks.items) c.as_slice.ensures)
