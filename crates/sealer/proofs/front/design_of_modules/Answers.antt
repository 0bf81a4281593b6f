use Rattle.std.proofs.Common.{sym, ◌∙◌}
use Rattle.sealer.proofs.Fronts.{is_one, illegal_module}
use Rattle.sealer.proofs.front.design_of_modules.Goals as goal

pub returns-then-is_supported-clause-refused : goal.returns-then-is_supported-clause-refused
returns-then-is_supported-clause-refused c =
    illegal_module c.args.top.now c.args.modules.now c.index-modules-0.result c.plain_design.result c.in_ok-check_modules.ensures.few c.in_ok-check_modules.ensures.distinct
    c.in_ok-check_modules.ensures.present (sym c.is_supported.ensures ∙ c.if-is_supported.true)
    (is_one c.args.modules.now c.index-modules-0.result (sym c.is_supported.ensures ∙ c.if-is_supported.true) c.index-modules-0.is) c.plain_design.ensures.refused
