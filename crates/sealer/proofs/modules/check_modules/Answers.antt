use Rattle.sealer.proofs.Fronts.{beyond_limit}
use Rattle.sealer.proofs.modules.check_modules.Goals as goal

pub returns-then-modules-gt-MODULE_LIMIT-clause-refused : goal.returns-then-modules-gt-MODULE_LIMIT-clause-refused
returns-then-modules-gt-MODULE_LIMIT-clause-refused c =
    beyond_limit c.args.top.now c.args.modules.now c.index-modules-1024.result c.in_ok-beyond.beyond c.if-modules-gt-MODULE_LIMIT.true c.index-modules-1024.is c.in_ok-beyond.ensures
