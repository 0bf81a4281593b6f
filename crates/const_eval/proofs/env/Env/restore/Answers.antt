use Rattle.std.proofs.Common.{Option, None, sym, subst}
use Rattle.const_eval.specs.declared.env.Bound.{Bound}
use Rattle.const_eval.specs.Env.{bound_of, Rebinds}
use Rattle.const_eval.proofs.Naming.{rebound_for}
use Rattle.const_eval.proofs.env.Env.restore.Goals as goal

pub returns-in-None : goal.returns-in-None
unfolding bound_of
returns-in-None c =
    subst (λ (before : Option Bound). Rebinds c.args.self.now c.args.name.now before (record { names = c.swap_remove.new.self })) (sym c.in-None.is)
    (rebound_for c.bytes.result.now c.args.name.now c.args.self.now.names c.swap_remove.new.self None c.bytes.ensures c.swap_remove.ensures.updates)
