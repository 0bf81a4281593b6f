use Rattle.std.proofs.Common.{sym, ◌∙◌, ap, subst}
use Rattle.bit_ops.specs.Lists.{words}
use Rattle.net_ir.specs.Value.{val}
use Rattle.net_ir.specs.Target.{writes_to, overlaid}
use Rattle.net_values.proofs.Targets.{writes_constant}
use Rattle.plain_run.specs.Plain.{IsTimely}
use Rattle.plain_run.specs.code.Pass.{turn}
use Rattle.plain_run.proofs.evaluator.drive.Goals as goal

pub returns-in-Assign-clause-words : goal.returns-in-Assign-clause-words
returns-in-Assign-clause-words c =
    let vars = c.args.vars.now in
    let u = words c.args.values.now in
    let target = c.in-Assign.target in
    c.store.ensures.words
    ∙ ap (overlaid u) (writes_constant vars (words c.args.seen.now) u target c.evaluate.result.word (subst IsTimely c.in-Assign.is c.requires.timely))
    ∙ ap (λ word. overlaid u (writes_to vars u target word)) (c.evaluate.ensures.word ∙ ap (λ ws. val ws u c.in-Assign.value) c.requires.values)
    ∙ ap (λ d. turn vars d u) (sym c.in-Assign.is)
