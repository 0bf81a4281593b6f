use Rattle.std.proofs.Common.{◌≤◌, ◌*◌}
use Rattle.const_eval.specs.Env.{bound_of}
use Rattle.net_ir.specs.Value.{widths_of}
use Rattle.net_ir.specs.Lawful.{IsLawful}
use Rattle.width_rules.specs.Scope.{meaning_in}
use Rattle.width_rules.specs.Nodes.{nodes_of, parts_of}
use Rattle.width_rules.specs.Built.{term_of}
use Rattle.width_rules.proofs.Sizings.{Answers, ok_told, sized_told, refused_told}
use Rattle.width_rules.proofs.sizing.sized.Goals as goal

pub returns-clause-lawful : goal.returns-clause-lawful
returns-clause-lawful c =
    let scope = c.args.scope.now in
    ok_told (λ answer. IsLawful (widths_of scope.vars) answer.0) c.termed.result (term_of (bound_of scope.names) scope.vars c.args.target c.args.unsigned c.args.e.now) c.termed.ensures.built
    (c.terms.ensures.lawful scope c.args.target c.args.unsigned c.args.e.now c.requires.scope c.requires.target)

pub returns-clause-sized : goal.returns-clause-sized
returns-clause-sized c = λ u words.
    let scope = c.args.scope.now in
    sized_told (widths_of scope.vars) u c.args.target c.args.unsigned c.termed.result (term_of (bound_of scope.names) scope.vars c.args.target c.args.unsigned c.args.e.now)
    (meaning_in scope u c.args.e.now) c.termed.ensures.built
    (c.terms.ensures.sized scope u c.args.target c.args.unsigned c.args.e.now c.requires.scope c.requires.target words)

pub returns-clause-refused : goal.returns-clause-refused
returns-clause-refused c = λ u words.
    let scope = c.args.scope.now in
    refused_told (Answers (widths_of scope.vars) u c.args.target c.args.unsigned) c.termed.result (term_of (bound_of scope.names) scope.vars c.args.target c.args.unsigned c.args.e.now)
    (meaning_in scope u c.args.e.now) c.termed.ensures.built
    (c.terms.ensures.sized scope u c.args.target c.args.unsigned c.args.e.now c.requires.scope c.requires.target words)

pub returns-clause-nodes : goal.returns-clause-nodes
returns-clause-nodes c =
    let scope = c.args.scope.now in
    ok_told (λ answer. nodes_of answer.0 ≤ 6 * parts_of c.args.e.now) c.termed.result (term_of (bound_of scope.names) scope.vars c.args.target c.args.unsigned c.args.e.now) c.termed.ensures.built
    (c.terms.ensures.nodes (bound_of scope.names) scope.vars c.args.target c.args.unsigned c.args.e.now)
