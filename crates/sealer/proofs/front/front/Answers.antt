use Rattle.std.proofs.Common.{sym, subst}
use Rattle.std.proofs.lemmas.Result.{err_from_is_err_and}
use Rattle.sv_lexer.specs.Cutting.{IsTokens}
use Rattle.module_parser.specs.Outcome.{IsRead}
use Rattle.sealer.proofs.Fronts.{lexer_refuses, parser_refuses, designed, undesigned, plain_answer, names_answer}
use Rattle.sealer.proofs.front.front.Goals as goal

pub returns-in_err-tokens-clause-refused : goal.returns-in_err-tokens-clause-refused
returns-in_err-tokens-clause-refused c =
    let p = err_from_is_err_and c.from_residual-in_err-tokens.result c.from_residual-in_err-tokens.ensures.1 in
    rw (p.1, p.2) (lexer_refuses c.args.top.now c.args.bytes.now c.in_err-tokens.field-0.0 c.if-bytes-gt-SOURCE_LIMIT.false c.in_err-tokens.ensures.refused)

pub returns-in_err-modules-clause-refused : goal.returns-in_err-modules-clause-refused
returns-in_err-modules-clause-refused c =
    let p = err_from_is_err_and c.from_residual-in_err-modules.result c.from_residual-in_err-modules.ensures.1 in
    rw (p.1, p.2) (parser_refuses c.args.top.now c.args.bytes.now c.into_vec-tokens.result.items c.in_err-modules.field-0.0 c.if-bytes-gt-SOURCE_LIMIT.false
    (subst (IsTokens 1 c.args.bytes.now) (sym c.into_vec-tokens.ensures) c.in_ok-tokens.ensures.tokens) c.in_err-modules.ensures.refused)

pub returns-clause-design : goal.returns-clause-design
returns-clause-design c =
    designed c.args.top.now c.args.bytes.now c.into_vec-tokens.result.items c.as_slice.result.now c.design_of_modules.result c.if-bytes-gt-SOURCE_LIMIT.false
    (subst (IsTokens 1 c.args.bytes.now) (sym c.into_vec-tokens.ensures) c.in_ok-tokens.ensures.tokens)
    (subst (IsRead c.into_vec-tokens.result.items) (sym c.as_slice.ensures.value) c.in_ok-modules.ensures.read)
    c.design_of_modules.ensures.design

pub returns-clause-refused : goal.returns-clause-refused
returns-clause-refused c =
    undesigned c.args.top.now c.args.bytes.now c.into_vec-tokens.result.items c.as_slice.result.now c.design_of_modules.result c.if-bytes-gt-SOURCE_LIMIT.false
    (subst (IsTokens 1 c.args.bytes.now) (sym c.into_vec-tokens.ensures) c.in_ok-tokens.ensures.tokens)
    (subst (IsRead c.into_vec-tokens.result.items) (sym c.as_slice.ensures.value) c.in_ok-modules.ensures.read)
    c.design_of_modules.ensures.refused

pub returns-clause-plain : goal.returns-clause-plain
returns-clause-plain c = plain_answer c.args.top.now c.args.bytes.now c.design_of_modules.result (returns-clause-design c)

pub returns-clause-names : goal.returns-clause-names
returns-clause-names c =
    names_answer c.specialisations_are_lawful.ensures.ports c.args.top.now c.args.bytes.now c.design_of_modules.result (returns-clause-design c)
