use Rattle.std.proofs.Common.{◌≡◌, take, arith}
use Rattle.std.proofs.lemmas.List.{length-drop, length-take-le}
use Rattle.sv_lexer.specs.Bytes.{line_ends}
use Rattle.sv_lexer.proofs.Cut.{fault_at_rest, so_far_more}
use Rattle.sv_lexer.proofs.lexer.lex.Goals as goal

pub returns-in-Err-clause-refused : goal.returns-in-Err-clause-refused
returns-in-Err-clause-refused c =
    fault_at_rest c.args.file c.args.bytes.now c.loop-rest.rest.now c.loop-rest.tokens c.loop-rest.ends c.in-Err.flaw.kind c.in-Err.flaw.name.now c.place_at.result
    c.refused.result c.loop-rest.invariant.0 c.in-Err.ensures c.place_at.ensures c.refused.ensures

pub loop-rest-preserved : goal.loop-rest-preserved
loop-rest-preserved c =
    let stands = c.in-Ok.ensures in
    let size = length-drop c.in-Ok.found.len c.loop-rest.rest.now in
    let ends : c.line_ends-ends.result ≡ line_ends (take c.in-Ok.found.len c.loop-rest.rest.now) = c.line_ends-ends.ensures.value in
    let within = stands.within in
    let few = c.line_ends-ends.ensures.within in
    let short = length-take-le c.in-Ok.found.len c.loop-rest.rest.now stands.within in
    let room = c.loop-rest.invariant.1 in
    rw (c.after-rest.ensures, ends) (
      so_far_more c.args.file c.args.bytes.now c.loop-rest.rest.now c.loop-rest.tokens c.add_token.new.tokens c.loop-rest.ends c.in-Ok.found.form c.in-Ok.found.len
          c.loop-rest.invariant.0 stands.stands c.in_ok-add_token.ensures,
      omega arith,
    )
