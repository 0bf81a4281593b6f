use Rattle.std.proofs.Common.{◌≡◌, ◌+◌, ◌/◌, ◌%◌, ◌++◌, ◌∷◌, [], length, sym, ap, ◌∙◌, append_assoc, arith}
use Rattle.std.proofs.lemmas.Fmt.{decimal_step, decimal_digit}
use Rattle.std.proofs.Common.{length-append}
use Rattle.std.specs.Fmt.{decimal}
use Rattle.trace_writer.proofs.TraceText.{decimal_longer, decimal_one}
use Rattle.trace_writer.proofs.trace.+push_number.Goals as goal

pub push_reserved-requires : goal.push_reserved-requires
push_reserved-requires t c = omega (arith, decimal_one c.args.number (omega arith))

pub returns-then-number-lt10-clause-text : goal.returns-then-number-lt10-clause-text
returns-then-number-lt10-clause-text t c =
    c.push_reserved.ensures.items ∙ ap (λ xs. c.args.into.now.items ++ xs) (sym (decimal_digit c.args.number (omega arith)))

pub push_number-requires : goal.push_number-requires
push_number-requires t c = (omega (arith, c.decreases), omega (arith, decimal_longer c.args.number (omega arith) (omega arith)))

pub push_reserved-requires-2 : goal.push_reserved-requires-2
push_reserved-requires-2 t c =
    let n = c.args.number in
    let longer : length (decimal n) ≡ length (decimal (n / 10)) + 1 = decimal_longer n (omega arith) (omega arith) in
    let so_far : length c.push_number.new.into.items ≡ length c.args.into.now.items + length (decimal (n / 10)) =
    ap length c.push_number.ensures.text ∙ length-append c.args.into.now.items (decimal (n / 10)) in
    omega (arith, c.push_number.new.into.ok.0, c.args.into.now.ok.0)

pub returns-clause-text : goal.returns-clause-text
returns-clause-text t c =
    let n = c.args.number in
    c.push_reserved-2.ensures.items
    ∙ ap (λ xs. xs ++ (48 + n % 10) ∷ []) c.push_number.ensures.text
    ∙ append_assoc c.args.into.now.items (decimal (n / 10)) ((48 + n % 10) ∷ [])
    ∙ ap (λ xs. c.args.into.now.items ++ xs) (sym (decimal_step n (omega arith) (omega arith)))
