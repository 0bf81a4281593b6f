use Rattle.std.proofs.Common.{◌∙◌, sym, ap, subst}
use Rattle.module_parser.specs.Outcome.{IsRead}
use Rattle.module_parser.specs.Reading.{file}
use Rattle.module_parser.proofs.Expressions.{Exact}
use Rattle.module_parser.proofs.Answer.{reads_right, refuses_right, written_right}
use Rattle.module_parser.proofs.parser.parse_file.Goals as goal

pub returns-in-Ok-clause-read : goal.returns-in-Ok-clause-read
returns-in-Ok-clause-read c =
    let exact : Exact = record { reading = c.exact_reading.ensures; apart = c.nothing_goes_on.ensures; one_tree = c.one_tree.ensures; one_nesting = c.one_nesting.ensures } in
    let right = reads_right exact c.args.tokens.now.items c.in-Ok.modules c.file.new.tokens (ap file (sym c.new-cursor.ensures) ∙ c.in-Ok.ensures) in
    subst (IsRead c.args.tokens.now.items) (sym c.into_vec.ensures) right

pub returns-in-Ok-clause-written : goal.returns-in-Ok-clause-written
returns-in-Ok-clause-written c =
    let exact : Exact = record { reading = c.exact_reading.ensures; apart = c.nothing_goes_on.ensures; one_tree = c.one_tree.ensures; one_nesting = c.one_nesting.ensures } in
    let right = reads_right exact c.args.tokens.now.items c.in-Ok.modules c.file.new.tokens (ap file (sym c.new-cursor.ensures) ∙ c.in-Ok.ensures) in
    written_right c.args.tokens.now.items c.into_vec.result.items (subst (IsRead c.args.tokens.now.items) (sym c.into_vec.ensures) right)

pub returns-in-Err-clause-refused : goal.returns-in-Err-clause-refused
returns-in-Err-clause-refused c =
    let exact : Exact = record { reading = c.exact_reading.ensures; apart = c.nothing_goes_on.ensures; one_tree = c.one_tree.ensures; one_nesting = c.one_nesting.ensures } in
    refuses_right exact c.args.tokens.now.items c.in-Err.fault (λ h. ap file (sym c.new-cursor.ensures) ∙ c.in-Err.ensures h)
