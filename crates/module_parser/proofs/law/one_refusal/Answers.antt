use Rattle.module_parser.proofs.Expressions.{Exact}
use Rattle.module_parser.proofs.OneAnswer.{one_refusal_lem, file_depth}
use Rattle.module_parser.proofs.law.one_refusal.Goals as goal

pub returns : goal.returns
returns c =
    let exact : Exact = record { reading = c.exact_reading.ensures; apart = c.nothing_goes_on.ensures; one_tree = c.one_tree.ensures; one_nesting = c.one_nesting.ensures } in
    one_refusal_lem exact (file_depth exact)
