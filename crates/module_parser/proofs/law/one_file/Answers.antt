use Rattle.module_parser.proofs.Expressions.{Exact}
use Rattle.module_parser.proofs.OneAnswer.{one_file_lem}
use Rattle.module_parser.proofs.law.one_file.Goals as goal

pub returns : goal.returns
returns c =
    let exact : Exact = record { reading = c.exact_reading.ensures; apart = c.nothing_goes_on.ensures; one_tree = c.one_tree.ensures; one_nesting = c.one_nesting.ensures } in
    one_file_lem exact
