-- Processes among the items.
use Rattle.std.specs.Prelude.{codes}
use Rattle.sv_ast.specs.declared.item.Item.{Item}
use Rattle.expr_parser.specs.Input.{Parser}
use Rattle.module_parser.specs.Input.{when}
use Rattle.module_parser.specs.Words.{is_keyword}
use Rattle.module_parser.specs.Reading.{combinational, clocked, always}

-- a process, or what may stand there else
abbrev pub process_or : Parser Item → Parser Item
process_or rest =
    when (is_keyword (codes "always_comb")) combinational
    (when (is_keyword (codes "always_ff")) clocked (when (is_keyword (codes "always")) always rest))
