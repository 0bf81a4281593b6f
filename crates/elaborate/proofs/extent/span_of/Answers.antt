use Rattle.elaborate.specs.code.Walking.{seen_in}
use Rattle.elaborate.proofs.Selects.{found_sized, span_agrees}
use Rattle.elaborate.proofs.extent.span_of.Goals as goal

pub returns-in_ok-low-in-Some : goal.returns-in_ok-low-in-Some
returns-in_ok-low-in-Some c =
    let names = seen_in c.args.walk.now in
    let range = c.in-Some.range in
    rw (c.in-Some.is) (span_agrees names range c.in_ok-high-in-Some.high c.in_ok-low-in-Some.low c.number.result c.number-in-Some.result
    (found_sized c.sizes_and_values.ensures names range.high) (found_sized c.sizes_and_values.ensures names range.low)
    c.in_ok-high-in-Some.ensures c.in_ok-low-in-Some.ensures c.number.ensures c.number-in-Some.ensures)
