use Rattle.std.proofs.Common.{◌≡◌, ◌∙◌, sym, true}
use Rattle.std.proofs.lemmas.Bool.{true≢false}
use Rattle.code_check.proofs.Rows.{all_inside}
use Rattle.code_check.proofs.First.{first_chain}
use Rattle.code_check.proofs.verdict.examine_flow.Goals as goal

pub order_of-requires-clause-inside : goal.order_of-requires-clause-inside
order_of-requires-clause-inside c = all_inside c.args.m.now c.requires.port_shape c.requires.slot_order

pub flow_of-requires-clause-inside : goal.flow_of-requires-clause-inside
flow_of-requires-clause-inside c = all_inside c.args.m.now c.requires.port_shape c.requires.slot_order

pub returns-then-not-is_chained-clause-fault : goal.returns-then-not-is_chained-clause-fault
returns-then-not-is_chained-clause-fault c =
    first_chain c.args.m.now c.requires.port_shape c.requires.slot_order c.requires.slot_width c.in_ok-order.ensures.1 (c.is_summarised.ensures.0 c.if-not-is_summarised.false)
    (λ chain. let holds : c.is_chained.result ≡ true = c.is_chained.ensures.1 chain in true≢false (sym holds ∙ c.if-not-is_chained.true))
