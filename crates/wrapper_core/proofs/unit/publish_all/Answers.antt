use Rattle.std.proofs.Common.{◌≤◌, ◌∙◌, length, sym, arith}
use Rattle.wrapper_core.proofs.Publishing.{own_then, published_more, published_all}
use Rattle.wrapper_core.proofs.unit.publish_all.Goals as goal

pub publish_at-requires-clause-struck : goal.publish_at-requires-clause-struck
publish_at-requires-clause-struck g c = λ x at. c.requires.struck c.loop-i.i x (sym (c.loop-i.invariant.published.later c.loop-i.i (omega arith)) ∙ at)

pub loop-i-preserved : goal.loop-i-preserved
loop-i-preserved g c = record {
  core = c.publish_at.ensures.core;
  keeps = own_then c.args.block.now c.loop-i.block c.publish_at.new.block c.loop-i.invariant.keeps c.publish_at.ensures.keeps;
  published = published_more g.C.Child.model c.args.children.now.items c.loop-i.children.items c.publish_at.new.children.items c.loop-i.i c.loop-i.invariant.published c.publish_at.ensures.publishes;
}

pub returns-clause-published : goal.returns-clause-published
returns-clause-published g c =
    let long : length c.args.children.now.items ≤ c.loop-i.i = omega (arith, c.loop-i-test.false, c.args.children.now.ok.0, c.loop-i.invariant.published.each, c.len-i-end.ensures) in
    published_all g.C.Child.model c.args.children.now.items c.loop-i.children.items c.loop-i.i long c.loop-i.invariant.published
