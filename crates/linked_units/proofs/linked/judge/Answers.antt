use Rattle.std.proofs.Common.{◌≡◌, ◌-◌, length, get_or, subst, arith}
use Rattle.linked_units.specs.declared.figures.Figures.{Figures}
use Rattle.linked_units.specs.Units.{AreRefused}
use Rattle.linked_units.proofs.Judged.{memory_refused, memory_told, limit_refused, limits_kept}
use Rattle.linked_units.proofs.linked.judge.Goals as goal

pub returns-in_err-figures-clause-refused : goal.returns-in_err-figures-clause-refused
returns-in_err-figures-clause-refused c =
    memory_told (AreRefused c.args.units.now) c.from_residual.result c.from_residual.ensures (memory_refused c.args.units.now c.requires.some c.requires.joined)

pub returns-in-Some-clause-refused : goal.returns-in-Some-clause-refused
returns-in-Some-clause-refused c =
    let f : Figures = c.index.result.now in
    let figures = c.in_ok-figures.figures.items in
    let long : c.len.result - 1 ≡ length figures - 1 = omega (arith, c.len.ensures) in
    let is : f ≡ get_or figures (length figures - 1) f = subst (λ i. f ≡ get_or figures i f) long c.index.ensures in
    limit_refused c.args.units.now c.requires.some c.requires.joined figures c.in_ok-figures.ensures.each c.in_ok-figures.ensures.right f is
    c.in-Some.fault c.in-Some.ensures.some

pub returns-clause-within : goal.returns-clause-within
returns-clause-within c =
    let f : Figures = c.index.result.now in
    let figures = c.in_ok-figures.figures.items in
    let long : c.len.result - 1 ≡ length figures - 1 = omega (arith, c.len.ensures) in
    let is : f ≡ get_or figures (length figures - 1) f = subst (λ i. f ≡ get_or figures i f) long c.index.ensures in
    limits_kept c.args.units.now c.requires.some c.requires.joined figures c.in_ok-figures.ensures.each c.in_ok-figures.ensures.right f is
    c.in-None.ensures.none
