use Rattle.std.proofs.Common.{◌≡◌, ◌≤◌, ◌-◌, ◌^◌, refl, sym, ap, ◌∙◌, arith}
use Rattle.std.specs.Prelude.{nat_le}
use Rattle.std.proofs.Math.Nat.{pow-le-pow_right}
use Rattle.std.proofs.lemmas.Bool.{le-leb, lt-leb}
use Rattle.bit_ops.specs.declared.value.TheConstants.{MAX_WIDTH}
use Rattle.const_eval.specs.Operators.{least_from}
use Rattle.const_eval.proofs.Least.{one_past, passes_here, none_left}
use Rattle.const_eval.proofs.power.logarithm.Goals as goal

pub loop-k-init : goal.loop-k-init
loop-k-init c = refl

pub loop-k-preserved : goal.loop-k-preserved
loop-k-preserved c =
    let within : c.loop-k.k ≤ 63 = omega arith in
    let small : 2 ^ c.loop-k.k ≤ 2 ^ 63 = pow-le-pow_right (omega arith) within in
    one_past (λ k. nat_le c.args.a (2 ^ k)) c.loop-k.k MAX_WIDTH (omega arith) (lt-leb c.args.a (2 ^ c.loop-k.k) (omega arith))
    ∙ c.loop-k.invariant

pub returns-then-a-k : goal.returns-then-a-k
returns-then-a-k c =
    let within : c.loop-k.k ≤ 63 = omega arith in
    let small : 2 ^ c.loop-k.k ≤ 2 ^ 63 = pow-le-pow_right (omega arith) within in
    sym (passes_here (λ k. nat_le c.args.a (2 ^ k)) c.loop-k.k MAX_WIDTH (omega arith) (le-leb c.args.a (2 ^ c.loop-k.k) (omega arith)))
    ∙ c.loop-k.invariant

pub returns : goal.returns
returns c =
    let ended : c.loop-k.k ≡ MAX_WIDTH = omega arith in
    let none : MAX_WIDTH - c.loop-k.k ≡ 0 = omega arith in
    sym ended ∙ sym (none_left (λ k. nat_le c.args.a (2 ^ k)) c.loop-k.k)
    ∙ ap (least_from (λ k. nat_le c.args.a (2 ^ k)) c.loop-k.k) (sym none) ∙ c.loop-k.invariant
