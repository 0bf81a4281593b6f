use Rattle.std.proofs.Common.{◌≡◌, ℕ, ◌%◌, ◌^◌, ◌<◌, ◌∙◌, sym, ap, true, Some}
use Rattle.std.proofs.Math.Nat.{mod-eq_of_lt}
use Rattle.sv_base.specs.declared.operator.Function.TheVariants.{Logarithm}
use Rattle.sv_base.specs.Operators.{function_of}
use Rattle.const_eval.specs.declared.measured.Measured.{Measured}
use Rattle.const_eval.specs.Meaning.{alone, own}
use Rattle.const_eval.specs.Operators.{logarithm}
use Rattle.const_eval.specs.code.Agreeing.{Matches}
use Rattle.const_eval.proofs.Matching.{own_matches}
use Rattle.const_eval.proofs.apply.function_by.Goals as goal

-- a number below the greatest of 32 bits, as a value of 32 bits
in_32_bits : (r : Measured) (width word number : ℕ) (f : ℕ → ℕ) (n : ℕ) → width ≡ 32 → word ≡ number % 2 ^ 32 → number < 2 ^ 32 → number ≡ f n
    → Matches r (alone width true word) → Matches r (alone 32 true (f n))
in_32_bits r width word number f n wide cut small is h =
    let same : word ≡ f n = cut ∙ mod-eq_of_lt small ∙ is in rw (wide, same) at h

pub returns-in-Some-Logarithm : goal.returns-in-Some-Logarithm
returns-in-Some-Logarithm c = λ m p.
    let known : function_of c.args.name.now.name ≡ Some Logarithm =
    sym (c.in-Some-Logarithm.ensures ∙ ap function_of c.bytes.ensures) ∙ ap Some c.in-Some-Logarithm.field-0-is in
    let small : c.from.result < 2 ^ 32 = rw c.from.ensures c.logarithm.type_inv in
    rw known (in_32_bits c.alone-in-Some-Logarithm.result c.truncated.result.width c.truncated.result.word c.from.result logarithm (own m)
    c.truncated.ensures.width c.truncated.ensures.word small
    (c.from.ensures ∙ c.logarithm.ensures ∙ ap logarithm (c.own-own.ensures.word ∙ own_matches c.args.a.now m p)) c.alone-in-Some-Logarithm.ensures)
