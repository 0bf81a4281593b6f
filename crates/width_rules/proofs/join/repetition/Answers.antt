use Rattle.std.proofs.Common.{◌*◌, ◌∙◌, false, ap}
use Rattle.bit_ops.specs.declared.operation.Op.TheVariants as op
use Rattle.const_eval.specs.Selects.{copies}
use Rattle.net_ir.specs.declared.term.Term.{Const}
use Rattle.width_rules.specs.Building.{two_of, extended_to}
use Rattle.width_rules.specs.Operations.{alone}
use Rattle.width_rules.proofs.Joins.{copies_of_one}
use Rattle.width_rules.proofs.Valued.{bits_are}
use Rattle.width_rules.proofs.join.repetition.Goals as goal

pub returns : goal.returns
returns c =
    let n = c.args.count * c.args.width in
    let ones = bits_are c.copies-ones.result n (copies c.args.count c.args.width 1) (c.copies-ones.ensures.width ∙ ap (λ k. c.args.count * k) c.truncated.ensures.width)
    (copies_of_one c.args.count c.args.width c.copies-ones.result.word c.truncated.result.width c.truncated.result.word c.requires.width c.truncated.ensures.width c.truncated.ensures.word
    c.copies-ones.ensures.word) in
    record {
      built =
          c.alone.ensures.built
          ∙ ap (alone n false)
          (c.in_ok-many.ensures.term ∙ ap (λ t. two_of op.Mul n t (Const c.copies-ones.result)) c.in_ok-wide.ensures.term
          ∙ ap (λ b. two_of op.Mul n (extended_to n false c.args.width c.args.term) (Const b)) ones);
    }
