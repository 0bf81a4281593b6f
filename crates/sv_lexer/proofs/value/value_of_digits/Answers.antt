use Rattle.std.proofs.Common.{◌+◌, ◌*◌, sym, ◌∙◌, drop, get_or, arith}
use Rattle.sv_lexer.specs.Bytes.{digit_value}
use Rattle.sv_lexer.proofs.Spelling.{read_mark, read_digit, read_grows}
use Rattle.sv_lexer.proofs.value.value_of_digits.Goals as goal
use Rattle.sv_lexer.proofs.value.value_of_digits.Goals.{then-digit-ne95+in_ok-value, else-digit-ne95}

pub returns-in_err-value : goal.returns-in_err-value
returns-in_err-value c =
    let step = read_digit c.args.radix c.loop-digit.value c.loop-digit.digit-index c.args.digits.now c.loop-digit-test.true c.if-digit-ne95.true in
    let grows = read_grows c.args.radix (c.loop-digit.value * c.args.radix + digit_value (get_or c.args.digits.now c.loop-digit.digit-index 0))
    (drop (c.loop-digit.digit-index + 1) c.args.digits.now) c.requires in
    rw c.from_residual.ensures (omega (arith, c.in_err-value.ensures, c.digit_value.ensures.value))

pub loop-digit-preserved : goal.loop-digit-preserved
loop-digit-preserved c =
    elim c.if-digit-ne95.branch [
      | then-digit-ne95+in_ok-value w ↦
          let step = read_digit c.args.radix c.loop-digit.value c.loop-digit.digit-index c.args.digits.now c.loop-digit-test.true w.if-digit-ne95.true in
          rw (w.value-is, w.in_ok-value.ensures, w.digit_value.ensures.value) (sym step ∙ c.loop-digit.invariant)
      | else-digit-ne95 w ↦
          let step = read_mark c.args.radix c.loop-digit.value c.loop-digit.digit-index c.args.digits.now c.loop-digit-test.true w.if-digit-ne95.false in
          rw w.value-is (sym step ∙ c.loop-digit.invariant)
    ]
