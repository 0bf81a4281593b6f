use Rattle.std.proofs.Common.{◌≡◌, ◌∙◌, ◌-◌, ℕ, length, sym, ap, subst, arith}
use Rattle.expr_parser.specs.Input.{turns}
use Rattle.expr_parser.specs.Outcome.{IsRead, last_place}
use Rattle.expr_parser.specs.Reading.{any}
use Rattle.expr_parser.proofs.Final.{input_same, reads_right, refuses_right}
use Rattle.expr_parser.proofs.Written.{written_lem}
use Rattle.expr_parser.proofs.parser.parse_expr.Goals as goal

pub returns-in-Ok-clause-read : goal.returns-in-Ok-clause-read
unfolding turns
returns-in-Ok-clause-read c =
    let tokens = c.args.tokens.now.items in
    let at = c.args.at in
    let depth = c.args.depth in
    let last = c.last_place-last.ensures ∙ ap last_place (c.as_slice.ensures.value ∙ sym c.as_slice-2.ensures.value) in
    let start = input_same c.as_slice-2.result.now tokens at depth c.last_place-last.result c.as_slice-2.ensures.value last c.new-cursor.result c.new-cursor.ensures in
    let right = reads_right tokens at depth c.requires.place c.requires.nesting c.in-Ok.tree c.any.new.tokens (ap any (sym start) ∙ c.in-Ok.ensures.gives) in
    let count : length tokens - length c.any.new.tokens.rest ≡ c.saturating_sub.result =
    omega (arith, c.as_slice.ensures.len, ap length c.as_slice.ensures.value, c.len.ensures, c.len-in-Ok.ensures, c.saturating_sub.ensures) in
    let P : ℕ → Type 0 = λ n. IsRead tokens at depth c.in-Ok.tree n in
    subst P count right

pub returns-in-Ok-clause-written : goal.returns-in-Ok-clause-written
unfolding turns
returns-in-Ok-clause-written c =
    let tokens = c.args.tokens.now.items in
    let at = c.args.at in
    let depth = c.args.depth in
    let last = c.last_place-last.ensures ∙ ap last_place (c.as_slice.ensures.value ∙ sym c.as_slice-2.ensures.value) in
    let start = input_same c.as_slice-2.result.now tokens at depth c.last_place-last.result c.as_slice-2.ensures.value last c.new-cursor.result c.new-cursor.ensures in
    let right = reads_right tokens at depth c.requires.place c.requires.nesting c.in-Ok.tree c.any.new.tokens (ap any (sym start) ∙ c.in-Ok.ensures.gives) in
    let count : length tokens - length c.any.new.tokens.rest ≡ c.saturating_sub.result =
    omega (arith, c.as_slice.ensures.len, ap length c.as_slice.ensures.value, c.len.ensures, c.len-in-Ok.ensures, c.saturating_sub.ensures) in
    let P : ℕ → Type 0 = λ n. IsRead tokens at depth c.in-Ok.tree n in
    written_lem tokens at depth c.in-Ok.tree _ (subst P count right)

pub returns-in-Err-clause-refused : goal.returns-in-Err-clause-refused
returns-in-Err-clause-refused c =
    let tokens = c.args.tokens.now.items in
    let at = c.args.at in
    let depth = c.args.depth in
    let last = c.last_place-last.ensures ∙ ap last_place (c.as_slice.ensures.value ∙ sym c.as_slice-2.ensures.value) in
    let start = input_same c.as_slice-2.result.now tokens at depth c.last_place-last.result c.as_slice-2.ensures.value last c.new-cursor.result c.new-cursor.ensures in
    refuses_right tokens at depth c.requires.nesting c.in-Err.fault (λ h. ap any (sym start) ∙ c.in-Err.ensures.gives h)
