use Rattle.std.proofs.Common.{◌≡◌, ◌<◌, ◌∙◌, ℕ, [], length, get_or, inl, inr, refl, ap, subst, sym, true, arith}
use Rattle.std.specs.Prelude.{Contains}
use Rattle.std.proofs.lemmas.Bool.{cases_lt, true≢false, false≢true}
use Rattle.code_isa.specs.Checks.{row_at}
use Rattle.code_isa.specs.declared.machine.Machine.{Machine}
use Rattle.code_check.specs.declared.flow.Flow.{Flow}
use Rattle.code_check.specs.code.Sets.{IsIn, row_of}
use Rattle.code_check.specs.code.Flow.{IsFlow}
use Rattle.code_check.specs.code.Verdict.{IsNamedAt}
use Rattle.code_check.proofs.Rows.{few_inputs}
use Rattle.code_check.proofs.Ends.{summarised, named_at, named_from, named_to, set_read, row_read}
use Rattle.code_check.proofs.verdict.is_summarised.Goals as goal

pub is_named-requires-clause-few : goal.is_named-requires-clause-few
is_named-requires-clause-few c = omega (arith, few_inputs c.args.m.now.face c.args.m.now.face_fits, c.input_count-inputs.ensures)

pub returns-then-not-is_named : goal.returns-then-not-is_named
returns-then-not-is_named c =
    let m = c.args.m.now in
    let flow = c.args.flow.now in
    let k = c.loop-k.k in
    let set = set_read m flow k c.as_slice-outs.result.now c.as_slice.result.now c.index.result.now c.requires.slot_order c.requires.flow c.loop-k-test.true c.as_slice-outs.ensures c.as_slice.ensures c.index.ensures in
    let row = row_read m k c.as_slice-outs.result.now c.as_slice-rows.result.now c.as_slice-in-loop-k.result.now c.index-rows-k.result c.loop-k-test.true c.as_slice-outs.ensures c.as_slice-rows.ensures c.as_slice-in-loop-k.ensures c.index-rows-k.is in
    let inside : k < length m.outs = omega (arith, ap length c.as_slice-outs.ensures, c.loop-k-test.true) in (
      λ holds. absurd (false≢true holds),
      λ summary.
          let holds : c.is_named.result ≡ true =
          c.is_named.ensures.1 (named_to m flow.inputs.items k c.as_slice.result.now c.as_slice-in-loop-k.result.now c.input_count-inputs.result c.input_count-inputs.ensures set row (named_at m flow k c.requires.slot_order c.requires.flow inside summary)) in
          absurd (true≢false (sym holds ∙ c.if-not-is_named.true)),
    )

pub loop-k-preserved : goal.loop-k-preserved
loop-k-preserved c j low =
    let m = c.args.m.now in
    let flow = c.args.flow.now in
    let k = c.loop-k.k in
    let set = set_read m flow k c.as_slice-outs.result.now c.as_slice.result.now c.index.result.now c.requires.slot_order c.requires.flow c.loop-k-test.true c.as_slice-outs.ensures c.as_slice.ensures c.index.ensures in
    let row = row_read m k c.as_slice-outs.result.now c.as_slice-rows.result.now c.as_slice-in-loop-k.result.now c.index-rows-k.result c.loop-k-test.true c.as_slice-outs.ensures c.as_slice-rows.ensures c.as_slice-in-loop-k.ensures c.index-rows-k.is in
    elim (cases_lt j k) [
      | inl before ↦ c.loop-k.invariant j before
      | inr last ↦
          let same : j ≡ k = omega arith in
          subst (IsNamedAt m flow.inputs.items) (sym same)
          (named_from m flow.inputs.items k c.as_slice.result.now c.as_slice-in-loop-k.result.now c.input_count-inputs.result c.input_count-inputs.ensures set row (c.is_named.ensures.0 c.if-not-is_named.false))
    ]

pub returns : goal.returns
returns c =
    let size : length c.as_slice-outs.result.now ≡ length c.args.m.now.outs = ap length c.as_slice-outs.ensures in (
      λ _. summarised c.args.m.now c.args.flow.now c.requires.slot_order c.requires.flow (λ k inside. c.loop-k.invariant k (omega (arith, size, c.loop-k-test.false))),
      λ _. refl,
    )
