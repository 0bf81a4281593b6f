use Rattle.std.proofs.Common.{◌≡◌, ◌≤◌, ℕ, get_or, subst, sym, arith}
use Rattle.std.specs.Prelude.{All}
use Rattle.std.proofs.lemmas.List.{get_or_default}
use Rattle.code_check.proofs.Ends.{chained, low_depth}
use Rattle.code_check.proofs.verdict.is_chained.Goals as goal

pub returns : goal.returns
returns c =
    let depths = c.args.flow.now.depths.items in
    let P : ℕ → Type 0 = λ depth. depth ≤ c.from.result in (
      λ holds.
          let all : All P depths = subst (All P) c.as_slice.ensures.value (c.are_up_to.ensures.0 holds) in
          chained c.args.m.now c.args.flow.now c.requires (λ slot inside. let low : get_or depths slot 0 ≤ c.from.result = all slot 0 (omega (arith, c.requires.depths_each)) in omega (arith, low, c.from.ensures)),
      λ chain. c.are_up_to.ensures.1 (subst (All P) (sym c.as_slice.ensures.value) (λ k d inside.
          let low = low_depth c.args.m.now c.args.flow.now k c.requires (omega (arith, c.requires.depths_each)) chain in
          omega (arith, low, get_or_default depths k d 0 inside, c.from.ensures))),
    )
