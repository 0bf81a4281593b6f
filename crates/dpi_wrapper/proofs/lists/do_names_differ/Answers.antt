use Rattle.std.proofs.Common.{◌≡◌, ◌∙◌, sym, inl, inr, true, arith, subst, ◌≢◌, get_or}
use Rattle.std.proofs.lemmas.Bool.{cases_lt, true≢false, false≢true}
use Rattle.dpi_wrapper.proofs.Names.{new_pair, pair_new}
use Rattle.dpi_wrapper.proofs.lists.do_names_differ.Goals as goal

pub returns-then-not-is_new : goal.returns-then-not-is_new
returns-then-not-is_new c = (
  λ holds. absurd (false≢true holds),
  λ pairs.
      let holds : c.is_new.result ≡ true =
      c.is_new.ensures.1 (pair_new c.args.ports.now c.loop-k.k c.index-ports-k.result c.loop-k-test.true c.index-ports-k.is pairs) in
      absurd (true≢false (sym holds ∙ c.if-not-is_new.true)),
)

pub loop-k-preserved : goal.loop-k-preserved
loop-k-preserved c i j d before low =
    elim (cases_lt j c.loop-k.k) [
      | inl earlier ↦ c.loop-k.invariant i j d before earlier
      | inr last ↦
          let same : j ≡ c.loop-k.k = omega arith in
          let ports = c.args.ports.now in
          subst (λ n. (get_or ports i d).name ≢ (get_or ports n d).name) (sym same)
          (new_pair ports c.loop-k.k c.index-ports-k.result c.loop-k-test.true c.index-ports-k.is (c.is_new.ensures.0 c.if-not-is_new.false) i d (omega arith))
    ]
