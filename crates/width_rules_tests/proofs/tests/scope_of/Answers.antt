use Rattle.std.proofs.Common.{◌≡◌, ◌+◌, [], ◌∷◌, length, length-append, sym, ◌∙◌, ap, subst}
use Rattle.width_rules_tests.proofs.Scopes.{AreBelow, HaveWidths, below_more, widths_more}
use Rattle.width_rules_tests.proofs.tests.scope_of.Goals as goal

pub loop-number-preserved : goal.loop-number-preserved
loop-number-preserved g c =
    let new = c.declare-in-loop-number.new.self in
    let vars = c.loop-number.vars in
    let so_far = c.loop-number.invariant in
    let grown = c.in_ok-push.ensures.ok in
    let more : length c.push.new.self ≡ length vars + 1 = ap length grown ∙ length-append vars (c.var.result ∷ []) in
    record {
      count = more ∙ ap (λ n. n + 1) so_far.count;
      below = subst (AreBelow new) {y = length c.push.new.self} (sym more)
          (below_more c.loop-number.names new _ c.loop-number.number (length vars) c.in_ok-declare-2.ensures.declared (sym so_far.count) so_far.below);
      widths = subst HaveWidths (sym grown) (widths_more vars c.var.result so_far.widths c.var.ensures);
    }
