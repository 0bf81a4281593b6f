use Rattle.std.proofs.Common.{◌≡◌, List, ℕ, Some, None, IsSome, is_some, ap, sym, subst, ◌∙◌, true≢false}
use Rattle.std.specs.Option.{option_copied_mut}
use Rattle.const_eval.specs.Env.{bound_of, at_bytes}
use Rattle.const_eval.proofs.Naming.{rebound_for}
use Rattle.const_eval.proofs.env.Env.replace.Goals as goal

pub returns-in-Some : goal.returns-in-Some
unfolding bound_of
returns-in-Some c =
    let shown = subst (λ (name : List ℕ). IsSome (at_bytes c.args.self.now.names name)) (sym c.bytes.ensures) c.requires in
    rebound_for c.bytes.result.now c.args.name.now c.args.self.now.names (c.get_mut.follows.lender c.args.bound) (Some c.args.bound) c.bytes.ensures
    ((c.get_mut.follows.holds c.args.bound).3 shown)

pub returns-in_default : goal.returns-in_default
unfolding bound_of
returns-in_default c =
    let shown = subst (λ (name : List ℕ). IsSome (at_bytes c.args.self.now.names name)) (sym c.bytes.ensures) c.requires in
    let gone : at_bytes c.args.self.now.names c.bytes.result.now ≡ None = sym c.get_mut.ensures.value ∙ ap option_copied_mut c.in_default.is in
    absurd (true≢false (sym shown ∙ ap is_some gone))
