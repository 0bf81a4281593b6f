use Rattle.std.proofs.Common.{List, ℕ, ap, ◌∙◌}
use Rattle.const_eval.specs.Env.{bound_of, at_bytes}
use Rattle.const_eval.proofs.env.Env.bound.Goals as goal

pub returns : goal.returns
unfolding bound_of
returns c = c.copied.ensures ∙ c.get.ensures.value ∙ ap (λ (name : List ℕ). at_bytes c.args.self.now.names name) c.bytes.ensures
