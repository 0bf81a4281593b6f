use Rattle.std.proofs.Common.{ℕ, List, ap, ◌∙◌}
use Rattle.elaborate.specs.code.Walking.{has_label}
use Rattle.elaborate.proofs.Labels.{has_bytes}
use Rattle.elaborate.proofs.names.Labels.has.Goals as goal

-- src/names.rt:43:5
pub returns : goal.returns
unfolding has_label
returns c = c.contains.ensures ∙ ap (λ (name : List ℕ). has_bytes c.args.self.now.names name) c.bytes.ensures
