use Rattle.std.proofs.Common.{◌≡◌, ◌∙◌}
use Rattle.std.specs.Vec.{vec_items}
use Rattle.elaborate.specs.code.Walking.{has_label}
use Rattle.elaborate.proofs.Labels.{added_at}
use Rattle.elaborate.proofs.names.Labels.add.Goals as goal

-- src/names.rt:50:5
pub returns : goal.returns
unfolding has_label
returns c =
    let key : vec_items c.in_ok-key.key ≡ c.args.name.now = c.in_ok-key.ensures.items ∙ c.bytes.ensures in
    added_at c.in_ok-key.key c.args.name.now c.args.self.now.names c.insert.new.self key c.in_ok-insert.ensures.updates
