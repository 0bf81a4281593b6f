use Rattle.std.proofs.Common.{ap}
use Rattle.std.specs.List.{list_any}
use Rattle.std.specs.Str.{bytes_eq}
use Rattle.std.specs.Vec.{vec_items}
use Rattle.elaborate.specs.code.Walking.{has_label}
use Rattle.elaborate.proofs.names.Labels.new.Goals as goal

-- src/names.rt:34:5
pub returns : goal.returns
unfolding has_label
returns c = λ name. ap (list_any (λ key. bytes_eq name (vec_items key))) c.new.ensures.empty
