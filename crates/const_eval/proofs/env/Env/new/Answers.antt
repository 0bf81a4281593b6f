use Rattle.std.proofs.Common.{ap, bytes_eq, vec_items}
use Rattle.std.specs.Map.{lookup}
use Rattle.const_eval.specs.Env.{bound_of}
use Rattle.const_eval.proofs.env.Env.new.Goals as goal

pub returns : goal.returns
unfolding bound_of
returns c = λ name. ap (lookup (λ key. bytes_eq name (vec_items key))) c.new.ensures.empty
