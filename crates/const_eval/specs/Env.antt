-- What visible names stand for.
use Rattle.std.specs.Prelude.{◌≡◌, ℕ, List, Option, if◌then◌else◌}
use Rattle.std.specs.Str.{bytes_eq}
use Rattle.std.specs.Vec.{vec_items}
use Rattle.std.specs.declared.vec.Vec.{Vec}
use Rattle.indexmap.specs.IndexMap.{IndexMap, get_by}
use Rattle.const_eval.specs.declared.env.Bound.{Bound}
use Rattle.const_eval.specs.declared.env.Env.{Env}

-- what a map has at the key with these bytes
abbrev pub at_bytes : {X Z S : Type 0} → IndexMap (Vec ℕ Z) X S → List ℕ → Option X
at_bytes map name = get_by (λ key. bytes_eq name (vec_items key)) map

-- what a name stands for among the visible ones, and nothing where it is none of them
unfoldable pub bound_of : Env → List ℕ → Option Bound
bound_of env name = at_bytes env.names name

-- one name stands for this now, or is not visible any more, and every other one stands for what it did
abbrev pub Rebinds : Env → List ℕ → Option Bound → Env → Type 0
Rebinds old name bound new = (n : List ℕ) → bound_of new n ≡ (if bytes_eq name n then bound else bound_of old n)

-- every name stands for what it did
abbrev pub IsUnchanged : Env → Env → Type 0
IsUnchanged old new = (n : List ℕ) → bound_of new n ≡ bound_of old n
