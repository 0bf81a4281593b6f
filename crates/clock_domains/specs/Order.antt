-- What is refused of the clocks of a module, and the order of it.
use Rattle.std.specs.Prelude.{◌≡◌, ℕ, List, ◌++◌, Some, slice_get}
use Rattle.sv_base.specs.declared.refusal.Refusal.{Refusal}
use Rattle.sv_base.specs.declared.face.Face.{Face}
use Rattle.net_ir.specs.declared.design.Spec.{Spec}
use Rattle.clock_domains.specs.Each.{of_each}
use Rattle.clock_domains.specs.Clocks.{clocks_at, joins_refused}
use Rattle.clock_domains.specs.Reads.{reads_in, reads_refused}

-- the variables of a module that are clocks, where these are the faces of its instances in item order
abbrev pub clocks_of : Spec → List Face → List ℕ
clocks_of spec faces = of_each clocks_at spec.drivers faces

-- the variables that are read
abbrev pub reads_of : Spec → List Face → List ℕ
reads_of spec faces = of_each reads_in spec.drivers faces

-- all that is refused: of event controls and clock connections in item order, and behind that of clocks that are read, in item order
abbrev pub refusals : Spec → List Face → List Refusal
refusals spec faces =
    of_each (joins_refused spec.vars) spec.drivers faces ++ of_each (reads_refused spec.vars (clocks_of spec faces)) spec.drivers faces

-- the first of what is refused
abbrev pub IsFirst : List Refusal → Refusal → Type 0
IsFirst all refusal = slice_get all 0 ≡ Some refusal

-- why a module's clocks are refused
abbrev pub IsRefused : Spec → List Face → Refusal → Type 0
IsRefused spec faces refusal = IsFirst (refusals spec faces) refusal
