-- What the code takes of names and targets, against what the definitions say.
use Rattle.std.specs.Prelude.{◌≡◌, ℕ, ◌+◌, min, ◌^◌, ◌-◌, List, [], ◌∷◌}
use Rattle.bit_ops.specs.declared.value.TheConstants.{MAX_WIDTH}
use Rattle.const_eval.specs.WholeNumbers.{count_of}
use Rattle.net_ir.specs.declared.design.Var.{Var}
use Rattle.net_ir.specs.declared.statement.Target.{Target}
use Rattle.net_ir.specs.Target.{target_width}
use Rattle.elaborate.specs.declared.target.Selected.{Selected}
use Rattle.elaborate.specs.Targets.{Selection}

-- what was selected: the position, and the width as far as a word can say it
pub record IsSelected (found : Selected) (s : Selection) : Type 0 where
  pub count : found.count ≡ min (count_of s.width) (2 ^ MAX_WIDTH - 1)
  pub at : found.at ≡ s.at.0
  pub signed : found.at_signed ≡ s.at.1
  pub down : found.down ≡ s.down

-- a number, as far as a size of memory can say it
abbrev pub IsCapped : ℕ → ℕ → Type 0
IsCapped found n = found ≡ min n (2 ^ 64 - 1)

-- how many bits several targets have together
abbrev pub parts_width : List Var → List Target → ℕ
parts_width vars [] = 0
parts_width vars (t ∷ ts) = target_width vars t + parts_width vars ts
