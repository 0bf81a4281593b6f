-- Meanings and names whose sizes and values are those of values.
use Rattle.std.specs.Prelude.{◌≡◌, ℕ, ◌^◌, ◌<◌, ◌≤◌, Bool, List, Some}
use Rattle.bit_ops.specs.Width.{IsWidth}
use Rattle.const_eval.specs.Meaning.{Meaning}
use Rattle.const_eval.specs.Selects.{Named}
use Rattle.const_eval.specs.Expressions.{Names}

-- a meaning whose size is one that a value may have, and whose value in each size from its own on is a word of that size
pub record IsSized (m : Meaning) : Type 0 where
  pub size : IsWidth m.size
  pub value : (n : ℕ) (s : Bool) → m.size ≤ n → m.value n s < 2 ^ n

-- each visible name has a size that a value may have, and a word of that size
abbrev pub AreSized : Names → Type 0
AreSized names = (name : List ℕ) (named : Named) → names name ≡ Some named → IsWidth named.size × (named.word < 2 ^ named.size)
