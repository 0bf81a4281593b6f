use Rattle.std.proofs.Common.{ℕ, ◌^◌, ◌<◌, ◌≤◌}
use Rattle.std.proofs.Props.{props}
use mathlib.Core.HLevel.{is_prop→PathP}
use Rattle.bit_ops.specs.declared.value.TheConstants.{MAX_WIDTH}
use Rattle.bit_ops.proofs.laws.width_and_word_decide.Goals as goal

le_prop : (m n : ℕ) → IsProp (m ≤ n)
le_prop m n = hlevel props

lt_prop : (m n : ℕ) → IsProp (m < n)
lt_prop m n = hlevel props

pub returns : goal.returns
returns c = λ a b p q i. record {
  width = p i;
  word = q i;
  positive = is_prop→PathP (λ j. 1 ≤ p j) (λ j. le_prop 1 (p j)) a.positive b.positive i;
  within = is_prop→PathP (λ j. p j ≤ MAX_WIDTH) (λ j. le_prop (p j) MAX_WIDTH) a.within b.within i;
  fits = is_prop→PathP (λ j. q j < 2 ^ p j) (λ j. lt_prop (q j) (2 ^ p j)) a.fits b.fits i;
}
