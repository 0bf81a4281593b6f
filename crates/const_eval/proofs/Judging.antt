-- What was measured, by itself, is what the meaning is by itself; and one judgement behind another.
use Rattle.std.specs.Prelude.{◌≡◌, false, ℤ, pos, int_lt, Result, Ok, Err}
use Rattle.std.proofs.Common.{sym, ◌∙◌}
use Rattle.sv_base.specs.declared.refusal.Refusal.{Refusal}
use Rattle.sv_base.specs.declared.fault.Fault.{Fault}
use Rattle.sv_base.specs.declared.fault.Fault.TheVariants.{Refused, NoMemory}
use Rattle.const_eval.specs.declared.measured.Measured.{Measured}
use Rattle.const_eval.specs.Meaning.{Meaning}
use Rattle.const_eval.specs.Expressions.{◌>>=◌, is_negative}
use Rattle.const_eval.specs.code.Agreeing.{Agrees, Matches, number_in}
use Rattle.const_eval.proofs.Matching.{number_matches}

-- a number that is not negative
pub not_negative : (a : Measured) (m : Meaning) (z : ℤ) → Matches a m → z ≡ number_in a → int_lt z (pos 0) ≡ false → is_negative m ≡ false
not_negative a m z h e p = rw (sym (e ∙ number_matches a m h)) p

-- want of memory agrees with all
pub free : {Z W : Type 0} (S : Z → W → Type 0) (j : Result W Refusal) → Agrees S (Err NoMemory) j
free S (Ok y) = tt
free S (Err refusal) = tt

-- a refusal of a part is that of the whole
pub refused_first : {X Y Z W : Type 0} (R : X → Y → Type 0) (S : Z → W → Type 0) (fault : Fault) (j : Result Y Refusal) (f : Y → Result W Refusal) → Agrees R (Err fault) j → Agrees S (Err fault) (j >>= f)
refused_first R S (Refused r) (Ok y) f h = absurd h
refused_first R S NoMemory (Ok y) f h = free S (f y)
refused_first R S fault (Err refusal) f h = h

-- a part that agrees, and what agrees behind it whatever it means
pub agrees_behind : {X Y Z W : Type 0} (R : X → Y → Type 0) (S : Z → W → Type 0) (x : X) (j : Result Y Refusal) (f : Y → Result W Refusal) (r : Result Z Fault) → Agrees R (Ok x) j → ((y : Y) → R x y → Agrees S r (f y)) → Agrees S r (j >>= f)
agrees_behind R S x (Ok y) f r h g = g y h
agrees_behind R S x (Err refusal) f r h g = absurd h
