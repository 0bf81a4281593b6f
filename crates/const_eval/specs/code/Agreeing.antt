-- What the code finds, against what is defined.
use Rattle.std.specs.Prelude.{◌≡◌, ℕ, ◌≤◌, ◌<◌, Bool, List, [], ℤ, pos, if◌then◌else◌, Result, Ok, Err}
use Rattle.bit_ops.specs.Meaning.{signed_of}
use Rattle.bit_ops.specs.declared.value.TheConstants.{MAX_WIDTH}
use Rattle.sv_base.specs.declared.refusal.Refusal.{Refusal}
use Rattle.sv_base.specs.declared.fault.Fault.{Fault}
use Rattle.sv_base.specs.Faults.{IfRefused}
use Rattle.const_eval.specs.declared.env.Const.{Const}
use Rattle.const_eval.specs.declared.measured.Measured.{Measured}
use Rattle.const_eval.specs.declared.joined.Joined.{Joined}
use Rattle.const_eval.specs.declared.joined.Joined.TheVariants.{Nothing, Whole, TooWide}
use Rattle.const_eval.specs.declared.name.Constant.{Constant}
use Rattle.const_eval.specs.declared.taking.Taking.{Taking}
use Rattle.const_eval.specs.declared.taking.Taking.TheVariants as taking
use Rattle.const_eval.specs.Literal.{Literal}
use Rattle.const_eval.specs.Expressions.{Positions, At, DownTo, UpFrom, DownFrom}
use Rattle.const_eval.specs.Meaning.{Meaning}
use Rattle.const_eval.specs.code.Waiting.{value_of}
use Rattle.const_eval.specs.Selects.{Named, total, joined}
use Rattle.const_eval.specs.Constant.{constant_named}

-- what was found is related to what is defined, or the refusals are one, unless memory ran out
abbrev pub Agrees : {X Y : Type 0} → (X → Y → Type 0) → Result X Fault → Result Y Refusal → Type 0
Agrees R (Ok x) (Ok y) = R x y
Agrees R (Ok x) (Err refusal) = ⊥
Agrees R (Err fault) (Ok y) = IfRefused (λ refusal. ⊥) fault
Agrees R (Err fault) (Err refusal) = IfRefused (λ told. told ≡ refusal) fault

-- the size, sign and bits of a constant
abbrev pub literal_of : Const → Literal
literal_of c = record { size = c.value.width; signed = c.signed; word = c.value.word }

-- what was measured has the size and the sign of a meaning, and its value in each context
pub record Matches (m : Measured) (meaning : Meaning) : Type 0 where
  pub size : m.size ≡ meaning.size
  pub signed : m.signed ≡ meaning.signed
  pub value : (n : ℕ) (s : Bool) → meaning.size ≤ n → n ≤ MAX_WIDTH → value_of m.pending n s ≡ meaning.value n s

-- what was joined, against the meanings of the parts
abbrev pub IsJoined : Joined → List Meaning → Type 0
IsJoined Nothing ms = ms ≡ []
IsJoined (Whole bits) ms = (bits.width ≡ total ms) × (bits.word ≡ joined ms)
IsJoined TooWide ms = MAX_WIDTH < total ms

-- the whole number that what was measured stands for by itself
abbrev pub number_in : Measured → ℤ
number_in m = if m.signed then signed_of m.size (value_of m.pending m.size m.signed) else pos (value_of m.pending m.size m.signed)

-- what a constant's name means
abbrev pub IsNamed : Constant → Named → Type 0
IsNamed c named = named ≡ constant_named c.value c.low

-- the positions of a select that were measured
abbrev pub ArePositions : Taking → Positions → Type 0
ArePositions (taking.At a) (At p) = Matches a p
ArePositions (taking.DownTo a b) (DownTo high low) = Matches a high × Matches b low
ArePositions (taking.UpFrom a b) (UpFrom p width) = Matches a p × Matches b width
ArePositions (taking.DownFrom a b) (DownFrom p width) = Matches a p × Matches b width
ArePositions _ _ = ⊥
