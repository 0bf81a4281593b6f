-- Names that are partly alike, and what is alike of expressions then.
use Rattle.std.specs.Prelude.{◌≡◌, ℕ, true, List, Option, None, Some, Result, Ok, Err}
use Rattle.sv_base.specs.declared.refusal.Refusal.{Refusal}
use Rattle.const_eval.specs.Meaning.{Meaning}
use Rattle.const_eval.specs.Selects.{Named}
use Rattle.const_eval.specs.Expressions.{Names}

-- two refusals that are one, or two values that are related
abbrev pub Alike : {X Y : Type 0} → (X → Y → Type 0) → Result X Refusal → Result Y Refusal → Type 0
Alike R (Ok x) (Ok y) = R x y
Alike R (Err refusal) (Err other) = refusal ≡ other
Alike R _ _ = ⊥

-- no name, or two that are related
abbrev pub BothNamed : (Named → Named → Type 0) → Option Named → Option Named → Type 0
BothNamed R (Some a) (Some b) = R a b
BothNamed R None None = Unit {0}
BothNamed R _ _ = ⊥

-- the same constant, or no constant on either side
pub record IsSameConstant (a b : Named) : Type 0 where
  pub constant : a.constant ≡ b.constant
  pub whole : a.constant ≡ true → a ≡ b

-- the same constant, or a net or variable of the same size, sign and range
pub record IsSameButForWord (a b : Named) : Type 0 where
  pub constant : a.constant ≡ b.constant
  pub ranged : a.ranged ≡ b.ranged
  pub size : a.size ≡ b.size
  pub signed : a.signed ≡ b.signed
  pub whole : a.constant ≡ true → a ≡ b

-- the same names are visible, the same of them are constants, and each constant is the same
abbrev pub HaveSameConstants : Names → Names → Type 0
HaveSameConstants f g = (name : List ℕ) → BothNamed IsSameConstant (f name) (g name)

-- the same names are visible, and they differ in the words and lowest positions of nets and variables alone
abbrev pub DifferInWords : Names → Names → Type 0
DifferInWords f g = (name : List ℕ) → BothNamed IsSameButForWord (f name) (g name)

-- meanings of one size and one sign
abbrev pub HaveSameShape : Meaning → Meaning → Type 0
HaveSameShape m n = (m.size ≡ n.size) × (m.signed ≡ n.signed)
