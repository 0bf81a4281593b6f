-- What the code finds, against what is defined.
use Rattle.std.specs.Prelude.{◌≡◌, ℕ, ◌≤◌, ◌<◌, Bool, List, []}
use Rattle.bit_ops.specs.Width.{IsWidth}
use Rattle.bit_ops.specs.declared.value.TheConstants.{MAX_WIDTH}
use Rattle.net_ir.specs.Value.{AreWordsOf}
use Rattle.net_ir.specs.Terms.{Has}
use Rattle.const_eval.specs.declared.env.Const.{Const}
use Rattle.const_eval.specs.Meaning.{Meaning, own}
use Rattle.const_eval.specs.Selects.{total, joined}
use Rattle.const_eval.specs.Expressions.{Positions, At, DownTo, UpFrom, DownFrom}
use Rattle.width_rules.specs.declared.measured.Measured.{Measured}
use Rattle.width_rules.specs.declared.joined.Joined.{Joined}
use Rattle.width_rules.specs.declared.joined.Joined.TheVariants.{Nothing, Whole, TooWide}
use Rattle.width_rules.specs.declared.taking.Taking.{Taking}
use Rattle.width_rules.specs.declared.taking.Taking.TheVariants as taking
use Rattle.width_rules.specs.Waiting.{term_in}

-- what was measured has the size and the sign of a meaning, and in each context a term of its value, on the valuation u
pub record Stands (ws u : List ℕ) (m : Measured) (meaning : Meaning) : Type 0 where
  pub words : AreWordsOf ws u
  pub width : IsWidth meaning.size
  pub size : m.size ≡ meaning.size
  pub signed : m.signed ≡ meaning.signed
  pub terms : (n : ℕ) (s : Bool) → meaning.size ≤ n → n ≤ MAX_WIDTH → Has ws u (term_in m.pending n s) n (meaning.value n s)

-- what was joined, against the meanings of the parts
abbrev pub IsJoined : List ℕ → List ℕ → Joined → List Meaning → Type 0
IsJoined ws u Nothing ms = ms ≡ []
IsJoined ws u (Whole w term) ms = IsWidth w × (w ≡ total ms) × Has ws u term w (joined ms)
IsJoined ws u TooWide ms = MAX_WIDTH < total ms

-- a constant that was found has the size, the sign and the value by itself of a meaning
abbrev pub IsFound : Const → Meaning → Type 0
IsFound c m = (c.value.width ≡ m.size) × (c.signed ≡ m.signed) × (c.value.word ≡ own m)

-- the positions of a select
abbrev pub ArePositions : List ℕ → List ℕ → Taking → Positions → Type 0
ArePositions ws u (taking.At a) (At p) = Stands ws u a p
ArePositions ws u (taking.DownTo a b) (DownTo high low) = IsFound a high × IsFound b low
ArePositions ws u (taking.UpFrom a b) (UpFrom p width) = Stands ws u a p × IsFound b width
ArePositions ws u (taking.DownFrom a b) (DownFrom p width) = Stands ws u a p × IsFound b width
ArePositions ws u _ _ = ⊥
