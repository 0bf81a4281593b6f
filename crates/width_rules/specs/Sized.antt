-- Terms with the size and the value that expressions have in a context, and lawful ones.
use Rattle.std.specs.Prelude.{◌≡◌, ℕ, Bool, List, Option, Ok, Err, IfSome, unwrap_or}
use Rattle.bit_ops.specs.Width.{IsWidth}
use Rattle.net_ir.specs.declared.term.Term.{Term}
use Rattle.net_ir.specs.Value.{size, val}
use Rattle.net_ir.specs.Lawful.{IsLawful}
use Rattle.const_eval.specs.Meaning.{Meaning, assigned, assigned_size}
use Rattle.const_eval.specs.Expressions.{Judged}
use Rattle.width_rules.specs.declared.measured.Measured.{Measured}
use Rattle.width_rules.specs.Assigning.{assigned_term}

-- On the valuation u a term has the size and the value that an expression has where it is assigned to so many bits, in an unsigned
-- context where it is said so, and its own sign is told beside it.
pub record IsSizedTerm (ws u : List ℕ) (target : Option ℕ) (unsigned : Bool) (m : Meaning) (term : Term) (signed : Bool) : Type 0 where
  pub size : size ws term ≡ assigned_size target m
  pub value : val ws u term ≡ assigned target unsigned m
  pub sign : signed ≡ m.signed

-- so of an expression that is not refused
abbrev pub IsSized : List ℕ → List ℕ → Option ℕ → Bool → Judged → Term × Bool → Type 0
IsSized ws u target unsigned (Ok m) answer = IsSizedTerm ws u target unsigned m answer.0 answer.1
IsSized ws u target unsigned (Err refusal) answer = ⊥

-- What was measured has a size that a value may have, and for each target a lawful term of the target's size, or of its own where
-- there is none.
pub record IsMeasuredIn (ws : List ℕ) (m : Measured) : Type 0 where
  pub width : IsWidth m.size
  pub lawful : (target : Option ℕ) (unsigned : Bool) → IfSome target IsWidth → IsLawful ws (assigned_term m target unsigned)
  pub sized : (target : Option ℕ) (unsigned : Bool) → IfSome target IsWidth → size ws (assigned_term m target unsigned) ≡ unwrap_or target m.size
