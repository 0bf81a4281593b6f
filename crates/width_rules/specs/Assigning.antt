-- The term that is assigned to a target.
use Rattle.std.specs.Prelude.{ℕ, Bool, not, ◌&&◌, max, Option, None, Some, unwrap_or}
use Rattle.net_ir.specs.declared.term.Term.{Term}
use Rattle.width_rules.specs.declared.measured.Measured.{Measured}
use Rattle.width_rules.specs.Building.{cut_to}
use Rattle.width_rules.specs.Waiting.{term_in}

-- the size at which an expression of a size is taken where it has this target
abbrev pub context_size : Option ℕ → ℕ → ℕ
context_size None own = own
context_size (Some width) own = max width own

-- what was measured as the term that is assigned to a target, in an unsigned context where that is asked for
abbrev pub assigned_term : Measured → Option ℕ → Bool → Term
assigned_term m target unsigned = cut_to (unwrap_or target m.size) (context_size target m.size) (term_in m.pending (context_size target m.size) (not unsigned && m.signed))
