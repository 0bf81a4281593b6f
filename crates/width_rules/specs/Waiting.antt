-- Terms that wait for the size and the sign of their context.
use Rattle.std.specs.Prelude.{ℕ, Bool}
use Rattle.bit_ops.specs.declared.operation.Op.TheVariants as op
use Rattle.net_ir.specs.declared.term.Term.{Term, Const}
use Rattle.width_rules.specs.declared.pending.Pending.{Pending}
use Rattle.width_rules.specs.declared.pending.Pending.TheOpen as pending
use Rattle.width_rules.specs.declared.pending.Pending.TheOpen.{Pending-F}
use Rattle.width_rules.specs.declared.pending.Pending.TheFolds.{fold-Pending}
use Rattle.width_rules.specs.declared.measured.Measured.{Measured}
use Rattle.width_rules.specs.Building.{one_of, two_of, choice_of, extended_to, change_by, combined_to, shift_by}

-- the term of a pending one in a context, from those of its parts
abbrev pub term_layer : Pending-F (ℕ → Bool → Term) → ℕ → Bool → Term
term_layer (pending.Alone width term) n s = extended_to n s width term
term_layer (pending.Fill bit) n s = one_of op.Sext n (Const bit)
term_layer (pending.Changed change a) n s = one_of (change_by change) n (a n s)
term_layer (pending.Combined operation a b) n s = combined_to operation n s (a n s) (b n s)
term_layer (pending.Shifted shift a amount) n s = two_of (shift_by shift s) n (a n s) amount
term_layer (pending.Chosen bit a b) n s = choice_of n bit (a n s) (b n s)

-- the term of a pending one in a context of this size and sign
abbrev pub term_in : Pending → ℕ → Bool → Term
term_in p = fold-Pending (ℕ → Bool → Term) term_layer p

-- the term of what was measured, by itself
abbrev pub own_term : Measured → Term
own_term m = term_in m.pending m.size m.signed

-- a bit that says whether it is not 0
abbrev pub holds_term : Measured → Term
holds_term m = one_of op.RedOr 1 (own_term m)
