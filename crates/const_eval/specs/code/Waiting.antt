-- Values that wait for the size and the sign of their context.
use Rattle.std.specs.Prelude.{ℕ, ◌^◌, ◌-◌, Bool, max, if◌then◌else◌}
use Rattle.const_eval.specs.declared.pending.Pending.{Pending}
use Rattle.const_eval.specs.declared.pending.Pending.TheOpen as pending
use Rattle.const_eval.specs.declared.pending.Pending.TheOpen.{Pending-F}
use Rattle.const_eval.specs.declared.pending.Pending.TheFolds.{fold-Pending}
use Rattle.const_eval.specs.Meaning.{extended}
use Rattle.const_eval.specs.Operations.{changed_by, combined_by, moved_by}

-- what a pending value is in a context, from what its parts are
abbrev pub value_layer : Pending-F (ℕ → Bool → ℕ) → ℕ → Bool → ℕ
value_layer (pending.Alone bits) n s = extended s bits.width n bits.word
value_layer (pending.Fill one) n s = if one then 2 ^ n - 1 else 0
value_layer (pending.Changed change a) n s = changed_by change n (a n s)
value_layer (pending.Combined operation a b) n s = combined_by operation n s (a n s) (b n s)
value_layer (pending.Moved movement a amount) n s = moved_by movement n s (a n s) amount

-- what a pending value is in a context
abbrev pub value_of : Pending → ℕ → Bool → ℕ
value_of p = fold-Pending (ℕ → Bool → ℕ) value_layer p

-- the least size that a context of a pending value may have, from those of its parts
abbrev pub least_layer : Pending-F ℕ → ℕ
least_layer (pending.Alone bits) = bits.width
least_layer (pending.Fill one) = 1
least_layer (pending.Changed change a) = a
least_layer (pending.Combined operation a b) = max a b
least_layer (pending.Moved movement a amount) = a

abbrev pub least_size : Pending → ℕ
least_size p = fold-Pending ℕ least_layer p
