-- What the rows of reads need of slots and positions.
use Rattle.std.specs.Prelude.{ℕ, ◌<◌, ◌^◌, List, length, All}
use Rattle.code_isa.specs.declared.machine.Kid.{Kid}

-- each number has at most 32 bits
abbrev pub IsNarrow : List ℕ → Type 0
IsNarrow slots = All (λ slot. slot < 2 ^ 32) slots

-- each row of a child's summary names inputs that are joined
abbrev pub AreJoinedWithin : Kid → Type 0
AreJoinedWithin kid = All (λ row. All (λ p. p < length kid.ins) row) kid.summary.rows
