-- What was read of a file.
use Rattle.std.specs.Prelude.{◌≡◌, ℕ, ◌<◌, ◌≤◌, List, [], length, take, Option, None, Some, ⊤}
use Rattle.lib_create.specs.declared.load.Loaded.{Loaded}
use Rattle.lib_create.specs.declared.load.Loaded.TheVariants.{Absent, TooLong, Bytes}

-- what a name holds was read: that it isn't there, that it has more bytes than the limit, or all its bytes
abbrev pub IsLoaded : Option (List ℕ) → ℕ → Loaded → Type 0
IsLoaded None limit Absent = ⊤
IsLoaded None limit TooLong = ⊥
IsLoaded None limit (Bytes v) = ⊥
IsLoaded (Some bytes) limit Absent = ⊥
IsLoaded (Some bytes) limit TooLong = limit < length bytes
IsLoaded (Some bytes) limit (Bytes v) = (v.items ≡ bytes) × (length bytes ≤ limit)

-- no more bytes than the limit were read
abbrev pub IsWithin : ℕ → Loaded → Type 0
IsWithin limit Absent = ⊤
IsWithin limit TooLong = ⊤
IsWithin limit (Bytes v) = length v.items ≤ limit

-- these bytes are a front of what a name holds; none are where it isn't there
abbrev pub IsFrontOf : Option (List ℕ) → List ℕ → Type 0
IsFrontOf None front = front ≡ []
IsFrontOf (Some bytes) front = (length front ≤ length bytes) × (take (length front) bytes ≡ front)
