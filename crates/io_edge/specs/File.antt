-- the files that a folder tells
use Rattle.std.specs.Prelude.{◌≡◌, ℕ, ◌^◌, ◌≤◌, List, [], length, drop, ⊤, Option, None, Some, unwrap_or, option_map}
use Rattle.std.specs.Ordering.{nat_cmp}
use Rattle.std.specs.Cmp.Lexicographic.{slice_cmp}
use Rattle.std.specs.FinMap.{FinMap, get, insert, remove}
use Rattle.io_edge.specs.declared.folder.Got.{Got}
use Rattle.io_edge.specs.declared.folder.Got.TheVariants.{Absent, Bytes}
use Rattle.io_edge.specs.Told.{IsNext}

-- the bytes of each name that is there
abbrev pub Files : Type 0
Files = FinMap (slice_cmp nat_cmp) (List ℕ)

-- the number of bytes that was answered is at most this
abbrev pub IsAtMost : Got → ℕ → Type 0
IsAtMost Absent room = ⊤
IsAtMost (Bytes n) room = n ≤ room

-- what a read from this place of a file answers: `Absent` exactly where there is no file, else its next bytes
abbrev pub IsReadOf : Option (List ℕ) → ℕ → List ℕ → Got → Type 0
IsReadOf None at buffer Absent = ⊤
IsReadOf None at buffer (Bytes n) = ⊥
IsReadOf (Some bytes) at buffer Absent = ⊥
IsReadOf (Some bytes) at buffer (Bytes n) = IsNext (drop at bytes) buffer n

-- the answer to a read of a name from this place, where the files are told
abbrev pub IsAnswer : Option Files → List ℕ → ℕ → List ℕ → Got → Type 0
IsAnswer None name at buffer got = ⊤
IsAnswer (Some files) name at buffer got = IsReadOf (get files name) at buffer got

-- where the files are told, this name has exactly these bytes and every other name stays
abbrev pub Wrote : Option Files → Option Files → List ℕ → List ℕ → Type 0
Wrote before after name bytes = after ≡ option_map (λ files. insert files name bytes) before

-- every name but this one stays; nothing is said of this one
abbrev pub ChangedOnly : Option Files → Option Files → List ℕ → Type 0
ChangedOnly before after name = option_map (λ files. remove files name) after ≡ option_map (λ files. remove files name) before

-- no file is longer than a file may be
abbrev pub AreShort : Option Files → Type 0
AreShort None = ⊤
AreShort (Some files) = (name bytes : List ℕ) → get files name ≡ Some bytes → length bytes ≤ 2 ^ 63

-- the bytes of a file from this place on, none where the name isn't there
abbrev pub rest_of : Option Files → List ℕ → ℕ → Option (List ℕ)
rest_of files name at = option_map (λ map. drop at (unwrap_or (get map name) [])) files
