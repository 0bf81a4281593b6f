-- The bytes of a library: the name of the format, the number of its version, and the fields of one machine.
use Rattle.std.specs.Prelude.{◌≡◌, ℕ, ◌==◌, List, ◌∷◌, ◌++◌, length, take, drop, codes, ⊤, Result, Ok, Err, if◌then◌else◌}
use Rattle.std.specs.Str.{bytes_eq}
use Rattle.std.specs.Int.{w8}
use Rattle.code_isa.specs.declared.machine.Machine.{Machine}
use Rattle.code_isa.specs.Checks.{IsChecked}
use Rattle.code_isa.specs.Faults.{IsFirstFault}
use Rattle.sealed_library.specs.declared.fault.FormatFault.{FormatFault}
use Rattle.sealed_library.specs.declared.fault.FormatFault.TheVariants as format
use Rattle.sealed_library.specs.declared.fault.LibFault.{LibFault}
use Rattle.sealed_library.specs.declared.fault.LibFault.TheVariants.{BadMagic, BadVersion, Truncated, BadField, Trailing, Code, NoMemory}
use Rattle.sealed_library.specs.Fields.{◌>>=◌, number}
use Rattle.sealed_library.specs.Version1.{Fields, machine_field, machine_fields}

-- the name of the format, with which a library begins
abbrev pub magic : List ℕ
magic = codes "HIERLIB"

-- the bytes of these fields, of version 1
unfoldable pub library_text : Fields → List ℕ
library_text x = magic ++ 1 ∷ machine_field.spell x

-- the bytes are those of the machine, each of whose numbers fits its field; the machine may have faults
pub record Spells (bytes : List ℕ) (m : Machine) : Type 0 where
  pub fits : machine_field.Fits (machine_fields m)
  pub text : bytes ≡ library_text (machine_fields m)

-- the bytes are the library of a checked machine
pub record IsLibrary (bytes : List ℕ) (m : Machine) : Type 0 where
  pub checked : IsChecked m
  pub spells : Spells bytes m

-- ---- what is refused

-- the bytes behind the name of the format
unfoldable pub magic_at : List ℕ → Result (List ℕ) FormatFault
magic_at bytes = if bytes_eq (take (length magic) bytes) magic then Ok (drop (length magic) bytes) else Err format.BadMagic

-- the fields of a version, of which there is one so far
unfoldable pub version_at : ℕ → List ℕ → Result (Fields × List ℕ) FormatFault
version_at version bytes = if version == 1 then machine_field.read bytes else Err format.BadVersion

-- all of the bytes, from the left: their fields, or the first refusal
unfoldable pub library_at : List ℕ → Result Fields FormatFault
library_at bytes = do
  start ← magic_at bytes
  version ← (number w8).read start
  fields ← version_at version.0 version.1
  if length fields.1 == 0 then Ok fields.0 else Err format.Trailing

-- why bytes are refused: the first field that the format refuses, or the first fault of the machine that they spell; want of
-- memory says nothing of them
abbrev pub IsRefused : List ℕ → LibFault → Type 0
IsRefused bytes BadMagic = library_at bytes ≡ Err format.BadMagic
IsRefused bytes BadVersion = library_at bytes ≡ Err format.BadVersion
IsRefused bytes Truncated = library_at bytes ≡ Err format.Truncated
IsRefused bytes BadField = library_at bytes ≡ Err format.BadField
IsRefused bytes Trailing = library_at bytes ≡ Err format.Trailing
IsRefused bytes (Code fault) = (m : Machine) × Spells bytes m × IsFirstFault m fault
IsRefused bytes NoMemory = ⊤
