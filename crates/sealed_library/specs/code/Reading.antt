-- What a function that reads a field says.
use Rattle.std.specs.Prelude.{◌≡◌, ⊤, Result, Ok, Err}
use Rattle.sealed_library.specs.declared.fault.FormatFault.{FormatFault}
use Rattle.sealed_library.specs.declared.fault.Unread.{Unread}
use Rattle.sealed_library.specs.declared.fault.Unread.TheVariants.{Memory, Refused}

-- what a function says where it returned nothing: the refusal of what it read, unless memory ran out
abbrev pub Fails : {Y : Type 0} → Unread → Result Y FormatFault → Type 0
Fails Memory read = ⊤
Fails (Refused e) read = read ≡ Err e

-- what a function returned, seen by view, is what was to be read, unless memory ran out
abbrev pub Gives : {X Y : Type 0} → (X → Y) → Result X Unread → Result Y FormatFault → Type 0
Gives view (Ok x) read = read ≡ Ok (view x)
Gives view (Err e) read = Fails e read
