-- What a function that writes a field says.
use Rattle.std.specs.Prelude.{◌≡◌, ℕ, List, ◌++◌}
use Rattle.sealed_library.specs.Fields.{Field}

-- the spelling of a value was added, and the value fits its field
pub record Writes {X : Type 0} (f : Field X) (old new : List ℕ) (x : X) : Type 0 where
  pub text : new ≡ old ++ f.spell x
  pub fits : f.Fits x
