-- Fields of a format: how a value is spelled, which values have a spelling, and what is read where one may stand.
use Rattle.std.specs.Prelude.{◌≡◌, ℕ, zero, suc, ◌*◌, ◌^◌, ◌<◌, Bool, List, [], ◌∷◌, ◌++◌, length, take, drop, All, IsTrue, ⊤, Option, Some, None, Result, Ok, Err, nat_lt, if◌then◌else◌}
use Rattle.std.specs.List.{flat_map}
use Rattle.std.specs.Int.{Width, w8, byte_len, from_be_bytes, to_be_bytes}
use Rattle.sealed_library.specs.declared.fault.FormatFault.{FormatFault}
use Rattle.sealed_library.specs.declared.fault.FormatFault.TheVariants.{Truncated, BadField}

-- what is read behind what was read first; the first refusal is told
infixl 10 ◌>>=◌
abbrev pub ◌>>=◌ : {A B : Type 0} → Result A FormatFault → (A → Result B FormatFault) → Result B FormatFault
(Ok x) >>= f = f x
(Err e) >>= f = Err e

-- a field: the one spelling of a value, the values that have one, and what is read at the front of some bytes: the value whose
-- spelling stands there with the bytes behind it, or why none stands there
pub record Field (X : Type 0) : Type 1 where
  pub spell : X → List ℕ
  pub Fits : X → Type 0
  pub read : List ℕ → Result (X × List ℕ) FormatFault

-- ---- fields without parts

-- an unsigned number, its highest byte first
abbrev pub number : Width → Field ℕ
number w = record {
  spell = λ n. to_be_bytes w n;
  Fits = λ n. n < 2 ^ (8 * byte_len w);
  read = λ bytes.
      if nat_lt (length bytes) (byte_len w) then Err Truncated
      else Ok (from_be_bytes w (take (byte_len w) bytes), drop (byte_len w) bytes);
}

-- this many bytes, as they are
abbrev pub bytes_of : ℕ → Field (List ℕ)
bytes_of n = record {
  spell = λ text. text;
  Fits = λ text. (length text ≡ n) × All (λ b. b < 256) text;
  read = λ bytes. if nat_lt (length bytes) n then Err Truncated else Ok (take n bytes, drop n bytes);
}

-- no byte, which stands for 0
abbrev pub nothing : Field ℕ
nothing = record {
  spell = λ n. [];
  Fits = λ n. n ≡ 0;
  read = λ bytes. Ok (0, bytes);
}

-- what a byte stands for, with the bytes behind it
abbrev pub meant : {X : Type 0} → Option X → List ℕ → Result (X × List ℕ) FormatFault
meant None rest = Err BadField
meant (Some x) rest = Ok (x, rest)

-- one byte that stands for a thing
abbrev pub named : {X : Type 0} → (X → ℕ) → (ℕ → Option X) → Field X
named byte_of meaning_of = record {
  spell = λ x. byte_of x ∷ [];
  Fits = λ x. ⊤;
  read = λ bytes. (number w8).read bytes >>= λ b. meant (meaning_of b.0) b.1;
}

-- ---- fields of other fields

-- a field whose values pass a test, which is made where the field ends
abbrev pub tested : {X : Type 0} → Field X → (X → Bool) → Field X
tested f passes = record {
  spell = λ x. f.spell x;
  Fits = λ x. f.Fits x × IsTrue (passes x);
  read = λ bytes. f.read bytes >>= λ x. if passes x.0 then Ok x else Err BadField;
}

-- a field, and behind it one that may go by the value of the first
infixr 6 ◌▷◌
abbrev pub ◌▷◌ : {A B : Type 0} → Field A → (A → Field B) → Field (A × B)
f ▷ g = record {
  spell = λ x. f.spell x.0 ++ (g x.0).spell x.1;
  Fits = λ x. f.Fits x.0 × (g x.0).Fits x.1;
  read = λ bytes. f.read bytes >>= λ a. (g a.0).read a.1 >>= λ b. Ok ((a.0, b.0), b.1);
}

-- a size, and behind it a value of that size
abbrev pub sized : {X : Type 0} → Field ℕ → (X → ℕ) → (ℕ → Field X) → Field X
sized count size_of f = record {
  spell = λ x. count.spell (size_of x) ++ (f (size_of x)).spell x;
  Fits = λ x. count.Fits (size_of x) × (f (size_of x)).Fits x;
  read = λ bytes. count.read bytes >>= λ n. (f n.0).read n.1;
}

-- so many values, one behind the other
unfoldable pub items_at : {X : Type 0} → (List ℕ → Result (X × List ℕ) FormatFault) → ℕ → List ℕ → Result (List X × List ℕ) FormatFault
items_at item zero bytes = Ok ([], bytes)
items_at item (suc n) bytes = item bytes >>= λ first. items_at item n first.1 >>= λ others. Ok (first.0 ∷ others.0, others.1)

-- so many fields, one behind the other
abbrev pub repeated : {X : Type 0} → Field X → ℕ → Field (List X)
repeated f n = record {
  spell = λ xs. flat_map f.spell xs;
  Fits = λ xs. (length xs ≡ n) × All f.Fits xs;
  read = λ bytes. items_at f.read n bytes;
}

-- a count, and behind it so many fields
abbrev pub counted : {X : Type 0} → Field ℕ → Field X → Field (List X)
counted count f = sized count length (repeated f)

-- a field seen as another type
abbrev pub seen : {X Y : Type 0} → (X → Y) → (Y → X) → Field Y → Field X
seen to from f = record {
  spell = λ x. f.spell (to x);
  Fits = λ x. f.Fits (to x);
  read = λ bytes. f.read bytes >>= λ y. Ok (from y.0, y.1);
}
