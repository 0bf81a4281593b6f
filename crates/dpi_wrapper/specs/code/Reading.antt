-- Reading from the front of the bytes what the comments of a wrapper say. What is read is a face whose text the bytes may be.
use Rattle.std.specs.Prelude.{◌≡◌, ℕ, zero, suc, ◌+◌, ◌-◌, ◌*◌, ◌^◌, Bool, true, false, ◌&&◌, ◌==◌, nat_lt, nat_le, List, [], ◌∷◌, length, take, drop, codes, Option, None, Some, Result, Ok, Err, if◌then◌else◌}
use Rattle.std.specs.List.{position}
use Rattle.std.specs.Str.{bytes_eq}
use Rattle.hex.specs.Hex.{decode_sized}
use Rattle.hex.specs.declared.error.FromHexError.{FromHexError}
use Rattle.sv_base.specs.declared.face.Class.{Class}
use Rattle.sv_base.specs.declared.face.Class.TheVariants.{Value, Clock, Idle, Output}
use Rattle.sv_base.specs.declared.face.Port.{Port}
use Rattle.sv_base.specs.declared.face.WrapperFace.{WrapperFace}
use Rattle.dpi_wrapper.specs.declared.good.TheConstants.{PORT_LIMIT, DIGEST_LENGTH}
use Rattle.dpi_wrapper.specs.declared.unread.Unread.{Unread}
use Rattle.dpi_wrapper.specs.declared.unread.Unread.TheVariants.{NoMemory, NoFace}

-- a step behind one that found something
infixl 10 ◌>>=◌
abbrev pub ◌>>=◌ : {A B : Type 0} → Option A → (A → Option B) → Option B
(Some x) >>= f = f x
None >>= f = None

-- what a function says where it returned nothing: what it read is nothing, unless memory ran out
abbrev pub Fails : {Y : Type 0} → Unread → Option Y → Type 0
Fails NoMemory read = Unit {0}
Fails NoFace read = read ≡ None

-- what a function returned, seen by view, is what was to be read, unless memory ran out
abbrev pub Gives : {X Y : Type 0} → (X → Y) → Result X Unread → Option Y → Type 0
Gives view (Ok x) read = read ≡ Some (view x)
Gives view (Err e) read = Fails e read

-- ---- parts of a line

-- the bytes behind a front
unfoldable pub behind : List ℕ → List ℕ → Option (List ℕ)
behind front bytes = if bytes_eq (take (length front) bytes) front then Some (drop (length front) bytes) else None

-- a blank
abbrev pub is_blank : ℕ → Bool
is_blank b = b == 32

-- the bytes before a place and those behind it
abbrev pub parts_at : List ℕ → Option ℕ → Option (List ℕ × List ℕ)
parts_at bytes None = None
parts_at bytes (Some at) = Some (take at bytes, drop (at + 1) bytes)

-- the bytes before the first blank and those behind it
unfoldable pub word_at : List ℕ → Option (List ℕ × List ℕ)
word_at bytes = parts_at bytes (position is_blank bytes)

-- a decimal digit
abbrev pub is_digit : ℕ → Bool
is_digit b = nat_le 48 b && nat_le b 57

-- a number with one more digit, where it has at most 32 bits
abbrev pub with_digit : ℕ → ℕ → Option ℕ
with_digit n b = if nat_lt (n * 10 + (b - 48)) (2 ^ 32) then Some (n * 10 + (b - 48)) else None

-- a number whose further digits stand at the front, and the bytes behind them
unfoldable pub number_from : ℕ → List ℕ → Option (ℕ × List ℕ)
number_from n [] = Some (n, [])
number_from n (b ∷ bytes) = if is_digit b then (with_digit n b >>= λ m. number_from m bytes) else Some (n, b ∷ bytes)

-- a number at the front, and the bytes behind it
abbrev pub number_at : List ℕ → Option (ℕ × List ℕ)
number_at bytes = number_from 0 bytes

-- the class of a word
unfoldable pub class_of : List ℕ → Option Class
class_of word =
    if bytes_eq word (codes "data") then Some Value
    else (if bytes_eq word (codes "clock") then Some Clock
    else (if bytes_eq word (codes "idle") then Some Idle else (if bytes_eq word (codes "output") then Some Output else None)))

-- whether a word says that a port is signed
unfoldable pub sign_of : List ℕ → Option Bool
sign_of word = if bytes_eq word (codes "s") then Some true else (if bytes_eq word (codes "u") then Some false else None)

-- a digest and the bytes behind it
abbrev pub digest_with : List ℕ → Result (List ℕ) FromHexError → Option (List ℕ × List ℕ)
digest_with rest (Ok digest) = Some (digest, rest)
digest_with rest (Err e) = None

-- the digest whose digits stand at the front, and the bytes behind it
unfoldable pub digest_at : List ℕ → Option (List ℕ × List ℕ)
digest_at bytes =
    if nat_lt (length bytes) (2 * DIGEST_LENGTH) then None
    else digest_with (drop (2 * DIGEST_LENGTH) bytes) (decode_sized (take (2 * DIGEST_LENGTH) bytes) DIGEST_LENGTH)

-- ---- lists of parts

-- what follows, where a front was found or not
abbrev pub items_behind : {X : Type 0} → (List ℕ → Option (X × List ℕ)) → (List ℕ → Option (List X × List ℕ)) → List ℕ
    → Option (List ℕ) → Option (List X × List ℕ)
items_behind item others bytes None = Some ([], bytes)
items_behind item others bytes (Some rest) = item rest >>= λ first. others first.1 >>= λ xs. Some (first.0 ∷ xs.0, xs.1)

-- as long as a front stands there, what stands behind it, at most so often; and the bytes behind the last
unfoldable pub items_at : {X : Type 0} → List ℕ → (List ℕ → Option (X × List ℕ)) → ℕ → List ℕ → Option (List X × List ℕ)
items_at front item zero bytes = Some ([], bytes)
items_at front item (suc limit) bytes = items_behind item (items_at front item limit) bytes (behind front bytes)

-- the port whose words stand at the front
unfoldable pub port_at : List ℕ → Option (Port × List ℕ)
port_at bytes = do
  name ← word_at bytes
  class ← word_at name.1
  kind ← class_of class.0
  sign ← word_at class.1
  signed ← sign_of sign.0
  width ← number_at sign.1
  rest ← behind (codes "\n") width.1
  Some (record { name = name.0; class = kind; signed = signed; width = width.0 }, rest)

-- the row whose numbers stand at the front; the first is that of its output
unfoldable pub row_at : List ℕ → Option (List ℕ × List ℕ)
row_at bytes = do
  output ← number_at bytes
  row ← items_at (codes " ") number_at PORT_LIMIT output.1
  rest ← behind (codes "\n") row.1
  Some (row.0, rest)

-- ---- the whole

-- the face that the comments and the name of the module make
unfoldable pub candidate_of : List ℕ → Option WrapperFace
candidate_of bytes = do
  start ← behind (codes "// hier_wrapper 1\n// digest ") bytes
  digest ← digest_at start
  notes ← behind (codes "\n") digest.1
  ports ← items_at (codes "// port ") port_at PORT_LIMIT notes
  rows ← items_at (codes "// depends ") row_at PORT_LIMIT ports.1
  module_start ← behind (codes "module ") rows.1
  name ← word_at module_start
  Some (record { face = record { name = name.0; ports = ports.0 }; summary = record { rows = rows.0 }; digest = digest.0 })
