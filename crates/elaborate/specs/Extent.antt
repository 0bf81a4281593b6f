-- The width, range and sign that a declaration gives its names (IEEE 1800-2017, 6.8, 6.9 and 6.11).
use Rattle.std.specs.Prelude.{ℕ, Bool, true, false, not, ◌||◌, nat_lt, ℤ, pos, ◌+ℤ◌, ◌-ℤ◌, int_lt, unsigned_abs, List, codes, Option, None, Some, Result, Ok, Err, if◌then◌else◌}
use Rattle.std.specs.List.{list_any}
use Rattle.std.specs.Str.{bytes_eq}
use Rattle.bit_ops.specs.declared.value.TheConstants.{MAX_WIDTH}
use Rattle.sv_base.specs.declared.kind.Kind.TheVariants.{BadRange, TooWide}
use Rattle.sv_base.specs.declared.refusal.Refusal.{Refusal}
use Rattle.sv_ast.specs.declared.expression.Id.{Id}
use Rattle.sv_ast.specs.declared.item.Range.{Range}
use Rattle.sv_ast.specs.declared.item.Shape.{Shape}
use Rattle.const_eval.specs.Meaning.{number}
use Rattle.const_eval.specs.Expressions.{◌>>=◌, refused_at}
use Rattle.elaborate.specs.declared.extent.Extent.{Extent}
use Rattle.elaborate.specs.Names.{Names, constant_at}

-- whether a word stands among those of a type
abbrev pub has_word : List ℕ → List Id → Bool
has_word word words = list_any (λ (w : Id). bytes_eq w.name word) words

-- whether it is a type of 32 bits, which is signed unless it says otherwise (6.11)
abbrev pub is_integer : List Id → Bool
is_integer words = has_word (codes "int") words || has_word (codes "integer") words

-- whether it declares a net
abbrev pub is_net : List Id → Bool
is_net words = has_word (codes "wire") words

-- whether a sign is this word
abbrev pub says : List ℕ → Option Id → Bool
says word None = false
says word (Some sign) = bytes_eq sign.name word

-- the bounds of a written range, both constants
abbrev pub span_of : Names → Option Range → Result (Option (ℤ × ℤ)) Refusal
span_of names None = Ok None
span_of names (Some range) = constant_at names range.high >>= λ high. constant_at names range.low >>= λ low. Ok (Some (number high, number low))

-- whether the bounds of a range are out of order or of their limits
abbrev pub is_bad_span : ℤ → ℤ → Bool
is_bad_span high low = int_lt high low || int_lt low (pos 0) || int_lt (pos 4294967295) high

-- the extent of a range of so many bits
abbrev pub spanned : Id → Bool → ℕ → ℕ → Result Extent Refusal
spanned name signed width low =
    if nat_lt MAX_WIDTH width then Err (refused_at TooWide name)
    else Ok (record { width = width; low = low; ranged = true; signed = signed })

-- the extent of what has this range, or none, which is told of this name where it is bad or too wide
abbrev pub ranged_extent : Id → Bool → Option (ℤ × ℤ) → Result Extent Refusal
ranged_extent name signed None = Ok (record { width = 1; low = 0; ranged = false; signed = signed })
ranged_extent name signed (Some span) =
    if is_bad_span span.0 span.1 then Err (refused_at BadRange name)
    else spanned name signed (unsigned_abs (span.0 -ℤ span.1 +ℤ pos 1)) (unsigned_abs span.1)

-- the extent of a type with this range, or none: one of 32 bits has no written range
abbrev pub extent_of : Id → Shape → Option (ℤ × ℤ) → Result Extent Refusal
extent_of name shape span =
    if is_integer shape.words
    then Ok (record { width = 32; low = 0; ranged = false; signed = not (says (codes "unsigned") shape.sign) })
    else ranged_extent name (says (codes "signed") shape.sign) span
