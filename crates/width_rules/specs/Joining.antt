-- Terms of parts that are joined (IEEE 1800-2017, 11.4.12).
use Rattle.std.specs.Prelude.{ℕ, ◌+◌, ◌*◌, ◌==◌, Bool, false, ◌&&◌, nat_le, if◌then◌else◌, Result, Ok, Err}
use Rattle.bit_ops.specs.declared.value.TheConstants.{MAX_WIDTH}
use Rattle.bit_ops.specs.declared.operation.Op.TheVariants as op
use Rattle.sv_base.specs.declared.kind.Kind.TheVariants as kind
use Rattle.sv_base.specs.declared.refusal.Place.{Place}
use Rattle.sv_base.specs.declared.refusal.Refusal.{Refusal}
use Rattle.const_eval.specs.Selects.{copies}
use Rattle.const_eval.specs.Expressions.{unnamed_at}
use Rattle.net_ir.specs.declared.term.Term.{Term, Const}
use Rattle.width_rules.specs.declared.measured.Measured.{Measured}
use Rattle.width_rules.specs.declared.joined.Joined.{Joined}
use Rattle.width_rules.specs.declared.joined.Joined.TheVariants.{Nothing, Whole, TooWide}
use Rattle.width_rules.specs.Building.{two_of, extended_to}
use Rattle.width_rules.specs.Waiting.{own_term}
use Rattle.width_rules.specs.Operations.{alone}
use Rattle.width_rules.specs.Values.{bits_of}

-- one part more, which stands below the others
abbrev pub joined_with : Joined → Measured → Joined
joined_with Nothing part = Whole part.size (own_term part)
joined_with (Whole w above) part =
    if nat_le (w + part.size) MAX_WIDTH then Whole (w + part.size) (two_of op.Concat (w + part.size) above (own_term part)) else TooWide
joined_with TooWide part = TooWide

-- what is made of parts at this place
abbrev pub concatenation : Place → Joined → Result Measured Refusal
concatenation place Nothing = Err (unnamed_at kind.BadRange place)
concatenation place (Whole w term) = Ok (alone w false term)
concatenation place TooWide = Err (unnamed_at kind.TooWide place)

-- so many copies of a term: one product with a 1 at the lowest place of each copy, so that the term stands in it once
abbrev pub repetition : ℕ → ℕ → Term → Measured
repetition count w term =
    alone (count * w) false (two_of op.Mul (count * w) (extended_to (count * w) false w term) (Const (bits_of (count * w) (copies count w 1))))

-- whether so many copies of some bits are a width that a value may have
abbrev pub fits : ℕ → ℕ → Bool
fits count w = nat_le 1 w && nat_le (count * w) MAX_WIDTH

-- so many copies of parts, at least one
abbrev pub copied : Place → ℕ → Joined → Result Measured Refusal
copied place count Nothing = Err (unnamed_at kind.BadRange place)
copied place count (Whole w term) = if fits count w then Ok (repetition count w term) else Err (unnamed_at kind.TooWide place)
copied place count TooWide = Err (unnamed_at kind.TooWide place)

-- so many copies of parts at this place
abbrev pub repeated : Place → ℕ → Joined → Result Measured Refusal
repeated place count joined = if count == 0 then Err (unnamed_at kind.BadRange place) else copied place count joined
