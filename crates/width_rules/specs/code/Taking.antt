-- A select of so many bits.
use Rattle.std.specs.Prelude.{Bool, if◌then◌else◌}
use Rattle.const_eval.specs.declared.env.Const.{Const}
use Rattle.width_rules.specs.declared.measured.Measured.{Measured}
use Rattle.width_rules.specs.declared.taking.Taking.{Taking}
use Rattle.width_rules.specs.declared.taking.Taking.TheVariants.{UpFrom, DownFrom}

-- so many bits from a position up, or from it down
abbrev pub indexed : Bool → Measured → Const → Taking
indexed down at width = if down then DownFrom at width else UpFrom at width
