-- Units whose code is shared.
use Rattle.linked_units.specs.declared.unit.Unit as declared
use Rattle.linked_units.specs.declared.linked.Shared.{Shared}

-- the unit
abbrev pub unit_of : Shared → declared.Unit
unit_of s = record { code = s.code.value; kids = s.kids }
