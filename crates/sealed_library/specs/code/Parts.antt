-- The parts of a machine behind its chain, by their fields, and refusals as they are told.
use Rattle.std.specs.Prelude.{map}
use Rattle.sealed_library.specs.declared.parts.Parts.{Parts as Read}
use Rattle.sealed_library.specs.declared.fault.FormatFault.{FormatFault}
use Rattle.sealed_library.specs.declared.fault.FormatFault.TheVariants as format
use Rattle.sealed_library.specs.declared.fault.LibFault.{LibFault}
use Rattle.sealed_library.specs.declared.fault.LibFault.TheVariants.{BadMagic, BadVersion, Truncated, BadField, Trailing}
use Rattle.sealed_library.specs.Version1.{register_fields, child_fields, instruction_fields, Parts}

-- the parts as a tuple
abbrev pub parts_of : Read → Parts
parts_of p = (map register_fields p.regs, (map child_fields p.kids, (map instruction_fields p.code, p.outs)))

-- a refusal of the format, as it is told
abbrev pub told : FormatFault → LibFault
told format.BadMagic = BadMagic
told format.BadVersion = BadVersion
told format.Truncated = Truncated
told format.BadField = BadField
told format.Trailing = Trailing
