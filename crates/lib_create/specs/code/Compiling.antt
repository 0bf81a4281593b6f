-- What a source file was found to be.
use Rattle.std.specs.Prelude.{◌≡◌, ℕ, List, map, Option, None, Some, ⊤}
use Rattle.std.specs.List.{IsDistinct}
use Rattle.std.specs.Str.{bytes_eq}
use Rattle.sv_base.specs.declared.face.Port.{Port}
use Rattle.net_ir.specs.declared.design.Spec.{Spec}
use Rattle.net_ir.specs.Face.{ports_of}
use Rattle.plain_run.specs.Plain.{IsPlain}
use Rattle.sealer.specs.Source.{HasDesign, IsRefused}
use Rattle.lib_create.specs.declared.compile.Compiled.{Compiled}
use Rattle.lib_create.specs.declared.compile.Compiled.TheVariants.{Absent, Refused, Design}

-- what a name holds is: not there, refused as a source of this top, or the source of a design
abbrev pub IsCompiled : Option (List ℕ) → List ℕ → Compiled → Type 0
IsCompiled None top Absent = ⊤
IsCompiled None top (Refused refusal) = ⊥
IsCompiled None top (Design spec) = ⊥
IsCompiled (Some bytes) top Absent = ⊥
IsCompiled (Some bytes) top (Refused refusal) = IsRefused top bytes refusal
IsCompiled (Some bytes) top (Design spec) = HasDesign top bytes spec

-- a design that can be played is plain, and no two of its ports have one name
abbrev pub IsFit : Compiled → Type 0
IsFit Absent = ⊤
IsFit (Refused refusal) = ⊤
IsFit (Design spec) = IsPlain spec × IsDistinct bytes_eq (map (λ (p : Port). p.name) (ports_of spec))
