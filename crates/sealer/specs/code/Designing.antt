-- Why a module has no plain design.
use Rattle.std.specs.Prelude.{◌≡◌, ◌⊎◌, Ok, Err}
use Rattle.sv_base.specs.declared.refusal.Refusal.{Refusal}
use Rattle.sv_ast.specs.declared.module.Module.{Module}
use Rattle.net_ir.specs.declared.design.Spec.{Spec}
use Rattle.elaborate.specs.Items.{specialised}
use Rattle.plain_run.specs.Plain.{IsPlain}
use Rattle.sealer.specs.Design.{not_plain}

-- it has no specialisation, or one that is not plain
abbrev pub IsFlaw : Module → Refusal → Type 0
IsFlaw m refusal =
    (specialised m ≡ Err refusal) ⊎ ((spec : Spec) × (specialised m ≡ Ok spec) × (IsPlain spec → ⊥) × (refusal ≡ not_plain))
