-- What a trial of a machine keeps.
use Rattle.std.specs.Prelude.{◌≡◌, length}
use Rattle.bit_ops.specs.Lists.{words, widths}
use Rattle.code_isa.specs.Slots.{slot_widths}
use Rattle.code_isa.specs.Uses.{AreUsesOf}
use Rattle.code_isa.specs.Activity.{HaveValuesBut}
use Rattle.machine_text.specs.declared.trial.Trial.{Trial}

-- each slot has its width, and each instruction that is not marked has its value
pub record IsTrial (t : Trial) : Type 0 where
  pub uses : AreUsesOf t.m t.uses.rows
  pub shape : widths t.slots.items ≡ slot_widths t.m
  pub sized : length t.marks ≡ length t.m.code
  pub settled : HaveValuesBut t.m t.marks (words t.slots.items)
