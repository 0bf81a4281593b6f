use Rattle.std.proofs.Common.{◌≡◌, ◌+◌, ℕ, length, take}
use Rattle.std.specs.Prelude.{slice_get, Some}
use Rattle.std.specs.List.{flat_map}
use Rattle.code_isa.specs.declared.machine.Kid.{Kid}
use Rattle.code_isa.specs.Slots.{first_kid_output}
use Rattle.wrapper_core.specs.declared.buffer.Buffer.{Buffer}
use Rattle.wrapper_core.specs.code.Cores.{IsBuffer}
use Rattle.wrapper_core.proofs.Cores.{kid_widths}
use Rattle.wrapper_core.proofs.making.buffers_of.Given as goal

abbrev pub invariant-loop-kid : goal.invariant-loop-kid
invariant-loop-kid l = record {
  each : length l.buffers.items ≡ l.kid-index;
  first : l.first ≡ first_kid_output l.m + length (flat_map kid_widths (take l.kid-index l.m.kids));
  fit : (i : ℕ) (kid : Kid) (b : Buffer) → slice_get l.m.kids i ≡ Some kid → slice_get l.buffers.items i ≡ Some b → IsBuffer l.m i kid b;
}
