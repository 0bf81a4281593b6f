-- What is known of a world at all times, and the moment that it stands at.
use Rattle.std.specs.Prelude.{◌≡◌, ℕ, Bool, true, false, Some, None, List, length, slice_get, if◌then◌else◌}
use Rattle.bit_ops.specs.Lists.{words}
use Rattle.code_isa.specs.declared.machine.Kid.{Kid}
use Rattle.code_isa.specs.Faces.{clock_count}
use Rattle.code_isa.specs.Marks.{HasNone}
use Rattle.code_isa.specs.Traces.{levels_at}
use Rattle.model_stage.specs.Model.{Model}
use Rattle.wrapper_core.specs.declared.wrapped.Wrapped.{Wrapped}
use Rattle.wrapper_core.specs.declared.world.World.{World}
use Rattle.wrapper_core.specs.code.Samplings.{IsSampling, registers_of_block, held_of_block}
use Rattle.wrapper_core.specs.code.Cores.{IsCore}
use Rattle.wrapper_core.specs.Snapshot.{Phase, Calm, Striking, Snapshot}

-- the phase of a world
abbrev pub phase_of : {X : Type 0} → World X → Phase
phase_of w = if w.striking then Striking w.before.items (if w.sampled then Some (words w.sampling.next.items) else None) else Calm

-- the moment that a world stands at
abbrev pub moment_of : {X : Type 0} → World X → Snapshot X
moment_of w = record {
  code = w.block.code.value;
  held = held_of_block w.block;
  registers = registers_of_block w.block;
  slots = words w.block.slots.items;
  levels = w.levels.items;
  phase = phase_of w;
  children = w.children.items;
  visited = w.visited.items;
}

-- the levels that the edges are taken from
abbrev pub levels_before : Phase → List Bool → List Bool
levels_before Calm levels = levels
levels_before (Striking before sampled) levels = before

-- a child that is struck is at the new levels, and one that is not yet at those before
abbrev pub levels_by : List Bool → List Bool → Bool → List Bool
levels_by before now true = now
levels_by before now false = before

-- what is known of a world at all times: `model` is what a child means, `ready` and `struck` what is known of it in its stages
pub record IsWorld {X : Type 0} (model : X → Model) (ready struck : X → Type 0) (w : World X) : Type 0 where
  pub core : IsCore model ready struck w.block w.children.items w.buffers.items
  pub joined : (i : ℕ) (kid : Kid) (c : Wrapped X) → slice_get w.block.code.value.kids i ≡ Some kid → slice_get w.children.items i ≡ Some c →
      (model c.child).levels ≡ levels_at (levels_by (levels_before (phase_of w) w.levels.items) w.levels.items c.struck) kid.clocks
  pub sampling : IsSampling w.block.code.value w.sampling (registers_of_block w.block)
  pub unsampled : w.sampled ≡ false → HasNone w.sampling.due
  pub levels_each : length w.levels.items ≡ clock_count w.block.code.value.face
  pub before_each : length w.before.items ≡ clock_count w.block.code.value.face
  pub visited_each : length w.visited.items ≡ length w.block.code.value.kids
  pub calm : w.striking ≡ false → (w.sampled ≡ false) × ((i : ℕ) (c : Wrapped X) → slice_get w.children.items i ≡ Some c → c.struck ≡ false)
