-- What is known of a world of leaves that is tested.
use Rattle.std.specs.Prelude.{◌≡◌, ℕ, Some, List, length, replicate, slice_get}
use Rattle.code_isa.specs.Faces.{input_widths, clock_count, output_count}
use Rattle.leaf_model.specs.declared.leaf.Leaf.{Leaf}
use Rattle.leaf_model.specs.Leaf.{model_of, IsReadyLeaf, IsStruckLeaf}
use Rattle.wrapper_core.specs.declared.world.World.{World}
use Rattle.wrapper_core.specs.World.{IsWorld, moment_of}

-- each of these leaves is ready
abbrev pub AreReady : List Leaf → Type 0
AreReady leaves = (i : ℕ) (leaf : Leaf) → slice_get leaves i ≡ Some leaf → IsReadyLeaf leaf

-- a world whose machine has this many data inputs, each of four bits, clocks, outputs and registers
pub record IsBoard (inputs clocks outputs registers : ℕ) (w : World Leaf) : Type 0 where
  pub world : IsWorld model_of IsReadyLeaf IsStruckLeaf w
  pub inputs_are : input_widths (moment_of w).code.face ≡ replicate inputs 4
  pub clocks_are : clock_count (moment_of w).code.face ≡ clocks
  pub outputs_are : output_count (moment_of w).code.face ≡ outputs
  pub registers_are : length (moment_of w).code.regs ≡ registers
