-- The registers of a design: the bits that clocked processes write, as runs in the order of the variables.
use Rattle.std.specs.Prelude.{ℕ, zero, suc, ◌+◌, ◌/◌, ◌%◌, ◌^◌, ◌==◌, ◌&&◌, List, [], ◌∷◌, ◌++◌, map, Option, None, Some, slice_index, if◌then◌else◌}
use Rattle.net_ir.specs.declared.design.Var.{Var}
use Rattle.net_ir.specs.declared.design.Driver.{Driver}
use Rattle.net_ir.specs.declared.design.Spec.{Spec}
use Rattle.net_ir.specs.Drive.{holds}

-- a run of bits of a variable that one clocked process writes: its lowest bit, how many bits, and the place of the process among
-- the drivers
pub record Register : Type 0 where
  pub var : ℕ
  pub low : ℕ
  pub width : ℕ
  pub driver : ℕ

-- the place of the driver that has bit k of variable x in a register, where the first of the drivers has place n
abbrev pub holder_from : ℕ → List Var → List Driver → ℕ → ℕ → Option ℕ
holder_from n vars [] x k = None
holder_from n vars (d ∷ drivers) x k = if holds vars d x k then Some n else holder_from (n + 1) vars drivers x k

-- bit k of variable x, which is of this driver, before the runs of the bits above it
abbrev pub onto_run : ℕ → ℕ → ℕ → List Register → List Register
onto_run x k d [] = record { var = x; low = k; width = 1; driver = d } ∷ []
onto_run x k d (r ∷ runs) =
    if r.low == k + 1 && r.driver == d then record { var = x; low = k; width = r.width + 1; driver = d } ∷ runs
    else record { var = x; low = k; width = 1; driver = d } ∷ r ∷ runs

abbrev pub with_bit : ℕ → ℕ → Option ℕ → List Register → List Register
with_bit x k None runs = runs
with_bit x k (Some d) runs = onto_run x k d runs

-- the longest runs of the n bits of variable x from bit k on, each of one driver
abbrev pub runs_from : (ℕ → Option ℕ) → ℕ → ℕ → ℕ → List Register
runs_from holder x k zero = []
runs_from holder x k (suc n) = with_bit x k (holder k) (runs_from holder x (k + 1) n)

-- those of variables, the first of which has number x
abbrev pub registers_from : (ℕ → ℕ → Option ℕ) → ℕ → List Var → List Register
registers_from holder x [] = []
registers_from holder x (v ∷ vars) = runs_from (holder x) x 0 v.width ++ registers_from holder (x + 1) vars

-- the registers of a design, in the order of its variables and then of their lowest bits
abbrev pub registers_of : Spec → List Register
registers_of spec = registers_from (holder_from 0 spec.vars spec.drivers) 0 spec.vars

-- the bits of a word from `low` on
abbrev pub part_of : ℕ → ℕ → ℕ → ℕ
part_of word low width = (word / 2 ^ low) % 2 ^ width

-- the words of registers, where each variable has a word
abbrev pub register_words : List Register → List ℕ → List ℕ
register_words registers words = map (λ (r : Register). part_of (slice_index words r.var) r.low r.width) registers

-- their initial words
abbrev pub initial_words : Spec → List ℕ
initial_words spec = register_words (registers_of spec) (map (λ (v : Var). v.init.word) spec.vars)
