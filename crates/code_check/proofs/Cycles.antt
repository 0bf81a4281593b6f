-- A cycle goes through an output slot of a child.
use Rattle.std.proofs.Common.{◌≡◌, ℕ, ◌<◌, ◌≤◌, inl, inr, List, ap, subst, arith}
use Rattle.std.proofs.lemmas.Bool.{cases_lt}
use Rattle.levelise.specs.Graph.{Path, step, longer, LiesOnCycle, IsLeastOnCycle, IsLevelling}
use Rattle.code_isa.specs.declared.machine.Machine.{Machine}
use Rattle.code_isa.specs.Slots.{first_kid_output, first_instruction, IsKidSlot}
use Rattle.code_isa.specs.Dependence.{reads_of, Reads, Reaches, here, along, DependsOn}
use Rattle.code_isa.specs.Checks.{IsSlotOrdered, IsAcyclic}
use Rattle.code_check.proofs.Rows.{given_reads, code_falls}

-- paths of the graph, and what depends on what
path_depends : (m : Machine) (a c : ℕ) → Path (reads_of m) a c → DependsOn m a c
path_depends m a c (step reads) = record { by = c; reads = reads; reaches = here }
path_depends m a c (longer {b = b} reads path) =
    let more = path_depends m b c path in
    record { by = b; reads = reads; reaches = along more.reads more.reaches }

reaches_path : (m : Machine) (a b c : ℕ) → Reads m a b → Reaches m b c → Path (reads_of m) a c
reaches_path m a b c reads here = step reads
reaches_path m a b c reads (along {b = d} more reaches) = longer reads (reaches_path m b d c more reaches)

path_more : (rows : List (List ℕ)) (a b c : ℕ) → Path rows a b → Path rows b c → Path rows a c
path_more rows a b c (step reads) path = longer reads path
path_more rows a b c (longer {b = d} reads rest) path = longer reads (path_more rows d b c rest path)

-- the least slot on a cycle is no instruction's, since its operands are lower and on the cycle too
first_read : (m : Machine) (a c : ℕ) → Path (reads_of m) a c → (b : ℕ) × Reads m a b × Reaches m b c
first_read m a c path = let one = path_depends m a c path in (one.by, one.reads, one.reaches)

lower_on_cycle : (m : Machine) (a b : ℕ) → Reads m a b → Reaches m b a → LiesOnCycle (reads_of m) b
lower_on_cycle m a b reads here = step reads
lower_on_cycle m a b reads (along {b = d} more reaches) = path_more (reads_of m) b a b (reaches_path m b d a more reaches) (step reads)

pub least_is_kid : (m : Machine) (a : ℕ) → IsSlotOrdered m → IsLeastOnCycle (reads_of m) a → IsKidSlot m a
least_is_kid m a order least =
    let one = first_read m a a least.on_cycle in
    let past : first_kid_output m ≤ a = elim (cases_lt a (first_kid_output m)) [ inl low ↦ absurd (given_reads m a one.0 low one.1) | inr past ↦ past ] in
    let before : a < first_instruction m = elim (cases_lt a (first_instruction m)) [
      | inl before ↦ before
      | inr high ↦
          let falls : one.0 < a = code_falls m a one.0 order high one.1 in
          let most : a ≤ one.0 = least.least one.0 (lower_on_cycle m a one.0 one.1 one.2) in
          absurd (let clash : ⊥ = omega arith in clash)
    ] in
    (past, before)

pub cycle_inside : (m : Machine) (a : ℕ) → IsSlotOrdered m → IsLeastOnCycle (reads_of m) a → ¬ (IsAcyclic m)
cycle_inside m a order least acyclic = acyclic a (least_is_kid m a order least) (path_depends m a a least.on_cycle)

pub none_inside : (m : Machine) → ((a : ℕ) → LiesOnCycle (reads_of m) a → ⊥) → IsAcyclic m
none_inside m free slot kid depends = free slot (reaches_path m slot depends.by slot depends.reads depends.reaches)

pub no_loop : (m : Machine) → ((a : ℕ) → LiesOnCycle (reads_of m) a → ⊥) → (a : ℕ) → Reads m a a → ⊥
no_loop m free a reads = free a (step reads)
