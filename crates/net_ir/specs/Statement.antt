-- What statements write and read (IEEE 1800-2017, 10.4, 12.4 and 12.5).
use Rattle.std.specs.Prelude.{ℕ, ◌==◌, Bool, List, [], ◌∷◌, ◌++◌, Option, None, Some, unwrap_or, if◌then◌else◌}
use Rattle.std.specs.List.{flat_map, list_any}
use Rattle.net_ir.specs.declared.design.Var.{Var}
use Rattle.net_ir.specs.declared.term.Term.{Term}
use Rattle.net_ir.specs.declared.statement.Target.{Target}
use Rattle.net_ir.specs.declared.statement.Arm.{Arm}
use Rattle.net_ir.specs.declared.statement.Stmt.{Stmt}
use Rattle.net_ir.specs.declared.statement.Stmt.TheOpen.{Stmt-F, Arm-F, Block, If, Case, Assign}
use Rattle.net_ir.specs.declared.statement.Stmt.TheFolds.{fold-Stmt, fold-Arm}
use Rattle.net_ir.specs.Value.{val, widths_of, reads_of}
use Rattle.net_ir.specs.Target.{Write, writes_to, last_bit, is_empty, target_reads}

-- the writes so far, with those of a statement behind them
abbrev pub Effect : Type 0
Effect = List Write → List Write

-- an arm: its labels, and what its body does
pub record Branch : Type 0 where
  pub labels : List Term
  pub body : Effect

-- what a reader sees while a statement is executed, by the writes so far
abbrev pub Seen : Type 0
Seen = List Write → List ℕ

-- statements one after another
abbrev pub in_turn : List Effect → Effect
in_turn [] writes = writes
in_turn (part ∷ parts) writes = in_turn parts (part writes)

abbrev pub or_nothing : Option Effect → Effect
or_nothing None writes = writes
or_nothing (Some part) writes = part writes

-- whether a value is one of the labels of an arm, on the valuation u
abbrev pub has_label : List ℕ → List ℕ → ℕ → List Term → Bool
has_label ws u word labels = list_any (λ label. val ws u label == word) labels

-- the first arm with a label that equals the value, else this one
abbrev pub labelled_or : List ℕ → List ℕ → ℕ → Option Effect → List Branch → Option Effect
labelled_or ws u word other [] = other
labelled_or ws u word other (arm ∷ arms) = if has_label ws u word arm.labels then Some arm.body else labelled_or ws u word other arms

-- the arm without labels
abbrev pub default_of : List Branch → Option Effect
default_of [] = None
default_of (arm ∷ arms) = if is_empty arm.labels then Some arm.body else default_of arms

-- the arm that is taken, where one is
abbrev pub taken : List ℕ → List ℕ → ℕ → List Branch → Option Effect
taken ws u word arms = labelled_or ws u word (default_of arms) arms

abbrev pub effect_layer : List Var → Seen → Stmt-F Effect Branch → Effect
effect_layer vars seen (Block parts) writes = in_turn parts writes
effect_layer vars seen (If test first second) writes =
    if val (widths_of vars) (seen writes) test == 0 then or_nothing second writes else first writes
effect_layer vars seen (Case value arms) writes =
    or_nothing (taken (widths_of vars) (seen writes) (val (widths_of vars) (seen writes) value) arms) writes
effect_layer vars seen (Assign blocking target value) writes =
    writes ++ writes_to vars (seen writes) target (val (widths_of vars) (seen writes) value)

abbrev pub branch_layer : Arm-F Effect Branch → Branch
branch_layer arm = record { labels = arm.labels; body = arm.body }

-- The writes after a statement is executed, behind those before it. What its expressions read is `seen` of the writes so far: in a clocked
-- process the valuation before the step, in a combinational one that valuation with the writes so far on it.
abbrev pub effect : List Var → Seen → Stmt → Effect
effect vars seen = fold-Stmt Effect Branch (effect_layer vars seen) branch_layer

-- the writes of a clocked process in the order in which they are executed, with every read from the valuation u (4.9.4)
abbrev pub clocked_writes : List Var → List ℕ → Stmt → List Write
clocked_writes vars u body = effect vars (λ writes. u) body []

-- the next value of bit k of variable x: that of its last write, else the bit that was kept
abbrev pub bit_after : List Write → ℕ → ℕ → ℕ → ℕ
bit_after writes x k kept = unwrap_or (last_bit writes x k) kept

-- ---- what stands in a statement

abbrev pub targets_of_layer : Stmt-F (List Target) (List Target) → List Target
targets_of_layer (Block parts) = flat_map (λ part. part) parts
targets_of_layer (If test first second) = first ++ unwrap_or second []
targets_of_layer (Case value arms) = flat_map (λ arm. arm) arms
targets_of_layer (Assign blocking target value) = target ∷ []

abbrev pub arm_targets : Arm-F (List Target) (List Target) → List Target
arm_targets arm = arm.body

-- the targets of a statement's assignments
abbrev pub targets_of : Stmt → List Target
targets_of = fold-Stmt (List Target) (List Target) targets_of_layer arm_targets

abbrev pub statement_reads_of_layer : Stmt-F (List ℕ) (List ℕ) → List ℕ
statement_reads_of_layer (Block parts) = flat_map (λ part. part) parts
statement_reads_of_layer (If test first second) = reads_of test ++ first ++ unwrap_or second []
statement_reads_of_layer (Case value arms) = reads_of value ++ flat_map (λ arm. arm) arms
statement_reads_of_layer (Assign blocking target value) = target_reads target ++ reads_of value

abbrev pub arm_reads : Arm-F (List ℕ) (List ℕ) → List ℕ
arm_reads arm = flat_map reads_of arm.labels ++ arm.body

-- the variables that a statement's expressions read
abbrev pub statement_reads : Stmt → List ℕ
statement_reads = fold-Stmt (List ℕ) (List ℕ) statement_reads_of_layer arm_reads

-- and that the labels and the body of an arm read
abbrev pub reads_of_arm : Arm → List ℕ
reads_of_arm = fold-Arm (List ℕ) (List ℕ) statement_reads_of_layer arm_reads
