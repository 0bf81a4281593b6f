-- Paths through a combinational process, bits that some path leaves unassigned, and bits that are read too early (IEEE 1800-2017, 9.2.2.2).
use Rattle.std.specs.Prelude.{ℕ, ◌+◌, Bool, true, false, not, ◌&&◌, nat_lt, pos, ◌-ℤ◌, List, [], ◌∷◌, ◌++◌, map, Option, None, Some, slice_get, slice_index, ◌==◌, if◌then◌else◌}
use Rattle.std.specs.List.{flat_map, list_any, list_all}
use Rattle.bit_ops.specs.Rows.{value_of}
use Rattle.sv_base.specs.declared.kind.Kind.TheVariants.{Latch, ReadFirst}
use Rattle.sv_base.specs.declared.refusal.Place.{Place}
use Rattle.sv_base.specs.declared.refusal.Refusal.{Refusal}
use Rattle.net_ir.specs.declared.design.Var.{Var}
use Rattle.net_ir.specs.declared.design.Driver.{Driver}
use Rattle.net_ir.specs.declared.design.Driver.TheVariants as driver
use Rattle.net_ir.specs.declared.design.Spec.{Spec}
use Rattle.net_ir.specs.declared.term.Term.{Term}
use Rattle.net_ir.specs.declared.term.Term.TheOpen.{Term-F, Const, Read, Pick, Apply}
use Rattle.net_ir.specs.declared.term.Term.TheFolds.{fold-Term}
use Rattle.net_ir.specs.declared.statement.Pos.{Pos}
use Rattle.net_ir.specs.declared.statement.Target.{Target}
use Rattle.net_ir.specs.declared.statement.Target.TheOpen.{Target-F, Of, List as Parts}
use Rattle.net_ir.specs.declared.statement.Target.TheFolds.{fold-Target}
use Rattle.net_ir.specs.declared.statement.Stmt.{Stmt}
use Rattle.net_ir.specs.declared.statement.Stmt.TheOpen.{Stmt-F, Arm-F, Block, If, Case, Assign}
use Rattle.net_ir.specs.declared.statement.Stmt.TheFolds.{fold-Stmt}
use Rattle.net_ir.specs.Value.{widths_of, whole_number, lowest_from, picked}
use Rattle.net_ir.specs.Target.{is_empty, is_fixed, covers, position_of}
use Rattle.net_ir.specs.Drive.{any_may_write}
use Rattle.net_ir.specs.Statement.{targets_of}
use Rattle.driver_check.specs.declared.written.Within.TheVariants.{Combinational}
use Rattle.driver_check.specs.Written.{Named, names_of, refused_name, refused_sign, refused_driver}
use Rattle.driver_check.specs.Driven.{some_below}

-- ---- paths

-- a path: the targets that are assigned on it, in turn
abbrev pub Path : Type 0
Path = List Target

-- what is done at a place in the text: a condition or a label is read, or an assignment is made
pub data Deed : Type 0 where
  Asks : (term : Term) → Deed
  Assigns : (blocking : Bool) (target : Target) (value : Term) → Deed

-- a place in the text, with the paths that lead to it
pub record Visit : Type 0 where
  pub deed : Deed
  pub before : List Path

-- the paths through a statement, and its places in the order of the text, each with the paths that lead to it from the statement's start
pub record Walk : Type 0 where
  pub through : List Path
  pub visits : List Visit

-- the path on which nothing is done
abbrev pub nothing_done : List Path
nothing_done = [] ∷ []

-- a place that is reached at once
abbrev pub at_once : Deed → Visit
at_once deed = record { deed = deed; before = nothing_done }

-- each of some paths, and behind it each of others
abbrev pub followed_by : List Path → List Path → List Path
followed_by firsts seconds = flat_map (λ first. map (λ second. first ++ second) seconds) firsts

-- a place behind paths
abbrev pub behind : List Path → Visit → Visit
behind firsts visit = record { deed = visit.deed; before = followed_by firsts visit.before }

-- statements one after another
abbrev pub walk_in_turn : List Walk → Walk
walk_in_turn [] = record { through = nothing_done; visits = [] }
walk_in_turn (first ∷ rest) = record {
  through = followed_by first.through (walk_in_turn rest).through;
  visits = first.visits ++ map (behind first.through) (walk_in_turn rest).visits;
}

-- without an `else` there is a path on which nothing is done
abbrev pub walk_else : Option Walk → Walk
walk_else None = record { through = nothing_done; visits = [] }
walk_else (Some walk) = walk

-- an arm: whether it is the `default`, its labels in turn, and its body
pub record Turn : Type 0 where
  pub is_default : Bool
  pub walk : Walk

-- without a `default` there is a path on which no arm matches
abbrev pub has_default : List Turn → Bool
has_default turns = list_any (λ turn. turn.is_default) turns

abbrev pub walk_layer : Stmt-F Walk Turn → Walk
walk_layer (Block parts) = walk_in_turn parts
walk_layer (If test first second) = record {
  through = first.through ++ (walk_else second).through;
  visits = at_once (Asks test) ∷ first.visits ++ (walk_else second).visits;
}
walk_layer (Case value turns) = record {
  through = flat_map (λ turn. turn.walk.through) turns ++ (if has_default turns then [] else nothing_done);
  visits = at_once (Asks value) ∷ flat_map (λ turn. turn.walk.visits) turns;
}
walk_layer (Assign blocking target value) = record { through = (target ∷ []) ∷ []; visits = at_once (Assigns blocking target value) ∷ [] }

abbrev pub turn_layer : Arm-F Walk Turn → Turn
turn_layer arm = record {
  is_default = is_empty arm.labels;
  walk = record { through = arm.body.through; visits = map (λ label. at_once (Asks label)) arm.labels ++ arm.body.visits };
}

-- the paths through a statement, and the places in it
abbrev pub walk_of : Stmt → Walk
walk_of = fold-Stmt Walk Turn walk_layer turn_layer

-- ---- bits that are assigned

-- whether bits of a variable surely take its bit k: at a position that is not constant none is sure
abbrev pub surely_takes : List ℕ → Var → Option Pos → ℕ → Bool
surely_takes ws v None k = true
surely_takes ws v (Some p) k = is_fixed p && covers (position_of ws [] p -ℤ pos v.low) p.width k

abbrev pub sure_where : List ℕ → Option Var → Option Pos → ℕ → Bool
sure_where ws None p k = false
sure_where ws (Some v) p k = nat_lt k v.width && surely_takes ws v p k

abbrev pub sure_name : List Var → Option ℕ → Option Pos → ℕ → ℕ → Bool
sure_name vars None p x k = false
sure_name vars (Some var) p x k = var == x && sure_where (widths_of vars) (slice_get vars var) p k

abbrev pub surely_writes_layer : List Var → Target-F (ℕ → ℕ → Bool) → ℕ → ℕ → Bool
surely_writes_layer vars (Of var name place p) x k = sure_name vars var p x k
surely_writes_layer vars (Parts parts) x k = list_any (λ part. part x k) parts

-- whether an assignment to this target surely writes bit k of variable x
abbrev pub surely_writes : List Var → Target → ℕ → ℕ → Bool
surely_writes vars = fold-Target (ℕ → ℕ → Bool) (surely_writes_layer vars)

-- whether bit k of variable x is assigned on each of these paths
abbrev pub always_assigned : List Var → List Path → ℕ → ℕ → Bool
always_assigned vars paths x k = list_all (λ path. list_any (λ target. surely_writes vars target x k) path) paths

-- whether a process writes bit k of variable x somewhere, but not on each of these paths
abbrev pub is_missed : List Var → Stmt → List Path → ℕ → ℕ → Bool
is_missed vars body paths x k = any_may_write vars (targets_of body) x k && not (always_assigned vars paths x k)

-- ---- bits that are read

-- a read of bits of a variable at a place
pub record Reading : Type 0 where
  pub var : ℕ
  pub place : Place
  pub has : ℕ → Bool

-- a term: its width and its word where every variable is 0, the variable of which it is the whole, and its reads from left to right
pub record Seen : Type 0 where
  pub width : ℕ
  pub word : ℕ
  pub whole : Option Reading
  pub readings : List Reading

abbrev pub all_of : ℕ → Place → Reading
all_of var place = record { var = var; place = place; has = λ k. true }

-- bits of a variable at a constant position are those in range, and else every bit is read
abbrev pub narrowed : List Reading → (ℕ → Bool) → Option Reading → List Reading → List Reading
narrowed base has None at = base
narrowed base has (Some whole) [] = record { var = whole.var; place = whole.place; has = has } ∷ []
narrowed base has (Some whole) (r ∷ at) = base

abbrev pub seen_layer : List ℕ → Term-F Seen → Seen
seen_layer ws (Const bits) = record { width = bits.width; word = bits.word; whole = None; readings = [] }
seen_layer ws (Read var place) = record { width = slice_index ws var; word = 0; whole = Some (all_of var place); readings = all_of var place ∷ [] }
seen_layer ws (Pick base low at at_signed down width) = record {
  width = width;
  word = picked base.word low down (whole_number at_signed at.width at.word) width;
  whole = None;
  readings = narrowed base.readings (covers (lowest_from down width (whole_number at_signed at.width at.word) -ℤ pos low) width) base.whole at.readings ++ at.readings;
}
seen_layer ws (Apply op width lo args) = record {
  width = width;
  word = value_of op width lo (map (λ arg. (arg.width, arg.word)) args);
  whole = None;
  readings = flat_map (λ arg. arg.readings) args;
}

-- the reads of a term, from left to right
abbrev pub readings_of : List Var → Term → List Reading
readings_of vars term = (fold-Term Seen (seen_layer (widths_of vars)) term).readings

-- ---- what is refused

-- a read of a variable that has a bit which the process writes, but not on every path to that place
abbrev pub early_bits : List Var → Stmt → List Path → Reading → Option Var → List Refusal
early_bits vars body before r None = []
early_bits vars body before r (Some v) =
    if some_below v.width (λ k. r.has k && is_missed vars body before r.var k) then record { kind = ReadFirst; place = r.place; name = v.name } ∷ [] else []

abbrev pub early_read : List Var → Stmt → List Path → Reading → List Refusal
early_read vars body before r = early_bits vars body before r (slice_get vars r.var)

abbrev pub early_reads : List Var → Stmt → List Path → Term → List Refusal
early_reads vars body before term = flat_map (early_read vars body before) (readings_of vars term)

abbrev pub early_position : List Var → Stmt → List Path → Option Pos → List Refusal
early_position vars body before None = []
early_position vars body before (Some p) = early_reads vars body before p.at

-- a name of a target after its positions
abbrev pub refused_at_name : List Var → Stmt → List Path → Named → List Refusal
refused_at_name vars body before n = early_position vars body before n.pos ++ refused_name vars Combinational n

-- an assignment: its target, its sign, its value
abbrev pub refused_deed : List Var → Stmt → List Path → Deed → List Refusal
refused_deed vars body before (Asks term) = early_reads vars body before term
refused_deed vars body before (Assigns blocking target value) =
    flat_map (refused_at_name vars body before) (names_of target) ++ refused_sign Combinational blocking target ++ early_reads vars body before value

abbrev pub refused_visit : List Var → Stmt → Visit → List Refusal
refused_visit vars body visit = refused_deed vars body visit.before visit.deed

-- the variables from number x on with a bit that the process writes, but not on every path through it
abbrev pub latches_from : List Var → Stmt → Place → ℕ → List Var → List Refusal
latches_from vars body place x [] = []
latches_from vars body place x (v ∷ rest) =
    (if some_below v.width (is_missed vars body (walk_of body).through x) then record { kind = Latch; place = place; name = v.name } ∷ [] else [])
    ++ latches_from vars body place (x + 1) rest

-- what is refused of a combinational process, in the order of the text, and latches at its end
abbrev pub refused_process : List Var → Stmt → Place → List Refusal
refused_process vars body place = flat_map (refused_visit vars body) (walk_of body).visits ++ latches_from vars body place 0 vars

abbrev pub refused_item : List Var → Driver → List Refusal
refused_item vars (driver.Assign target value place) = refused_driver vars (driver.Assign target value place)
refused_item vars (driver.Comb body place) = refused_process vars body place
refused_item vars (driver.Clocked triggers body place) = refused_driver vars (driver.Clocked triggers body place)
refused_item vars (driver.Instance made) = refused_driver vars (driver.Instance made)

-- what is refused of a design before its bits are given drivers, in the order of the text
abbrev pub flaws : Spec → List Refusal
flaws spec = flat_map (refused_item spec.vars) spec.drivers
