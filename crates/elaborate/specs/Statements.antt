-- The statements of a process (IEEE 1800-2017, clause 12, 9.3.5 and 10.4).
use Rattle.std.specs.Prelude.{ℕ, Bool, false, not, ◌&&◌, max, List, [], ◌∷◌, codes, Option, None, Some, Result, Ok, Err}
use Rattle.std.specs.Str.{bytes_eq}
use Rattle.sv_base.specs.declared.refusal.Refusal.{Refusal}
use Rattle.sv_ast.specs.declared.expression.Id.{Id}
use Rattle.sv_ast.specs.declared.expression.Expr.{Expr}
use Rattle.sv_ast.specs.declared.expression.Lval.{Lval}
use Rattle.sv_ast.specs.declared.statement.Stmt as source
use Rattle.sv_ast.specs.declared.statement.CaseItem.{CaseItem}
use Rattle.sv_ast.specs.declared.statement.Stmt.TheOpen as stmt
use Rattle.sv_ast.specs.declared.statement.Stmt.TheOpen.{Stmt-F, CaseItem-F}
use Rattle.sv_ast.specs.declared.statement.Stmt.TheFolds.{fold-Stmt, fold-CaseItem}
use Rattle.const_eval.specs.Expressions.{◌>>=◌}
use Rattle.net_ir.specs.declared.term.Term.{Term}
use Rattle.net_ir.specs.declared.design.Var.{Var}
use Rattle.net_ir.specs.declared.statement.Stmt.{Stmt}
use Rattle.net_ir.specs.declared.statement.Stmt as net
use Rattle.net_ir.specs.declared.statement.Arm.{Arm}
use Rattle.width_rules.specs.declared.measured.Measured.{Measured}
use Rattle.width_rules.specs.Built.{measured_of}
use Rattle.width_rules.specs.Assigning.{assigned_term}
use Rattle.elaborate.specs.declared.names.Seen.TheVariants.{Label}
use Rattle.elaborate.specs.declared.statement.Waiting.{Waiting}
use Rattle.elaborate.specs.Names.{Names, with_name, bounds, term_at}
use Rattle.elaborate.specs.Refusals.{fresh, not_yet}
use Rattle.elaborate.specs.Reached.{Reached, Step, counted}
use Rattle.elaborate.specs.Targets.{assignment, place_of, all_of}

-- what a part of the text gives beside what it adds, or its refusal
abbrev pub Given : Type 0 → Type 0
Given A = Reached → Result (A × Reached) Refusal

-- a label: its name is visible from now on, and has no value
abbrev pub labelled : Option Id → Step
labelled None r = Ok r
labelled (Some name) r =
    fresh r.names name >>= λ _.
    Ok (record { names = with_name r.names name.name Label; vars = r.vars; drivers = r.drivers; assignments = r.assignments })

-- parts one behind another
abbrev pub sequence : {A : Type 0} → List (Given A) → Given (List A)
sequence [] r = Ok ([], r)
sequence (part ∷ parts) r = part r >>= λ a. sequence parts a.1 >>= λ rest. Ok (a.0 ∷ rest.0, rest.1)

-- a part that may be missing
abbrev pub optional : {A : Type 0} → Option (Given A) → Given (Option A)
optional None r = Ok (None, r)
optional (Some part) r = part r >>= λ a. Ok (Some a.0, a.1)

-- ---- a `case`

-- what each of some expressions is by itself
abbrev pub measured_each : Names → List Var → List Expr → List (Result Measured Refusal)
measured_each names vars [] = []
measured_each names vars (e ∷ es) = measured_of (bounds names) vars e ∷ measured_each names vars es

-- an arm: its labels, then its body
abbrev pub arm : List Expr → Given Stmt → Given Waiting
arm labels body r =
    all_of (measured_each r.names r.vars labels) >>= λ measured. body r >>= λ b. Ok (record { labels = measured; body = b.0 }, b.1)

-- the greatest size among these and more, and whether all are signed
abbrev pub greatest : ℕ → List Measured → ℕ
greatest n [] = n
greatest n (m ∷ ms) = greatest (max n m.size) ms

abbrev pub are_signed : Bool → List Measured → Bool
are_signed s [] = s
are_signed s (m ∷ ms) = are_signed (s && m.signed) ms

-- so with the labels of all arms
abbrev pub case_size : ℕ → List Waiting → ℕ
case_size n [] = n
case_size n (w ∷ ws) = case_size (greatest n w.labels) ws

abbrev pub case_signed : Bool → List Waiting → Bool
case_signed s [] = s
case_signed s (w ∷ ws) = case_signed (are_signed s w.labels) ws

-- what was measured, as it is compared
abbrev pub compared : ℕ → Bool → Measured → Term
compared n s m = assigned_term m (Some n) (not s)

abbrev pub terms_of : ℕ → Bool → List Measured → List Term
terms_of n s [] = []
terms_of n s (m ∷ ms) = compared n s m ∷ terms_of n s ms

abbrev pub arms_of : ℕ → Bool → List Waiting → List Arm
arms_of n s [] = []
arms_of n s (w ∷ ws) = record { labels = terms_of n s w.labels; body = w.body } ∷ arms_of n s ws

-- A `case`: its expression and all labels are taken at the greatest size among them, and signed only where all are (12.5).
abbrev pub case_of : Measured → List Waiting → Stmt
case_of m ws = net.Case (compared n s m) (arms_of n s ws)
  where
    n : ℕ
    n = case_size m.size ws

    s : Bool
    s = case_signed m.signed ws

-- ---- statements

-- whether an assignment is blocking
abbrev pub is_blocking : Id → Bool
is_blocking sign = bytes_eq sign.name (codes "=")

-- an assignment in a process
abbrev pub procedural : Lval → Id → Expr → Given Stmt
procedural to sign e r =
    assignment false r.names r.vars to e >>= λ a. counted (place_of to) r >>= λ s. Ok (net.Assign (is_blocking sign) a.0 a.1, s)

abbrev pub if_of : Expr → Given Stmt → Option (Given Stmt) → Given Stmt
if_of test first second r =
    term_at r.names r.vars None false test >>= λ t. first r >>= λ a. optional second a.1 >>= λ b. Ok (net.If t.0 a.0 b.0, b.1)

abbrev pub case_with : Expr → List (Given Waiting) → Given Stmt
case_with value arms r =
    measured_of (bounds r.names) r.vars value >>= λ m. sequence arms r >>= λ ws. Ok (case_of m ws.0, ws.1)

abbrev pub statement_layer : Stmt-F (Given Stmt) (Given Waiting) → Given Stmt
statement_layer (stmt.Block label parts) r = labelled label r >>= λ s. sequence parts s >>= λ b. Ok (net.Block b.0, b.1)
statement_layer (stmt.If place test first second) r = if_of test first second r
statement_layer (stmt.Case place value arms) r = case_with value arms r
statement_layer (stmt.For place header body) r = Err not_yet
statement_layer (stmt.Assign to sign e) r = procedural to sign e r
statement_layer stmt.Empty r = Ok (net.Block [], r)

abbrev pub arm_layer : CaseItem-F (Given Stmt) (Given Waiting) → Given Waiting
arm_layer i r = arm i.labels i.body r

-- a statement, from left to right, parts before the whole
abbrev pub statement : source.Stmt → Given Stmt
statement = fold-Stmt (Given Stmt) (Given Waiting) statement_layer arm_layer

-- an arm of a `case`
abbrev pub arm_of : CaseItem → Given Waiting
arm_of = fold-CaseItem (Given Stmt) (Given Waiting) statement_layer arm_layer
