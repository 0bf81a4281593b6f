-- Statements are lawful, and add no net or variable.
use Rattle.std.proofs.Common.{◌≡◌, ℕ, Bool, false, not, max, List, [], ◌∷◌, map, Option, None, Some, refl, sym, ◌∙◌, subst, arith}
use Rattle.std.specs.Prelude.{Ok, IfOk}
use Rattle.std.specs.List.{AllByRecursion}
use Rattle.bit_ops.specs.Width.{IsWidth}
use Rattle.sv_ast.specs.declared.expression.Id.{Id}
use Rattle.sv_ast.specs.declared.expression.Expr.{Expr}
use Rattle.sv_ast.specs.declared.expression.Lval.{Lval}
use Rattle.sv_ast.specs.declared.statement.Stmt as source
use Rattle.sv_ast.specs.declared.statement.CaseItem.{CaseItem}
use Rattle.sv_ast.specs.declared.statement.Stmt.TheOpen as stmt
use Rattle.sv_ast.specs.declared.statement.Stmt.TheOpen.{Stmt-F, CaseItem-F}
use Rattle.sv_ast.specs.declared.statement.Stmt.TheViews.{roll-Stmt, roll-CaseItem}
use Rattle.sv_ast.specs.declared.statement.Stmt.TheFolds.{map-Stmt, map-CaseItem, fold-roll-Stmt, fold-roll-CaseItem, ind-Stmt}
use Rattle.const_eval.specs.Expressions.{◌>>=◌}
use Rattle.const_eval.proofs.Judged.{ok_behind}
use Rattle.net_ir.specs.declared.term.Term.{Term}
use Rattle.net_ir.specs.declared.design.Var.{Var}
use Rattle.net_ir.specs.declared.statement.Target.{Target}
use Rattle.net_ir.specs.declared.statement.Stmt.{Stmt}
use Rattle.net_ir.specs.declared.statement.Stmt as net
use Rattle.net_ir.specs.Value.{widths_of, size}
use Rattle.net_ir.specs.Lawful.{IsLawful, IsLawfulArm, IsLawfulStmt}
use Rattle.net_ir.proofs.Parts.{IsLawfulBody, IsLawfulElse, block_made, if_made, case_made, assign_made}
use Rattle.width_rules.specs.declared.measured.Measured.{Measured}
use Rattle.width_rules.specs.Sized.{IsMeasuredIn}
use Rattle.width_rules.specs.Built.{measured_of}
use Rattle.elaborate.specs.declared.statement.Waiting.{Waiting}
use Rattle.elaborate.specs.Names.{Names, bounds, term_at}
use Rattle.elaborate.specs.Reached.{Reached, counted}
use Rattle.elaborate.specs.Targets.{all_of, assignment, place_of}
use Rattle.elaborate.specs.Statements.{Given, labelled, sequence, optional, measured_each, arm, greatest, case_size, case_signed, compared, terms_of, arms_of, case_of, is_blocking, procedural, if_of, case_with, statement_layer, arm_layer, statement, arm_of}
use Rattle.elaborate.proofs.SoFar.{IsLawfulSoFar, IsLawfulBehind, label_added, lawful_recounted, behind_counted}
use Rattle.elaborate.proofs.LawfulTargets.{MeasuredLawful, IsTermFor, term_for, all_ok, IsAssignment, assignment_lawful}

-- ---- what parts of the text give

-- what is reached is lawful, and so is what is given, among the nets and variables that were there before
abbrev pub IsGivenAt : {A : Type 0} → (List Var → A → Type 0) → Reached → A × Reached → Type 0
IsGivenAt P r b = IsLawfulSoFar b.1 × (b.1.vars ≡ r.vars) × P r.vars b.0

abbrev pub Gives : {A : Type 0} → (List Var → A → Type 0) → Given A → Type 0
Gives P given = (r : Reached) → IsLawfulSoFar r → IfOk (given r) (IsGivenAt P r)

abbrev All : {A : Type 0} → (List Var → A → Type 0) → List Var → List A → Type 0
All P vars xs = AllByRecursion (P vars) xs

sequence_gives : {X A : Type 0} (P : List Var → A → Type 0) (f : X → Given A) (es : List ((x : X) × Gives P (f x))) → Gives (All P) (sequence (map f (map (λ e. e.0) es)))
sequence_gives P f [] r h = (h, refl, tt)
sequence_gives {X = X} {A = A} P f (e ∷ es) r h =
    let rest : List (Given A) = map f (map (λ (d : (x : X) × Gives P (f x)). d.0) es) in
    ok_behind (IsGivenAt P r) (IsGivenAt (All P) r) (f e.0 r) (λ a. sequence rest a.1 >>= λ more. Ok (a.0 ∷ more.0, more.1)) (e.1 r h) (λ a k.
    ok_behind (IsGivenAt (All P) a.1) (IsGivenAt (All P) r) (sequence rest a.1) (λ more. Ok (a.0 ∷ more.0, more.1)) (sequence_gives P f es a.1 k.0) (λ more m.
    (m.0, m.1 ∙ k.1, (k.2, subst (λ vars. All P vars more.0) k.1 m.2))))

-- ---- a `case`

-- what was measured of labels, and the body behind them
pub record IsWaiting (vars : List Var) (w : Waiting) : Type 0 where
  pub labels : AllByRecursion (IsMeasuredIn (widths_of vars)) w.labels
  pub body : IsLawfulStmt vars w.body

wider : (n m : ℕ) → IsWidth n → IsWidth m → IsWidth (max n m)
wider n m a b = (omega (arith, a, b), omega (arith, a, b))

greatest_wide : (ws : List ℕ) (n : ℕ) (ms : List Measured) → IsWidth n → AllByRecursion (IsMeasuredIn ws) ms → IsWidth (greatest n ms)
greatest_wide ws n [] wide all = wide
greatest_wide ws n (m ∷ ms) wide all = greatest_wide ws (max n m.size) ms (wider n m.size wide all.0.width) all.1

case_wide : (vars : List Var) (n : ℕ) (ws : List Waiting) → IsWidth n → AllByRecursion (IsWaiting vars) ws → IsWidth (case_size n ws)
case_wide vars n [] wide all = wide
case_wide vars n (w ∷ ws) wide all = case_wide vars (greatest n w.labels) ws (greatest_wide (widths_of vars) n w.labels wide all.0.labels) all.1

module _ (vars : List Var) (n : ℕ) (s : Bool) (wide : IsWidth n) where
  abbrev ws : List ℕ
  ws = widths_of vars

  compared_lawful : (m : Measured) → IsMeasuredIn ws m → IsLawful ws (compared n s m) × (size ws (compared n s m) ≡ n)
  compared_lawful m h = (h.lawful (Some n) (not s) wide, h.sized (Some n) (not s) wide)

  labels_lawful : (k : ℕ) → n ≡ k → (ms : List Measured) → AllByRecursion (IsMeasuredIn ws) ms → AllByRecursion (λ label. IsLawful ws label × (size ws label ≡ k)) (terms_of n s ms)
  labels_lawful k same [] all = tt
  labels_lawful k same (m ∷ ms) all = let here = compared_lawful m all.0 in ((here.0, here.1 ∙ same), labels_lawful k same ms all.1)

  arms_lawful : (k : ℕ) → n ≡ k → (waiting : List Waiting) → AllByRecursion (IsWaiting vars) waiting → AllByRecursion (IsLawfulArm ws k) (arms_of n s waiting)
  arms_lawful k same [] all = tt
  arms_lawful k same (w ∷ waiting) all = (labels_lawful k same w.labels all.0.labels, arms_lawful k same waiting all.1)

  bodies_lawful : (waiting : List Waiting) → AllByRecursion (IsWaiting vars) waiting → AllByRecursion (IsLawfulBody vars) (arms_of n s waiting)
  bodies_lawful [] all = tt
  bodies_lawful (w ∷ waiting) all = (all.0.body, bodies_lawful waiting all.1)

case_lawful : (vars : List Var) (m : Measured) (waiting : List Waiting) → IsMeasuredIn (widths_of vars) m → AllByRecursion (IsWaiting vars) waiting → IsLawfulStmt vars (case_of m waiting)
case_lawful vars m waiting h all =
    let n = case_size m.size waiting in
    let s = case_signed m.signed waiting in
    let wide = case_wide vars m.size waiting h.width all in
    let value = compared_lawful vars n s wide m h in
    case_made vars (compared n s m) (arms_of n s waiting) value.0
    (arms_lawful vars n s wide (size (widths_of vars) (compared n s m)) (sym value.1) waiting all)
    (bodies_lawful vars n s wide waiting all)

-- ---- statements

module _ (law : MeasuredLawful) where
  labels_measured : (names : Names) (vars : List Var) → ((e : Expr) → IfOk (measured_of (bounds names) vars e) (IsMeasuredIn (widths_of vars))) → (es : List Expr) →
      IfOk (all_of (measured_each names vars es)) (AllByRecursion (IsMeasuredIn (widths_of vars)))
  labels_measured names vars each es = all_ok (IsMeasuredIn (widths_of vars)) (measured_each names vars es) (all_of_them es) where
    all_of_them : (es : List Expr) → AllByRecursion (λ part. IfOk part (IsMeasuredIn (widths_of vars))) (measured_each names vars es)
    all_of_them [] = tt
    all_of_them (e ∷ es) = (each e, all_of_them es)

  arm_gives : (labels : List Expr) (body : Given Stmt) → Gives IsLawfulStmt body → Gives IsWaiting (arm labels body)
  arm_gives labels body given r h =
      ok_behind (AllByRecursion (IsMeasuredIn (widths_of r.vars))) (IsGivenAt IsWaiting r) (all_of (measured_each r.names r.vars labels))
      (λ measured. body r >>= λ b. Ok (record { labels = measured; body = b.0 }, b.1)) (labels_measured r.names r.vars (λ e. law (bounds r.names) r.vars e h.there) labels) (λ measured all.
      ok_behind (IsGivenAt IsLawfulStmt r) (IsGivenAt IsWaiting r) (body r) (λ b. Ok (record { labels = measured; body = b.0 }, b.1)) (given r h) (λ b k.
      (k.0, k.1, record { labels = all; body = k.2 })))

  procedural_gives : (to : Lval) (sign : Id) (e : Expr) → Gives IsLawfulStmt (procedural to sign e)
  procedural_gives to sign e r h =
      ok_behind (λ (a : Target × Term). IsAssignment law r.names r.vars h.there a) (IsGivenAt IsLawfulStmt r) (assignment false r.names r.vars to e)
      (λ a. counted (place_of to) r >>= λ s. Ok (net.Assign (is_blocking sign) a.0 a.1, s)) (assignment_lawful law r.names r.vars h.there false to e) (λ a k.
      behind_counted (IsGivenAt IsLawfulStmt r) (place_of to) r (λ s. Ok (net.Assign (is_blocking sign) a.0 a.1, s)) (λ n.
      (lawful_recounted r n h, refl, assign_made r.vars (is_blocking sign) a.0 a.1 k)))

  if_gives : (test : Expr) (first : Given Stmt) (second : Option (Given Stmt)) → Gives IsLawfulStmt first → Gives IsLawfulElse (optional second) →
      Gives IsLawfulStmt (if_of test first second)
  if_gives test first second one other r h =
      ok_behind (λ (t : Term × Bool). IsTermFor (widths_of r.vars) None t.0) (IsGivenAt IsLawfulStmt r) (term_at r.names r.vars None false test)
      (λ t. first r >>= λ a. optional second a.1 >>= λ b. Ok (net.If t.0 a.0 b.0, b.1)) (term_for law r.names r.vars h.there None false test tt) (λ t is.
      ok_behind (IsGivenAt IsLawfulStmt r) (IsGivenAt IsLawfulStmt r) (first r) (λ a. optional second a.1 >>= λ b. Ok (net.If t.0 a.0 b.0, b.1)) (one r h) (λ a k.
      ok_behind (IsGivenAt IsLawfulElse a.1) (IsGivenAt IsLawfulStmt r) (optional second a.1) (λ b. Ok (net.If t.0 a.0 b.0, b.1)) (other a.1 k.0) (λ b m.
      (m.0, m.1 ∙ k.1, if_made r.vars t.0 a.0 b.0 is.lawful k.2 (subst (λ vars. IsLawfulElse vars b.0) k.1 m.2)))))

  abbrev GivesStmt : source.Stmt → Type 0
  GivesStmt s = Gives IsLawfulStmt (statement s)

  abbrev GivesArm : CaseItem → Type 0
  GivesArm i = Gives IsWaiting (arm_of i)

  case_gives : (value : Expr) (es : List ((i : CaseItem) × GivesArm i)) → Gives IsLawfulStmt (case_with value (map arm_of (map (λ e. e.0) es)))
  case_gives value es r h =
      let arms : List (Given Waiting) = map arm_of (map (λ (e : (i : CaseItem) × GivesArm i). e.0) es) in
      ok_behind (IsMeasuredIn (widths_of r.vars)) (IsGivenAt IsLawfulStmt r) (measured_of (bounds r.names) r.vars value)
      (λ m. sequence arms r >>= λ ws. Ok (case_of m ws.0, ws.1)) (law (bounds r.names) r.vars value h.there) (λ m is.
      ok_behind (IsGivenAt (All IsWaiting) r) (IsGivenAt IsLawfulStmt r) (sequence arms r) (λ ws. Ok (case_of m ws.0, ws.1)) (sequence_gives IsWaiting arm_of es r h) (λ ws k.
      (k.0, k.1, case_lawful r.vars m ws.0 is k.2)))

  block_gives : (label : Option Id) (es : List ((s : source.Stmt) × GivesStmt s)) →
      Gives IsLawfulStmt (statement_layer (stmt.Block label (map statement (map (λ e. e.0) es))))
  block_gives label es r h =
      let parts : List (Given Stmt) = map statement (map (λ (e : (s : source.Stmt) × GivesStmt s). e.0) es) in
      ok_behind (IsLawfulBehind r) (IsGivenAt IsLawfulStmt r) (labelled label r) (λ s. sequence parts s >>= λ b. Ok (net.Block b.0, b.1)) (label_added label r h) (λ s k.
      ok_behind (IsGivenAt (All IsLawfulStmt) s) (IsGivenAt IsLawfulStmt r) (sequence parts s) (λ b. Ok (net.Block b.0, b.1)) (sequence_gives IsLawfulStmt statement es s k.0) (λ b m.
      (m.0, m.1 ∙ k.1, block_made r.vars b.0 (subst (λ vars. All IsLawfulStmt vars b.0) k.1 m.2))))

  abbrev here : Stmt-F ((s : source.Stmt) × GivesStmt s) ((i : CaseItem) × GivesArm i) → Stmt-F source.Stmt CaseItem
  here y = map-Stmt ((s : source.Stmt) × GivesStmt s) ((i : CaseItem) × GivesArm i) source.Stmt CaseItem (λ e. e.0) (λ e. e.0) y

  abbrev here_arm : CaseItem-F ((s : source.Stmt) × GivesStmt s) ((i : CaseItem) × GivesArm i) → CaseItem-F source.Stmt CaseItem
  here_arm y = map-CaseItem ((s : source.Stmt) × GivesStmt s) ((i : CaseItem) × GivesArm i) source.Stmt CaseItem (λ e. e.0) (λ e. e.0) y

  layer_gives : (y : Stmt-F ((s : source.Stmt) × GivesStmt s) ((i : CaseItem) × GivesArm i)) →
      Gives IsLawfulStmt (statement_layer (map-Stmt source.Stmt CaseItem (Given Stmt) (Given Waiting) statement arm_of (here y)))
  layer_gives (stmt.Block label es) = block_gives label es
  layer_gives (stmt.If place test first None) = if_gives test (statement first.0) None first.1 (λ r h. (h, refl, tt))
  layer_gives (stmt.If place test first (Some second)) =
      if_gives test (statement first.0) (Some (statement second.0)) first.1 (λ r h.
      ok_behind (IsGivenAt IsLawfulStmt r) (IsGivenAt IsLawfulElse r) (statement second.0 r) (λ a. Ok (Some a.0, a.1)) (second.1 r h) (λ a k. k))
  layer_gives (stmt.Case place value es) = case_gives value es
  layer_gives (stmt.For place header body) = λ r h. tt
  layer_gives (stmt.Assign to sign e) = procedural_gives to sign e
  layer_gives stmt.Empty = λ r h. (h, refl, block_made r.vars [] tt)

  rolled_gives : (y : Stmt-F ((s : source.Stmt) × GivesStmt s) ((i : CaseItem) × GivesArm i)) → GivesStmt (roll-Stmt (here y))
  rolled_gives y = subst (Gives IsLawfulStmt) (sym (fold-roll-Stmt (Given Stmt) (Given Waiting) statement_layer arm_layer (here y))) (layer_gives y)

  rolled_arm_gives : (y : CaseItem-F ((s : source.Stmt) × GivesStmt s) ((i : CaseItem) × GivesArm i)) → GivesArm (roll-CaseItem (here_arm y))
  rolled_arm_gives y =
      subst (Gives IsWaiting) (sym (fold-roll-CaseItem (Given Stmt) (Given Waiting) statement_layer arm_layer (here_arm y))) (arm_gives y.labels (statement y.body.0) y.body.1)

  pub statement_gives : (s : source.Stmt) → GivesStmt s
  statement_gives =
      ind-Stmt GivesStmt GivesArm (λ x y is. subst (λ z. GivesStmt (roll-Stmt z)) is (rolled_gives y)) (λ x y is. subst (λ z. GivesArm (roll-CaseItem z)) is (rolled_arm_gives y))
