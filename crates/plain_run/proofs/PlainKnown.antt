-- That a design is plain may be kept as a fact that has one proof at most, from which a proof comes back.
use Rattle.std.proofs.Common.{◌≡◌, ℕ, List, [], ◌∷◌, map, refl, sym, ◌∙◌, ap, subst, Option, Some, None}
use Rattle.std.specs.Prelude.{⊤, slice_get}
use Rattle.std.specs.List.{AllByRecursion}
use Rattle.std.specs.Coded.{×_prop, Unit-prop}
use Rattle.std.proofs.Math.Logic.{∥∥₁_elim}
use Rattle.std.proofs.Props.{props}
use mathlib.Core.Logic.{∥∥₁_map}
use mathlib.Core.HLevel.{⊥_prop}
use Rattle.bit_ops.specs.Width.{IsWidth, OneWidth, TwoWidths, ThreeWidths, WidthsFit}
use Rattle.bit_ops.specs.declared.operation.Op.{Op}
use Rattle.bit_ops.specs.declared.operation.Op.TheVariants as op
use Rattle.net_ir.specs.declared.term.Term.{Term}
use Rattle.net_ir.specs.declared.term.Term.TheOpen as term
use Rattle.net_ir.specs.declared.term.Term.TheOpen.{Term-F}
use Rattle.net_ir.specs.declared.term.Term.TheViews.{roll-Term, out-roll-Term}
use Rattle.net_ir.specs.declared.term.Term.TheFolds.{map-Term, ind-Term, every-Term, every_here-Term, every_held-Term, every_made-Term}
use Rattle.net_ir.specs.declared.statement.Pos.{Pos}
use Rattle.net_ir.specs.declared.statement.Target.{Target}
use Rattle.net_ir.specs.declared.statement.Target.TheOpen as target
use Rattle.net_ir.specs.declared.statement.Target.TheOpen.{Target-F}
use Rattle.net_ir.specs.declared.statement.Target.TheViews.{roll-Target, out-roll-Target}
use Rattle.net_ir.specs.declared.statement.Target.TheFolds.{map-Target, ind-Target, every-Target, every_here-Target, every_held-Target, every_made-Target}
use Rattle.net_ir.specs.declared.statement.Arm.{Arm}
use Rattle.net_ir.specs.declared.statement.Stmt.{Stmt}
use Rattle.net_ir.specs.declared.statement.Stmt.TheOpen as stmt
use Rattle.net_ir.specs.declared.statement.Stmt.TheOpen.{Stmt-F, Arm-F}
use Rattle.net_ir.specs.declared.statement.Stmt.TheViews.{roll-Stmt, out-roll-Stmt, roll-Arm, out-roll-Arm}
use Rattle.net_ir.specs.declared.statement.Stmt.TheFolds.{map-Stmt, ind-Stmt, every-Stmt, every-Arm, every_here-Stmt, every_held-Stmt, every_made-Stmt, every_held-Arm, every_made-Arm}
use Rattle.net_ir.specs.declared.design.Role.{Role}
use Rattle.net_ir.specs.declared.design.Role.TheVariants.{Input, Output, Inner}
use Rattle.net_ir.specs.declared.design.Var.{Var}
use Rattle.net_ir.specs.declared.design.Trigger.{Trigger}
use Rattle.net_ir.specs.declared.design.Output.{Output as Joined}
use Rattle.net_ir.specs.declared.design.Driver.{Driver}
use Rattle.net_ir.specs.declared.design.Driver.TheVariants as driver
use Rattle.net_ir.specs.declared.design.Spec.{Spec}
use Rattle.net_ir.specs.Value.{widths_of, size}
use Rattle.net_ir.specs.Lawful.{IsLawfulLayer, IsLawful, IsLawfulPos, IsThere, IsLawfulTargetLayer, IsLawfulTarget, IsLawfulAssign, IsLawfulArm, IsLawfulStmtLayer, IsLawfulStmt, IsLawfulTrigger, IsLawfulInput, IsLawfulJoined, IsLawfulDriver, IsLawfulVar, IsLawfulSpec}
use Rattle.net_values.specs.Positions.{HasFixedPosition, HasFixedLayer, HasFixedPositions}
use Rattle.driver_check.specs.Written.{wrong_assigns}
use Rattle.plain_run.specs.Plain.{IsTimely, AreOrdered, IsPlainTrigger, HasPlainClocks, IsPlain}
use Rattle.net_values.proofs.Elements.{all_held}

-- a proof comes back from the fact that there is one
abbrev Known : Type 0 → Type 0
Known A = ∥ A ∥₁ → A

both_known : (A B : Type 0) → Known A → Known B → Known (A × B)
both_known A B first second h = (first (∥∥₁_map h (λ p. p.0)), second (∥∥₁_map h (λ p. p.1)))

none_known : Known ⊥
none_known h = ∥∥₁_elim h ⊥_prop (λ none. none)

empty_known : {X : Type 0} (xs : List X) → Known (xs ≡ [])
empty_known [] h = refl
empty_known (x ∷ xs) h = absurd (∥∥₁_elim h ⊥_prop (λ is. let clash : x ∷ xs ≡ [] = is in absurd (cc)))

all_known : {X : Type 0} (P : X → Type 0) (xs : List X) → AllByRecursion (λ x. Known (P x)) xs → Known (AllByRecursion P xs)
all_known P [] known h = tt
all_known P (x ∷ xs) known h = (known.0 (∥∥₁_map h (λ a. a.0)), all_known P xs known.1 (∥∥₁_map h (λ a. a.1)))

each_known : {X : Type 0} (P : X → Type 0) → ((x : X) → Known (P x)) → (xs : List X) → Known (AllByRecursion P xs)
each_known P known [] h = tt
each_known P known (x ∷ xs) h = (known x (∥∥₁_map h (λ a. a.0)), each_known P known xs (∥∥₁_map h (λ a. a.1)))

-- items that carry a fact of themselves, from the list and its facts
held_of : {X : Type 0} (P : X → Type 0) (xs : List X) → AllByRecursion P xs → (held : List ((x : X) × P x)) × (map (λ e. e.0) held ≡ xs)
held_of P [] all = ([], refl)
held_of P (x ∷ xs) all = let rest = held_of P xs all.1 in ((x, all.0) ∷ rest.0, ap (λ ys. x ∷ ys) rest.1)

-- what an optional element has
abbrev WhereSome : {X : Type 0} → (X → Type 0) → Option X → Type 0
WhereSome P None = ⊤
WhereSome P (Some x) = P x

-- an element with a fact of itself
abbrev Held : {X : Type 0} → (X → Type 0) → Type 0
Held {X = X} P = (x : X) × P x

-- ---- terms: that something holds of each layer comes back where it comes back of a layer

-- what the parts of a layer have
abbrev TermParts : (Term → Type 0) → Term-F Term → Type 0
TermParts P (term.Const bits) = ⊤
TermParts P (term.Read var place) = ⊤
TermParts P (term.Pick base low at at_signed down width) = P base × P at
TermParts P (term.Apply o width lo args) = AllByRecursion P args

abbrev bare_term : (P : Term → Type 0) → Term-F (Held P) → Term-F Term
bare_term P = map-Term (Held P) Term (λ e. e.0)

term_parts : (P : Term → Type 0) (y : Term-F (Held P)) → TermParts P (bare_term P y)
term_parts P (term.Const bits) = tt
term_parts P (term.Read var place) = tt
term_parts P (term.Pick base low at at_signed down width) = (base.1, at.1)
term_parts P (term.Apply o width lo held) = all_held P held

term_of_parts : (P : Term → Type 0) (x : Term-F Term) → TermParts P x → (y : Term-F (Held P)) × (bare_term P y ≡ x)
term_of_parts P (term.Const bits) parts = (term.Const bits, refl)
term_of_parts P (term.Read var place) parts = (term.Read var place, refl)
term_of_parts P (term.Pick base low at at_signed down width) parts = (term.Pick (base, parts.0) low (at, parts.1) at_signed down width, refl)
term_of_parts P (term.Apply o width lo args) parts =
    let held = held_of P args parts in (term.Apply o width lo held.0, ap (λ ts. term.Apply o width lo ts) held.1)

term_parts_known : (P : Term → Type 0) (x : Term-F Term) → TermParts (λ t. Known (P t)) x → Known (TermParts P x)
term_parts_known P (term.Const bits) known = λ h. tt
term_parts_known P (term.Read var place) known = λ h. tt
term_parts_known P (term.Pick base low at at_signed down width) known = both_known (P base) (P at) known.0 known.1
term_parts_known P (term.Apply o width lo args) known = all_known P args known

term_known : (L : Term-F Term → Type 0) → ((x : Term-F Term) → Known (L x)) → (t : Term) → Known (every-Term L t)
term_known L known = ind-Term (λ t. Known (every-Term L t)) (λ x y is. step x (subst (TermParts (λ t. Known (every-Term L t))) is (term_parts (λ t. Known (every-Term L t)) y))) where
  P : Term → Type 0
  P = every-Term L

  step : (x : Term-F Term) → TermParts (λ t. Known (every-Term L t)) x → Known (every-Term L (roll-Term x))
  step x knowns h =
      let here : L x = known x (∥∥₁_map h (λ e. subst L (out-roll-Term x) (every_here-Term L (roll-Term x) e))) in
      let parts : TermParts P x = term_parts_known P x knowns (∥∥₁_map h (λ e.
      let held = every_held-Term L (roll-Term x) e in
      subst (TermParts P) (held.1 ∙ out-roll-Term x) (term_parts P held.0))) in
      let made = term_of_parts P x parts in
      every_made-Term L x made.0 made.1 here

-- ---- targets

abbrev TargetParts : (Target → Type 0) → Target-F Target → Type 0
TargetParts P (target.Of var name place p) = ⊤
TargetParts P (target.List parts) = AllByRecursion P parts

abbrev bare_target : (P : Target → Type 0) → Target-F (Held P) → Target-F Target
bare_target P = map-Target (Held P) Target (λ e. e.0)

target_parts : (P : Target → Type 0) (y : Target-F (Held P)) → TargetParts P (bare_target P y)
target_parts P (target.Of var name place p) = tt
target_parts P (target.List held) = all_held P held

target_of_parts : (P : Target → Type 0) (x : Target-F Target) → TargetParts P x → (y : Target-F (Held P)) × (bare_target P y ≡ x)
target_of_parts P (target.Of var name place p) parts = (target.Of var name place p, refl)
target_of_parts P (target.List ts) parts = let held = held_of P ts parts in (target.List held.0, ap (λ xs. target.List xs) held.1)

target_parts_known : (P : Target → Type 0) (x : Target-F Target) → TargetParts (λ t. Known (P t)) x → Known (TargetParts P x)
target_parts_known P (target.Of var name place p) known = λ h. tt
target_parts_known P (target.List parts) known = all_known P parts known

target_known : (L : Target-F Target → Type 0) → ((x : Target-F Target) → Known (L x)) → (t : Target) → Known (every-Target L t)
target_known L known = ind-Target (λ t. Known (every-Target L t)) (λ x y is. step x (subst (TargetParts (λ t. Known (every-Target L t))) is (target_parts (λ t. Known (every-Target L t)) y))) where
  P : Target → Type 0
  P = every-Target L

  step : (x : Target-F Target) → TargetParts (λ t. Known (every-Target L t)) x → Known (every-Target L (roll-Target x))
  step x knowns h =
      let here : L x = known x (∥∥₁_map h (λ e. subst L (out-roll-Target x) (every_here-Target L (roll-Target x) e))) in
      let parts : TargetParts P x = target_parts_known P x knowns (∥∥₁_map h (λ e.
      let held = every_held-Target L (roll-Target x) e in
      subst (TargetParts P) (held.1 ∙ out-roll-Target x) (target_parts P held.0))) in
      let made = target_of_parts P x parts in
      every_made-Target L x made.0 made.1 here

-- ---- statements

abbrev StmtParts : (Stmt → Type 0) → (Arm → Type 0) → Stmt-F Stmt Arm → Type 0
StmtParts P Q (stmt.Block parts) = AllByRecursion P parts
StmtParts P Q (stmt.If test first second) = P first × WhereSome P second
StmtParts P Q (stmt.Case value arms) = AllByRecursion Q arms
StmtParts P Q (stmt.Assign blocking to value) = ⊤

abbrev bare_stmt : (P : Stmt → Type 0) (Q : Arm → Type 0) → Stmt-F (Held P) (Held Q) → Stmt-F Stmt Arm
bare_stmt P Q = map-Stmt (Held P) (Held Q) Stmt Arm (λ e. e.0) (λ e. e.0)

stmt_parts : (P : Stmt → Type 0) (Q : Arm → Type 0) (y : Stmt-F (Held P) (Held Q)) → StmtParts P Q (bare_stmt P Q y)
stmt_parts P Q (stmt.Block held) = all_held P held
stmt_parts P Q (stmt.If test first None) = (first.1, tt)
stmt_parts P Q (stmt.If test first (Some second)) = (first.1, second.1)
stmt_parts P Q (stmt.Case value held) = all_held Q held
stmt_parts P Q (stmt.Assign blocking to value) = tt

stmt_of_parts : (P : Stmt → Type 0) (Q : Arm → Type 0) (x : Stmt-F Stmt Arm) → StmtParts P Q x → (y : Stmt-F (Held P) (Held Q)) × (bare_stmt P Q y ≡ x)
stmt_of_parts P Q (stmt.Block ss) parts = let held = held_of P ss parts in (stmt.Block held.0, ap (λ xs. stmt.Block xs) held.1)
stmt_of_parts P Q (stmt.If test first None) parts = (stmt.If test (first, parts.0) None, refl)
stmt_of_parts P Q (stmt.If test first (Some second)) parts = (stmt.If test (first, parts.0) (Some (second, parts.1)), refl)
stmt_of_parts P Q (stmt.Case value arms) parts = let held = held_of Q arms parts in (stmt.Case value held.0, ap (λ xs. stmt.Case value xs) held.1)
stmt_of_parts P Q (stmt.Assign blocking to value) parts = (stmt.Assign blocking to value, refl)

stmt_parts_known : (P : Stmt → Type 0) (Q : Arm → Type 0) (x : Stmt-F Stmt Arm) → StmtParts (λ s. Known (P s)) (λ a. Known (Q a)) x → Known (StmtParts P Q x)
stmt_parts_known P Q (stmt.Block parts) known = all_known P parts known
stmt_parts_known P Q (stmt.If test first None) known = both_known (P first) ⊤ known.0 (λ h. tt)
stmt_parts_known P Q (stmt.If test first (Some second)) known = both_known (P first) (P second) known.0 known.1
stmt_parts_known P Q (stmt.Case value arms) known = all_known Q arms known
stmt_parts_known P Q (stmt.Assign blocking to value) known = λ h. tt

stmt_known : (L : Stmt-F Stmt Arm → Type 0) → ((x : Stmt-F Stmt Arm) → Known (L x)) → (s : Stmt) → Known (every-Stmt L (λ arm. ⊤) s)
stmt_known L known =
    ind-Stmt KnownStmt KnownArm (λ x y is. step x (subst (StmtParts KnownStmt KnownArm) is (stmt_parts KnownStmt KnownArm y)))
    (λ x y is. arm_step x (subst (λ (z : Arm-F Stmt Arm). KnownStmt z.body) is y.body.1)) where
      P : Stmt → Type 0
      P = every-Stmt L (λ arm. ⊤)

      Q : Arm → Type 0
      Q = every-Arm L (λ arm. ⊤)

      KnownStmt : Stmt → Type 0
      KnownStmt s = Known (every-Stmt L (λ arm. ⊤) s)

      KnownArm : Arm → Type 0
      KnownArm a = Known (every-Arm L (λ arm. ⊤) a)

      step : (x : Stmt-F Stmt Arm) → StmtParts KnownStmt KnownArm x → Known (every-Stmt L (λ arm. ⊤) (roll-Stmt x))
      step x knowns h =
          let here : L x = known x (∥∥₁_map h (λ e. subst L (out-roll-Stmt x) (every_here-Stmt L (λ arm. ⊤) (roll-Stmt x) e))) in
          let parts : StmtParts P Q x = stmt_parts_known P Q x knowns (∥∥₁_map h (λ e.
          let held = every_held-Stmt L (λ arm. ⊤) (roll-Stmt x) e in
          subst (StmtParts P Q) (held.1 ∙ out-roll-Stmt x) (stmt_parts P Q held.0))) in
          let made = stmt_of_parts P Q x parts in
          every_made-Stmt L (λ arm. ⊤) x made.0 made.1 here

      arm_step : (x : Arm-F Stmt Arm) → KnownStmt x.body → Known (every-Arm L (λ arm. ⊤) (roll-Arm x))
      arm_step x known_body h =
          let body : P x.body = known_body (∥∥₁_map h (λ e.
          let held = every_held-Arm L (λ arm. ⊤) (roll-Arm x) e in
          subst (λ (z : Arm-F Stmt Arm). P z.body) (held.1 ∙ out-roll-Arm x) held.0.body.1)) in
          every_made-Arm L (λ arm. ⊤) x (record { labels = x.labels; body = (x.body, body) }) refl tt

-- ---- lawful terms

one-prop : (P : ℕ → Type 0) → ((n : ℕ) → IsProp (P n)) → (widths : List ℕ) → IsProp (OneWidth P widths)
one-prop P p [] = ⊥_prop
one-prop P p (n ∷ []) = p n
one-prop P p (n ∷ m ∷ rest) = ⊥_prop

two-prop : (P : ℕ → ℕ → Type 0) → ((n m : ℕ) → IsProp (P n m)) → (widths : List ℕ) → IsProp (TwoWidths P widths)
two-prop P p [] = ⊥_prop
two-prop P p (n ∷ rest) = one-prop (P n) (p n) rest

three-prop : (P : ℕ → ℕ → ℕ → Type 0) → ((c n m : ℕ) → IsProp (P c n m)) → (widths : List ℕ) → IsProp (ThreeWidths P widths)
three-prop P p [] = ⊥_prop
three-prop P p (n ∷ rest) = two-prop (P n) (p n) rest

fit-prop : (o : Op) (w lo : ℕ) (widths : List ℕ) → IsProp (WidthsFit o w lo widths)
fit-prop op.Const w lo widths = one-prop _ (λ n. hlevel props) widths
fit-prop op.Zext w lo widths = one-prop _ (λ n. hlevel props) widths
fit-prop op.Sext w lo widths = one-prop _ (λ n. hlevel props) widths
fit-prop op.Slice w lo widths = one-prop _ (λ n. hlevel props) widths
fit-prop op.Concat w lo widths = two-prop _ (λ n m. hlevel props) widths
fit-prop op.Not w lo widths = one-prop _ (λ n. hlevel props) widths
fit-prop op.Neg w lo widths = one-prop _ (λ n. hlevel props) widths
fit-prop op.And w lo widths = two-prop _ (λ n m. hlevel props) widths
fit-prop op.Or w lo widths = two-prop _ (λ n m. hlevel props) widths
fit-prop op.Xor w lo widths = two-prop _ (λ n m. hlevel props) widths
fit-prop op.Add w lo widths = two-prop _ (λ n m. hlevel props) widths
fit-prop op.Sub w lo widths = two-prop _ (λ n m. hlevel props) widths
fit-prop op.Mul w lo widths = two-prop _ (λ n m. hlevel props) widths
fit-prop op.DivU w lo widths = two-prop _ (λ n m. hlevel props) widths
fit-prop op.DivS w lo widths = two-prop _ (λ n m. hlevel props) widths
fit-prop op.ModU w lo widths = two-prop _ (λ n m. hlevel props) widths
fit-prop op.ModS w lo widths = two-prop _ (λ n m. hlevel props) widths
fit-prop op.Shl w lo widths = two-prop _ (λ n m. hlevel props) widths
fit-prop op.ShrU w lo widths = two-prop _ (λ n m. hlevel props) widths
fit-prop op.ShrS w lo widths = two-prop _ (λ n m. hlevel props) widths
fit-prop op.Eq w lo widths = two-prop _ (λ n m. hlevel props) widths
fit-prop op.LtU w lo widths = two-prop _ (λ n m. hlevel props) widths
fit-prop op.LtS w lo widths = two-prop _ (λ n m. hlevel props) widths
fit-prop op.RedAnd w lo widths = one-prop _ (λ n. hlevel props) widths
fit-prop op.RedOr w lo widths = one-prop _ (λ n. hlevel props) widths
fit-prop op.RedXor w lo widths = one-prop _ (λ n. hlevel props) widths
fit-prop op.Mux w lo widths = three-prop _ (λ c n m. hlevel props) widths
fit-prop op.Insert w lo widths = two-prop _ (λ n m. hlevel props) widths

-- a width is known
width_known : (width : ℕ) → Known (IsWidth width)
width_known width h = ∥∥₁_elim h (hlevel props) (λ is. is)

lawful_known : (ws : List ℕ) (t : Term) → Known (IsLawful ws t)
lawful_known ws = term_known (IsLawfulLayer ws) layer where
  layer : (x : Term-F Term) → Known (IsLawfulLayer ws x)
  layer (term.Const bits) = λ h. tt
  layer (term.Read var place) = λ h. ∥∥₁_elim h (hlevel props) (λ is. is)
  layer (term.Pick base low at at_signed down width) = width_known width
  layer (term.Apply o width lo args) = λ h. ∥∥₁_elim h (×_prop (hlevel props) (fit-prop o width lo (map (size ws) args))) (λ is. is)

-- ---- lawful targets and statements

there_known : (ws : List ℕ) (var : Option ℕ) → Known (IsThere ws var)
there_known ws None = λ h. tt
there_known ws (Some x) = λ h. ∥∥₁_elim h (hlevel props) (λ is. is)

pos_known : (ws : List ℕ) (p : Option Pos) → Known (IsLawfulPos ws p)
pos_known ws None = λ h. tt
pos_known ws (Some p) = both_known (IsLawful ws p.at) (IsWidth p.width) (lawful_known ws p.at) (width_known p.width)

lawful_target_known : (ws : List ℕ) (to : Target) → Known (IsLawfulTarget ws to)
lawful_target_known ws = target_known (IsLawfulTargetLayer ws) layer where
  layer : (x : Target-F Target) → Known (IsLawfulTargetLayer ws x)
  layer (target.Of var name place p) = both_known (IsThere ws var) (IsLawfulPos ws p) (there_known ws var) (pos_known ws p)
  layer (target.List parts) = λ h. tt

assign_known : (vars : List Var) (to : Target) (value : Term) → Known (IsLawfulAssign vars to value)
assign_known vars to value h = record {
  lawful_target = lawful_target_known (widths_of vars) to (∥∥₁_map h (λ is. is.lawful_target));
  lawful_value = lawful_known (widths_of vars) value (∥∥₁_map h (λ is. is.lawful_value));
  wide = ∥∥₁_elim h (hlevel props) (λ is. is.wide);
}

arm_known : (ws : List ℕ) (n : ℕ) (arm : Arm) → Known (IsLawfulArm ws n arm)
arm_known ws n arm =
    each_known (λ label. IsLawful ws label × (size ws label ≡ n))
    (λ label. both_known (IsLawful ws label) (size ws label ≡ n) (lawful_known ws label) (λ h. ∥∥₁_elim h (hlevel props) (λ is. is))) arm.labels

lawful_stmt_known : (vars : List Var) (s : Stmt) → Known (IsLawfulStmt vars s)
lawful_stmt_known vars = stmt_known (IsLawfulStmtLayer vars) layer where
  ws : List ℕ
  ws = widths_of vars

  layer : (x : Stmt-F Stmt Arm) → Known (IsLawfulStmtLayer vars x)
  layer (stmt.Block parts) = λ h. tt
  layer (stmt.If test first second) = lawful_known ws test
  layer (stmt.Case value arms) =
      both_known (IsLawful ws value) (AllByRecursion (IsLawfulArm ws (size ws value)) arms) (lawful_known ws value)
      (each_known (IsLawfulArm ws (size ws value)) (arm_known ws (size ws value)) arms)
  layer (stmt.Assign blocking to value) = assign_known vars to value

-- ---- lawful designs

lawful_driver_known : (vars : List Var) (d : Driver) → Known (IsLawfulDriver vars d)
lawful_driver_known vars (driver.Assign to value place) = assign_known vars to value
lawful_driver_known vars (driver.Comb body place) = lawful_stmt_known vars body
lawful_driver_known vars (driver.Clocked triggers body place) =
    both_known (AllByRecursion (IsLawfulTrigger (widths_of vars)) triggers) (IsLawfulStmt vars body)
    (each_known (IsLawfulTrigger (widths_of vars)) (λ t. there_known (widths_of vars) t.var) triggers) (lawful_stmt_known vars body)
lawful_driver_known vars (driver.Instance made) =
    both_known (AllByRecursion (IsLawfulInput ws) made.inputs) (AllByRecursion (λ (o : Joined). IsLawfulJoined ws o.target) made.outputs)
    (each_known (IsLawfulInput ws) (λ i. both_known (IsThere ws i.plain) (IsLawful ws i.value) (there_known ws i.plain) (lawful_known ws i.value)) made.inputs)
    (each_known (λ (o : Joined). IsLawfulJoined ws o.target) (λ o. joined o.target) made.outputs) where
      ws : List ℕ
      ws = widths_of vars

      joined : (to : Option Target) → Known (IsLawfulJoined ws to)
      joined None = λ h. tt
      joined (Some to) = lawful_target_known ws to

variable_known : (v : Var) → Known (IsLawfulVar v)
variable_known v h = record {
  initial = ∥∥₁_elim h (hlevel props) (λ lawful. lawful.initial);
  low = λ unranged. ∥∥₁_elim h (hlevel props) (λ lawful. lawful.low unranged);
  high = ∥∥₁_elim h (hlevel props) (λ lawful. lawful.high);
}

lawful_spec_known : (spec : Spec) → Known (IsLawfulSpec spec)
lawful_spec_known spec h = record {
  vars = each_known IsLawfulVar variable_known spec.vars (∥∥₁_map h (λ lawful. lawful.vars));
  drivers = each_known (IsLawfulDriver spec.vars) (lawful_driver_known spec.vars) spec.drivers (∥∥₁_map h (λ lawful. lawful.drivers));
  ports = λ x v at outer. ∥∥₁_elim h (hlevel props) (λ lawful. lawful.ports x v at outer);
}

-- ---- the order of drivers

fixed_known : (to : Target) → Known (HasFixedPositions to)
fixed_known = target_known HasFixedLayer layer where
  position : (p : Option Pos) → Known (HasFixedPosition p)
  position None = λ h. tt
  position (Some p) = λ h. ∥∥₁_elim h (hlevel props) (λ is. is)

  layer : (x : Target-F Target) → Known (HasFixedLayer x)
  layer (target.Of var name place p) = position p
  layer (target.List parts) = λ h. tt

timely_known : (d : Driver) → Known (IsTimely d)
timely_known (driver.Assign to value place) = fixed_known to
timely_known (driver.Comb body place) = none_known
timely_known (driver.Clocked triggers body place) = λ h. tt
timely_known (driver.Instance made) = none_known

ordered-prop : (drivers : List Driver) → IsProp (AreOrdered drivers)
ordered-prop [] = Unit-prop
ordered-prop (d ∷ later) = ×_prop (hlevel props) (ordered-prop later)

-- ---- clocks

role_known : (role : Role) → Known (role ≡ Input)
role_known Input h = refl
role_known Output h = absurd (∥∥₁_elim h ⊥_prop (λ is. absurd (cc)))
role_known Inner h = absurd (∥∥₁_elim h ⊥_prop (λ is. absurd (cc)))

found_known : (found : Option Var) → Known ((v : Var) × (found ≡ Some v) × (v.role ≡ Input))
found_known None h = absurd (∥∥₁_elim h ⊥_prop (λ e. let clash : None ≡ Some e.0 = e.1 in absurd (cc)))
found_known (Some w) h = (
  w,
  refl,
  role_known w.role
      (∥∥₁_map h (λ e. let same : Some w ≡ Some e.0 = e.1 in let here : w ≡ e.0 = cc in subst (λ (v : Var). v.role ≡ Input) (sym here) e.2)),
)

trigger_known : (spec : Spec) (var : Option ℕ) → Known (IsPlainTrigger spec var)
trigger_known spec None h = ∥∥₁_elim h ⊥_prop (λ none. none)
trigger_known spec (Some clock) h = record {
  input = found_known (slice_get spec.vars clock) (∥∥₁_map h (λ plain. plain.input));
  one_bit = ∥∥₁_elim h (hlevel props) (λ plain. plain.one_bit);
  unread = ∥∥₁_elim h (hlevel props) (λ plain. plain.unread);
}

clocks_known : (spec : Spec) (d : Driver) → Known (HasPlainClocks spec d)
clocks_known spec (driver.Assign to value place) h = tt
clocks_known spec (driver.Comb body place) h = tt
clocks_known spec (driver.Clocked triggers body place) h = each_known (λ (t : Trigger). IsPlainTrigger spec t.var) (λ t. trigger_known spec t.var) triggers h
clocks_known spec (driver.Instance made) h = tt

pub plain_known : (spec : Spec) → ∥ IsPlain spec ∥₁ → IsPlain spec
plain_known spec h = record {
  lawful = lawful_spec_known spec (∥∥₁_map h (λ plain. plain.lawful));
  timely = each_known IsTimely timely_known spec.drivers (∥∥₁_map h (λ plain. plain.timely));
  rightly = empty_known (wrong_assigns spec) (∥∥₁_map h (λ plain. plain.rightly));
  inner = ∥∥₁_elim h (hlevel props) (λ plain. plain.inner);
  ordered = ∥∥₁_elim h (ordered-prop spec.drivers) (λ plain. plain.ordered);
  clocks = each_known (HasPlainClocks spec) (clocks_known spec) spec.drivers (∥∥₁_map h (λ plain. plain.clocks));
}
