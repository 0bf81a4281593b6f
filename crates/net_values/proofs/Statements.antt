-- Statements of clocked processes: what they write, layer by layer, which bits, and what they read.
use Rattle.std.proofs.Common.{◌≡◌, ℕ, zero, suc, ◌+◌, Bool, true, false, List, [], ◌∷◌, ◌++◌, map, refl, sym, ◌∙◌, ap, subst, arith, Option, None, Some, inl, inr}
use Rattle.std.specs.Prelude.{◌==◌, ◌||◌, slice_get, slice_index, cond, if◌then◌else◌, ◌⊎◌, ⊤}
use Rattle.std.specs.List.{AllByRecursion, flat_map, position_from}
use Rattle.std.specs.Option.{option_map}
use Rattle.std.proofs.lemmas.List.{append-nil, append_assoc}
use Rattle.std.proofs.lemmas.List.Folds.{flat_map-map, list_any-append}
use Rattle.net_ir.specs.declared.term.Term.{Term}
use Rattle.net_ir.specs.declared.design.Var.{Var}
use Rattle.net_ir.specs.declared.statement.Target.{Target}
use Rattle.net_ir.specs.declared.statement.Arm.{Arm}
use Rattle.net_ir.specs.declared.statement.Stmt.{Stmt, Block, If, Case, Assign}
use Rattle.net_ir.specs.declared.statement.Stmt.TheOpen as layer
use Rattle.net_ir.specs.declared.statement.Stmt.TheOpen.{Stmt-F, Arm-F}
use Rattle.net_ir.specs.declared.statement.Stmt.TheViews.{out-Stmt, roll-Stmt}
use Rattle.net_ir.specs.declared.statement.Stmt.TheVariants.{rolls-Block, outs-Block, rolls-If, outs-If, rolls-Case, outs-Case, rolls-Assign, outs-Assign}
use Rattle.net_ir.specs.declared.statement.Stmt.TheFolds.{map-Stmt, map-Arm, fold_out-Stmt, fold_out-Arm, fold-Arm, ind-Stmt}
use Rattle.net_ir.specs.Value.{val, widths_of, reads_of}
use Rattle.net_ir.specs.Target.{Write, writes_to, last_bit, is_empty, may_write, target_reads}
use Rattle.net_ir.specs.Statement.{Effect, Seen, Branch, in_turn, or_nothing, has_label, labelled_or, default_of, taken, effect, effect_layer, branch_layer, clocked_writes, targets_of, targets_of_layer, arm_targets, statement_reads, reads_of_arm}
use Rattle.net_ir.specs.Drive.{any_may_write}
use Rattle.net_ir.proofs.Marking.{statement_layer, arm_both}
use Rattle.net_values.specs.Writes.{IsWithin, AreWithin, AgreeOn}
use Rattle.net_values.specs.code.Arms.{labelled_arm, default_arm, or_else, taken_arm}
use Rattle.net_values.proofs.Terms.{all_front, all_back, operand_is_local}
use Rattle.net_values.proofs.Elements.{all_from, all_get, all_held, all_join, each_flat, all_both, flat_same}
use Rattle.net_values.proofs.BitWrites.{last_found}
use Rattle.net_values.proofs.Targets.{target_within, target_may, writes_local}

-- what holds of each assignment, and of each other statement where it holds of its parts, holds of each statement
abbrev HoldsElse : (Stmt → Type 0) → Option Stmt → Type 0
HoldsElse P None = ⊤
HoldsElse P (Some s) = P s

module _ (P : Stmt → Type 0) where
  abbrev HoldsIn : Arm → Type 0
  HoldsIn arm = P arm.body

  pub by_statement : ((parts : List Stmt) → AllByRecursion P parts → P (Block parts)) →
      ((test : Term) (first : Stmt) (second : Option Stmt) → P first → HoldsElse P second → P (If test first second)) →
      ((value : Term) (arms : List Arm) → AllByRecursion HoldsIn arms → P (Case value arms)) →
      ((blocking : Bool) (target : Target) (value : Term) → P (Assign blocking target value)) → (s : Stmt) → P s
  by_statement block test case assign =
      ind-Stmt P HoldsIn (λ x y is. subst (λ z. P (roll-Stmt z)) is (step y)) (λ x y is. subst (λ (a : Arm-F Stmt Arm). P a.body) is (in_arm y)) where
        in_arm : (y : Arm-F ((s : Stmt) × P s) ((a : Arm) × HoldsIn a)) → P (map-Arm ((s : Stmt) × P s) ((a : Arm) × HoldsIn a) Stmt Arm (λ e. e.0) (λ e. e.0) y).body
        in_arm y = y.body.1

        step : (y : Stmt-F ((s : Stmt) × P s) ((a : Arm) × HoldsIn a)) → P (roll-Stmt (map-Stmt ((s : Stmt) × P s) ((a : Arm) × HoldsIn a) Stmt Arm (λ e. e.0) (λ e. e.0) y))
        step (layer.Block held) =
            let parts : List Stmt = map (λ e. e.0) held in
            subst P (sym (rolls-Block parts)) (block parts (all_held P held))
        step (layer.If c first None) = subst P (sym (rolls-If c first.0 None)) (test c first.0 None first.1 tt)
        step (layer.If c first (Some second)) = subst P (sym (rolls-If c first.0 (Some second.0))) (test c first.0 (Some second.0) first.1 second.1)
        step (layer.Case value held) =
            let arms : List Arm = map (λ e. e.0) held in
            subst P (sym (rolls-Case value arms)) (case value arms (all_held HoldsIn held))
        step (layer.Assign blocking target value) = subst P (sym (rolls-Assign blocking target value)) (assign blocking target value)

-- ---- effects, layer by layer

module _ (vars : List Var) (seen : Seen) where
  abbrev branch : Arm → Branch
  branch = fold-Arm Effect Branch (effect_layer vars seen) branch_layer

  effect_at : (s : Stmt) (y : Stmt-F Stmt Arm) → out-Stmt s ≡ y → effect vars seen s ≡ effect_layer vars seen (map-Stmt Stmt Arm Effect Branch (effect vars seen) branch y)
  effect_at s y is =
      fold_out-Stmt Effect Branch (effect_layer vars seen) branch_layer s ∙ ap (λ z. effect_layer vars seen (map-Stmt Stmt Arm Effect Branch (effect vars seen) branch z)) is

  pub effect_block : (parts : List Stmt) (writes : List Write) → effect vars seen (Block parts) writes ≡ in_turn (map (effect vars seen) parts) writes
  effect_block parts writes = ap (λ (f : Effect). f writes) (effect_at (Block parts) (layer.Block parts) (outs-Block parts))

  pub effect_if_else : (test : Term) (first second : Stmt) (writes : List Write) →
      effect vars seen (If test first (Some second)) writes
      ≡ (if val (widths_of vars) (seen writes) test == 0 then effect vars seen second writes else effect vars seen first writes)
  effect_if_else test first second writes = ap (λ (f : Effect). f writes) (effect_at (If test first (Some second)) (layer.If test first (Some second)) (outs-If test first (Some second)))

  pub effect_if : (test : Term) (first : Stmt) (writes : List Write) →
      effect vars seen (If test first None) writes ≡ (if val (widths_of vars) (seen writes) test == 0 then writes else effect vars seen first writes)
  effect_if test first writes = ap (λ (f : Effect). f writes) (effect_at (If test first None) (layer.If test first None) (outs-If test first None))

  pub effect_case : (value : Term) (arms : List Arm) (writes : List Write) →
      effect vars seen (Case value arms) writes
      ≡ or_nothing (taken (widths_of vars) (seen writes) (val (widths_of vars) (seen writes) value) (map branch arms)) writes
  effect_case value arms writes = ap (λ (f : Effect). f writes) (effect_at (Case value arms) (layer.Case value arms) (outs-Case value arms))

  pub effect_assign : (blocking : Bool) (t : Target) (value : Term) (writes : List Write) →
      effect vars seen (Assign blocking t value) writes ≡ (writes ++ writes_to vars (seen writes) t (val (widths_of vars) (seen writes) value))
  effect_assign blocking t value writes = ap (λ (f : Effect). f writes) (effect_at (Assign blocking t value) (layer.Assign blocking t value) (outs-Assign blocking t value))

  branch_is : (arm : Arm) → branch arm ≡ record { labels = arm.labels; body = effect vars seen arm.body }
  branch_is arm = fold_out-Arm Effect Branch (effect_layer vars seen) branch_layer arm

  -- ---- the arm that is taken, by its number

  abbrev pub body_of : Option Arm → Effect
  body_of None = λ writes. writes
  body_of (Some arm) = effect vars seen arm.body

  abbrev or_effect : Option Effect → Option Effect → Option Effect
  or_effect None other = other
  or_effect (Some f) other = Some f

  -- a function that gives the bodies of arms by their numbers, from one up
  abbrev GivesBodies : (ℕ → Effect) → ℕ → List Arm → Type 0
  GivesBodies g i arms = (k : ℕ) → g (i + k) ≡ body_of (slice_get arms k)

  bodies_behind : (g : ℕ → Effect) (i : ℕ) (arm : Arm) (arms : List Arm) → GivesBodies g i (arm ∷ arms) → GivesBodies g (i + 1) arms
  bodies_behind g i arm arms gives k = ap g (let same : i + 1 + k ≡ i + suc k = omega arith in same) ∙ gives (suc k)

  first_body : (g : ℕ → Effect) (i : ℕ) (arm : Arm) (arms : List Arm) → GivesBodies g i (arm ∷ arms) → g i ≡ effect vars seen arm.body
  first_body g i arm arms gives = ap g (let same : i ≡ i + 0 = omega arith in same) ∙ gives 0

  labelled_is : (ws u : List ℕ) (word : ℕ) (other : Option Effect) (g : ℕ → Effect) (i : ℕ) (arms : List Arm) → GivesBodies g i arms →
      labelled_or ws u word other (map branch arms) ≡ or_effect (option_map g (position_from (λ (arm : Arm). has_label ws u word arm.labels) i arms)) other
  labelled_is ws u word other g i [] gives = refl
  labelled_is ws u word other g i (arm ∷ arms) gives =
      ap (λ (b : Branch). if has_label ws u word b.labels then Some b.body else labelled_or ws u word other (map branch arms)) (branch_is arm)
      ∙ by_test (has_label ws u word arm.labels) (labelled_is ws u word other g (i + 1) arms (bodies_behind g i arm arms gives)) where
        by_test : (t : Bool) →
            labelled_or ws u word other (map branch arms) ≡ or_effect (option_map g (position_from (λ (arm : Arm). has_label ws u word arm.labels) (i + 1) arms)) other →
            (if t then Some (effect vars seen arm.body) else labelled_or ws u word other (map branch arms))
            ≡ or_effect (option_map g (cond t (Some i) (position_from (λ (arm : Arm). has_label ws u word arm.labels) (i + 1) arms))) other
        by_test true rest = sym (ap Some (first_body g i arm arms gives))
        by_test false rest = rest

  default_is : (g : ℕ → Effect) (i : ℕ) (arms : List Arm) → GivesBodies g i arms →
      default_of (map branch arms) ≡ option_map g (position_from (λ (arm : Arm). is_empty arm.labels) i arms)
  default_is g i [] gives = refl
  default_is g i (arm ∷ arms) gives =
      ap (λ (b : Branch). if is_empty b.labels then Some b.body else default_of (map branch arms)) (branch_is arm)
      ∙ by_test (is_empty arm.labels) (default_is g (i + 1) arms (bodies_behind g i arm arms gives)) where
        by_test : (t : Bool) → default_of (map branch arms) ≡ option_map g (position_from (λ (arm : Arm). is_empty arm.labels) (i + 1) arms) →
            (if t then Some (effect vars seen arm.body) else default_of (map branch arms))
            ≡ option_map g (cond t (Some i) (position_from (λ (arm : Arm). is_empty arm.labels) (i + 1) arms))
        by_test true rest = sym (ap Some (first_body g i arm arms gives))
        by_test false rest = rest

  -- the body of the arm of a number
  abbrev pub body_at : List Arm → Option ℕ → Effect
  body_at arms None = λ writes. writes
  body_at arms (Some number) = body_of (slice_get arms number)

  taken_is : (ws u : List ℕ) (word : ℕ) (arms : List Arm) (writes : List Write) →
      or_nothing (taken ws u word (map branch arms)) writes ≡ body_at arms (taken_arm ws u word arms) writes
  taken_is ws u word arms writes =
      ap (λ f. or_nothing f writes)
      (labelled_is ws u word (default_of (map branch arms)) (λ k. body_of (slice_get arms k)) 0 arms gives
      ∙ ap (or_effect (option_map (λ k. body_of (slice_get arms k)) (labelled_arm ws u word arms))) (default_is (λ k. body_of (slice_get arms k)) 0 arms gives))
      ∙ by_numbers (labelled_arm ws u word arms) (default_arm arms) where
        gives : GivesBodies (λ k. body_of (slice_get arms k)) 0 arms
        gives k = ap (λ i. body_of (slice_get arms i)) (let same : 0 + k ≡ k = omega arith in same)

        by_numbers : (first other : Option ℕ) →
            or_nothing (or_effect (option_map (λ k. body_of (slice_get arms k)) first) (option_map (λ k. body_of (slice_get arms k)) other)) writes
            ≡ body_at arms (or_else first other) writes
        by_numbers None None = refl
        by_numbers None (Some number) = refl
        by_numbers (Some number) other = refl

  pub effect_taken : (value : Term) (arms : List Arm) (writes : List Write) →
      effect vars seen (Case value arms) writes
      ≡ body_at arms (taken_arm (widths_of vars) (seen writes) (val (widths_of vars) (seen writes) value) arms) writes
  effect_taken value arms writes =
      effect_case value arms writes ∙ taken_is (widths_of vars) (seen writes) (val (widths_of vars) (seen writes) value) arms writes

-- ---- clocked statements: each read is from one valuation

module _ (vars : List Var) (u : List ℕ) where
  -- the writes stand behind those before
  abbrev Adds : Effect → Type 0
  Adds f = (writes : List Write) → f writes ≡ (writes ++ f [])

  abbrev does : Stmt → Effect
  does = effect vars (λ writes. u)

  turn_adds : (parts : List Stmt) → AllByRecursion (λ s. Adds (does s)) parts → Adds (in_turn (map does parts))
  turn_adds [] all writes = sym (append-nil writes)
  turn_adds (s ∷ parts) all writes =
      ap (in_turn (map does parts)) (all.0 writes)
      ∙ turn_adds parts all.1 (writes ++ does s [])
      ∙ append_assoc writes (does s []) (in_turn (map does parts) [])
      ∙ sym (ap (λ xs. writes ++ xs) (turn_adds parts all.1 (does s [])))

  test_adds : (t : Bool) (f g : Effect) → Adds f → Adds g → (writes : List Write) → (if t then f writes else g writes) ≡ (writes ++ (if t then f [] else g []))
  test_adds true f g adds_f adds_g writes = adds_f writes
  test_adds false f g adds_f adds_g writes = adds_g writes

  same_adds : (f g : Effect) → ((writes : List Write) → f writes ≡ g writes) → Adds g → Adds f
  same_adds f g same adds writes = same writes ∙ adds writes ∙ sym (ap (λ xs. writes ++ xs) (same []))

  none_adds : Adds (λ writes. writes)
  none_adds writes = sym (append-nil writes)

  body_adds : (arms : List Arm) → AllByRecursion (λ (arm : Arm). Adds (does arm.body)) arms → (number : Option ℕ) → Adds (body_at vars (λ writes. u) arms number)
  body_adds arms all None = none_adds
  body_adds arms all (Some number) = by_arm (slice_get arms number) refl where
    by_arm : (found : Option Arm) → slice_get arms number ≡ found → Adds (body_of vars (λ writes. u) found)
    by_arm None is = none_adds
    by_arm (Some arm) is = all_get (λ (arm : Arm). Adds (does arm.body)) arms number arm all is

  pub statement_adds : (s : Stmt) → Adds (does s)
  statement_adds =
      by_statement (λ s. Adds (does s))
      (λ parts all. same_adds (does (Block parts)) (in_turn (map does parts)) (effect_block vars (λ writes. u) parts) (turn_adds parts all))
      if_adds
      (λ value arms all. same_adds (does (Case value arms)) (body_at vars (λ writes. u) arms (taken_arm (widths_of vars) u (val (widths_of vars) u value) arms))
      (effect_taken vars (λ writes. u) value arms) (body_adds arms all (taken_arm (widths_of vars) u (val (widths_of vars) u value) arms)))
      (λ blocking t value. same_adds (does (Assign blocking t value)) (λ writes. writes ++ writes_to vars u t (val (widths_of vars) u value))
      (effect_assign vars (λ writes. u) blocking t value) (λ writes. refl)) where
        if_adds : (test : Term) (first : Stmt) (second : Option Stmt) → Adds (does first) → HoldsElse (λ s. Adds (does s)) second → Adds (does (If test first second))
        if_adds test first None adds none =
            same_adds (does (If test first None)) (λ writes. if val (widths_of vars) u test == 0 then writes else does first writes) (effect_if vars (λ writes. u) test first)
            (test_adds (val (widths_of vars) u test == 0) (λ writes. writes) (does first) none_adds adds)
        if_adds test first (Some second) adds other =
            same_adds (does (If test first (Some second))) (λ writes. if val (widths_of vars) u test == 0 then does second writes else does first writes) (effect_if_else vars (λ writes. u) test first second)
            (test_adds (val (widths_of vars) u test == 0) (does second) (does first) other adds)

  -- ---- what they write, layer by layer

  turn_writes : (parts : List Stmt) → in_turn (map does parts) [] ≡ flat_map (clocked_writes vars u) parts
  turn_writes [] = refl
  turn_writes (s ∷ parts) =
      turn_adds parts (each parts) (does s []) ∙ ap (λ xs. does s [] ++ xs) (turn_writes parts) where
        each : (parts : List Stmt) → AllByRecursion (λ s. Adds (does s)) parts
        each [] = tt
        each (s ∷ parts) = (statement_adds s, each parts)

  pub writes_block : (parts : List Stmt) → clocked_writes vars u (Block parts) ≡ flat_map (clocked_writes vars u) parts
  writes_block parts = effect_block vars (λ writes. u) parts [] ∙ turn_writes parts

  abbrev pub else_writes : Option Stmt → List Write
  else_writes None = []
  else_writes (Some s) = clocked_writes vars u s

  pub writes_if : (test : Term) (first : Stmt) (second : Option Stmt) →
      clocked_writes vars u (If test first second) ≡ (if val (widths_of vars) u test == 0 then else_writes second else clocked_writes vars u first)
  writes_if test first None = effect_if vars (λ writes. u) test first []
  writes_if test first (Some second) = effect_if_else vars (λ writes. u) test first second []

  abbrev pub arm_writes : Option Arm → List Write
  arm_writes None = []
  arm_writes (Some arm) = clocked_writes vars u arm.body

  abbrev pub number_writes : List Arm → Option ℕ → List Write
  number_writes arms None = []
  number_writes arms (Some number) = arm_writes (slice_get arms number)

  pub writes_case : (value : Term) (arms : List Arm) →
      clocked_writes vars u (Case value arms) ≡ number_writes arms (taken_arm (widths_of vars) u (val (widths_of vars) u value) arms)
  writes_case value arms = effect_taken vars (λ writes. u) value arms [] ∙ by_number (taken_arm (widths_of vars) u (val (widths_of vars) u value) arms) where
    by_arm : (found : Option Arm) → body_of vars (λ writes. u) found [] ≡ arm_writes found
    by_arm None = refl
    by_arm (Some arm) = refl

    by_number : (number : Option ℕ) → body_at vars (λ writes. u) arms number [] ≡ number_writes arms number
    by_number None = refl
    by_number (Some number) = by_arm (slice_get arms number)

  pub writes_assign : (blocking : Bool) (t : Target) (value : Term) → clocked_writes vars u (Assign blocking t value) ≡ writes_to vars u t (val (widths_of vars) u value)
  writes_assign blocking t value = effect_assign vars (λ writes. u) blocking t value []

  -- what holds of no writes, of writes joined and of those of each assignment holds of those of each statement
  pub by_writes : (P : List Write → Type 0) → P [] → ((first second : List Write) → P first → P second → P (first ++ second)) →
      ((t : Target) (word : ℕ) → P (writes_to vars u t word)) → (s : Stmt) → P (clocked_writes vars u s)
  by_writes P none join assigned =
      by_statement Q
      (λ parts all. subst P (sym (writes_block parts)) (flat parts all))
      (λ test first second p q. subst P (sym (writes_if test first second)) (by_test (val (widths_of vars) u test == 0) (clocked_writes vars u first) second p q))
      (λ value arms all. subst P (sym (writes_case value arms)) (by_number arms all (taken_arm (widths_of vars) u (val (widths_of vars) u value) arms)))
      (λ blocking t value. subst P (sym (writes_assign blocking t value)) (assigned t (val (widths_of vars) u value))) where
        Q : Stmt → Type 0
        Q s = P (clocked_writes vars u s)

        flat : (parts : List Stmt) → AllByRecursion Q parts → P (flat_map (clocked_writes vars u) parts)
        flat [] all = none
        flat (s ∷ parts) all = join (clocked_writes vars u s) (flat_map (clocked_writes vars u) parts) all.0 (flat parts all.1)

        by_test : (t : Bool) (first : List Write) (second : Option Stmt) → P first → HoldsElse Q second → P (if t then else_writes second else first)
        by_test true first None p q = none
        by_test true first (Some second) p q = q
        by_test false first second p q = p

        by_number : (arms : List Arm) → AllByRecursion (λ (arm : Arm). Q arm.body) arms → (number : Option ℕ) → P (number_writes arms number)
        by_number arms all None = none
        by_number arms all (Some number) = by_arm (slice_get arms number) refl where
          by_arm : (found : Option Arm) → slice_get arms number ≡ found → P (arm_writes found)
          by_arm None is = none
          by_arm (Some arm) is = all_get (λ (arm : Arm). Q arm.body) arms number arm all is

  pub statement_within : (s : Stmt) → AreWithin (widths_of vars) (clocked_writes vars u s)
  statement_within =
      by_writes (AreWithin (widths_of vars)) tt (λ first second p q. all_join (IsWithin (widths_of vars)) first second p q) (λ t word. target_within vars u t word)

-- ---- the targets of statements

abbrev targets_in : Arm → List Target
targets_in = fold-Arm (List Target) (List Target) targets_of_layer arm_targets

targets_at : (s : Stmt) (y : Stmt-F Stmt Arm) → out-Stmt s ≡ y → targets_of s ≡ targets_of_layer (map-Stmt Stmt Arm (List Target) (List Target) targets_of targets_in y)
targets_at s y is =
    fold_out-Stmt (List Target) (List Target) targets_of_layer arm_targets s ∙ ap (λ z. targets_of_layer (map-Stmt Stmt Arm (List Target) (List Target) targets_of targets_in z)) is

pub targets_block : (parts : List Stmt) → targets_of (Block parts) ≡ flat_map targets_of parts
targets_block parts = targets_at (Block parts) (layer.Block parts) (outs-Block parts) ∙ flat_map-map (λ (part : List Target). part) targets_of parts

abbrev pub else_targets : Option Stmt → List Target
else_targets None = []
else_targets (Some s) = targets_of s

pub targets_if : (test : Term) (first : Stmt) (second : Option Stmt) → targets_of (If test first second) ≡ (targets_of first ++ else_targets second)
targets_if test first None = targets_at (If test first None) (layer.If test first None) (outs-If test first None)
targets_if test first (Some second) = targets_at (If test first (Some second)) (layer.If test first (Some second)) (outs-If test first (Some second))

pub targets_case : (value : Term) (arms : List Arm) → targets_of (Case value arms) ≡ flat_map (λ (arm : Arm). targets_of arm.body) arms
targets_case value arms =
    targets_at (Case value arms) (layer.Case value arms) (outs-Case value arms) ∙ flat_map-map (λ (arm : List Target). arm) targets_in arms ∙ same arms where
      same : (arms : List Arm) → flat_map targets_in arms ≡ flat_map (λ (arm : Arm). targets_of arm.body) arms
      same [] = refl
      same (arm ∷ arms) =
          ap (λ ts. ts ++ flat_map targets_in arms) (fold_out-Arm (List Target) (List Target) targets_of_layer arm_targets arm)
          ∙ ap (λ ts. targets_of arm.body ++ ts) (same arms)

pub targets_assign : (blocking : Bool) (t : Target) (value : Term) → targets_of (Assign blocking t value) ≡ t ∷ []
targets_assign blocking t value = targets_at (Assign blocking t value) (layer.Assign blocking t value) (outs-Assign blocking t value)

-- ---- which bits they write

module _ (vars : List Var) (u : List ℕ) where
  -- the bits that writes give may be written by some of these targets
  abbrev WritesOnly : List Write → List Target → Type 0
  WritesOnly writes targets = (x k bit : ℕ) → last_bit writes x k ≡ Some bit → any_may_write vars targets x k ≡ true

  none_only : (targets : List Target) → WritesOnly [] targets
  none_only targets x k bit is = absurd (let clash : None ≡ Some bit = is in cc)

  or_second : (a b : Bool) → b ≡ true → (a || b) ≡ true
  or_second true b is = refl
  or_second false b is = is

  only_front : (writes : List Write) (first second : List Target) → WritesOnly writes first → WritesOnly writes (first ++ second)
  only_front writes first second only x k bit is =
      list_any-append (λ t. may_write vars t x k) first second ∙ ap (λ b. b || any_may_write vars second x k) (only x k bit is)

  only_back : (writes : List Write) (first second : List Target) → WritesOnly writes second → WritesOnly writes (first ++ second)
  only_back writes first second only x k bit is =
      list_any-append (λ t. may_write vars t x k) first second ∙ or_second (any_may_write vars first x k) (any_may_write vars second x k) (only x k bit is)

  only_both : (xs ys : List Write) (first second : List Target) → WritesOnly xs first → WritesOnly ys second → WritesOnly (xs ++ ys) (first ++ second)
  only_both xs ys first second front back x k bit is = by_part (last_found xs ys x k bit is) where
    by_part : (last_bit ys x k ≡ Some bit) ⊎ (last_bit xs x k ≡ Some bit) → any_may_write vars (first ++ second) x k ≡ true
    by_part (inl found) = only_back ys first second back x k bit found
    by_part (inr found) = only_front xs first second front x k bit found

  abbrev Only : Stmt → Type 0
  Only s = WritesOnly (clocked_writes vars u s) (targets_of s)

  only_flat : (parts : List Stmt) → AllByRecursion Only parts → WritesOnly (flat_map (clocked_writes vars u) parts) (flat_map targets_of parts)
  only_flat [] all = none_only []
  only_flat (s ∷ parts) all =
      only_both (clocked_writes vars u s) (flat_map (clocked_writes vars u) parts) (targets_of s) (flat_map targets_of parts) all.0 (only_flat parts all.1)

  only_test : (t : Bool) (first : Stmt) (second : Option Stmt) → Only first → HoldsElse Only second →
      WritesOnly (if t then else_writes vars u second else clocked_writes vars u first) (targets_of first ++ else_targets second)
  only_test true first None p q = none_only (targets_of first ++ [])
  only_test true first (Some second) p q = only_back (clocked_writes vars u second) (targets_of first) (targets_of second) q
  only_test false first second p q = only_front (clocked_writes vars u first) (targets_of first) (else_targets second) p

  only_arm : (arms : List Arm) → AllByRecursion (λ (arm : Arm). Only arm.body) arms → (k : ℕ) →
      WritesOnly (arm_writes vars u (slice_get arms k)) (flat_map (λ (arm : Arm). targets_of arm.body) arms)
  only_arm [] all k = none_only []
  only_arm (arm ∷ arms) all zero = only_front (clocked_writes vars u arm.body) (targets_of arm.body) (flat_map (λ (arm : Arm). targets_of arm.body) arms) all.0
  only_arm (arm ∷ arms) all (suc k) =
      only_back (arm_writes vars u (slice_get arms k)) (targets_of arm.body) (flat_map (λ (arm : Arm). targets_of arm.body) arms) (only_arm arms all.1 k)

  only_number : (arms : List Arm) → AllByRecursion (λ (arm : Arm). Only arm.body) arms → (number : Option ℕ) →
      WritesOnly (number_writes vars u arms number) (flat_map (λ (arm : Arm). targets_of arm.body) arms)
  only_number arms all None = none_only (flat_map (λ (arm : Arm). targets_of arm.body) arms)
  only_number arms all (Some number) = only_arm arms all number

  only_as : (xs ys : List Write) (first second : List Target) → xs ≡ ys → first ≡ second → WritesOnly ys second → WritesOnly xs first
  only_as xs ys first second same targets only = subst (λ zs. WritesOnly zs first) (sym same) (subst (WritesOnly ys) (sym targets) only)

  pub statement_may : (s : Stmt) (x k bit : ℕ) → last_bit (clocked_writes vars u s) x k ≡ Some bit → any_may_write vars (targets_of s) x k ≡ true
  statement_may =
      by_statement Only
      (λ parts all. only_as (clocked_writes vars u (Block parts)) (flat_map (clocked_writes vars u) parts) (targets_of (Block parts)) (flat_map targets_of parts)
      (writes_block vars u parts) (targets_block parts) (only_flat parts all))
      (λ test first second p q. only_as (clocked_writes vars u (If test first second)) (if val (widths_of vars) u test == 0 then else_writes vars u second else clocked_writes vars u first)
      (targets_of (If test first second)) (targets_of first ++ else_targets second)
      (writes_if vars u test first second) (targets_if test first second) (only_test (val (widths_of vars) u test == 0) first second p q))
      (λ value arms all. only_as (clocked_writes vars u (Case value arms)) (number_writes vars u arms (taken_arm (widths_of vars) u (val (widths_of vars) u value) arms))
      (targets_of (Case value arms)) (flat_map (λ (arm : Arm). targets_of arm.body) arms)
      (writes_case vars u value arms) (targets_case value arms) (only_number arms all (taken_arm (widths_of vars) u (val (widths_of vars) u value) arms)))
      (λ blocking t value. only_as (clocked_writes vars u (Assign blocking t value)) (writes_to vars u t (val (widths_of vars) u value)) (targets_of (Assign blocking t value)) (t ∷ [])
      (writes_assign vars u blocking t value) (targets_assign blocking t value)
      (λ x k bit is. ap (λ b. b || false) (target_may vars u t (val (widths_of vars) u value) x k bit is)))

-- ---- what they read

pub reads_block : (parts : List Stmt) → statement_reads (Block parts) ≡ flat_map statement_reads parts
reads_block parts = statement_layer (Block parts) (layer.Block parts) (outs-Block parts) ∙ flat_map-map (λ (part : List ℕ). part) statement_reads parts

abbrev pub else_reads : Option Stmt → List ℕ
else_reads None = []
else_reads (Some s) = statement_reads s

pub reads_if : (test : Term) (first : Stmt) (second : Option Stmt) → statement_reads (If test first second) ≡ (reads_of test ++ statement_reads first ++ else_reads second)
reads_if test first None = statement_layer (If test first None) (layer.If test first None) (outs-If test first None)
reads_if test first (Some second) = statement_layer (If test first (Some second)) (layer.If test first (Some second)) (outs-If test first (Some second))

pub reads_case : (value : Term) (arms : List Arm) → statement_reads (Case value arms) ≡ (reads_of value ++ flat_map reads_of_arm arms)
reads_case value arms =
    statement_layer (Case value arms) (layer.Case value arms) (outs-Case value arms) ∙ ap (λ xs. reads_of value ++ xs) (flat_map-map (λ (arm : List ℕ). arm) reads_of_arm arms)

pub reads_assign : (blocking : Bool) (t : Target) (value : Term) → statement_reads (Assign blocking t value) ≡ (target_reads t ++ reads_of value)
reads_assign blocking t value = statement_layer (Assign blocking t value) (layer.Assign blocking t value) (outs-Assign blocking t value)

module _ (vars : List Var) (u v : List ℕ) where
  abbrev Same : ℕ → Type 0
  Same x = slice_index u x ≡ slice_index v x

  abbrev Local : Stmt → Type 0
  Local s = AgreeOn (statement_reads s) u v → clocked_writes vars u s ≡ clocked_writes vars v s

  local_val : (t : Term) → AgreeOn (reads_of t) u v → val (widths_of vars) u t ≡ val (widths_of vars) v t
  local_val t agree = ap (λ p. p.1) (operand_is_local (widths_of vars) t u v agree)

  local_label : (word : ℕ) (labels : List Term) → AgreeOn (flat_map reads_of labels) u v → has_label (widths_of vars) u word labels ≡ has_label (widths_of vars) v word labels
  local_label word [] agree = refl
  local_label word (t ∷ labels) agree =
      ap (λ n. n == word || has_label (widths_of vars) u word labels) (local_val t (all_front Same (reads_of t) (flat_map reads_of labels) agree))
      ∙ ap (λ b. val (widths_of vars) v t == word || b) (local_label word labels (all_back Same (reads_of t) (flat_map reads_of labels) agree))

  local_labelled : (word i : ℕ) (arms : List Arm) → AllByRecursion (λ (arm : Arm). AgreeOn (flat_map reads_of arm.labels) u v) arms →
      position_from (λ (arm : Arm). has_label (widths_of vars) u word arm.labels) i arms ≡ position_from (λ (arm : Arm). has_label (widths_of vars) v word arm.labels) i arms
  local_labelled word i [] agree = refl
  local_labelled word i (arm ∷ arms) agree =
      ap (λ t. cond t (Some i) (position_from (λ (arm : Arm). has_label (widths_of vars) u word arm.labels) (i + 1) arms)) (local_label word arm.labels agree.0)
      ∙ ap (cond (has_label (widths_of vars) v word arm.labels) (Some i)) (local_labelled word (i + 1) arms agree.1)

  local_number : (arms : List Arm) → AllByRecursion (λ (arm : Arm). clocked_writes vars u arm.body ≡ clocked_writes vars v arm.body) arms → (number : Option ℕ) →
      number_writes vars u arms number ≡ number_writes vars v arms number
  local_number arms all None = refl
  local_number arms all (Some number) = by_arm (slice_get arms number) refl where
    by_arm : (found : Option Arm) → slice_get arms number ≡ found → arm_writes vars u found ≡ arm_writes vars v found
    by_arm None is = refl
    by_arm (Some arm) is = all_get (λ (arm : Arm). clocked_writes vars u arm.body ≡ clocked_writes vars v arm.body) arms number arm all is

  local_else : (second : Option Stmt) → HoldsElse Local second → AgreeOn (else_reads second) u v → else_writes vars u second ≡ else_writes vars v second
  local_else None q agree = refl
  local_else (Some second) q agree = q agree

  local_block : (parts : List Stmt) → AllByRecursion Local parts → Local (Block parts)
  local_block parts all agree =
      writes_block vars u parts
      ∙ flat_same (clocked_writes vars u) (clocked_writes vars v) parts
      (all_both Local (λ s. AgreeOn (statement_reads s) u v) (λ s. clocked_writes vars u s ≡ clocked_writes vars v s) (λ s f h. f h) parts all
      (each_flat Same statement_reads parts (subst (λ xs. AgreeOn xs u v) (reads_block parts) agree)))
      ∙ sym (writes_block vars v parts)

  local_if : (test : Term) (first : Stmt) (second : Option Stmt) → Local first → HoldsElse Local second → Local (If test first second)
  local_if test first second p q agree =
      let reads = subst (λ xs. AgreeOn xs u v) (reads_if test first second) agree in
      let front = all_front Same (reads_of test ++ statement_reads first) (else_reads second) reads in
      writes_if vars u test first second
      ∙ ap (λ n. if n == 0 then else_writes vars u second else clocked_writes vars u first) (local_val test (all_front Same (reads_of test) (statement_reads first) front))
      ∙ ap (λ xs. if val (widths_of vars) v test == 0 then xs else clocked_writes vars u first) (local_else second q (all_back Same (reads_of test ++ statement_reads first) (else_reads second) reads))
      ∙ ap (λ xs. if val (widths_of vars) v test == 0 then else_writes vars v second else xs) (p (all_back Same (reads_of test) (statement_reads first) front))
      ∙ sym (writes_if vars v test first second)

  local_case : (value : Term) (arms : List Arm) → AllByRecursion (λ (arm : Arm). Local arm.body) arms → Local (Case value arms)
  local_case value arms all agree =
      let ws = widths_of vars in
      let reads = subst (λ xs. AgreeOn xs u v) (reads_case value arms) agree in
      let each : AllByRecursion (λ (arm : Arm). AgreeOn (reads_of_arm arm) u v) arms =
      each_flat Same reads_of_arm arms (all_back Same (reads_of value) (flat_map reads_of_arm arms) reads) in
      let labels : AllByRecursion (λ (arm : Arm). AgreeOn (flat_map reads_of arm.labels) u v) arms =
      all_from (λ (arm : Arm). AgreeOn (reads_of_arm arm) u v) (λ (arm : Arm). AgreeOn (flat_map reads_of arm.labels) u v)
      (λ arm h. all_front Same (flat_map reads_of arm.labels) (statement_reads arm.body) (subst (λ xs. AgreeOn xs u v) (arm_both arm) h)) arms each in
      let bodies : AllByRecursion (λ (arm : Arm). clocked_writes vars u arm.body ≡ clocked_writes vars v arm.body) arms =
      all_both (λ (arm : Arm). Local arm.body) (λ (arm : Arm). AgreeOn (reads_of_arm arm) u v) (λ (arm : Arm). clocked_writes vars u arm.body ≡ clocked_writes vars v arm.body)
      (λ arm f h. f (all_back Same (flat_map reads_of arm.labels) (statement_reads arm.body) (subst (λ xs. AgreeOn xs u v) (arm_both arm) h))) arms all each in
      writes_case vars u value arms
      ∙ ap (λ word. number_writes vars u arms (taken_arm ws u word arms)) (local_val value (all_front Same (reads_of value) (flat_map reads_of_arm arms) reads))
      ∙ ap (λ number. number_writes vars u arms (or_else number (default_arm arms))) (local_labelled (val ws v value) 0 arms labels)
      ∙ local_number arms bodies (taken_arm ws v (val ws v value) arms)
      ∙ sym (writes_case vars v value arms)

  local_assign : (blocking : Bool) (t : Target) (value : Term) → Local (Assign blocking t value)
  local_assign blocking t value agree =
      let reads = subst (λ xs. AgreeOn xs u v) (reads_assign blocking t value) agree in
      writes_assign vars u blocking t value
      ∙ ap (writes_to vars u t) (local_val value (all_back Same (target_reads t) (reads_of value) reads))
      ∙ writes_local vars u v t (val (widths_of vars) v value) (all_front Same (target_reads t) (reads_of value) reads)
      ∙ sym (writes_assign vars v blocking t value)

  pub statement_local : (s : Stmt) → AgreeOn (statement_reads s) u v → clocked_writes vars u s ≡ clocked_writes vars v s
  statement_local = by_statement Local local_block local_if local_case local_assign
