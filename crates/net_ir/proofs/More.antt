-- More variables behind those that are there: what is lawful stays so, with its size.
use Rattle.std.proofs.Common.{◌≡◌, ℕ, zero, suc, ◌+◌, ◌<◌, ◌≤◌, Bool, List, [], ◌∷◌, ◌++◌, length, map, Option, None, Some, refl, sym, ◌∙◌, ap, subst, arith, length-append}
use Rattle.std.specs.Prelude.{slice_get, slice_index}
use Rattle.std.specs.List.{AllByRecursion}
use Rattle.std.proofs.lemmas.List.{length-map, map-append}
use Rattle.bit_ops.specs.Width.{IsWidth, WidthsFit}
use Rattle.bit_ops.specs.declared.operation.Op.{Op}
use Rattle.bit_ops.specs.declared.value.Bits.{Bits}
use Rattle.sv_base.specs.declared.refusal.Place.{Place}
use Rattle.net_ir.specs.declared.term.Term.{Term, Const, Read, Pick, Apply}
use Rattle.net_ir.specs.declared.term.Term.TheOpen as layer
use Rattle.net_ir.specs.declared.term.Term.TheOpen.{Term-F}
use Rattle.net_ir.specs.declared.term.Term.TheViews.{roll-Term}
use Rattle.net_ir.specs.declared.term.Term.TheVariants.{rolls-Const, rolls-Read, rolls-Pick, rolls-Apply, outs-Pick}
use Rattle.net_ir.specs.declared.term.Term.TheFolds.{map-Term, ind-Term, every_here-Term, every_held-Term, every_made-Term}
use Rattle.net_ir.specs.declared.design.Var.{Var}
use Rattle.net_ir.specs.declared.statement.Pos.{Pos}
use Rattle.net_ir.specs.declared.statement.Arm.{Arm}
use Rattle.net_ir.specs.declared.statement.Stmt.{Stmt, If, Case}
use Rattle.net_ir.specs.declared.statement.Stmt.TheOpen as stmt
use Rattle.net_ir.specs.declared.statement.Stmt.TheOpen.{Stmt-F, Arm-F}
use Rattle.net_ir.specs.declared.statement.Stmt.TheViews.{roll-Stmt, roll-Arm}
use Rattle.net_ir.specs.declared.statement.Stmt.TheVariants.{rolls-Block, rolls-If, rolls-Case, rolls-Assign}
use Rattle.net_ir.specs.declared.statement.Stmt.TheFolds.{map-Stmt, map-Arm, ind-Stmt}
use Rattle.net_ir.specs.declared.statement.Target.{Target, Of, List as Parts}
use Rattle.net_ir.specs.declared.statement.Target.TheOpen as to
use Rattle.net_ir.specs.declared.statement.Target.TheOpen.{Target-F}
use Rattle.net_ir.specs.declared.statement.Target.TheViews.{roll-Target}
use Rattle.net_ir.specs.declared.statement.Target.TheVariants.{rolls-Of, rolls-List}
use Rattle.net_ir.specs.declared.statement.Target.TheFolds.{map-Target, ind-Target}
use Rattle.net_ir.specs.declared.design.Trigger.{Trigger}
use Rattle.net_ir.specs.declared.design.Input.{Input}
use Rattle.net_ir.specs.declared.design.Output.{Output}
use Rattle.net_ir.specs.declared.design.Driver.{Driver}
use Rattle.net_ir.specs.declared.design.Driver.TheVariants as driver
use Rattle.net_ir.specs.Value.{widths_of, size}
use Rattle.net_ir.specs.Target.{lvalue, concatenated, bits_where, named_bits, target_width}
use Rattle.net_ir.specs.Lawful.{IsLawfulLayer, IsLawful, IsThere, IsLawfulPos, IsLawfulTarget, IsLawfulAssign, IsLawfulArm, IsLawfulStmt, IsLawfulTrigger, IsLawfulInput, IsLawfulJoined, IsLawfulDriver}
use Rattle.net_ir.specs.Terms.{has_const, has_read, operand_pick, operand_apply}
use Rattle.net_ir.proofs.Values.{lawful_read, lawful_apply, lawful_args}
use Rattle.net_ir.proofs.Parts.{all_each, held_of, target_parts, parts_made, name_parts, name_made, name_width, parts_width, IsLawfulBody, IsLawfulElse, block_parts, if_parts, if_test, case_parts, case_labels, assign_parts, block_made, if_made, case_made, assign_made}

-- ---- what is there stays there

index_front : (ws more : List ℕ) (x : ℕ) → x < length ws → slice_index (ws ++ more) x ≡ slice_index ws x
index_front [] more x there = absurd (omega (arith, there))
index_front (w ∷ ws) more zero there = refl
index_front (w ∷ ws) more (suc x) there = index_front ws more x (omega (arith, there))

pub still_there : {X : Type 0} (xs more : List X) (n : ℕ) → n < length xs → n < length (xs ++ more)
still_there xs more n there = omega (arith, length-append xs more, there)

-- ---- terms

size_pick : (ws : List ℕ) (base : Term) (low : ℕ) (at : Term) (at_signed down : Bool) (width : ℕ) → size ws (Pick base low at at_signed down width) ≡ width
size_pick ws base low at at_signed down width = ap (λ (p : ℕ × ℕ). p.0) (operand_pick ws [] base low at at_signed down width)

size_apply : (ws : List ℕ) (op : Op) (width lo : ℕ) (args : List Term) → size ws (Apply op width lo args) ≡ width
size_apply ws op width lo args = ap (λ (p : ℕ × ℕ). p.0) (operand_apply ws [] op width lo args)

-- what is lawful of a pick: its parts, and its width
pick_parts : (ws : List ℕ) (base : Term) (low : ℕ) (at : Term) (at_signed down : Bool) (width : ℕ) (y : Term-F ((t : Term) × IsLawful ws t)) →
    map-Term ((t : Term) × IsLawful ws t) Term (λ e. e.0) y ≡ layer.Pick base low at at_signed down width → IsLawful ws base × IsLawful ws at
pick_parts ws base low at at_signed down width (layer.Const bits) is = absurd (cc)
pick_parts ws base low at at_signed down width (layer.Read var place) is = absurd (cc)
pick_parts ws base low at at_signed down width (layer.Pick b low' a at_signed' down' width') is = (
  subst (IsLawful ws) (let same : layer.Pick b.0 low' a.0 at_signed' down' width' ≡ layer.Pick base low at at_signed down width = is in cc) b.1,
  subst (IsLawful ws) (let same : layer.Pick b.0 low' a.0 at_signed' down' width' ≡ layer.Pick base low at at_signed down width = is in cc) a.1,
)
pick_parts ws base low at at_signed down width (layer.Apply op w lo held) is = absurd (cc)

lawful_pick : (ws : List ℕ) (base : Term) (low : ℕ) (at : Term) (at_signed down : Bool) (width : ℕ) →
    IsLawful ws (Pick base low at at_signed down width) → IsLawful ws base × IsLawful ws at
lawful_pick ws base low at at_signed down width lawful =
    let all = every_held-Term (IsLawfulLayer ws) (Pick base low at at_signed down width) lawful in
    pick_parts ws base low at at_signed down width all.0 (all.1 ∙ outs-Pick base low at at_signed down width)

pick_width : (ws : List ℕ) (base : Term) (low : ℕ) (at : Term) (at_signed down : Bool) (width : ℕ) → IsLawful ws (Pick base low at at_signed down width) → IsWidth width
pick_width ws base low at at_signed down width lawful =
    subst (IsLawfulLayer ws) (outs-Pick base low at at_signed down width) (every_here-Term (IsLawfulLayer ws) (Pick base low at at_signed down width) lawful)

module _ (ws more : List ℕ) where
  -- a lawful term is lawful among more variables, and has the same size
  abbrev pub IsLawfulAmongMore : Term → Type 0
  IsLawfulAmongMore t = IsLawful (ws ++ more) t × (size (ws ++ more) t ≡ size ws t)

  abbrev Stays : Term → Type 0
  Stays t = IsLawful ws t → IsLawfulAmongMore t

  stays_const : (bits : Bits) → Stays (Const bits)
  stays_const bits lawful = ((has_const (ws ++ more) [] bits).lawful, (has_const (ws ++ more) [] bits).size ∙ sym (has_const ws [] bits).size)

  stays_read : (var : ℕ) (place : Place) → Stays (Read var place)
  stays_read var place lawful =
      let there = lawful_read ws var place lawful in
      let has = has_read (ws ++ more) [] var place (still_there ws more var there) in
      (has.lawful, has.size ∙ index_front ws more var there ∙ sym (has_read ws [] var place there).size)

  stays_pick : (base : Term) (low : ℕ) (at : Term) (at_signed down : Bool) (width : ℕ) → Stays base → Stays at → Stays (Pick base low at at_signed down width)
  stays_pick base low at at_signed down width b a lawful =
      let parts = lawful_pick ws base low at at_signed down width lawful in (
        subst (IsLawful (ws ++ more)) (rolls-Pick base low at at_signed down width)
            (every_made-Term (IsLawfulLayer (ws ++ more)) (layer.Pick base low at at_signed down width)
            (layer.Pick (base, (b parts.0).0) low (at, (a parts.1).0) at_signed down width) refl (pick_width ws base low at at_signed down width lawful)),
        size_pick (ws ++ more) base low at at_signed down width ∙ sym (size_pick ws base low at at_signed down width),
      )

  stays_each : (es : List ((t : Term) × Stays t)) → AllByRecursion (IsLawful ws) (map (λ e. e.0) es) → AllByRecursion IsLawfulAmongMore (map (λ e. e.0) es)
  stays_each [] all = tt
  stays_each (e ∷ es) all = (e.1 all.0, stays_each es all.1)

  same_sizes : (ts : List Term) → AllByRecursion IsLawfulAmongMore ts → map (size ws) ts ≡ map (size (ws ++ more)) ts
  same_sizes [] all = refl
  same_sizes (t ∷ ts) all = ap (λ n. n ∷ map (size ws) ts) (sym all.0.1) ∙ ap (λ ns. size (ws ++ more) t ∷ ns) (same_sizes ts all.1)

  apply_made : (op : Op) (width lo : ℕ) (args : List Term) → IsLawful ws (Apply op width lo args) → AllByRecursion IsLawfulAmongMore args → IsLawfulAmongMore (Apply op width lo args)
  apply_made op width lo args lawful all =
      let here = lawful_apply ws op width lo args lawful in
      let held = held_of (IsLawful (ws ++ more)) args (all_each IsLawfulAmongMore (IsLawful (ws ++ more)) (λ t h. h.0) args all) in (
        subst (IsLawful (ws ++ more)) (rolls-Apply op width lo args)
            (every_made-Term (IsLawfulLayer (ws ++ more)) (layer.Apply op width lo args) (layer.Apply op width lo held.0) (ap (λ xs. layer.Apply op width lo xs) held.1)
            (here.0, subst (WidthsFit op width lo) (same_sizes args all) here.1)),
        size_apply (ws ++ more) op width lo args ∙ sym (size_apply ws op width lo args),
      )

  stays_layer : (y : Term-F ((t : Term) × Stays t)) → Stays (roll-Term (map-Term ((t : Term) × Stays t) Term (λ e. e.0) y))
  stays_layer (layer.Const bits) = subst Stays (sym (rolls-Const bits)) (stays_const bits)
  stays_layer (layer.Read var place) = subst Stays (sym (rolls-Read var place)) (stays_read var place)
  stays_layer (layer.Pick base low at at_signed down width) =
      subst Stays (sym (rolls-Pick base.0 low at.0 at_signed down width)) (stays_pick base.0 low at.0 at_signed down width base.1 at.1)
  stays_layer (layer.Apply op width lo held) =
      let args : List Term = map (λ e. e.0) held in
      subst Stays (sym (rolls-Apply op width lo args)) (λ lawful. apply_made op width lo args lawful (stays_each held (lawful_args ws op width lo args lawful)))

  pub more_term : (t : Term) → IsLawful ws t → IsLawfulAmongMore t
  more_term = ind-Term Stays (λ x y is. subst (λ z. Stays (roll-Term z)) is (stays_layer y))

-- ---- variables

get_front : (vars more : List Var) (x : ℕ) → x < length vars → slice_get (vars ++ more) x ≡ slice_get vars x
get_front [] more x there = absurd (omega (arith, there))
get_front (v ∷ vars) more zero there = refl
get_front (v ∷ vars) more (suc x) there = get_front vars more x (omega (arith, there))

-- each with what follows from what holds of it
each_step : {X : Type 0} (P Q : X → Type 0) (es : List ((x : X) × (P x → Q x))) → AllByRecursion P (map (λ e. e.0) es) → AllByRecursion Q (map (λ e. e.0) es)
each_step P Q [] all = tt
each_step P Q (e ∷ es) all = (e.1 all.0, each_step P Q es all.1)

module _ (vars more : List Var) where
  abbrev ws : List ℕ
  ws = widths_of vars

  abbrev wider : List ℕ
  wider = widths_of (vars ++ more)

  both_widths : wider ≡ ws ++ widths_of more
  both_widths = map-append (λ (v : Var). v.width) vars more

  -- a lawful term, with its size
  pub term_stays : (t : Term) → IsLawful ws t → IsLawful wider t × (size wider t ≡ size ws t)
  term_stays t lawful = subst (λ ns. IsLawful ns t × (size ns t ≡ size ws t)) (sym both_widths) (more_term ws (widths_of more) t lawful)

  within : (x : ℕ) → x < length ws → x < length wider
  within x there = subst (λ (ns : List ℕ). x < length ns) (sym both_widths) (still_there ws (widths_of more) x there)

  pub name_stays : (var : Option ℕ) → IsThere ws var → IsThere wider var
  name_stays None there = tt
  name_stays (Some x) there = within x there

  -- ---- targets

  pos_stays : (p : Option Pos) → IsLawfulPos ws p → IsLawfulPos wider p
  pos_stays None lawful = tt
  pos_stays (Some p) lawful = ((term_stays p.at lawful.0).0, lawful.1)

  abbrev IsTargetAmongMore : Target → Type 0
  IsTargetAmongMore t = IsLawfulTarget wider t × (target_width (vars ++ more) t ≡ target_width vars t)

  abbrev StaysTarget : Target → Type 0
  StaysTarget t = IsLawfulTarget ws t → IsTargetAmongMore t

  found_width : (x : ℕ) (o : Option Var) (p : Option Pos) → (bits_where wider [] x o p).width ≡ (bits_where ws [] x o p).width
  found_width x None p = refl
  found_width x (Some v) None = refl
  found_width x (Some v) (Some p) = refl

  named_width : (var : Option ℕ) (p : Option Pos) → IsThere ws var → (named_bits (vars ++ more) [] var p).width ≡ (named_bits vars [] var p).width
  named_width None p there = refl
  named_width (Some x) p there =
      ap (λ (o : Option Var). (bits_where wider [] x o p).width) (get_front vars more x (subst (λ n. x < n) (length-map vars (λ (v : Var). v.width)) there)) ∙ found_width x (slice_get vars x) p

  named_stays : (var : Option ℕ) (name : List ℕ) (place : Place) (p : Option Pos) → StaysTarget (Of var name place p)
  named_stays var name place p lawful =
      let here = name_parts ws var name place p lawful in (
        name_made wider var name place p (name_stays var here.0) (pos_stays p here.1),
        name_width (vars ++ more) var name place p ∙ named_width var p here.0 ∙ sym (name_width vars var name place p),
      )

  same_widths : (ts : List Target) → AllByRecursion IsTargetAmongMore ts → (concatenated (map (lvalue (vars ++ more) []) ts)).width ≡ (concatenated (map (lvalue vars []) ts)).width
  same_widths [] all = refl
  same_widths (t ∷ ts) all =
      ap (λ n. n + (concatenated (map (lvalue (vars ++ more) []) ts)).width) all.0.1 ∙ ap (λ n. target_width vars t + n) (same_widths ts all.1)

  parts_stay : (parts : List Target) → AllByRecursion IsTargetAmongMore parts → IsTargetAmongMore (Parts parts)
  parts_stay parts all = (
    parts_made wider parts (all_each IsTargetAmongMore (IsLawfulTarget wider) (λ t h. h.0) parts all),
    parts_width (vars ++ more) parts ∙ same_widths parts all ∙ sym (parts_width vars parts),
  )

  target_layer_stays : (y : Target-F ((t : Target) × StaysTarget t)) → StaysTarget (roll-Target (map-Target ((t : Target) × StaysTarget t) Target (λ e. e.0) y))
  target_layer_stays (to.Of var name place p) = subst StaysTarget (sym (rolls-Of var name place p)) (named_stays var name place p)
  target_layer_stays (to.List es) =
      let parts : List Target = map (λ e. e.0) es in
      subst StaysTarget (sym (rolls-List parts)) (λ lawful. parts_stay parts (each_step (IsLawfulTarget ws) IsTargetAmongMore es (target_parts ws parts lawful)))

  -- a lawful target, with its width
  pub target_stays : (t : Target) → IsLawfulTarget ws t → IsTargetAmongMore t
  target_stays = ind-Target StaysTarget (λ x y is. subst (λ z. StaysTarget (roll-Target z)) is (target_layer_stays y))

  pub assign_stays : (t : Target) (value : Term) → IsLawfulAssign vars t value → IsLawfulAssign (vars ++ more) t value
  assign_stays t value lawful =
      let here = target_stays t lawful.lawful_target in
      let given = term_stays value lawful.lawful_value in
      record {
        lawful_target = here.0;
        lawful_value = given.0;
        wide = subst (λ n. n ≤ size wider value) (sym here.1) (subst (λ n. target_width vars t ≤ n) (sym given.1) lawful.wide);
      }

  -- ---- statements

  abbrev IsLabelOf : Term → Term → Type 0
  IsLabelOf value label = IsLawful ws label × (size ws label ≡ size ws value)

  label_stays : (value : Term) → size wider value ≡ size ws value → (label : Term) → IsLabelOf value label → IsLawful wider label × (size wider label ≡ size wider value)
  label_stays value same label h = let there = term_stays label h.0 in (there.0, there.1 ∙ h.1 ∙ sym same)

  labels_stay : (value : Term) → size wider value ≡ size ws value → (arm : Arm) → IsLawfulArm ws (size ws value) arm → IsLawfulArm wider (size wider value) arm
  labels_stay value same arm all = all_each (IsLabelOf value) (λ label. IsLawful wider label × (size wider label ≡ size wider value)) (label_stays value same) arm.labels all

  abbrev StaysStmt : Stmt → Type 0
  StaysStmt s = IsLawfulStmt vars s → IsLawfulStmt (vars ++ more) s

  abbrev StaysArm : Arm → Type 0
  StaysArm a = IsLawfulStmt vars a.body → IsLawfulStmt (vars ++ more) a.body

  if_stays : (test : Term) (first : Stmt) (second : Option Stmt) → StaysStmt first → (IsLawfulElse vars second → IsLawfulElse (vars ++ more) second) → StaysStmt (If test first second)
  if_stays test first second one other lawful =
      let parts = if_parts vars test first second lawful in
      if_made (vars ++ more) test first second (term_stays test (if_test vars test first second lawful)).0 (one parts.0) (other parts.1)

  case_stays : (value : Term) (es : List ((a : Arm) × StaysArm a)) → StaysStmt (Case value (map (λ e. e.0) es))
  case_stays value es lawful =
      let arms : List Arm = map (λ e. e.0) es in
      let here = case_labels vars value arms lawful in
      let given = term_stays value here.0 in
      case_made (vars ++ more) value arms given.0
      (all_each (IsLawfulArm ws (size ws value)) (IsLawfulArm wider (size wider value)) (labels_stay value given.1) arms here.1)
      (each_step (IsLawfulBody vars) (IsLawfulBody (vars ++ more)) es (case_parts vars value arms lawful))

  layer_stays : (y : Stmt-F ((s : Stmt) × StaysStmt s) ((a : Arm) × StaysArm a)) →
      StaysStmt (roll-Stmt (map-Stmt ((s : Stmt) × StaysStmt s) ((a : Arm) × StaysArm a) Stmt Arm (λ e. e.0) (λ e. e.0) y))
  layer_stays (stmt.Block es) =
      let parts : List Stmt = map (λ e. e.0) es in
      subst StaysStmt (sym (rolls-Block parts))
      (λ lawful. block_made (vars ++ more) parts (each_step (IsLawfulStmt vars) (IsLawfulStmt (vars ++ more)) es (block_parts vars parts lawful)))
  layer_stays (stmt.If test first None) = subst StaysStmt (sym (rolls-If test first.0 None)) (if_stays test first.0 None first.1 (λ none. tt))
  layer_stays (stmt.If test first (Some second)) =
      subst StaysStmt (sym (rolls-If test first.0 (Some second.0))) (if_stays test first.0 (Some second.0) first.1 second.1)
  layer_stays (stmt.Case value es) = subst StaysStmt (sym (rolls-Case value (map (λ e. e.0) es))) (case_stays value es)
  layer_stays (stmt.Assign blocking t value) =
      subst StaysStmt (sym (rolls-Assign blocking t value))
      (λ lawful. assign_made (vars ++ more) blocking t value (assign_stays t value (assign_parts vars blocking t value lawful)))

  arm_stays : (y : Arm-F ((s : Stmt) × StaysStmt s) ((a : Arm) × StaysArm a)) →
      StaysArm (roll-Arm (map-Arm ((s : Stmt) × StaysStmt s) ((a : Arm) × StaysArm a) Stmt Arm (λ e. e.0) (λ e. e.0) y))
  arm_stays y = y.body.1

  pub statement_stays : (s : Stmt) → StaysStmt s
  statement_stays = ind-Stmt StaysStmt StaysArm (λ x y is. subst (λ z. StaysStmt (roll-Stmt z)) is (layer_stays y)) (λ x y is. subst (λ z. StaysArm (roll-Arm z)) is (arm_stays y))

  -- ---- drivers

  trigger_stays : (t : Trigger) → IsLawfulTrigger ws t → IsLawfulTrigger wider t
  trigger_stays t there = name_stays t.var there

  input_stays : (i : Input) → IsLawfulInput ws i → IsLawfulInput wider i
  input_stays i lawful = (name_stays i.plain lawful.0, (term_stays i.value lawful.1).0)

  joined_stays : (t : Option Target) → IsLawfulJoined ws t → IsLawfulJoined wider t
  joined_stays None lawful = tt
  joined_stays (Some t) lawful = (target_stays t lawful).0

  -- a lawful driver is lawful among more variables
  pub driver_stays : (d : Driver) → IsLawfulDriver vars d → IsLawfulDriver (vars ++ more) d
  driver_stays (driver.Assign t value place) lawful = assign_stays t value lawful
  driver_stays (driver.Comb body place) lawful = statement_stays body lawful
  driver_stays (driver.Clocked triggers body place) lawful =
      (all_each (IsLawfulTrigger ws) (IsLawfulTrigger wider) trigger_stays triggers lawful.0, statement_stays body lawful.1)
  driver_stays (driver.Instance instance) lawful = (
    all_each (IsLawfulInput ws) (IsLawfulInput wider) input_stays instance.inputs lawful.0,
    all_each (λ (o : Output). IsLawfulJoined ws o.target) (λ (o : Output). IsLawfulJoined wider o.target) (λ o. joined_stays o.target) instance.outputs lawful.1,
  )
