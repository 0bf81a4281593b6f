-- The targets and the values of assignments are lawful.
use Rattle.std.proofs.Common.{◌≡◌, ℕ, ◌<◌, ◌≤◌, ◌==◌, Bool, true, false, List, [], ◌∷◌, length, map, Option, None, Some, refl, sym, ◌∙◌, ap, subst, arith}
use Rattle.std.specs.Prelude.{nat_lt, Result, Ok, Err, IfOk, IfSome, unwrap_or, if◌then◌else◌}
use Rattle.std.specs.List.{AllByRecursion}
use Rattle.std.proofs.lemmas.Bool.{ltb-false}
use Rattle.std.proofs.lemmas.Bool.Decides.{nat_tests}
use Rattle.std.proofs.lemmas.List.{length-map}
use Rattle.bit_ops.specs.declared.value.TheConstants.{MAX_WIDTH}
use Rattle.bit_ops.specs.Width.{IsWidth}
use Rattle.sv_base.specs.declared.kind.Kind.TheVariants.{BadRange, TooWide}
use Rattle.sv_base.specs.declared.refusal.Place.{Place}
use Rattle.sv_base.specs.declared.refusal.Refusal.{Refusal}
use Rattle.sv_ast.specs.declared.expression.Id.{Id}
use Rattle.sv_ast.specs.declared.expression.Expr.{Expr}
use Rattle.sv_ast.specs.declared.expression.Sel.{Sel, out-Sel}
use Rattle.sv_ast.specs.declared.expression.Expr.TheOpen as sel
use Rattle.sv_ast.specs.declared.expression.Expr.TheOpen.{Sel-F}
use Rattle.sv_ast.specs.declared.expression.Lval.{Lval}
use Rattle.sv_ast.specs.declared.expression.Lval.TheOpen as lval
use Rattle.sv_ast.specs.declared.expression.Lval.TheOpen.{Lval-F}
use Rattle.sv_ast.specs.declared.expression.Lval.TheViews.{roll-Lval}
use Rattle.sv_ast.specs.declared.expression.Lval.TheFolds.{map-Lval, fold-roll-Lval, ind-Lval}
use Rattle.const_eval.specs.declared.env.Bound.TheVariants.{Constant, Variable}
use Rattle.const_eval.specs.Meaning.{Meaning, own, number}
use Rattle.const_eval.specs.Expressions.{◌>>=◌, refused_at, unnamed_at, as_width}
use Rattle.const_eval.proofs.Judged.{ok_behind, ok_after}
use Rattle.net_ir.specs.declared.term.Term.{Term}
use Rattle.net_ir.specs.declared.design.Var.{Var}
use Rattle.net_ir.specs.declared.statement.Pos.{Pos}
use Rattle.net_ir.specs.declared.statement.Target.{Target, List as Parts}
use Rattle.net_ir.specs.Value.{widths_of, size}
use Rattle.net_ir.specs.Target.{target_width}
use Rattle.net_ir.specs.Terms.{has_const}
use Rattle.net_ir.specs.Lawful.{IsLawful, IsThere, IsLawfulPos, IsLawfulTarget, IsLawfulAssign}
use Rattle.net_ir.proofs.Parts.{name_made, parts_made}
use Rattle.width_rules.specs.Scope.{AreThere}
use Rattle.width_rules.specs.Sized.{IsMeasuredIn}
use Rattle.width_rules.specs.Selecting.{Lookup}
use Rattle.width_rules.specs.Assigning.{assigned_term}
use Rattle.width_rules.specs.Built.{measured_of}
use Rattle.width_rules.specs.Values.{bits_of}
use Rattle.width_rules.proofs.Picked.{width_wide}
use Rattle.elaborate.specs.declared.names.Seen.{Seen}
use Rattle.elaborate.specs.declared.names.Seen.TheVariants.{Stands, Label}
use Rattle.elaborate.specs.Names.{Names, bound_in, bounds, constant_at, term_at}
use Rattle.elaborate.specs.Refusals.{named}
use Rattle.elaborate.specs.Targets.{constant_term, position_at, Selection, indexed, select_layer, select_at, variable_of, is_ranged, visible, bits_taken, selected, named_target, all_of, target_layer, target_of, first_name, place_of, named_by, target_size, value_for, unnamed, assignment}

-- a law that is had by a call: what is measured is lawful wherever names stand for what is there
abbrev pub MeasuredLawful : Type 0
MeasuredLawful = (lookup : Lookup) (vars : List Var) (e : Expr) → AreThere lookup vars → IfOk (measured_of lookup vars e) (IsMeasuredIn (widths_of vars))

-- a part that is told of a name
pub ok_named : {A : Type 0} (P : A → Type 0) (name : Id) (j : Result A Refusal) → IfOk j P → IfOk (named name j) P
ok_named P name (Ok a) h = h
ok_named P name (Err refusal) h = tt

-- several parts one behind another
pub all_ok : {A : Type 0} (P : A → Type 0) (parts : List (Result A Refusal)) → AllByRecursion (λ part. IfOk part P) parts → IfOk (all_of parts) (AllByRecursion P)
all_ok P [] all = tt
all_ok {A = A} P (part ∷ parts) all =
    ok_behind P (AllByRecursion P) part (λ a. all_of parts >>= λ more. Ok (a ∷ more)) all.0 (λ a h.
    ok_behind (AllByRecursion P) (AllByRecursion P) (all_of parts) (λ more. Ok (a ∷ more)) (all_ok P parts all.1) (λ more k. (h, k)))

-- a lawful term of the size that is asked for
pub record IsTermFor (ws : List ℕ) (target : Option ℕ) (t : Term) : Type 0 where
  pub lawful : IsLawful ws t
  pub sized : (n : ℕ) → target ≡ Some n → size ws t ≡ n

module _ (law : MeasuredLawful) (names : Names) (vars : List Var) (there : AreThere (bounds names) vars) where
  abbrev ws : List ℕ
  ws = widths_of vars

  pub term_for : (target : Option ℕ) (unsigned : Bool) (e : Expr) → IfSome target IsWidth → IfOk (term_at names vars target unsigned e) (λ t. IsTermFor ws target t.0)
  term_for target unsigned e wide =
      ok_behind (IsMeasuredIn ws) (λ (t : Term × Bool). IsTermFor ws target t.0) (measured_of (bounds names) vars e) (λ m. Ok (assigned_term m target unsigned, m.signed))
      (law (bounds names) vars e there) (λ m h.
      record {
        lawful = h.lawful target unsigned wide;
        sized = λ n is. h.sized target unsigned wide ∙ ap (λ (o : Option ℕ). unwrap_or o m.size) is;
      })

  -- ---- positions

  abbrev IsAt : Term × Bool → Type 0
  IsAt at = IsLawful ws at.0

  constant_lawful : (m : Meaning) → IsAt (constant_term m)
  constant_lawful m = (has_const ws [] (bits_of m.size (own m))).lawful

  position_lawful : (needed : Bool) (e : Expr) → IfOk (position_at needed names vars e) IsAt
  position_lawful true e = ok_after IsAt (constant_at names e) (λ m. Ok (constant_term m)) constant_lawful
  position_lawful false e = ok_behind_same (term_at names vars None false e) (term_for None false e tt) where
    ok_behind_same : (j : Result (Term × Bool) Refusal) → IfOk j (λ t. IsTermFor ws None t.0) → IfOk j IsAt
    ok_behind_same (Ok t) h = h.lawful
    ok_behind_same (Err refusal) h = tt

  abbrev IsSelection : Selection → Type 0
  IsSelection s = IsAt s.at

  indexed_lawful : (needed : Bool) (at width : Expr) (down : Bool) → IfOk (indexed needed names vars at width down) IsSelection
  indexed_lawful needed at width down =
      ok_behind IsAt IsSelection (position_at needed names vars at) (λ p. constant_at names width >>= λ n. Ok (record { width = number n; at = p; down = down }))
      (position_lawful needed at) (λ p h. ok_after IsSelection (constant_at names width) (λ n. Ok (record { width = number n; at = p; down = down })) (λ n. h))

  select_lawful : (needed : Bool) (x : Sel-F Expr Sel) → IfOk (select_layer needed names vars x) IsSelection
  select_lawful needed (sel.Bit place at) =
      ok_behind IsAt IsSelection (position_at needed names vars at) _ (position_lawful needed at) (λ p h. h)
  select_lawful needed (sel.Part place high low) =
      ok_after IsSelection (constant_at names high) _ (λ m. ok_after IsSelection (constant_at names low) _ (λ l. constant_lawful l))
  select_lawful needed (sel.Up place at width) = indexed_lawful needed at width false
  select_lawful needed (sel.Down place at width) = indexed_lawful needed at width true

  abbrev IsTaken : Option Pos → Type 0
  IsTaken = IsLawfulPos ws

  taken_lawful : (ranged : Bool) (name : Id) (s : Selection) → IsSelection s → IfOk (bits_taken ranged name s) IsTaken
  taken_lawful true name s h = ok_behind IsWidth IsTaken (as_width (refused_at BadRange name) name.place s.width) _ (width_wide (refused_at BadRange name) name.place s.width) (λ width wide. (h, wide))
  taken_lawful false name s h = tt

  selected_lawful : (needed : Bool) (name : Id) (ranged : Bool) (selects : List Sel) → IfOk (selected needed names vars name ranged selects) IsTaken
  selected_lawful needed name ranged [] = tt
  selected_lawful needed name ranged (s ∷ []) =
      ok_behind IsSelection IsTaken (select_at needed names vars s) (λ taken. bits_taken ranged name taken) (select_lawful needed (out-Sel s)) (λ taken h. taken_lawful ranged name taken h)
  selected_lawful needed name ranged (s ∷ t ∷ more) =
      ok_after IsTaken (select_at needed names vars s) _ (λ _. ok_after IsTaken (select_at needed names vars t) _ (λ _. tt))

  -- ---- names

  abbrev IsSeenThere : Seen → Type 0
  IsSeenThere seen = IsThere ws (variable_of seen)

  within : (x : ℕ) → x < length vars → x < length ws
  within x h = subst (λ n. x < n) (sym (length-map vars (λ (v : Var). v.width))) h

  seen_there : (name : List ℕ) (seen : Seen) → names name ≡ Some seen → IsSeenThere seen
  seen_there name (Stands (Variable x)) is = within x (there.there name x (ap bound_in is))
  seen_there name (Stands (Constant value low)) is = tt
  seen_there name Label is = tt

  pub visible_there : (name : Id) → IfOk (visible name (names name.name)) IsSeenThere
  visible_there name = by_seen (names name.name) refl where
    by_seen : (o : Option Seen) → names name.name ≡ o → IfOk (visible name o) IsSeenThere
    by_seen None is = tt
    by_seen (Some seen) is = seen_there name.name seen is

  name_lawful : (needed : Bool) (name : Id) (selects : List Sel) → IfOk (named_target needed names vars name selects) (IsLawfulTarget ws)
  name_lawful needed name selects =
      ok_behind IsSeenThere (IsLawfulTarget ws) (visible name (names name.name)) _ (visible_there name) (λ seen h.
      ok_behind IsTaken (IsLawfulTarget ws) (selected needed names vars name (is_ranged vars seen) selects) _ (selected_lawful needed name (is_ranged vars seen) selects) (λ bits k.
      name_made ws (variable_of seen) name.name name.place bits h k))

  -- ---- targets

  module _ (needed : Bool) where
    abbrev IsTargetIn : Lval → Type 0
    IsTargetIn to = IfOk (target_of needed names vars to) (IsLawfulTarget ws)

    each_lawful : (es : List ((to : Lval) × IsTargetIn to)) → AllByRecursion (λ part. IfOk part (IsLawfulTarget ws)) (map (target_of needed names vars) (map (λ e. e.0) es))
    each_lawful [] = tt
    each_lawful (e ∷ es) = (e.1, each_lawful es)

    abbrev here : Lval-F ((to : Lval) × IsTargetIn to) → Lval-F Lval
    here y = map-Lval ((to : Lval) × IsTargetIn to) Lval (λ e. e.0) y

    layer_lawful : (y : Lval-F ((to : Lval) × IsTargetIn to)) →
        IfOk (target_layer needed names vars (map-Lval Lval (Result Target Refusal) (target_of needed names vars) (here y))) (IsLawfulTarget ws)
    layer_lawful (lval.Of name selects) = name_lawful needed name selects
    layer_lawful (lval.List place es) =
        let parts : List (Result Target Refusal) = map (target_of needed names vars) (map (λ e. e.0) es) in
        ok_behind (AllByRecursion (IsLawfulTarget ws)) (IsLawfulTarget ws) (all_of parts) (λ ts. Ok (Parts ts)) (all_ok (IsLawfulTarget ws) parts (each_lawful es)) (λ ts all. parts_made ws ts all)

    rolled_lawful : (y : Lval-F ((to : Lval) × IsTargetIn to)) → IsTargetIn (roll-Lval (here y))
    rolled_lawful y =
        subst (λ (j : Result Target Refusal). IfOk j (IsLawfulTarget ws)) (sym (fold-roll-Lval (Result Target Refusal) (target_layer needed names vars) (here y))) (layer_lawful y)

    target_lawful : (to : Lval) → IsTargetIn to
    target_lawful = ind-Lval IsTargetIn (λ x y is. subst (λ z. IsTargetIn (roll-Lval z)) is (rolled_lawful y))

  -- ---- assignments

  -- the width that is asked for of a value, for a target of n bits
  abbrev IsSizeOf : ℕ → Option ℕ → Type 0
  IsSizeOf n None = n ≡ 0
  IsSizeOf n (Some width) = IsWidth width × (width ≡ n)

  not_none : (n : ℕ) → (n == 0) ≡ false → 1 ≤ n
  not_none n is = grind (arith, nat_tests)

  none_wide : (n : ℕ) → (n == 0) ≡ true → n ≡ 0
  none_wide n is = grind (arith, nat_tests)

  size_of_target : (place : Place) (n : ℕ) → IfOk (target_size place n) (IsSizeOf n)
  size_of_target place n = by_test (nat_lt MAX_WIDTH n) refl where
    by_none : (b : Bool) → (n == 0) ≡ b → n ≤ MAX_WIDTH → IsSizeOf n (if b then None else Some n)
    by_none true is most = none_wide n is
    by_none false is most = ((not_none n is, most), refl)

    by_test : (b : Bool) → nat_lt MAX_WIDTH n ≡ b → IfOk (if b then Err (unnamed_at TooWide place) else Ok (if n == 0 then None else Some n)) (IsSizeOf n)
    by_test true is = tt
    by_test false is = by_none (n == 0) refl (ltb-false MAX_WIDTH n is)

  -- a lawful value of at least so many bits
  abbrev IsValueOf : ℕ → Term → Type 0
  IsValueOf n t = IsLawful ws t × (n ≤ size ws t)

  value_of_size : (n : ℕ) (width : Option ℕ) (e : Expr) → IsSizeOf n width → IfOk (term_at names vars width false e >>= λ value. Ok value.0) (IsValueOf n)
  value_of_size n None e none =
      ok_behind (λ (t : Term × Bool). IsTermFor ws None t.0) (IsValueOf n) (term_at names vars None false e) (λ value. Ok value.0) (term_for None false e tt) (λ t h.
      (h.lawful, omega (arith, none)))
  value_of_size n (Some width) e wide =
      ok_behind (λ (t : Term × Bool). IsTermFor ws (Some width) t.0) (IsValueOf n) (term_at names vars (Some width) false e) (λ value. Ok value.0) (term_for (Some width) false e wide.0) (λ t h.
      (h.lawful, (let same : size ws t.0 ≡ width = h.sized width refl in let is : width ≡ n = wide.1 in omega arith)))

  value_lawful : (place : Place) (t : Target) (e : Expr) → IfOk (value_for names vars place t e) (IsValueOf (target_width vars t))
  value_lawful place t e =
      ok_behind (IsSizeOf (target_width vars t)) (IsValueOf (target_width vars t)) (target_size place (target_width vars t)) _ (size_of_target place (target_width vars t)) (λ width h.
      value_of_size (target_width vars t) width e h)

  abbrev pub IsAssignment : Target × Term → Type 0
  IsAssignment a = IsLawfulAssign vars a.0 a.1

  unnamed_lawful : (needed : Bool) (to : Lval) (e : Expr) → IfOk (unnamed needed names vars to e) IsAssignment
  unnamed_lawful needed to e =
      ok_behind (IsLawfulTarget ws) IsAssignment (target_of needed names vars to) _ (target_lawful needed to) (λ t h.
      ok_behind (IsValueOf (target_width vars t)) IsAssignment (value_for names vars (place_of to) t e) (λ value. Ok (t, value)) (value_lawful (place_of to) t e) (λ value k.
      record { lawful_target = h; lawful_value = k.0; wide = k.1 }))

  pub assignment_lawful : (needed : Bool) (to : Lval) (e : Expr) → IfOk (assignment needed names vars to e) IsAssignment
  assignment_lawful needed to e = by_first (first_name to) where
    by_first : (o : Option Id) → IfOk (named_by o (unnamed needed names vars to e)) IsAssignment
    by_first None = unnamed_lawful needed to e
    by_first (Some name) = ok_named IsAssignment name (unnamed needed names vars to e) (unnamed_lawful needed to e)
