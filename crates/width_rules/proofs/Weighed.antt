-- What is measured of an expression has no more nodes than the expression allows.
use Rattle.std.proofs.Common.{◌≡◌, ℕ, ◌+◌, ◌*◌, ◌≤◌, List, [], ◌∷◌, map, Result, Ok, Err, refl, sym, subst, arith}
use Rattle.std.specs.Prelude.{IfOk}
use Rattle.sv_base.specs.declared.refusal.Refusal.{Refusal}
use Rattle.sv_ast.specs.declared.expression.Id.{Id}
use Rattle.sv_ast.specs.declared.expression.Sel.{Sel}
use Rattle.sv_ast.specs.declared.expression.Expr.{Expr}
use Rattle.sv_ast.specs.declared.expression.Expr.TheOpen as expr
use Rattle.sv_ast.specs.declared.expression.Expr.TheOpen.{Expr-F, Sel-F}
use Rattle.sv_ast.specs.declared.expression.Expr.TheViews.{roll-Expr, roll-Sel}
use Rattle.sv_ast.specs.declared.expression.Expr.TheFolds.{map-Expr, map-Sel, fold-roll-Expr, fold-roll-Sel, ind-Expr}
use Rattle.net_ir.specs.declared.design.Var.{Var}
use Rattle.net_ir.specs.declared.term.Term.{Const}
use Rattle.const_eval.specs.declared.env.Const as constant
use Rattle.const_eval.specs.declared.env.Bound.{Bound}
use Rattle.const_eval.specs.WholeNumbers.{whole_number_of, count_of}
use Rattle.const_eval.specs.Expressions as expressions
use Rattle.const_eval.specs.Expressions.{second_select, ◌>>=◌}
use Rattle.const_eval.proofs.Judged.{ok_behind, ok_after}
use Rattle.width_rules.specs.declared.measured.Measured.{Measured}
use Rattle.width_rules.specs.declared.joined.Joined.{Joined}
use Rattle.width_rules.specs.declared.joined.Joined.TheVariants.{Nothing}
use Rattle.width_rules.specs.declared.taking.Taking.{Taking}
use Rattle.width_rules.specs.declared.taking.Taking.TheVariants.{At, DownTo, UpFrom, DownFrom}
use Rattle.width_rules.specs.Nodes.{sum_of, parts_layer, select_parts_layer, parts_of, select_parts}
use Rattle.width_rules.specs.Values.{constant_of}
use Rattle.width_rules.specs.Operations as operations
use Rattle.width_rules.specs.Joining as joining
use Rattle.width_rules.specs.Selecting as selecting
use Rattle.width_rules.specs.Selecting.{Lookup, bound_by}
use Rattle.width_rules.specs.Built as spec
use Rattle.width_rules.specs.Built.{Built, BuiltSelect, constant_in, built_of, built_select_of, built_layer, built_select_layer, measured_layer, taking_layer, measured_of, joined_after}
use Rattle.width_rules.specs.code.Waiting.{weight_of, taking_weight}
use Rattle.width_rules.specs.code.Joining.{joined_nodes}
use Rattle.width_rules.proofs.Weights.{weight_alone, weight_fill, Weighs, unary_on_weighs, binary_on_weighs, chosen_weighs, system_on_weighs, with_nodes, concatenation_weighs, repeated_weighs, whole_weighs, take_weighs}
use Rattle.width_rules.proofs.Nodes.{nodes_const}

-- what is measured of an expression of so many nodes
abbrev Light : ℕ → Measured → Type 0
Light parts m = weight_of m.pending + 1 ≤ 6 * parts

-- what weighs no more is light where so much is
lighter : (r : Result Measured Refusal) (n parts : ℕ) → n + 1 ≤ 6 * parts → IfOk r (Weighs n) → IfOk r (Light parts)
lighter (Ok m) n parts small h = omega (arith, small, h)
lighter (Err refusal) n parts small h = tt

module _ (lookup : Lookup) (vars : List Var) where
  abbrev built : Expr → Built
  built = built_of lookup vars

  abbrev built_select : Sel → BuiltSelect
  built_select = built_select_of lookup vars

  abbrev IsLight : Expr → Type 0
  IsLight e = IfOk (built e).measured (Light (parts_of e))

  abbrev IsTaken : Sel → Type 0
  IsTaken s = IfOk (built_select s).taking (λ t. taking_weight t ≤ 6 * select_parts s)

  abbrev Held : Type 0
  Held = (e : Expr) × IsLight e

  abbrev Kept : Type 0
  Kept = (s : Sel) × IsTaken s

  abbrev here : Expr-F Held Kept → Expr-F Expr Sel
  here y = map-Expr Held Kept Expr Sel (λ e. e.0) (λ s. s.0) y

  abbrev select_here : Sel-F Held Kept → Sel-F Expr Sel
  select_here y = map-Sel Held Kept Expr Sel (λ e. e.0) (λ s. s.0) y

  literal_light : (text : Id) → IfOk (spec.literal text) (Light 1)
  literal_light text =
      ok_after (Light 1) (constant_of (expressions.literal text)) (λ c. Ok (operations.alone c.value.width c.signed (Const c.value))) (λ c.
      omega (arith, weight_alone c.value.width (Const c.value), nodes_const c.value))

  filled_light : (text : Id) → IfOk (spec.filled text) (Light 1)
  filled_light text = ok_after (Light 1) (constant_of (expressions.filled text)) _ (λ c. omega (arith, weight_fill c.value))

  selected_light : (held : List Kept) (name : Id) (bound : Bound) →
      IfOk (spec.selected vars name bound (map built_select (map (λ s. s.0) held))) (Light (1 + sum_of (map select_parts (map (λ s. s.0) held))))
  selected_light [] name bound = omega (arith, whole_weighs vars name bound)
  selected_light (s ∷ []) name bound =
      ok_behind (λ t. taking_weight t ≤ 6 * select_parts s.0) (Light (1 + (select_parts s.0 + 0))) (built_select s.0).taking (λ t. selecting.take vars name bound t) s.1 (λ t h.
      lighter (selecting.take vars name bound t) (4 + taking_weight t) (1 + (select_parts s.0 + 0)) (omega (arith, h)) (take_weighs vars name bound t))
  selected_light (s ∷ t ∷ more) name bound =
      ok_after (Light (1 + sum_of (map select_parts (map (λ s. s.0) (s ∷ t ∷ more))))) (built_select s.0).taking
      (λ _. (built_select t.0).taking >>= λ _. Err (second_select (built_select t.0).select.place)) (λ _.
      ok_after (Light (1 + sum_of (map select_parts (map (λ s. s.0) (s ∷ t ∷ more))))) (built_select t.0).taking (λ _. Err (second_select (built_select t.0).select.place)) (λ _. tt))

  joined_light : (held : List Held) (j : Joined) →
      IfOk (joined_after j (map built (map (λ e. e.0) held))) (λ k. joined_nodes k ≤ joined_nodes j + 6 * sum_of (map parts_of (map (λ e. e.0) held)))
  joined_light [] j = omega arith
  joined_light (e ∷ held) j =
      ok_behind (Light (parts_of e.0)) (λ k. joined_nodes k ≤ joined_nodes j + 6 * (parts_of e.0 + sum_of (map parts_of (map (λ e. e.0) held)))) (built e.0).measured
      (λ a. joined_after (joining.joined_with j a) (map built (map (λ e. e.0) held))) e.1 (λ a h.
      no_more (joined_after (joining.joined_with j a) (map built (map (λ e. e.0) held))) (joined_nodes (joining.joined_with j a) + 6 * sum_of (map parts_of (map (λ e. e.0) held)))
      (joined_nodes j + 6 * (parts_of e.0 + sum_of (map parts_of (map (λ e. e.0) held)))) (omega (arith, with_nodes j a, h)) (joined_light held (joining.joined_with j a)))
    where
      no_more : (r : Result Joined Refusal) (n k : ℕ) → n ≤ k → IfOk r (λ j. joined_nodes j ≤ n) → IfOk r (λ j. joined_nodes j ≤ k)
      no_more (Ok j) n k small h = omega (arith, small, h)
      no_more (Err refusal) n k small h = tt

  layer_light : (y : Expr-F Held Kept) → IfOk (measured_layer lookup vars (map-Expr Expr Sel Built BuiltSelect built built_select (here y)))
      (Light (parts_layer (map-Expr Expr Sel ℕ ℕ parts_of select_parts (here y))))
  layer_light (expr.Number text) = literal_light text
  layer_light (expr.Fill text) = filled_light text
  layer_light (expr.Read name selects) =
      ok_after (Light (1 + sum_of (map select_parts (map (λ s. s.0) selects)))) (bound_by lookup name) (λ bound. spec.selected vars name bound (map built_select (map (λ s. s.0) selects)))
      (λ bound. selected_light selects name bound)
  layer_light (expr.Unary sign a) =
      ok_behind (Light (parts_of a.0)) (Light (1 + parts_of a.0)) (built a.0).measured (operations.unary_on sign) a.1 (λ k h.
      lighter (operations.unary_on sign k) (3 + weight_of k.pending) (1 + parts_of a.0) (omega (arith, h)) (unary_on_weighs sign k))
  layer_light (expr.Binary sign a b) =
      ok_behind (Light (parts_of a.0)) (Light (1 + parts_of a.0 + parts_of b.0)) (built a.0).measured (λ k. (built b.0).measured >>= λ l. operations.binary_on sign k l) a.1 (λ k h.
      ok_behind (Light (parts_of b.0)) (Light (1 + parts_of a.0 + parts_of b.0)) (built b.0).measured (λ l. operations.binary_on sign k l) b.1 (λ l i.
      lighter (operations.binary_on sign k l) (4 + weight_of k.pending + weight_of l.pending) (1 + parts_of a.0 + parts_of b.0) (omega (arith, h, i)) (binary_on_weighs sign k l)))
  layer_light (expr.Choice sign c a b) =
      ok_behind (Light (parts_of c.0)) (Light (1 + parts_of c.0 + parts_of a.0 + parts_of b.0)) (built c.0).measured
      (λ t. (built a.0).measured >>= λ k. (built b.0).measured >>= λ l. Ok (operations.chosen t k l)) c.1 (λ t g.
      ok_behind (Light (parts_of a.0)) (Light (1 + parts_of c.0 + parts_of a.0 + parts_of b.0)) (built a.0).measured (λ k. (built b.0).measured >>= λ l. Ok (operations.chosen t k l)) a.1 (λ k h.
      ok_behind (Light (parts_of b.0)) (Light (1 + parts_of c.0 + parts_of a.0 + parts_of b.0)) (built b.0).measured (λ l. Ok (operations.chosen t k l)) b.1 (λ l i.
      omega (arith, g, h, i, chosen_weighs t k l))))
  layer_light (expr.Concat place parts) =
      ok_behind (λ j. joined_nodes j ≤ 0 + 6 * sum_of (map parts_of (map (λ e. e.0) parts))) (Light (1 + sum_of (map parts_of (map (λ e. e.0) parts))))
      (joined_after Nothing (map built (map (λ e. e.0) parts))) (joining.concatenation place) (joined_light parts Nothing) (λ j h.
      lighter (joining.concatenation place j) (1 + joined_nodes j) (1 + sum_of (map parts_of (map (λ e. e.0) parts))) (omega (arith, h)) (concatenation_weighs place j))
  layer_light (expr.Repeat place count parts) =
      ok_after (Light (1 + parts_of count.0 + sum_of (map parts_of (map (λ e. e.0) parts)))) (constant_in (built count.0))
      (λ c. joined_after Nothing (map built (map (λ e. e.0) parts)) >>= λ j. joining.repeated place (count_of (whole_number_of c)) j) (λ c.
      ok_behind (λ j. joined_nodes j ≤ 0 + 6 * sum_of (map parts_of (map (λ e. e.0) parts))) (Light (1 + parts_of count.0 + sum_of (map parts_of (map (λ e. e.0) parts))))
      (joined_after Nothing (map built (map (λ e. e.0) parts))) (λ j. joining.repeated place (count_of (whole_number_of c)) j) (joined_light parts Nothing) (λ j h.
      lighter (joining.repeated place (count_of (whole_number_of c)) j) (4 + joined_nodes j) (1 + parts_of count.0 + sum_of (map parts_of (map (λ e. e.0) parts))) (omega (arith, h))
      (repeated_weighs place (count_of (whole_number_of c)) j)))
  layer_light (expr.System name a) =
      ok_behind (Light (parts_of a.0)) (Light (1 + parts_of a.0)) (built a.0).measured (operations.system_on name) a.1 (λ k h.
      lighter (operations.system_on name k) (1 + weight_of k.pending) (1 + parts_of a.0) (omega (arith, h)) (system_on_weighs name k))

  width_taken : (at width : Held) (make : Measured → constant.Const → Taking) → ((a : Measured) (c : constant.Const) → taking_weight (make a c) ≡ weight_of a.pending) →
      IfOk ((built at.0).measured >>= λ p. constant_in (built width.0) >>= λ w. Ok (make p w)) (λ t. taking_weight t ≤ 6 * (1 + parts_of at.0 + parts_of width.0))
  width_taken at width make is =
      ok_behind (Light (parts_of at.0)) (λ t. taking_weight t ≤ 6 * (1 + parts_of at.0 + parts_of width.0)) (built at.0).measured (λ p. constant_in (built width.0) >>= λ w. Ok (make p w)) at.1 (λ a h.
      ok_after (λ t. taking_weight t ≤ 6 * (1 + parts_of at.0 + parts_of width.0)) (constant_in (built width.0)) (λ w. Ok (make a w)) (λ w. omega (arith, h, is a w)))

  select_taken : (y : Sel-F Held Kept) → IfOk (taking_layer (map-Sel Expr Sel Built BuiltSelect built built_select (select_here y)))
      (λ t. taking_weight t ≤ 6 * select_parts_layer (map-Sel Expr Sel ℕ ℕ parts_of select_parts (select_here y)))
  select_taken (expr.Bit place at) =
      ok_behind (Light (parts_of at.0)) (λ t. taking_weight t ≤ 6 * (1 + parts_of at.0)) (built at.0).measured (λ p. Ok (At p)) at.1 (λ a h. omega (arith, h))
  select_taken (expr.Part place high low) =
      ok_after (λ t. taking_weight t ≤ 6 * (1 + parts_of high.0 + parts_of low.0)) (constant_in (built high.0)) (λ m. constant_in (built low.0) >>= λ l. Ok (DownTo m l)) (λ m.
      ok_after (λ t. taking_weight t ≤ 6 * (1 + parts_of high.0 + parts_of low.0)) (constant_in (built low.0)) (λ l. Ok (DownTo m l)) (λ l. omega arith))
  select_taken (expr.Up place at width) = width_taken at width UpFrom (λ a c. refl)
  select_taken (expr.Down place at width) = width_taken at width DownFrom (λ a c. refl)

  rolled_light : (y : Expr-F Held Kept) → IsLight (roll-Expr (here y))
  rolled_light y =
      subst (λ (b : Built). IfOk b.measured (Light (parts_of (roll-Expr (here y))))) (sym (fold-roll-Expr Built BuiltSelect (built_layer lookup vars) built_select_layer (here y)))
      (subst (λ n. IfOk (measured_layer lookup vars (map-Expr Expr Sel Built BuiltSelect built built_select (here y))) (Light n))
      (sym (fold-roll-Expr ℕ ℕ parts_layer select_parts_layer (here y))) (layer_light y))

  rolled_taken : (y : Sel-F Held Kept) → IsTaken (roll-Sel (select_here y))
  rolled_taken y =
      subst (λ (b : BuiltSelect). IfOk b.taking (λ t. taking_weight t ≤ 6 * select_parts (roll-Sel (select_here y))))
      (sym (fold-roll-Sel Built BuiltSelect (built_layer lookup vars) built_select_layer (select_here y)))
      (subst (λ n. IfOk (taking_layer (map-Sel Expr Sel Built BuiltSelect built built_select (select_here y))) (λ t. taking_weight t ≤ 6 * n))
      (sym (fold-roll-Sel ℕ ℕ parts_layer select_parts_layer (select_here y))) (select_taken y))

  -- what is measured of an expression has fewer nodes than 6 for each of its own
  pub weighed : (e : Expr) → IfOk (measured_of lookup vars e) (λ m. weight_of m.pending + 1 ≤ 6 * parts_of e)
  weighed =
      ind-Expr IsLight IsTaken
      (λ x y is. subst (λ z. IsLight (roll-Expr z)) is (rolled_light y))
      (λ x y is. subst (λ z. IsTaken (roll-Sel z)) is (rolled_taken y))
