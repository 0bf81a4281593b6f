-- What is measured of an expression stands for what it means, and is refused as that is.
use Rattle.std.proofs.Common.{◌≡◌, ℕ, ◌^◌, ◌<◌, Bool, true, false, List, [], ◌∷◌, ◌++◌, map, Option, None, Some, Result, Ok, Err, refl, sym, ap, subst, lit≤, lit<, append_assoc}
use Rattle.std.specs.Prelude.{IfOk}
use Rattle.std.specs.Prelude.{option_map}
use Rattle.std.proofs.lemmas.List.{append-nil}
use Rattle.bit_ops.specs.Width.{IsWidth}
use Rattle.sv_base.specs.declared.refusal.Refusal.{Refusal}
use Rattle.sv_ast.specs.declared.expression.Id.{Id}
use Rattle.sv_ast.specs.declared.expression.Sel.{Sel}
use Rattle.sv_ast.specs.declared.expression.Expr.{Expr, Number, Fill}
use Rattle.sv_ast.specs.declared.expression.Expr.TheOpen as expr
use Rattle.sv_ast.specs.declared.expression.Expr.TheOpen.{Expr-F, Sel-F}
use Rattle.sv_ast.specs.declared.expression.Expr.TheViews.{roll-Expr, roll-Sel}
use Rattle.sv_ast.specs.declared.expression.Expr.TheVariants.{outs-Number, outs-Fill}
use Rattle.sv_ast.specs.declared.expression.Expr.TheFolds.{map-Expr, map-Sel, fold-roll-Expr, fold-roll-Sel, ind-Expr}
use Rattle.net_ir.specs.declared.design.Var.{Var}
use Rattle.net_ir.specs.declared.term.Term.{Const}
use Rattle.net_ir.specs.Value.{widths_of, AreWordsOf}
use Rattle.const_eval.specs.declared.env.Const as constant
use Rattle.const_eval.specs.declared.env.Bound.{Bound}
use Rattle.const_eval.specs.declared.env.Bound.TheVariants.{Constant, Variable}
use Rattle.const_eval.specs.Meaning.{Meaning}
use Rattle.const_eval.specs.Meaning as meaning
use Rattle.const_eval.specs.Selects.{Named}
use Rattle.const_eval.specs.WholeNumbers.{whole_number_of, count_of}
use Rattle.const_eval.specs.Sized.{IsSized, AreSized}
use Rattle.const_eval.specs.Constant.{named_of}
use Rattle.const_eval.specs.Expressions as expressions
use Rattle.const_eval.specs.Expressions.{Names, Judged, Select, Positions, At, DownTo, UpFrom, DownFrom, expression_layer, select_layer, select_of, meaning_of, ◌>>=◌}
use Rattle.const_eval.specs.Alike.{Alike}
use Rattle.const_eval.specs.code.Agreeing.{Agrees}
use Rattle.const_eval.proofs.Judged.{alike_behind}
use Rattle.const_eval.proofs.Means.{means}
use Rattle.const_eval.proofs.Constants.{constants_alone_lem}
use Rattle.width_rules.specs.declared.measured.Measured.{Measured}
use Rattle.width_rules.specs.declared.joined.Joined.{Joined}
use Rattle.width_rules.specs.declared.joined.Joined.TheVariants.{Nothing}
use Rattle.width_rules.specs.declared.pending.Pending as pending
use Rattle.width_rules.specs.declared.taking.Taking.{Taking}
use Rattle.width_rules.specs.declared.taking.Taking.TheVariants as taking
use Rattle.width_rules.specs.Scope.{names_by, meaning_by, AreThere}
use Rattle.width_rules.specs.Values.{constant_of}
use Rattle.width_rules.specs.Operations as operations
use Rattle.width_rules.specs.Joining as joining
use Rattle.width_rules.specs.Selecting as selecting
use Rattle.width_rules.specs.Selecting.{Lookup, bound_by}
use Rattle.width_rules.specs.Built as spec
use Rattle.width_rules.specs.Built.{Built, BuiltSelect, constants_of, constant_in, built_of, built_select_of, built_layer, built_select_layer, measured_layer, taking_layer, measured_of, joined_after}
use Rattle.width_rules.specs.code.Standing.{Stands, IsJoined, IsFound, ArePositions}
use Rattle.width_rules.proofs.Standings.{ValuesFit, WordsOfSigned, alone_stands, chosen_stands}
use Rattle.width_rules.proofs.Constants.{same_constants}
use Rattle.width_rules.proofs.Literals.{opened, literal_stands, filled_stands}
use Rattle.width_rules.proofs.Meant.{meant}
use Rattle.width_rules.proofs.Valued.{constant_found, found_of}
use Rattle.width_rules.proofs.Operated as operated
use Rattle.width_rules.proofs.Picked as picked
use Rattle.width_rules.proofs.Copied as copied
use Rattle.width_rules.proofs.Copied.{alike_ok}

-- a law that the code has by a call: where names have sizes and words of values, expressions have sizes and values
abbrev pub ExpressionsSized : Type 0
ExpressionsSized = (names : Names) → AreSized names → (needed : Bool) (e : Expr) → IfOk (meaning_of names needed e) IsSized

-- ---- constants

named_sized : (o : Option Bound) (named : Named) → option_map named_of o ≡ Some named → IsWidth named.size × (named.word < 2 ^ named.size)
named_sized None named is = absurd (let clash : None ≡ Some named = is in cc)
named_sized (Some (Constant value low)) named is =
    let same : Some (named_of (Constant value low)) ≡ Some named = is in
    let one : named_of (Constant value low) ≡ named = cc in
    subst (λ (n : Named). IsWidth n.size × (n.word < 2 ^ n.size)) one ((value.value.positive, value.value.within), value.value.fits)
named_sized (Some (Variable x)) named is =
    let same : Some (named_of (Variable x)) ≡ Some named = is in
    let one : named_of (Variable x) ≡ named = cc in
    subst (λ (n : Named). IsWidth n.size × (n.word < 2 ^ n.size)) one ((lit≤ tt, lit≤ tt), lit< tt)

constants_sized : (lookup : Lookup) → AreSized (constants_of lookup)
constants_sized lookup name named is = named_sized (lookup name) named is

-- a constant behind something that is judged
behind_constant : (R : Measured → Meaning → Type 0) (j : Judged) (f : constant.Const → Measured) → IfOk j IsSized →
    ((c : constant.Const) → Agrees IsFound (Ok c) j → Agrees R (Ok (f c)) j) → Alike R (constant_of j >>= λ c. Ok (f c)) j
behind_constant R (Ok m) f sized k = k _ (found_of m sized)
behind_constant R (Err refusal) f sized k = refl

-- ---- parts

more_alike : {A B C : Type 0} (R : A → B → Type 0) (S : A → C → Type 0) (i : Result A Refusal) (j : Result B Refusal) (g : B → C) → Alike R i j →
    ((a : A) (b : B) → R a b → S a (g b)) → Alike S i (j >>= λ b. Ok (g b))
more_alike R S (Ok a) (Ok b) g h k = k a b h
more_alike R S (Err refusal) (Err other) g h k = h
more_alike R S (Ok a) (Err refusal) g h k = absurd h
more_alike R S (Err refusal) (Ok b) g h k = absurd h

module _ (law : ValuesFit) (word : WordsOfSigned) (sizes : ExpressionsSized) (lookup : Lookup) (vars : List Var) (lawful : AreThere lookup vars) (u : List ℕ) (words : AreWordsOf (widths_of vars) u) where
  abbrev ws : List ℕ
  ws = widths_of vars

  abbrev names : Names
  names = names_by lookup vars u

  abbrev built : Expr → Built
  built = built_of lookup vars

  abbrev built_select : Sel → BuiltSelect
  built_select = built_select_of lookup vars

  abbrev IsStood : Expr → Type 0
  IsStood e = Alike (Stands ws u) (built e).measured (means names e false)

  -- a select is in its place, and its positions stand
  abbrev IsPlaced : Sel → Type 0
  IsPlaced s = ((built_select s).select.place ≡ (select_of names s).place) × Alike (ArePositions ws u) (built_select s).taking ((select_of names s).positions false)

  abbrev Held : Type 0
  Held = (e : Expr) × IsStood e

  abbrev Kept : Type 0
  Kept = (s : Sel) × IsPlaced s

  found_in : (e : Expr) → Alike IsFound (constant_in (built e)) (means names e true)
  found_in e =
      let here : (built e).meaning true ≡ means (constants_of lookup) e true = ap (λ (f : Bool → Judged). f true) (meant lookup vars e) in
      let there : means names e true ≡ means (constants_of lookup) e true = constants_alone_lem names (constants_of lookup) (same_constants lookup vars u) e in
      subst (λ j. Alike IsFound (constant_of j) (means names e true)) (sym here)
      (subst (λ j. Alike IsFound (constant_of (means (constants_of lookup) e true)) j) (sym there)
      (constant_found (means (constants_of lookup) e true) (sizes (constants_of lookup) (constants_sized lookup) true e)))

  literal_alike : (text : Id) → Alike (Stands ws u) (spec.literal text) (expressions.literal text)
  literal_alike text =
      behind_constant (Stands ws u) (expressions.literal text) (λ c. operations.alone c.value.width c.signed (Const c.value))
      (subst (λ j. IfOk j IsSized) (opened (constants_of lookup) true (Number text) _ (outs-Number text)) (sizes (constants_of lookup) (constants_sized lookup) true (Number text)))
      (λ c found. literal_stands word ws u text c _ found (λ wide has. alone_stands law word ws u c.value.width (Const c.value) c.signed c.value.word words wide has))

  filled_alike : (text : Id) → Alike (Stands ws u) (spec.filled text) (expressions.filled text)
  filled_alike text =
      behind_constant (Stands ws u) (expressions.filled text) (λ c. record { size = 1; signed = false; pending = pending.Fill c.value })
      (subst (λ j. IfOk j IsSized) (opened (constants_of lookup) true (Fill text) _ (outs-Fill text)) (sizes (constants_of lookup) (constants_sized lookup) true (Fill text)))
      (λ c found. filled_stands word ws u text c words found)

  selected_alike : (held : List Kept) (name : Id) (bound : Bound) (named : Named) → picked.IsNamed law word lookup vars lawful u words bound named →
      Alike (Stands ws u) (spec.selected vars name bound (map built_select (map (λ s. s.0) held))) (expressions.selected (map (select_of names) (map (λ s. s.0) held)) false named name)
  selected_alike [] name bound named h = picked.whole_stands law word lookup vars lawful u words name bound named h
  selected_alike (s ∷ []) name bound named h =
      alike_behind (ArePositions ws u) (Stands ws u) (built_select s.0).taking ((select_of names s.0).positions false) (λ t. selecting.take vars name bound t)
      (λ p. expressions.take p named name) s.1.1 (λ t p k. picked.take_alike law word lookup vars lawful u words name bound named t p h k)
  selected_alike (s ∷ t ∷ more) name bound named h =
      alike_behind (ArePositions ws u) (Stands ws u) (built_select s.0).taking ((select_of names s.0).positions false)
      (λ _. (built_select t.0).taking >>= λ _. Err (expressions.second_select (built_select t.0).select.place))
      (λ _. (select_of names t.0).positions false >>= λ _. Err (expressions.second_select (select_of names t.0).place)) s.1.1 (λ _ _ _.
      alike_behind (ArePositions ws u) (Stands ws u) (built_select t.0).taking ((select_of names t.0).positions false)
      (λ _. Err (expressions.second_select (built_select t.0).select.place)) (λ _. Err (expressions.second_select (select_of names t.0).place)) t.1.1
      (λ _ _ _. ap (λ place. expressions.second_select place) t.1.0))

  parts_alike : (held : List Held) (j : Joined) (before : List Meaning) → IsJoined ws u j before →
      Alike (λ k ms. IsJoined ws u k (before ++ ms)) (joined_after j (map built (map (λ e. e.0) held))) (expressions.each (map (means names) (map (λ e. e.0) held)) false)
  parts_alike [] j before h = subst (IsJoined ws u j) (sym (append-nil before)) h
  parts_alike (e ∷ held) j before h =
      alike_behind (Stands ws u) (λ k ms. IsJoined ws u k (before ++ ms)) (built e.0).measured (means names e.0 false)
      (λ a. joined_after (joining.joined_with j a) (map built (map (λ e. e.0) held)))
      (λ m. expressions.each (map (means names) (map (λ e. e.0) held)) false >>= λ ms. Ok (m ∷ ms)) e.1 (λ a m stands.
      more_alike (λ k ms. IsJoined ws u k ((before ++ m ∷ []) ++ ms)) (λ k ms. IsJoined ws u k (before ++ ms)) (joined_after (joining.joined_with j a) (map built (map (λ e. e.0) held)))
      (expressions.each (map (means names) (map (λ e. e.0) held)) false) (λ ms. m ∷ ms)
      (parts_alike held (joining.joined_with j a) (before ++ m ∷ []) (copied.with_stands law word ws u words j before a m h stands))
      (λ k ms is. subst (IsJoined ws u k) (append_assoc before (m ∷ []) ms) is))

  -- a layer of an expression, with its parts
  abbrev here : Expr-F Held Kept → Expr-F Expr Sel
  here y = map-Expr Held Kept Expr Sel (λ e. e.0) (λ s. s.0) y

  layer_alike : (y : Expr-F Held Kept) → Alike (Stands ws u) (measured_layer lookup vars (map-Expr Expr Sel Built BuiltSelect built built_select (here y)))
      (expression_layer names (map-Expr Expr Sel (Bool → Judged) Select (means names) (select_of names) (here y)) false)
  layer_alike (expr.Number text) = literal_alike text
  layer_alike (expr.Fill text) = filled_alike text
  layer_alike (expr.Read name selects) =
      alike_behind (picked.IsNamed law word lookup vars lawful u words) (Stands ws u) (bound_by lookup name) (expressions.named_by names false name)
      (λ bound. spec.selected vars name bound (map built_select (map (λ s. s.0) selects)))
      (λ named. expressions.selected (map (select_of names) (map (λ s. s.0) selects)) false named name)
      (picked.named_alike law word lookup vars lawful u words name) (λ bound named h. selected_alike selects name bound named h)
  layer_alike (expr.Unary sign a) =
      alike_behind (Stands ws u) (Stands ws u) (built a.0).measured (means names a.0 false) (operations.unary_on sign) (expressions.unary_on sign) a.1
      (λ k m h. operated.unary_on_stands law word ws u sign k m h)
  layer_alike (expr.Binary sign a b) =
      alike_behind (Stands ws u) (Stands ws u) (built a.0).measured (means names a.0 false) (λ k. (built b.0).measured >>= λ l. operations.binary_on sign k l)
      (λ m. means names b.0 false >>= λ n. expressions.binary_on false sign m n) a.1 (λ k m h.
      alike_behind (Stands ws u) (Stands ws u) (built b.0).measured (means names b.0 false) (λ l. operations.binary_on sign k l) (λ n. expressions.binary_on false sign m n) b.1
      (λ l n i. operated.binary_on_stands law word ws u sign k l m n h i))
  layer_alike (expr.Choice sign c a b) =
      alike_behind (Stands ws u) (Stands ws u) (built c.0).measured (means names c.0 false)
      (λ t. (built a.0).measured >>= λ k. (built b.0).measured >>= λ l. Ok (operations.chosen t k l))
      (λ t. means names a.0 false >>= λ m. means names b.0 false >>= λ n. Ok (meaning.chosen t m n)) c.1 (λ t s g.
      alike_behind (Stands ws u) (Stands ws u) (built a.0).measured (means names a.0 false) (λ k. (built b.0).measured >>= λ l. Ok (operations.chosen t k l))
      (λ m. means names b.0 false >>= λ n. Ok (meaning.chosen s m n)) a.1 (λ k m h.
      alike_behind (Stands ws u) (Stands ws u) (built b.0).measured (means names b.0 false) (λ l. Ok (operations.chosen t k l)) (λ n. Ok (meaning.chosen s m n)) b.1
      (λ l n i. chosen_stands ws u t k l s m n g h i)))
  layer_alike (expr.Concat place parts) =
      alike_behind (IsJoined ws u) (Stands ws u) (joined_after Nothing (map built (map (λ e. e.0) parts))) (expressions.each (map (means names) (map (λ e. e.0) parts)) false)
      (joining.concatenation place) (expressions.concatenation place) (parts_alike parts Nothing [] refl)
      (λ j ms h. copied.concatenation_alike law word ws u words place j ms h)
  layer_alike (expr.Repeat place count parts) =
      alike_behind IsFound (Stands ws u) (constant_in (built count.0)) (means names count.0 true)
      (λ c. joined_after Nothing (map built (map (λ e. e.0) parts)) >>= λ j. joining.repeated place (count_of (whole_number_of c)) j)
      (λ n. expressions.each (map (means names) (map (λ e. e.0) parts)) false >>= λ ms. expressions.repeated place n ms) (found_in count.0) (λ c n found.
      alike_behind (IsJoined ws u) (Stands ws u) (joined_after Nothing (map built (map (λ e. e.0) parts))) (expressions.each (map (means names) (map (λ e. e.0) parts)) false)
      (λ j. joining.repeated place (count_of (whole_number_of c)) j) (λ ms. expressions.repeated place n ms) (parts_alike parts Nothing [] refl)
      (λ j ms h. copied.repeated_alike law word ws u words place c n j ms found h))
  layer_alike (expr.System name a) =
      alike_behind (Stands ws u) (Stands ws u) (built a.0).measured (means names a.0 false) (operations.system_on name) (expressions.system_on false name) a.1
      (λ k m h. operated.system_on_stands law word ws u name k m h)

  -- a layer of a select, with its positions
  abbrev select_here : Sel-F Held Kept → Sel-F Expr Sel
  select_here y = map-Sel Held Kept Expr Sel (λ e. e.0) (λ s. s.0) y

  abbrev layer_of : Sel-F Held Kept → Select
  layer_of y = select_layer (map-Sel Expr Sel (Bool → Judged) Select (means names) (select_of names) (select_here y))

  abbrev built_of_layer : Sel-F Held Kept → BuiltSelect
  built_of_layer y = built_select_layer (map-Sel Expr Sel Built BuiltSelect built built_select (select_here y))

  same_place : (y : Sel-F Held Kept) → (built_of_layer y).select.place ≡ (layer_of y).place
  same_place (expr.Bit place at) = refl
  same_place (expr.Part place high low) = refl
  same_place (expr.Up place at width) = refl
  same_place (expr.Down place at width) = refl

  bounds_alike : (high low : Held) → Alike (ArePositions ws u) (constant_in (built high.0) >>= λ m. constant_in (built low.0) >>= λ l. Ok (taking.DownTo m l))
      (means names high.0 true >>= λ m. means names low.0 true >>= λ l. Ok (DownTo m l))
  bounds_alike high low =
      alike_behind IsFound (ArePositions ws u) (constant_in (built high.0)) (means names high.0 true) (λ m. constant_in (built low.0) >>= λ l. Ok (taking.DownTo m l))
      (λ m. means names low.0 true >>= λ l. Ok (DownTo m l)) (found_in high.0) (λ c m g.
      alike_behind IsFound (ArePositions ws u) (constant_in (built low.0)) (means names low.0 true) (λ l. Ok (taking.DownTo c l)) (λ l. Ok (DownTo m l)) (found_in low.0)
      (λ d l h. (g, h)))

  width_alike : (at width : Held) (make : Measured → constant.Const → Taking) (means_of : Meaning → Meaning → Positions) →
      ((a : Measured) (c : constant.Const) (p w : Meaning) → Stands ws u a p → IsFound c w → ArePositions ws u (make a c) (means_of p w)) →
      Alike (ArePositions ws u) ((built at.0).measured >>= λ p. constant_in (built width.0) >>= λ w. Ok (make p w))
      (means names at.0 false >>= λ p. means names width.0 true >>= λ w. Ok (means_of p w))
  width_alike at width make means_of step =
      alike_behind (Stands ws u) (ArePositions ws u) (built at.0).measured (means names at.0 false) (λ p. constant_in (built width.0) >>= λ w. Ok (make p w))
      (λ p. means names width.0 true >>= λ w. Ok (means_of p w)) at.1 (λ a p g.
      alike_behind IsFound (ArePositions ws u) (constant_in (built width.0)) (means names width.0 true) (λ w. Ok (make a w)) (λ w. Ok (means_of p w)) (found_in width.0)
      (λ c w h. step a c p w g h))

  positions_alike : (y : Sel-F Held Kept) → Alike (ArePositions ws u) (built_of_layer y).taking ((layer_of y).positions false)
  positions_alike (expr.Bit place at) =
      alike_behind (Stands ws u) (ArePositions ws u) (built at.0).measured (means names at.0 false) (λ p. Ok (taking.At p)) (λ p. Ok (At p)) at.1 (λ a p h. h)
  positions_alike (expr.Part place high low) = bounds_alike high low
  positions_alike (expr.Up place at width) = width_alike at width taking.UpFrom UpFrom (λ a c p w g h. (g, h))
  positions_alike (expr.Down place at width) = width_alike at width taking.DownFrom DownFrom (λ a c p w g h. (g, h))

  -- ---- the whole

  rolled_stood : (y : Expr-F Held Kept) → IsStood (roll-Expr (here y))
  rolled_stood y =
      subst (λ (b : Built). Alike (Stands ws u) b.measured (means names (roll-Expr (here y)) false))
      (sym (fold-roll-Expr Built BuiltSelect (built_layer lookup vars) built_select_layer (here y)))
      (subst (λ (part : Bool → Judged). Alike (Stands ws u) (measured_layer lookup vars (map-Expr Expr Sel Built BuiltSelect built built_select (here y))) (part false))
      (sym (fold-roll-Expr (Bool → Judged) Select (expression_layer names) select_layer (here y))) (layer_alike y))

  rolled_placed : (y : Sel-F Held Kept) → IsPlaced (roll-Sel (select_here y))
  rolled_placed y =
      subst (λ (b : BuiltSelect). (b.select.place ≡ (select_of names (roll-Sel (select_here y))).place) × Alike (ArePositions ws u) b.taking ((select_of names (roll-Sel (select_here y))).positions false))
      (sym (fold-roll-Sel Built BuiltSelect (built_layer lookup vars) built_select_layer (select_here y)))
      (subst (λ (s : Select). ((built_of_layer y).select.place ≡ s.place) × Alike (ArePositions ws u) (built_of_layer y).taking (s.positions false))
      (sym (fold-roll-Sel (Bool → Judged) Select (expression_layer names) select_layer (select_here y))) (same_place y, positions_alike y))

  -- what is measured of an expression stands for what it means
  pub stood : (e : Expr) → Alike (Stands ws u) (measured_of lookup vars e) (meaning_by lookup vars u e)
  stood =
      ind-Expr IsStood IsPlaced
      (λ x y is. subst (λ z. IsStood (roll-Expr z)) is (rolled_stood y))
      (λ x y is. subst (λ z. IsPlaced (roll-Sel z)) is (rolled_placed y))
