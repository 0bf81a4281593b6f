-- What is measured of an expression, one layer at a time.
use Rattle.std.proofs.Common.{◌≡◌, ℕ, ◌+◌, ◌≤◌, ◌<◌, Bool, true, List, [], ◌∷◌, map, length, get_or, drop, suc, add-one, drop-cons, drop_of_length-le, Result, Ok, Err, refl, sym, ◌∙◌, ap, subst, arith}
use Rattle.sv_base.specs.declared.refusal.Place.{Place}
use Rattle.sv_base.specs.declared.refusal.Refusal.{Refusal}
use Rattle.sv_base.specs.declared.fault.Fault.{Fault}
use Rattle.sv_base.specs.declared.fault.Fault.TheVariants.{Refused, NoMemory}
use Rattle.sv_ast.specs.declared.expression.Id.{Id}
use Rattle.sv_ast.specs.declared.expression.Sel.{Sel}
use Rattle.sv_ast.specs.declared.expression.Sel as sel
use Rattle.sv_ast.specs.declared.expression.Expr.{Expr, Number, Fill, Read, Unary, Binary, Choice, Concat, Repeat, System}
use Rattle.sv_ast.specs.declared.expression.Expr.TheOpen.{Expr-F, Sel-F}
use Rattle.sv_ast.specs.declared.expression.Expr.TheViews.{out-Expr, out-Sel}
use Rattle.sv_ast.specs.declared.expression.Expr.TheVariants.{outs-Number, outs-Fill, outs-Read, outs-Unary, outs-Binary, outs-Choice, outs-Concat, outs-Repeat, outs-System}
use Rattle.sv_ast.specs.declared.expression.Sel.TheVariants.{outs-Bit, outs-Part, outs-Up, outs-Down}
use Rattle.sv_ast.specs.declared.expression.Expr.TheFolds.{map-Expr, map-Sel, fold_out-Expr, fold_out-Sel}
use Rattle.net_ir.specs.declared.design.Var.{Var}
use Rattle.const_eval.specs.declared.env.Bound.{Bound}
use Rattle.const_eval.specs.declared.env.Const as constant
use Rattle.const_eval.specs.WholeNumbers.{whole_number_of, count_of}
use Rattle.const_eval.specs.Expressions.{Judged, Select, meaning_of, select_of, second_select, ◌>>=◌}
use Rattle.const_eval.specs.code.Agreeing.{Agrees}
use Rattle.width_rules.specs.declared.measured.Measured.{Measured}
use Rattle.width_rules.specs.declared.joined.Joined.{Joined}
use Rattle.width_rules.specs.declared.joined.Joined.TheVariants.{Nothing}
use Rattle.width_rules.specs.declared.taking.Taking.TheVariants as taking
use Rattle.width_rules.specs.Values.{constant_of}
use Rattle.width_rules.specs.Operations.{unary_on, binary_on, chosen, system_on}
use Rattle.width_rules.specs.Joining.{joined_with, concatenation, repeated}
use Rattle.width_rules.specs.Selecting.{Lookup, bound_by}
use Rattle.width_rules.specs.Built as spec
use Rattle.width_rules.specs.Built.{Built, BuiltSelect, constants_of, built_of, built_select_of, built_layer, built_select_layer, measured_layer, taking_layer, measured_of, joined_after, selected, selected_by}
use Rattle.width_rules.proofs.Meant as meant

-- ---- one answer behind another

-- what is found is what is told, or the refusals are one
abbrev pub IsTold : {X : Type 0} → Result X Fault → Result X Refusal → Type 0
IsTold r told = Agrees (λ x y. x ≡ y) r told

pub told_behind : {X Y : Type 0} (x : X) (told : Result X Refusal) (f : X → Result Y Refusal) (r : Result Y Fault) → IsTold (Ok x) told → IsTold r (f x) → IsTold r (told >>= f)
told_behind x (Ok y) f r same h = subst (λ z. IsTold r (f z)) same h
told_behind x (Err refusal) f r same h = absurd same

pub told_first : {X Y : Type 0} (fault : Fault) (told : Result X Refusal) (f : X → Result Y Refusal) → IsTold (Err fault) told → IsTold (Err fault) (told >>= f)
told_first (Refused refusal) (Ok y) f h = absurd h
told_first NoMemory (Ok y) f h = free (f y) where
  free : {Y : Type 0} (r : Result Y Refusal) → IsTold (Err NoMemory) r
  free (Ok z) = tt
  free (Err refusal) = tt
told_first fault (Err refusal) f h = h

module _ (lookup : Lookup) (vars : List Var) where
  -- ---- layers

  measured_opened : (e : Expr) (x : Expr-F Expr Sel) → out-Expr e ≡ x →
      measured_of lookup vars e ≡ measured_layer lookup vars (map-Expr Expr Sel Built BuiltSelect (built_of lookup vars) (built_select_of lookup vars) x)
  measured_opened e x is =
      ap (λ (b : Built). b.measured) (fold_out-Expr Built BuiltSelect (built_layer lookup vars) built_select_layer e)
      ∙ ap (λ y. measured_layer lookup vars (map-Expr Expr Sel Built BuiltSelect (built_of lookup vars) (built_select_of lookup vars) y)) is

  taking_opened : (s : Sel) (x : Sel-F Expr Sel) → out-Sel s ≡ x →
      (built_select_of lookup vars s).taking ≡ taking_layer (map-Sel Expr Sel Built BuiltSelect (built_of lookup vars) (built_select_of lookup vars) x)
  taking_opened s x is =
      ap (λ (b : BuiltSelect). b.taking) (fold_out-Sel Built BuiltSelect (built_layer lookup vars) built_select_layer s)
      ∙ ap (λ y. taking_layer (map-Sel Expr Sel Built BuiltSelect (built_of lookup vars) (built_select_of lookup vars) y)) is

  -- an expression where a constant is needed
  abbrev pub needed : Expr → Result constant.Const Refusal
  needed e = constant_of (meaning_of (constants_of lookup) true e)

  constant_opened : (e : Expr) → constant_of ((built_of lookup vars e).meaning true) ≡ needed e
  constant_opened e = ap (λ (f : Bool → Judged). constant_of (f true)) (meant.meant lookup vars e)

  pub measured_number : (text : Id) → measured_of lookup vars (Number text) ≡ spec.literal text
  measured_number text = measured_opened (Number text) _ (outs-Number text)

  pub measured_fill : (text : Id) → measured_of lookup vars (Fill text) ≡ spec.filled text
  measured_fill text = measured_opened (Fill text) _ (outs-Fill text)

  pub measured_read : (name : Id) (selects : List Sel) →
      measured_of lookup vars (Read name selects) ≡ (bound_by lookup name >>= λ bound. selected vars name bound (map (built_select_of lookup vars) selects))
  measured_read name selects = measured_opened (Read name selects) _ (outs-Read name selects)

  pub measured_unary : (sign : Id) (a : Expr) → measured_of lookup vars (Unary sign a) ≡ (measured_of lookup vars a >>= λ k. unary_on sign k)
  measured_unary sign a = measured_opened (Unary sign a) _ (outs-Unary sign a)

  pub measured_binary : (sign : Id) (a b : Expr) →
      measured_of lookup vars (Binary sign a b) ≡ (measured_of lookup vars a >>= λ k. measured_of lookup vars b >>= λ l. binary_on sign k l)
  measured_binary sign a b = measured_opened (Binary sign a b) _ (outs-Binary sign a b)

  pub measured_choice : (sign : Id) (c a b : Expr) →
      measured_of lookup vars (Choice sign c a b) ≡ (measured_of lookup vars c >>= λ t. measured_of lookup vars a >>= λ k. measured_of lookup vars b >>= λ l. Ok (chosen t k l))
  measured_choice sign c a b = measured_opened (Choice sign c a b) _ (outs-Choice sign c a b)

  pub measured_concat : (place : Place) (parts : List Expr) →
      measured_of lookup vars (Concat place parts) ≡ (joined_after Nothing (map (built_of lookup vars) parts) >>= λ j. concatenation place j)
  measured_concat place parts = measured_opened (Concat place parts) _ (outs-Concat place parts)

  pub measured_repeat : (place : Place) (count : Expr) (parts : List Expr) →
      measured_of lookup vars (Repeat place count parts)
      ≡ (needed count >>= λ c. joined_after Nothing (map (built_of lookup vars) parts) >>= λ j. repeated place (count_of (whole_number_of c)) j)
  measured_repeat place count parts =
      measured_opened (Repeat place count parts) _ (outs-Repeat place count parts)
      ∙ ap (λ (r : Result constant.Const Refusal). r >>= λ c. joined_after Nothing (map (built_of lookup vars) parts) >>= λ j. repeated place (count_of (whole_number_of c)) j) (constant_opened count)

  pub measured_system : (name : Id) (a : Expr) → measured_of lookup vars (System name a) ≡ (measured_of lookup vars a >>= λ k. system_on name k)
  measured_system name a = measured_opened (System name a) _ (outs-System name a)

  -- ---- selects

  pub taking_bit : (place : Place) (at : Expr) → (built_select_of lookup vars (sel.Bit place at)).taking ≡ (measured_of lookup vars at >>= λ p. Ok (taking.At p))
  taking_bit place at = taking_opened (sel.Bit place at) _ (outs-Bit place at)

  pub taking_part : (place : Place) (high low : Expr) →
      (built_select_of lookup vars (sel.Part place high low)).taking ≡ (needed high >>= λ m. needed low >>= λ l. Ok (taking.DownTo m l))
  taking_part place high low =
      taking_opened (sel.Part place high low) _ (outs-Part place high low)
      ∙ ap (λ (r : Result constant.Const Refusal). r >>= λ m. constant_of ((built_of lookup vars low).meaning true) >>= λ l. Ok (taking.DownTo m l)) (constant_opened high)
      ∙ ap (λ (r : Result constant.Const Refusal). needed high >>= λ m. r >>= λ l. Ok (taking.DownTo m l)) (constant_opened low)

  pub taking_up : (place : Place) (at width : Expr) →
      (built_select_of lookup vars (sel.Up place at width)).taking ≡ (measured_of lookup vars at >>= λ p. needed width >>= λ w. Ok (taking.UpFrom p w))
  taking_up place at width =
      taking_opened (sel.Up place at width) _ (outs-Up place at width)
      ∙ ap (λ (r : Result constant.Const Refusal). measured_of lookup vars at >>= λ p. r >>= λ w. Ok (taking.UpFrom p w)) (constant_opened width)

  pub taking_down : (place : Place) (at width : Expr) →
      (built_select_of lookup vars (sel.Down place at width)).taking ≡ (measured_of lookup vars at >>= λ p. needed width >>= λ w. Ok (taking.DownFrom p w))
  taking_down place at width =
      taking_opened (sel.Down place at width) _ (outs-Down place at width)
      ∙ ap (λ (r : Result constant.Const Refusal). measured_of lookup vars at >>= λ p. r >>= λ w. Ok (taking.DownFrom p w)) (constant_opened width)

  -- the place of a second select
  pub second_place : (s : Sel) (place : Place) → place ≡ (select_of (constants_of lookup) s).place → place ≡ (built_select_of lookup vars s).select.place
  second_place s place is = is ∙ ap (λ (t : Select). t.place) (sym (meant.chosen lookup vars s))

  -- ---- parts

  split_parts : (parts : List Expr) (i : ℕ) (e : Expr) → i < length parts → e ≡ get_or parts i e → drop i parts ≡ e ∷ drop (i + 1) parts
  split_parts parts i e within is = rw add-one (drop-cons parts i e within ∙ ap (λ x. x ∷ drop (suc i) parts) (sym is))

  -- the next part, and what is left behind it
  pub next_part : (j : Joined) (parts : List Expr) (i : ℕ) (e : Expr) → i < length parts → e ≡ get_or parts i e →
      joined_after j (map (built_of lookup vars) (drop i parts))
      ≡ (measured_of lookup vars e >>= λ m. joined_after (joined_with j m) (map (built_of lookup vars) (drop (i + 1) parts)))
  next_part j parts i e within is = ap (λ es. joined_after j (map (built_of lookup vars) es)) (split_parts parts i e within is)

  -- a part that was measured
  told_next : (m : Measured) (told : Result Measured Refusal) (f : Measured → Result Joined Refusal) → IsTold (Ok m) told → (told >>= f) ≡ f m
  told_next m (Ok n) f same = ap f (sym same)
  told_next m (Err refusal) f same = absurd same

  pub goes_on : (whole : Result Joined Refusal) (j k : Joined) (m : Measured) (parts : List Expr) (i : ℕ) (e : Expr) → i < length parts → e ≡ get_or parts i e →
      whole ≡ joined_after j (map (built_of lookup vars) (drop i parts)) → IsTold (Ok m) (measured_of lookup vars e) → k ≡ joined_with j m →
      whole ≡ joined_after k (map (built_of lookup vars) (drop (i + 1) parts))
  goes_on whole j k m parts i e within is h told next =
      h ∙ next_part j parts i e within is ∙ told_next m (measured_of lookup vars e) _ told ∙ ap (λ l. joined_after l (map (built_of lookup vars) (drop (i + 1) parts))) (sym next)

  pub part_refused : (whole : Result Joined Refusal) (j : Joined) (fault : Fault) (parts : List Expr) (i : ℕ) (e : Expr) → i < length parts → e ≡ get_or parts i e →
      whole ≡ joined_after j (map (built_of lookup vars) (drop i parts)) → IsTold (Err fault) (measured_of lookup vars e) → IsTold (Err fault) whole
  part_refused whole j fault parts i e within is h told =
      subst (IsTold (Err fault)) (sym (h ∙ next_part j parts i e within is)) (told_first fault (measured_of lookup vars e) _ told)

  pub all_joined : (whole : Result Joined Refusal) (j : Joined) (parts : List Expr) (i : ℕ) → length parts ≤ i →
      whole ≡ joined_after j (map (built_of lookup vars) (drop i parts)) → IsTold (Ok j) whole
  all_joined whole j parts i long h =
      subst (IsTold (Ok j)) (sym (h ∙ ap (λ es. joined_after j (map (built_of lookup vars) es)) (drop_of_length-le parts long))) refl

-- ---- names with their selects

-- one select, and two of a list
pub one_select : (vars : List Var) (name : Id) (bound : Bound) (f : Sel → BuiltSelect) (xs : List Sel) (a : Sel) → 1 ≤ length xs → length xs < 2 → a ≡ get_or xs 0 a →
    selected vars name bound (map f xs) ≡ selected_by vars name bound (f a)
one_select vars name bound f [] a long short is = absurd (omega (arith, long))
one_select vars name bound f (x ∷ []) a long short is = ap (λ y. selected_by vars name bound (f y)) (sym is)
one_select vars name bound f (x ∷ y ∷ more) a long short is = absurd (omega (arith, short))

abbrev pub twice : BuiltSelect → BuiltSelect → Result Measured Refusal
twice s t = s.taking >>= λ _. t.taking >>= λ _. Err (second_select t.select.place)

pub two_selects : (vars : List Var) (name : Id) (bound : Bound) (f : Sel → BuiltSelect) (xs : List Sel) (a b : Sel) → 2 ≤ length xs → a ≡ get_or xs 0 a → b ≡ get_or xs 1 b →
    selected vars name bound (map f xs) ≡ twice (f a) (f b)
two_selects vars name bound f [] a b long p q = absurd (omega (arith, long))
two_selects vars name bound f (x ∷ []) a b long p q = absurd (omega (arith, long))
two_selects vars name bound f (x ∷ y ∷ more) a b long p q = ap (λ z. twice (f z) (f y)) (sym p) ∙ ap (λ z. twice (f a) (f z)) (sym q)
