-- What is found of an expression holds what the expression means where a constant is needed.
use Rattle.std.proofs.Common.{◌≡◌, Bool, List, [], ◌∷◌, map, refl, sym, ◌∙◌, ap, subst}
use Rattle.sv_ast.specs.declared.expression.Sel.{Sel}
use Rattle.sv_ast.specs.declared.expression.Expr.{Expr}
use Rattle.sv_ast.specs.declared.expression.Expr.TheOpen as expr
use Rattle.sv_ast.specs.declared.expression.Expr.TheOpen.{Expr-F, Sel-F}
use Rattle.sv_ast.specs.declared.expression.Expr.TheViews.{roll-Expr, roll-Sel}
use Rattle.sv_ast.specs.declared.expression.Expr.TheFolds.{map-Expr, map-Sel, fold-roll-Expr, fold-roll-Sel, ind-Expr, ind-Sel}
use Rattle.net_ir.specs.declared.design.Var.{Var}
use Rattle.const_eval.specs.Expressions.{Names, Judged, Select, expression_layer, select_layer, select_of}
use Rattle.const_eval.proofs.Means.{means}
use Rattle.width_rules.specs.Selecting.{Lookup}
use Rattle.width_rules.specs.Built.{Built, BuiltSelect, constants_of, built_layer, built_select_layer, built_of, built_select_of, meanings_in, positions_in}

-- an expression means what is found of it, and so a select
abbrev IsMeant : Lookup → List Var → Expr → Type 0
IsMeant lookup vars e = (built_of lookup vars e).meaning ≡ means (constants_of lookup) e

abbrev IsChosen : Lookup → List Var → Sel → Type 0
IsChosen lookup vars s = (built_select_of lookup vars s).select ≡ select_of (constants_of lookup) s

abbrev Held : Lookup → List Var → Type 0
Held lookup vars = (e : Expr) × IsMeant lookup vars e

abbrev Kept : Lookup → List Var → Type 0
Kept lookup vars = (s : Sel) × IsChosen lookup vars s

module _ (lookup : Lookup) (vars : List Var) where
  abbrev names : Names
  names = constants_of lookup

  parts_meant : (held : List (Held lookup vars)) →
      map (λ (p : Built). p.meaning) (map (built_of lookup vars) (map (λ e. e.0) held)) ≡ map (means names) (map (λ e. e.0) held)
  parts_meant [] = refl
  parts_meant (e ∷ held) = ap (λ m. m ∷ map (λ (p : Built). p.meaning) (map (built_of lookup vars) (map (λ e. e.0) held))) e.1 ∙ ap (λ ms. means names e.0 ∷ ms) (parts_meant held)

  selects_chosen : (held : List (Kept lookup vars)) →
      map (λ (p : BuiltSelect). p.select) (map (built_select_of lookup vars) (map (λ s. s.0) held)) ≡ map (select_of names) (map (λ s. s.0) held)
  selects_chosen [] = refl
  selects_chosen (s ∷ held) = ap (λ m. m ∷ map (λ (p : BuiltSelect). p.select) (map (built_select_of lookup vars) (map (λ s. s.0) held))) s.1 ∙ ap (λ ms. select_of names s.0 ∷ ms) (selects_chosen held)

  layer_meant : (y : Expr-F (Held lookup vars) (Kept lookup vars)) →
      meanings_in (map-Expr Expr Sel Built BuiltSelect (built_of lookup vars) (built_select_of lookup vars) (map-Expr (Held lookup vars) (Kept lookup vars) Expr Sel (λ e. e.0) (λ s. s.0) y))
      ≡ map-Expr Expr Sel (Bool → Judged) Select (means names) (select_of names) (map-Expr (Held lookup vars) (Kept lookup vars) Expr Sel (λ e. e.0) (λ s. s.0) y)
  layer_meant (expr.Number text) = refl
  layer_meant (expr.Fill text) = refl
  layer_meant (expr.Read name selects) = ap (expr.Read name) (selects_chosen selects)
  layer_meant (expr.Unary sign a) = ap (expr.Unary sign) a.1
  layer_meant (expr.Binary sign a b) = ap (λ m. expr.Binary sign m (built_of lookup vars b.0).meaning) a.1 ∙ ap (expr.Binary sign (means names a.0)) b.1
  layer_meant (expr.Choice sign c a b) =
      ap (λ m. expr.Choice sign m (built_of lookup vars a.0).meaning (built_of lookup vars b.0).meaning) c.1
      ∙ ap (λ m. expr.Choice sign (means names c.0) m (built_of lookup vars b.0).meaning) a.1 ∙ ap (expr.Choice sign (means names c.0) (means names a.0)) b.1
  layer_meant (expr.Concat place parts) = ap (expr.Concat place) (parts_meant parts)
  layer_meant (expr.Repeat place count parts) =
      ap (λ m. expr.Repeat place m (map (λ (p : Built). p.meaning) (map (built_of lookup vars) (map (λ e. e.0) parts)))) count.1
      ∙ ap (expr.Repeat place (means names count.0)) (parts_meant parts)
  layer_meant (expr.System name a) = ap (expr.System name) a.1

  select_chosen : (y : Sel-F (Held lookup vars) (Kept lookup vars)) →
      positions_in (map-Sel Expr Sel Built BuiltSelect (built_of lookup vars) (built_select_of lookup vars) (map-Sel (Held lookup vars) (Kept lookup vars) Expr Sel (λ e. e.0) (λ s. s.0) y))
      ≡ map-Sel Expr Sel (Bool → Judged) Select (means names) (select_of names) (map-Sel (Held lookup vars) (Kept lookup vars) Expr Sel (λ e. e.0) (λ s. s.0) y)
  select_chosen (expr.Bit place a) = ap (expr.Bit place) a.1
  select_chosen (expr.Part place a b) = ap (λ m. expr.Part place m (built_of lookup vars b.0).meaning) a.1 ∙ ap (expr.Part place (means names a.0)) b.1
  select_chosen (expr.Up place a b) = ap (λ m. expr.Up place m (built_of lookup vars b.0).meaning) a.1 ∙ ap (expr.Up place (means names a.0)) b.1
  select_chosen (expr.Down place a b) = ap (λ m. expr.Down place m (built_of lookup vars b.0).meaning) a.1 ∙ ap (expr.Down place (means names a.0)) b.1

  rolled_meant : (y : Expr-F (Held lookup vars) (Kept lookup vars)) → IsMeant lookup vars (roll-Expr (map-Expr (Held lookup vars) (Kept lookup vars) Expr Sel (λ e. e.0) (λ s. s.0) y))
  rolled_meant y =
      let x : Expr-F Expr Sel = map-Expr (Held lookup vars) (Kept lookup vars) Expr Sel (λ e. e.0) (λ s. s.0) y in
      ap (λ (b : Built). b.meaning) (fold-roll-Expr Built BuiltSelect (built_layer lookup vars) built_select_layer x)
      ∙ ap (expression_layer names) (layer_meant y)
      ∙ sym (fold-roll-Expr (Bool → Judged) Select (expression_layer names) select_layer x)

  rolled_chosen : (y : Sel-F (Held lookup vars) (Kept lookup vars)) → IsChosen lookup vars (roll-Sel (map-Sel (Held lookup vars) (Kept lookup vars) Expr Sel (λ e. e.0) (λ s. s.0) y))
  rolled_chosen y =
      let x : Sel-F Expr Sel = map-Sel (Held lookup vars) (Kept lookup vars) Expr Sel (λ e. e.0) (λ s. s.0) y in
      ap (λ (b : BuiltSelect). b.select) (fold-roll-Sel Built BuiltSelect (built_layer lookup vars) built_select_layer x)
      ∙ ap select_layer (select_chosen y)
      ∙ sym (fold-roll-Sel (Bool → Judged) Select (expression_layer names) select_layer x)

  pub meant : (e : Expr) → IsMeant lookup vars e
  meant = ind-Expr (IsMeant lookup vars) (IsChosen lookup vars)
      (λ x y is. subst (λ z. IsMeant lookup vars (roll-Expr z)) is (rolled_meant y))
      (λ x y is. subst (λ z. IsChosen lookup vars (roll-Sel z)) is (rolled_chosen y))

  pub chosen : (s : Sel) → IsChosen lookup vars s
  chosen = ind-Sel (IsMeant lookup vars) (IsChosen lookup vars)
      (λ x y is. subst (λ z. IsMeant lookup vars (roll-Expr z)) is (rolled_meant y))
      (λ x y is. subst (λ z. IsChosen lookup vars (roll-Sel z)) is (rolled_chosen y))
