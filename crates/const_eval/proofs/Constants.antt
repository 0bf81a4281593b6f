-- Where a constant is needed, what an expression means depends on constants alone.
use Rattle.std.specs.Prelude.{◌≡◌, Bool, true, false, not, ◌&&◌, List, [], ◌∷◌, map, Option, None, Some, Result, Ok, Err, if◌then◌else◌}
use Rattle.std.proofs.Common.{refl, sym, subst, ap, ◌∙◌}
use Rattle.sv_base.specs.declared.kind.Kind.TheVariants as kind
use Rattle.sv_base.specs.declared.refusal.Refusal.{Refusal}
use Rattle.sv_ast.specs.declared.expression.Id.{Id}
use Rattle.sv_ast.specs.declared.expression.Sel.{Sel}
use Rattle.sv_ast.specs.declared.expression.Expr.{Expr}
use Rattle.sv_ast.specs.declared.expression.Expr.TheOpen as expr
use Rattle.sv_ast.specs.declared.expression.Expr.TheOpen.{Expr-F, Sel-F}
use Rattle.sv_ast.specs.declared.expression.Expr.TheViews.{roll-Expr, roll-Sel}
use Rattle.sv_ast.specs.declared.expression.Expr.TheFolds.{map-Expr, map-Sel, fold-roll-Expr, fold-roll-Sel, ind-Expr}
use Rattle.const_eval.specs.Meaning.{Meaning, chosen}
use Rattle.const_eval.specs.Selects.{Named}
use Rattle.const_eval.specs.Alike.{BothNamed, IsSameConstant, HaveSameConstants}
use Rattle.const_eval.specs.Expressions as spec
use Rattle.const_eval.specs.Expressions.{◌>>=◌, Names, Judged, Positions, At, DownTo, UpFrom, DownFrom, Select, expression_layer, select_layer, select_of, meaning_of, refused_at, or_refused}
use Rattle.const_eval.proofs.Means.{means}

-- ---- what is the same

-- an expression means the same
abbrev SameMeaning : Names → Names → Expr → Type 0
SameMeaning f g e = means f e true ≡ means g e true

-- a select stands in one place, with the same positions
record SameSelect (a b : Select) : Type 0 where
  place : a.place ≡ b.place
  positions : a.positions true ≡ b.positions true

-- an expression and a select with that fact
abbrev Held : Names → Names → Type 0
Held f g = (e : Expr) × SameMeaning f g e

abbrev Kept : Names → Names → Type 0
Kept f g = (s : Sel) × SameSelect (select_of f s) (select_of g s)

-- ---- names

named_here : (name : Id) (a b : Option Named) → BothNamed IsSameConstant a b
    → (or_refused (refused_at kind.UnknownName name) a >>= λ named. if true && not named.constant then Err (refused_at kind.NotConstant name) else Ok named)
    ≡ (or_refused (refused_at kind.UnknownName name) b >>= λ named. if true && not named.constant then Err (refused_at kind.NotConstant name) else Ok named)
named_here name None None h = refl
named_here name None (Some b) h = absurd h
named_here name (Some a) None h = absurd h
named_here name (Some a) (Some b) h = go a.constant refl
  where
    go : (c : Bool) → a.constant ≡ c
        → (if true && not a.constant then Err (refused_at kind.NotConstant name) else Ok a) ≡
        (if true && not b.constant then Err (refused_at kind.NotConstant name) else Ok b)
    go true e = ap (λ (n : Named). if true && not n.constant then Err (refused_at kind.NotConstant name) else Ok n) (h.whole e)
    go false e = let other : b.constant ≡ false = sym h.constant ∙ e in rw (e, other) refl

named_same : (f g : Names) → HaveSameConstants f g → (name : Id) → spec.named_by f true name ≡ spec.named_by g true name
named_same f g same name = named_here name (f name.name) (g name.name) (same name.name)

-- the selects of a name
selected_same : (f g : Names) (held : List (Kept f g)) (named : Named) (name : Id)
    → spec.selected (map (select_of f) (map (λ s. s.0) held)) true named name ≡ spec.selected (map (select_of g) (map (λ s. s.0) held)) true named name
selected_same f g [] named name = refl
selected_same f g (s ∷ []) named name = ap (λ (p : Result Positions Refusal). p >>= λ positions. spec.take positions named name) s.1.positions
selected_same f g (s ∷ t ∷ more) named name =
    ap (λ (p : Result Positions Refusal). p >>= λ _. (select_of f t.0).positions true >>= λ _. Err (spec.second_select (select_of f t.0).place)) s.1.positions
    ∙ ap (λ (p : Result Positions Refusal). (select_of g s.0).positions true >>= λ _. p >>= λ _. Err (spec.second_select (select_of f t.0).place)) t.1.positions
    ∙ ap (λ place. (select_of g s.0).positions true >>= λ _. (select_of g t.0).positions true >>= λ _. Err (spec.second_select place)) t.1.place

read_same : (f g : Names) → HaveSameConstants f g → (name : Id) (held : List (Kept f g))
    → spec.read f name (map (select_of f) (map (λ s. s.0) held)) true ≡ spec.read g name (map (select_of g) (map (λ s. s.0) held)) true
read_same f g same name held =
    ap (λ (j : Result Named Refusal). j >>= λ named. spec.selected (map (select_of f) (map (λ s. s.0) held)) true named name) (named_same f g same name)
    ∙ go (spec.named_by g true name)
  where
    go : (j : Result Named Refusal) → (j >>= λ named. spec.selected (map (select_of f) (map (λ s. s.0) held)) true named name)
        ≡ (j >>= λ named. spec.selected (map (select_of g) (map (λ s. s.0) held)) true named name)
    go (Ok named) = selected_same f g held named name
    go (Err refusal) = refl

-- ---- expressions

each_same : (f g : Names) (held : List (Held f g))
    → spec.each (map (means f) (map (λ e. e.0) held)) true ≡ spec.each (map (means g) (map (λ e. e.0) held)) true
each_same f g [] = refl
each_same f g (e ∷ held) =
    ap (λ (j : Judged). j >>= λ m. spec.each (map (means f) (map (λ e. e.0) held)) true >>= λ ms. Ok (m ∷ ms)) e.1
    ∙ ap (λ (j : Result (List Meaning) Refusal). means g e.0 true >>= λ m. j >>= λ ms. Ok (m ∷ ms)) (each_same f g held)

-- a layer of an expression, with its parts
abbrev here : Names → (f g : Names) → Expr-F (Held f g) (Kept f g) → Judged
here names f g y = expression_layer names (map-Expr Expr Sel (Bool → Judged) Select (means names) (select_of names)
    (map-Expr (Held f g) (Kept f g) Expr Sel (λ e. e.0) (λ s. s.0) y)) true

layer_same : (f g : Names) → HaveSameConstants f g → (y : Expr-F (Held f g) (Kept f g)) → here f f g y ≡ here g f g y
layer_same f g same (expr.Number text) = refl
layer_same f g same (expr.Fill text) = refl
layer_same f g same (expr.Read name selects) = read_same f g same name selects
layer_same f g same (expr.Unary sign a) = ap (λ (j : Judged). j >>= λ m. spec.unary_on sign m) a.1
layer_same f g same (expr.Binary sign a b) =
    ap (λ (j : Judged). j >>= λ m. means f b.0 true >>= λ n. spec.binary_on true sign m n) a.1
    ∙ ap (λ (j : Judged). means g a.0 true >>= λ m. j >>= λ n. spec.binary_on true sign m n) b.1
layer_same f g same (expr.Choice sign c a b) =
    ap (λ (j : Judged). j >>= λ t. means f a.0 true >>= λ m. means f b.0 true >>= λ n. Ok (chosen t m n)) c.1
    ∙ ap (λ (j : Judged). means g c.0 true >>= λ t. j >>= λ m. means f b.0 true >>= λ n. Ok (chosen t m n)) a.1
    ∙ ap (λ (j : Judged). means g c.0 true >>= λ t. means g a.0 true >>= λ m. j >>= λ n. Ok (chosen t m n)) b.1
layer_same f g same (expr.Concat place parts) = ap (λ (j : Result (List Meaning) Refusal). j >>= λ ms. spec.concatenation place ms) (each_same f g parts)
layer_same f g same (expr.Repeat place count parts) =
    ap (λ (j : Judged). j >>= λ n. spec.each (map (means f) (map (λ e. e.0) parts)) true >>= λ ms. spec.repeated place n ms) count.1
    ∙ ap (λ (j : Result (List Meaning) Refusal). means g count.0 true >>= λ n. j >>= λ ms. spec.repeated place n ms) (each_same f g parts)
layer_same f g same (expr.System name a) = ap (λ (j : Judged). j >>= λ m. spec.system_on true name m) a.1

-- a layer of a select, with its positions
abbrev select_here : Names → (f g : Names) → Sel-F (Held f g) (Kept f g) → Select
select_here names f g y = select_layer (map-Sel Expr Sel (Bool → Judged) Select (means names) (select_of names)
    (map-Sel (Held f g) (Kept f g) Expr Sel (λ e. e.0) (λ s. s.0) y))

two_same : {A : Type 0} (i j k l : Judged) (make : Meaning → Meaning → A) → i ≡ j → k ≡ l → ◌≡◌ {A = Result A Refusal} (i >>= λ m. k >>= λ n. Ok (make m n))
    (j >>= λ m. l >>= λ n. Ok (make m n))
two_same i j k l make p q = ap (λ (x : Judged). x >>= λ m. k >>= λ n. Ok (make m n)) p ∙ ap (λ (x : Judged). j >>= λ m. x >>= λ n. Ok (make m n)) q

select_same : (f g : Names) (y : Sel-F (Held f g) (Kept f g)) → SameSelect (select_here f f g y) (select_here g f g y)
select_same f g (expr.Bit place at) = record { place = refl; positions = ap (λ (j : Judged). j >>= λ p. Ok (At p)) at.1 }
select_same f g (expr.Part place high low) = record {
  place = refl;
  positions = two_same (means f high.0 true) (means g high.0 true) (means f low.0 true)
      (means g low.0 true) DownTo high.1 low.1;
}
select_same f g (expr.Up place at width) = record {
  place = refl;
  positions = two_same (means f at.0 true) (means g at.0 true) (means f width.0 true)
      (means g width.0 true) UpFrom at.1 width.1;
}
select_same f g (expr.Down place at width) = record {
  place = refl;
  positions = two_same (means f at.0 true) (means g at.0 true) (means f width.0 true)
      (means g width.0 true) DownFrom at.1 width.1;
}

rolled_same : (f g : Names) → HaveSameConstants f g → (y : Expr-F (Held f g) (Kept f g)) → SameMeaning f g
    (roll-Expr (map-Expr (Held f g) (Kept f g) Expr Sel (λ e. e.0) (λ s. s.0) y))
rolled_same f g same y =
    let x : Expr-F Expr Sel = map-Expr (Held f g) (Kept f g) Expr Sel (λ e. e.0) (λ s. s.0) y in
    ap (λ (part : Bool → Judged). part true) (fold-roll-Expr (Bool → Judged) Select (expression_layer f) select_layer x)
    ∙ layer_same f g same y
    ∙ ap (λ (part : Bool → Judged). part true) (sym (fold-roll-Expr (Bool → Judged) Select (expression_layer g) select_layer x))

rolled_select : (f g : Names) (y : Sel-F (Held f g) (Kept f g))
    → SameSelect (select_of f (roll-Sel (map-Sel (Held f g) (Kept f g) Expr Sel (λ e. e.0) (λ s. s.0) y)))
    (select_of g (roll-Sel (map-Sel (Held f g) (Kept f g) Expr Sel (λ e. e.0) (λ s. s.0) y)))
rolled_select f g y =
    let x : Sel-F Expr Sel = map-Sel (Held f g) (Kept f g) Expr Sel (λ e. e.0) (λ s. s.0) y in
    subst (λ (s : Select). SameSelect s (select_of g (roll-Sel x))) (sym (fold-roll-Sel (Bool → Judged) Select (expression_layer f) select_layer x))
    (subst (λ (s : Select). SameSelect (select_here f f g y) s) (sym (fold-roll-Sel (Bool → Judged) Select (expression_layer g) select_layer x))
    (select_same f g y))

pub constants_alone_lem : (f g : Names) → HaveSameConstants f g → (e : Expr) → meaning_of f true e ≡ meaning_of g true e
constants_alone_lem f g same =
    ind-Expr (SameMeaning f g) (λ s. SameSelect (select_of f s) (select_of g s))
    (λ x y is. subst (λ z. SameMeaning f g (roll-Expr z)) is (rolled_same f g same y))
    (λ x y is. subst (λ z. SameSelect (select_of f (roll-Sel z)) (select_of g (roll-Sel z))) is (rolled_select f g y))
