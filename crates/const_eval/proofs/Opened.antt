-- Expressions whose parts agree.
use Rattle.std.specs.Prelude.{◌≡◌, ◌≤◌, Bool, true, List, [], ◌∷◌, map, length, Result, Ok, Err}
use Rattle.std.proofs.Common.{refl, sym, subst, ◌∙◌, ap, get_or, arith}
use Rattle.sv_base.specs.declared.refusal.Place.{Place}
use Rattle.sv_ast.specs.declared.expression.Id.{Id}
use Rattle.sv_ast.specs.declared.expression.Sel.{Sel}
use Rattle.sv_ast.specs.declared.expression.Expr.{Expr, Read, Choice, Repeat}
use Rattle.sv_ast.specs.declared.expression.Expr.TheVariants.{outs-Read, outs-Choice, outs-Repeat}
use Rattle.sv_ast.specs.declared.expression.Expr.TheFolds.{map-Expr, fold_out-Expr}
use Rattle.sv_base.specs.declared.fault.Fault.{Fault}
use Rattle.sv_base.specs.declared.fault.Fault.TheVariants.{Refused}
use Rattle.const_eval.specs.declared.joined.Joined.{Joined}
use Rattle.const_eval.specs.declared.measured.Measured.{Measured}
use Rattle.const_eval.specs.declared.name.Constant.{Constant}
use Rattle.const_eval.specs.declared.taking.Taking.{Taking}
use Rattle.const_eval.specs.Constant.{constant_named}
use Rattle.const_eval.specs.Meaning.{Meaning, chosen}
use Rattle.const_eval.specs.Selects.{Named}
use Rattle.const_eval.specs.Expressions as spec
use Rattle.const_eval.specs.Expressions.{Names, Judged, Select, expression_layer, select_layer, meaning_of, meanings_of, select_of}
use Rattle.const_eval.specs.code.Agreeing.{Agrees, Matches, IsNamed, IsJoined, ArePositions}
use Rattle.const_eval.proofs.Judging.{agrees_behind, refused_first}
use Rattle.const_eval.proofs.Means.{means}

-- an expression is what its layer makes of its parts
choice_opened : (names : Names) (sign : Id) (test first second : Expr) → means names (Choice sign test first second) true ≡ spec.choice (means names test) (means names first) (means names second) true
choice_opened names sign test first second =
    ap (λ (f : Bool → Judged). f true) (fold_out-Expr (Bool → Judged) Select (expression_layer names) select_layer (Choice sign test first second))
    ∙ ap (λ x. expression_layer names (map-Expr Expr Sel (Bool → Judged) Select (means names) (select_of names) x) true) (outs-Choice sign test first second)

repeat_opened : (names : Names) (place : Place) (count : Expr) (parts : List Expr) → means names (Repeat place count parts) true ≡ spec.replication place (means names count) (map (means names) parts) true
repeat_opened names place count parts =
    ap (λ (f : Bool → Judged). f true) (fold_out-Expr (Bool → Judged) Select (expression_layer names) select_layer (Repeat place count parts))
    ∙ ap (λ x. expression_layer names (map-Expr Expr Sel (Bool → Judged) Select (means names) (select_of names) x) true) (outs-Repeat place count parts)

read_opened : (names : Names) (name : Id) (selects : List Sel) → means names (Read name selects) true ≡ spec.read names name (map (select_of names) selects) true
read_opened names name selects =
    ap (λ (f : Bool → Judged). f true) (fold_out-Expr (Bool → Judged) Select (expression_layer names) select_layer (Read name selects))
    ∙ ap (λ x. expression_layer names (map-Expr Expr Sel (Bool → Judged) Select (means names) (select_of names) x) true) (outs-Read name selects)

-- a name that means a constant
pub read_agrees : (names : Names) (name : Id) (selects : List Sel) (k : Constant) (r : Result Measured Fault) → Agrees IsNamed (Ok k) (spec.named_by names true name)
    → Agrees Matches r (spec.selected (map (select_of names) selects) true (constant_named k.value k.low) name) → Agrees Matches r (meaning_of names true (Read name selects))
read_agrees names name selects k r h g =
    rw (read_opened names name selects)
    (agrees_behind IsNamed Matches k (spec.named_by names true name) _ r h (λ named is. subst (λ (n : Named). Agrees Matches r (spec.selected (map (select_of names) selects) true n name)) (sym is) g))

-- a choice all of whose parts agree
pub choice_agrees : (names : Names) (sign : Id) (test first second : Expr) (c a b : Measured) (r : Measured)
    → Agrees Matches (Ok c) (meaning_of names true test) → Agrees Matches (Ok a) (meaning_of names true first) → Agrees Matches (Ok b) (meaning_of names true second)
    → ((mc ma mb : Meaning) → Matches c mc → Matches a ma → Matches b mb → Matches r (chosen mc ma mb))
    → Agrees Matches (Ok r) (meaning_of names true (Choice sign test first second))
choice_agrees names sign test first second c a b r h1 h2 h3 all =
    rw (choice_opened names sign test first second)
    (agrees_behind Matches Matches c (meaning_of names true test) _ (Ok r) h1 (λ mc p.
    agrees_behind Matches Matches a (meaning_of names true first) _ (Ok r) h2 (λ ma q.
    agrees_behind Matches Matches b (meaning_of names true second) _ (Ok r) h3 (λ mb s. all mc ma mb p q s))))

-- a choice whose last part is refused
pub choice_refused : (names : Names) (sign : Id) (test first second : Expr) (c a : Measured) (fault : Fault)
    → Agrees Matches (Ok c) (meaning_of names true test) → Agrees Matches (Ok a) (meaning_of names true first) → Agrees Matches (Err fault) (meaning_of names true second)
    → Agrees Matches (Err fault) (meaning_of names true (Choice sign test first second))
choice_refused names sign test first second c a fault h1 h2 h3 =
    rw (choice_opened names sign test first second)
    (agrees_behind Matches Matches c (meaning_of names true test) _ (Err fault) h1 (λ mc p.
    agrees_behind Matches Matches a (meaning_of names true first) _ (Err fault) h2 (λ ma q.
    refused_first Matches Matches fault (meaning_of names true second) _ h3)))

-- a replication whose parts agree
pub repeat_agrees : (names : Names) (place : Place) (count : Expr) (parts : List Expr) (n : Measured) (j : Joined) (r : Result Measured Fault)
    → Agrees Matches (Ok n) (meaning_of names true count) → Agrees IsJoined (Ok j) (meanings_of names true parts)
    → ((m : Meaning) (ms : List Meaning) → Matches n m → IsJoined j ms → Agrees Matches r (spec.repeated place m ms))
    → Agrees Matches r (meaning_of names true (Repeat place count parts))
repeat_agrees names place count parts n j r h1 h2 all =
    rw (repeat_opened names place count parts)
    (agrees_behind Matches Matches n (meaning_of names true count) _ r h1 (λ m p.
    agrees_behind IsJoined Matches j (meanings_of names true parts) _ r h2 (λ ms q. all m ms p q)))

-- ---- selects

-- a select that agrees
pub select_agrees : (s : Select) (named : Named) (name : Id) (t : Taking) (r : Result Measured Fault) → Agrees ArePositions (Ok t) (s.positions true)
    → ((p : spec.Positions) → ArePositions t p → Agrees Matches r (spec.take p named name)) → Agrees Matches r (spec.selected_by s true named name)
select_agrees s named name t r h all = agrees_behind ArePositions Matches t (s.positions true) _ r h all

-- two selects of a name
pub two_selects : (f : Sel → Select) (xs : List Sel) (a b : Sel) (named : Named) (name : Id) → 2 ≤ length xs → a ≡ get_or xs 0 a → b ≡ get_or xs 1 b
    → spec.selected (map f xs) true named name ≡ spec.twice_selected (f a) (f b) true
two_selects f [] a b named name long p q = absurd (omega (arith, long))
two_selects f (x ∷ []) a b named name long p q = absurd (omega (arith, long))
two_selects f (x ∷ y ∷ more) a b named name long p q = rw (p, q) refl

pub twice_refused : (s t : Select) (x : Taking) (fault : Fault) → Agrees ArePositions (Ok x) (s.positions true) → Agrees ArePositions (Err fault) (t.positions true)
    → Agrees Matches (Err fault) (spec.twice_selected s t true)
twice_refused s t x fault h1 h2 =
    agrees_behind ArePositions Matches x (s.positions true) _ (Err fault) h1 (λ p a. refused_first ArePositions Matches fault (t.positions true) _ h2)

pub twice_told : (s t : Select) (x y : Taking) (fault : Fault) → Agrees ArePositions (Ok x) (s.positions true) → Agrees ArePositions (Ok y) (t.positions true)
    → fault ≡ Refused (spec.second_select t.place) → Agrees Matches (Err fault) (spec.twice_selected s t true)
twice_told s t x y fault h1 h2 told =
    agrees_behind ArePositions Matches x (s.positions true) _ (Err fault) h1 (λ p a.
    agrees_behind ArePositions Matches y (t.positions true) _ (Err fault) h2 (λ q b. rw told refl))
