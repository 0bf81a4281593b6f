-- Sizes, signs and refusals of expressions do not depend on the words of nets and variables.
use Rattle.std.specs.Prelude.{◌≡◌, ℕ, ◌+◌, ◌*◌, Bool, true, false, ◌&&◌, max, List, [], ◌∷◌, map, ℤ, pos, ◌+ℤ◌, ◌-ℤ◌, int_lt, unsigned_abs, Option, None, Some, Result, Ok, Err, if◌then◌else◌}
use Rattle.std.proofs.Common.{refl, sym, subst, ap, ◌∙◌}
use Rattle.sv_base.specs.declared.kind.Kind.TheVariants as kind
use Rattle.sv_base.specs.declared.refusal.Place.{Place}
use Rattle.sv_base.specs.declared.refusal.Refusal.{Refusal}
use Rattle.sv_base.specs.declared.operator.Unary.{Unary}
use Rattle.sv_base.specs.declared.operator.Unary.TheVariants as unary
use Rattle.sv_base.specs.declared.operator.Binary.{Binary}
use Rattle.sv_base.specs.declared.operator.Binary.TheVariants as binary
use Rattle.sv_base.specs.declared.operator.Function.{Function}
use Rattle.sv_base.specs.declared.operator.Function.TheVariants as function
use Rattle.sv_base.specs.Operators.{unary_of, binary_of, function_of}
use Rattle.sv_ast.specs.declared.expression.Id.{Id}
use Rattle.sv_ast.specs.declared.expression.Sel.{Sel}
use Rattle.sv_ast.specs.declared.expression.Expr.{Expr}
use Rattle.sv_ast.specs.declared.expression.Expr.TheOpen as expr
use Rattle.sv_ast.specs.declared.expression.Expr.TheOpen.{Expr-F, Sel-F}
use Rattle.sv_ast.specs.declared.expression.Expr.TheViews.{roll-Expr, roll-Sel}
use Rattle.sv_ast.specs.declared.expression.Expr.TheFolds.{map-Expr, map-Sel, fold-roll-Expr, fold-roll-Sel, ind-Expr}
use Rattle.const_eval.specs.Meaning.{Meaning, number, alone, chosen}
use Rattle.const_eval.specs.Operators.{unary_by, binary_by}
use Rattle.const_eval.specs.Selects.{Named, part, total, joined, copies}
use Rattle.const_eval.specs.Alike.{Alike, BothNamed, IsSameConstant, IsSameButForWord, HaveSameConstants, DifferInWords, HaveSameShape}
use Rattle.const_eval.specs.Expressions as spec
use Rattle.const_eval.specs.Expressions.{◌>>=◌, Names, Judged, Positions, At, DownTo, UpFrom, DownFrom, Select, expression_layer, select_layer, select_of, meaning_of, refused_at, unnamed_at, or_refused, as_width, fitting}
use Rattle.const_eval.proofs.Judged.{alike_behind, alike_after}
use Rattle.const_eval.proofs.Means.{means}
use Rattle.const_eval.proofs.Constants.{constants_alone_lem}

-- ---- what is alike

-- positions that take as many bits: a position may be another, a width or a bound of a part may not
abbrev TakeAlike : Positions → Positions → Type 0
TakeAlike (At p) (At q) = Unit {0}
TakeAlike (DownTo high low) (DownTo m l) = (high ≡ m) × (low ≡ l)
TakeAlike (UpFrom p width) (UpFrom q w) = width ≡ w
TakeAlike (DownFrom p width) (DownFrom q w) = width ≡ w
TakeAlike _ _ = ⊥

-- selects in one place, whose positions take as many bits
record SelectAlike (a b : Select) : Type 0 where
  place : a.place ≡ b.place
  positions : Alike TakeAlike (a.positions false) (b.positions false)

-- meanings of one shape each
abbrev AllAlike : List Meaning → List Meaning → Type 0
AllAlike [] [] = Unit {0}
AllAlike (m ∷ ms) (n ∷ ns) = HaveSameShape m n × AllAlike ms ns
AllAlike _ _ = ⊥

-- an expression has one shape or one refusal
abbrev SameShape : Names → Names → Expr → Type 0
SameShape f g e = Alike HaveSameShape (means f e false) (means g e false)

-- an expression and a select with that fact
abbrev Held : Names → Names → Type 0
Held f g = (e : Expr) × SameShape f g e

abbrev Kept : Names → Names → Type 0
Kept f g = (s : Sel) × SelectAlike (select_of f s) (select_of g s)

-- ---- names that differ in words have the same constants

same_constants_by : (a b : Option Named) → BothNamed IsSameButForWord a b → BothNamed IsSameConstant a b
same_constants_by None None h = tt
same_constants_by None (Some b) h = absurd h
same_constants_by (Some a) None h = absurd h
same_constants_by (Some a) (Some b) h = record { constant = h.constant; whole = h.whole }

same_constants : (f g : Names) → DifferInWords f g → HaveSameConstants f g
same_constants f g differ name = same_constants_by (f name) (g name) (differ name)

-- a meaning has the shape of itself
itself : (j : Judged) → Alike HaveSameShape j j
itself (Ok m) = (refl, refl)
itself (Err refusal) = refl

equal_alike : (i j : Judged) → i ≡ j → Alike HaveSameShape i j
equal_alike i j e = subst (λ (k : Judged). Alike HaveSameShape i k) e (itself i)

-- the same test
same_test : {A B : Type 0} (R : Result A Refusal → Result B Refusal → Type 0) (b c : Bool) (x y : Result A Refusal) (z w : Result B Refusal) → b ≡ c
    → R x z → R y w → R (if b then x else y) (if c then z else w)
same_test R true c x y z w e h k = rw (sym e) h
same_test R false c x y z w e h k = rw (sym e) k

-- ---- names and selects

named_here : (name : Id) (a b : Option Named) → BothNamed IsSameButForWord a b
    → Alike IsSameButForWord (or_refused (refused_at kind.UnknownName name) a) (or_refused (refused_at kind.UnknownName name) b)
named_here name None None h = refl
named_here name None (Some b) h = absurd h
named_here name (Some a) None h = absurd h
named_here name (Some a) (Some b) h = h

named_alike : (f g : Names) → DifferInWords f g → (name : Id) → Alike IsSameButForWord (spec.named_by f false name) (spec.named_by g false name)
named_alike f g differ name =
    alike_behind IsSameButForWord IsSameButForWord (or_refused (refused_at kind.UnknownName name) (f name.name))
    (or_refused (refused_at kind.UnknownName name) (g name.name)) (λ named. Ok named) (λ named. Ok named)
    (named_here name (f name.name) (g name.name) (differ name.name)) (λ a b h. h)

-- so many bits of either
bits_alike : (width : ℤ) (i j : ℕ → ℤ) (a b : Named) (name : Id) → IsSameButForWord a b → Alike HaveSameShape (spec.taken width i a name)
    (spec.taken width j b name)
bits_alike width i j a b name h =
    same_test (Alike HaveSameShape) a.ranged b.ranged _ _ _ _ h.ranged
    (alike_after HaveSameShape (as_width (refused_at kind.BadRange name) name.place width) (λ w. Ok (part a (i w) w)) (λ w. Ok (part b (j w) w))
    (λ w. (refl, refl)))
    refl

taken_alike : (width other : ℤ) (i j : ℕ → ℤ) (a b : Named) (name : Id) → width ≡ other → IsSameButForWord a b → Alike HaveSameShape
    (spec.taken width i a name) (spec.taken other j b name)
taken_alike width other i j a b name e h = subst (λ (z : ℤ). Alike HaveSameShape (spec.taken width i a name) (spec.taken z j b name)) e
    (bits_alike width i j a b name h)

take_alike : (p q : Positions) (a b : Named) (name : Id) → TakeAlike p q → IsSameButForWord a b → Alike HaveSameShape (spec.take p a name) (spec.take q b name)
take_alike (At p) (At q) a b name t h = taken_alike (pos 1) (pos 1) (λ w. number p) (λ w. number q) a b name refl h
take_alike (DownTo high low) (DownTo m l) a b name t h =
    taken_alike (number high -ℤ number low +ℤ pos 1) (number m -ℤ number l +ℤ pos 1) (λ w. number low) (λ w. number l) a b name
    (ap (λ x. number x -ℤ number low +ℤ pos 1) t.0 ∙ ap (λ x. number m -ℤ number x +ℤ pos 1) t.1) h
take_alike (UpFrom p width) (UpFrom q w) a b name t h = taken_alike (number width) (number w) (λ k. number p) (λ k. number q) a b name (ap number t) h
take_alike (DownFrom p width) (DownFrom q w) a b name t h =
    taken_alike (number width) (number w) (λ k. number p -ℤ pos k +ℤ pos 1) (λ k. number q -ℤ pos k +ℤ pos 1) a b name (ap number t) h
take_alike (At p) (DownTo m l) a b name t h = absurd t
take_alike (At p) (UpFrom q w) a b name t h = absurd t
take_alike (At p) (DownFrom q w) a b name t h = absurd t
take_alike (DownTo high low) (At q) a b name t h = absurd t
take_alike (DownTo high low) (UpFrom q w) a b name t h = absurd t
take_alike (DownTo high low) (DownFrom q w) a b name t h = absurd t
take_alike (UpFrom p width) (At q) a b name t h = absurd t
take_alike (UpFrom p width) (DownTo m l) a b name t h = absurd t
take_alike (UpFrom p width) (DownFrom q w) a b name t h = absurd t
take_alike (DownFrom p width) (At q) a b name t h = absurd t
take_alike (DownFrom p width) (DownTo m l) a b name t h = absurd t
take_alike (DownFrom p width) (UpFrom q w) a b name t h = absurd t

selected_alike : (f g : Names) (held : List (Kept f g)) (a b : Named) (name : Id) → IsSameButForWord a b
    → Alike HaveSameShape (spec.selected (map (select_of f) (map (λ s. s.0) held)) false a name)
    (spec.selected (map (select_of g) (map (λ s. s.0) held)) false b name)
selected_alike f g [] a b name h = (h.size, h.signed)
selected_alike f g (s ∷ []) a b name h =
    alike_behind TakeAlike HaveSameShape ((select_of f s.0).positions false) ((select_of g s.0).positions false) (λ p. spec.take p a name)
    (λ p. spec.take p b name)
    s.1.positions (λ p q t. take_alike p q a b name t h)
selected_alike f g (s ∷ t ∷ more) a b name h =
    alike_behind TakeAlike HaveSameShape ((select_of f s.0).positions false) ((select_of g s.0).positions false)
    (λ _. (select_of f t.0).positions false >>= λ _. Err (spec.second_select (select_of f t.0).place))
    (λ _. (select_of g t.0).positions false >>= λ _. Err (spec.second_select (select_of g t.0).place))
    s.1.positions (λ p q k.
    alike_behind TakeAlike HaveSameShape ((select_of f t.0).positions false) ((select_of g t.0).positions false)
    (λ _. Err (spec.second_select (select_of f t.0).place)) (λ _. Err (spec.second_select (select_of g t.0).place))
    t.1.positions (λ p q k. ap (λ place. spec.second_select place) t.1.place))

read_alike : (f g : Names) → DifferInWords f g → (name : Id) (held : List (Kept f g))
    → Alike HaveSameShape (spec.read f name (map (select_of f) (map (λ s. s.0) held)) false) (spec.read g name (map (select_of g) (map (λ s. s.0) held)) false)
read_alike f g differ name held =
    alike_behind IsSameButForWord HaveSameShape (spec.named_by f false name) (spec.named_by g false name)
    (λ named. spec.selected (map (select_of f) (map (λ s. s.0) held)) false named name)
    (λ named. spec.selected (map (select_of g) (map (λ s. s.0) held)) false named name)
    (named_alike f g differ name) (λ a b h. selected_alike f g held a b name h)

-- ---- operators

-- two that meet
meets : (a b c d : Meaning) → HaveSameShape a c → HaveSameShape b d
    → (max a.size b.size ≡ max c.size d.size) × ((a.signed && b.signed) ≡ (c.signed && d.signed))
meets a b c d h k = (ap (λ n. max n b.size) h.0 ∙ ap (λ n. max c.size n) k.0, ap (λ s. s && b.signed) h.1 ∙ ap (λ s. c.signed && s) k.1)

unary_alike : (o : Unary) (a b : Meaning) → HaveSameShape a b → HaveSameShape (unary_by o a) (unary_by o b)
unary_alike unary.Plus a b h = h
unary_alike unary.Minus a b h = h
unary_alike unary.LogicalNot a b h = (refl, refl)
unary_alike unary.Not a b h = h
unary_alike unary.ReduceAnd a b h = (refl, refl)
unary_alike unary.ReduceNand a b h = (refl, refl)
unary_alike unary.ReduceOr a b h = (refl, refl)
unary_alike unary.ReduceNor a b h = (refl, refl)
unary_alike unary.ReduceXor a b h = (refl, refl)
unary_alike unary.ReduceXnor a b h = (refl, refl)

binary_alike : (o : Binary) (a b c d : Meaning) → HaveSameShape a c → HaveSameShape b d → HaveSameShape (binary_by o a b) (binary_by o c d)
binary_alike binary.Power a b c d h k = h
binary_alike binary.Multiply a b c d h k = meets a b c d h k
binary_alike binary.Divide a b c d h k = meets a b c d h k
binary_alike binary.Remainder a b c d h k = meets a b c d h k
binary_alike binary.Add a b c d h k = meets a b c d h k
binary_alike binary.Subtract a b c d h k = meets a b c d h k
binary_alike binary.ShiftLeft a b c d h k = h
binary_alike binary.ShiftRight a b c d h k = h
binary_alike binary.ArithmeticShiftRight a b c d h k = h
binary_alike binary.Less a b c d h k = (refl, refl)
binary_alike binary.AtMost a b c d h k = (refl, refl)
binary_alike binary.Greater a b c d h k = (refl, refl)
binary_alike binary.AtLeast a b c d h k = (refl, refl)
binary_alike binary.Equal a b c d h k = (refl, refl)
binary_alike binary.Unequal a b c d h k = (refl, refl)
binary_alike binary.And a b c d h k = meets a b c d h k
binary_alike binary.Xor a b c d h k = meets a b c d h k
binary_alike binary.Xnor a b c d h k = meets a b c d h k
binary_alike binary.Or a b c d h k = meets a b c d h k
binary_alike binary.LogicalAnd a b c d h k = (refl, refl)
binary_alike binary.LogicalOr a b c d h k = (refl, refl)

unary_on_alike : (sign : Id) (a b : Meaning) → HaveSameShape a b → Alike HaveSameShape (spec.unary_on sign a) (spec.unary_on sign b)
unary_on_alike sign a b h =
    alike_after HaveSameShape (or_refused (refused_at kind.Unexpected sign) (unary_of sign.name)) (λ found. Ok (unary_by found a))
    (λ found. Ok (unary_by found b)) (λ found. unary_alike found a b h)

judged_alike : (o : Binary) (sign : Id) (a b c d : Meaning) → HaveSameShape a c → HaveSameShape b d → Alike HaveSameShape
    (spec.binary_judged o false sign a b) (spec.binary_judged o false sign c d)
judged_alike binary.Power sign a b c d h k = refl
judged_alike other sign a b c d h k = binary_alike other a b c d h k

binary_on_alike : (sign : Id) (a b c d : Meaning) → HaveSameShape a c → HaveSameShape b d → Alike HaveSameShape (spec.binary_on false sign a b)
    (spec.binary_on false sign c d)
binary_on_alike sign a b c d h k =
    alike_after HaveSameShape (or_refused (refused_at kind.Unexpected sign) (binary_of sign.name)) (λ found. spec.binary_judged found false sign a b)
    (λ found. spec.binary_judged found false sign c d) (λ found. judged_alike found sign a b c d h k)

function_alike : (o : Function) (name : Id) (a b : Meaning) → HaveSameShape a b → Alike HaveSameShape (spec.function_judged o false name a)
    (spec.function_judged o false name b)
function_alike function.Signed name a b h = (h.0, refl)
function_alike function.Unsigned name a b h = (h.0, refl)
function_alike function.Logarithm name a b h = refl

system_on_alike : (name : Id) (a b : Meaning) → HaveSameShape a b → Alike HaveSameShape (spec.system_on false name a) (spec.system_on false name b)
system_on_alike name a b h =
    alike_after HaveSameShape (or_refused (refused_at kind.Unexpected name) (function_of name.name)) (λ found. spec.function_judged found false name a)
    (λ found. spec.function_judged found false name b) (λ found. function_alike found name a b h)

-- ---- parts that are joined

total_alike : (ms ns : List Meaning) → AllAlike ms ns → total ms ≡ total ns
total_alike [] [] h = refl
total_alike [] (n ∷ ns) h = absurd h
total_alike (m ∷ ms) [] h = absurd h
total_alike (m ∷ ms) (n ∷ ns) h = ap (λ k. k + total ms) h.0.0 ∙ ap (λ k. n.size + k) (total_alike ms ns h.1)

-- as many bits of any kind
joined_alike : (place : Place) (w v : ℕ) (x y : ℕ) → w ≡ v → Alike HaveSameShape (fitting place w >>= λ k. Ok (alone k false x))
    (fitting place v >>= λ k. Ok (alone k false y))
joined_alike place w v x y e =
    subst (λ (u : ℕ). Alike HaveSameShape (fitting place w >>= λ k. Ok (alone k false x)) (fitting place u >>= λ k. Ok (alone k false y))) e
    (alike_after HaveSameShape (fitting place w) (λ k. Ok (alone k false x)) (λ k. Ok (alone k false y)) (λ k. (refl, refl)))

repeated_alike : (place : Place) (n : Meaning) (ms ns : List Meaning) → AllAlike ms ns → Alike HaveSameShape (spec.repeated place n ms)
    (spec.repeated place n ns)
repeated_alike place n ms ns h =
    same_test (Alike HaveSameShape) (int_lt (number n) (pos 1)) (int_lt (number n) (pos 1)) _ _ _ _ refl refl
    (joined_alike place (unsigned_abs (number n) * total ms) (unsigned_abs (number n) * total ns) (copies (unsigned_abs (number n)) (total ms) (joined ms))
    (copies (unsigned_abs (number n)) (total ns) (joined ns))
    (ap (λ k. unsigned_abs (number n) * k) (total_alike ms ns h)))

each_alike : (f g : Names) (held : List (Held f g))
    → Alike AllAlike (spec.each (map (means f) (map (λ e. e.0) held)) false) (spec.each (map (means g) (map (λ e. e.0) held)) false)
each_alike f g [] = tt
each_alike f g (e ∷ held) =
    alike_behind HaveSameShape AllAlike (means f e.0 false) (means g e.0 false)
    (λ m. spec.each (map (means f) (map (λ e. e.0) held)) false >>= λ ms. Ok (m ∷ ms))
    (λ m. spec.each (map (means g) (map (λ e. e.0) held)) false >>= λ ms. Ok (m ∷ ms))
    e.1 (λ m n h.
    alike_behind AllAlike AllAlike (spec.each (map (means f) (map (λ e. e.0) held)) false) (spec.each (map (means g) (map (λ e. e.0) held)) false)
    (λ ms. Ok (m ∷ ms)) (λ ns. Ok (n ∷ ns))
    (each_alike f g held) (λ ms ns k. (h, k)))

-- ---- expressions

-- a layer of an expression, with its parts
abbrev here : Names → (f g : Names) → Expr-F (Held f g) (Kept f g) → Judged
here names f g y = expression_layer names (map-Expr Expr Sel (Bool → Judged) Select (means names) (select_of names)
    (map-Expr (Held f g) (Kept f g) Expr Sel (λ e. e.0) (λ s. s.0) y)) false

layer_alike : (f g : Names) → DifferInWords f g → (y : Expr-F (Held f g) (Kept f g)) → Alike HaveSameShape (here f f g y) (here g f g y)
layer_alike f g differ (expr.Number text) = itself (spec.literal text)
layer_alike f g differ (expr.Fill text) = itself (spec.filled text)
layer_alike f g differ (expr.Read name selects) = read_alike f g differ name selects
layer_alike f g differ (expr.Unary sign a) =
    alike_behind HaveSameShape HaveSameShape (means f a.0 false) (means g a.0 false) (spec.unary_on sign) (spec.unary_on sign) a.1
    (λ m n h. unary_on_alike sign m n h)
layer_alike f g differ (expr.Binary sign a b) =
    alike_behind HaveSameShape HaveSameShape (means f a.0 false) (means g a.0 false)
    (λ m. means f b.0 false >>= λ n. spec.binary_on false sign m n) (λ m. means g b.0 false >>= λ n. spec.binary_on false sign m n) a.1 (λ m k h.
    alike_behind HaveSameShape HaveSameShape (means f b.0 false) (means g b.0 false) (λ n. spec.binary_on false sign m n)
    (λ n. spec.binary_on false sign k n) b.1
    (λ n l i. binary_on_alike sign m n k l h i))
layer_alike f g differ (expr.Choice sign c a b) =
    alike_behind HaveSameShape HaveSameShape (means f c.0 false) (means g c.0 false)
    (λ t. means f a.0 false >>= λ m. means f b.0 false >>= λ n. Ok (chosen t m n))
    (λ t. means g a.0 false >>= λ m. means g b.0 false >>= λ n. Ok (chosen t m n)) c.1 (λ t u z.
    alike_behind HaveSameShape HaveSameShape (means f a.0 false) (means g a.0 false) (λ m. means f b.0 false >>= λ n. Ok (chosen t m n))
    (λ m. means g b.0 false >>= λ n. Ok (chosen u m n)) a.1 (λ m k h.
    alike_behind HaveSameShape HaveSameShape (means f b.0 false) (means g b.0 false) (λ n. Ok (chosen t m n)) (λ n. Ok (chosen u k n)) b.1
    (λ n l i. meets m n k l h i)))
layer_alike f g differ (expr.Concat place parts) =
    alike_behind AllAlike HaveSameShape (spec.each (map (means f) (map (λ e. e.0) parts)) false) (spec.each (map (means g) (map (λ e. e.0) parts)) false)
    (spec.concatenation place) (spec.concatenation place)
    (each_alike f g parts) (λ ms ns h. joined_alike place (total ms) (total ns) (joined ms) (joined ns) (total_alike ms ns h))
layer_alike f g differ (expr.Repeat place count parts) =
    subst (λ (j : Judged). Alike HaveSameShape (means f count.0 true >>= λ n. spec.each
    (map (means f) (map (λ e. e.0) parts)) false >>= λ ms. spec.repeated place n ms)
    (j >>= λ n. spec.each (map (means g) (map (λ e. e.0) parts)) false >>= λ ms. spec.repeated place n ms))
    (constants_alone_lem f g (same_constants f g differ) count.0)
    (alike_after HaveSameShape (means f count.0 true) (λ n. spec.each (map (means f) (map (λ e. e.0) parts)) false >>= λ ms. spec.repeated place n ms)
    (λ n. spec.each (map (means g) (map (λ e. e.0) parts)) false >>= λ ms. spec.repeated place n ms) (λ n.
    alike_behind AllAlike HaveSameShape (spec.each (map (means f) (map (λ e. e.0) parts)) false) (spec.each (map (means g) (map (λ e. e.0) parts)) false)
    (spec.repeated place n) (spec.repeated place n)
    (each_alike f g parts) (λ ms ns h. repeated_alike place n ms ns h)))
layer_alike f g differ (expr.System name a) =
    alike_behind HaveSameShape HaveSameShape (means f a.0 false) (means g a.0 false) (spec.system_on false name) (spec.system_on false name) a.1
    (λ m n h. system_on_alike name m n h)

-- ---- selects

-- a layer of a select, with its positions
abbrev select_here : Names → (f g : Names) → Sel-F (Held f g) (Kept f g) → Select
select_here names f g y = select_layer (map-Sel Expr Sel (Bool → Judged) Select (means names) (select_of names)
    (map-Sel (Held f g) (Kept f g) Expr Sel (λ e. e.0) (λ s. s.0) y))

-- a position that may be another, and a width
width_alike : (f g : Names) → HaveSameConstants f g → (at width : Expr) (make : Meaning → Meaning → Positions) → SameShape f g at
    → ((p q w : Meaning) → TakeAlike (make p w) (make q w))
    → Alike TakeAlike (means f at false >>= λ p. means f width true >>= λ w. Ok (make p w))
    (means g at false >>= λ p. means g width true >>= λ w. Ok (make p w))
width_alike f g same at width make h takes =
    subst (λ (j : Judged). Alike TakeAlike (means f at false >>= λ p. means f width true >>= λ w. Ok (make p w))
    (means g at false >>= λ p. j >>= λ w. Ok (make p w))) (constants_alone_lem f g same width)
    (alike_behind HaveSameShape TakeAlike (means f at false) (means g at false) (λ p. means f width true >>= λ w. Ok (make p w))
    (λ p. means f width true >>= λ w. Ok (make p w)) h (λ p q k.
    alike_after TakeAlike (means f width true) (λ w. Ok (make p w)) (λ w. Ok (make q w)) (λ w. takes p q w)))

-- both bounds
bounds_alike : (f g : Names) → HaveSameConstants f g → (high low : Expr)
    → Alike TakeAlike (means f high true >>= λ m. means f low true >>= λ l. Ok (DownTo m l))
    (means g high true >>= λ m. means g low true >>= λ l. Ok (DownTo m l))
bounds_alike f g same high low =
    subst (λ (j : Judged). Alike TakeAlike (means f high true >>= λ m. means f low true >>= λ l. Ok (DownTo m l))
    (j >>= λ m. means g low true >>= λ l. Ok (DownTo m l))) (constants_alone_lem f g same high)
    (subst (λ (j : Judged). Alike TakeAlike (means f high true >>= λ m. means f low true >>= λ l. Ok (DownTo m l))
    (means f high true >>= λ m. j >>= λ l. Ok (DownTo m l))) (constants_alone_lem f g same low)
    (alike_after TakeAlike (means f high true) (λ m. means f low true >>= λ l. Ok (DownTo m l)) (λ m. means f low true >>= λ l. Ok (DownTo m l)) (λ m.
    alike_after TakeAlike (means f low true) (λ l. Ok (DownTo m l)) (λ l. Ok (DownTo m l)) (λ l. (refl, refl)))))

select_alike : (f g : Names) → HaveSameConstants f g → (y : Sel-F (Held f g) (Kept f g)) → SelectAlike (select_here f f g y) (select_here g f g y)
select_alike f g same (expr.Bit place at) = record {
  place = refl;
  positions = alike_behind HaveSameShape TakeAlike (means f at.0 false) (means g at.0 false) (λ p. Ok (At p)) (λ p. Ok (At p)) at.1 (λ p q h. tt);
}
select_alike f g same (expr.Part place high low) = record { place = refl; positions = bounds_alike f g same high.0 low.0 }
select_alike f g same (expr.Up place at width) = record { place = refl; positions = width_alike f g same at.0 width.0 UpFrom at.1 (λ p q w. refl) }
select_alike f g same (expr.Down place at width) = record { place = refl; positions = width_alike f g same at.0 width.0 DownFrom at.1 (λ p q w. refl) }

-- ---- the whole

rolled_alike : (f g : Names) → DifferInWords f g → (y : Expr-F (Held f g) (Kept f g)) → SameShape f g
    (roll-Expr (map-Expr (Held f g) (Kept f g) Expr Sel (λ e. e.0) (λ s. s.0) y))
rolled_alike f g differ y =
    let x : Expr-F Expr Sel = map-Expr (Held f g) (Kept f g) Expr Sel (λ e. e.0) (λ s. s.0) y in
    subst (λ (part : Bool → Judged). Alike HaveSameShape (part false) (means g (roll-Expr x) false))
    (sym (fold-roll-Expr (Bool → Judged) Select (expression_layer f) select_layer x))
    (subst (λ (part : Bool → Judged). Alike HaveSameShape (here f f g y) (part false))
    (sym (fold-roll-Expr (Bool → Judged) Select (expression_layer g) select_layer x)) (layer_alike f g differ y))

rolled_select : (f g : Names) → HaveSameConstants f g → (y : Sel-F (Held f g) (Kept f g))
    → SelectAlike (select_of f (roll-Sel (map-Sel (Held f g) (Kept f g) Expr Sel (λ e. e.0) (λ s. s.0) y)))
    (select_of g (roll-Sel (map-Sel (Held f g) (Kept f g) Expr Sel (λ e. e.0) (λ s. s.0) y)))
rolled_select f g same y =
    let x : Sel-F Expr Sel = map-Sel (Held f g) (Kept f g) Expr Sel (λ e. e.0) (λ s. s.0) y in
    subst (λ (s : Select). SelectAlike s (select_of g (roll-Sel x))) (sym (fold-roll-Sel (Bool → Judged) Select (expression_layer f) select_layer x))
    (subst (λ (s : Select). SelectAlike (select_here f f g y) s) (sym (fold-roll-Sel (Bool → Judged) Select (expression_layer g) select_layer x))
    (select_alike f g same y))

all_alike : (f g : Names) → DifferInWords f g → (e : Expr) → SameShape f g e
all_alike f g differ =
    ind-Expr (SameShape f g) (λ s. SelectAlike (select_of f s) (select_of g s))
    (λ x y is. subst (λ z. SameShape f g (roll-Expr z)) is (rolled_alike f g differ y))
    (λ x y is. subst (λ z. SelectAlike (select_of f (roll-Sel z)) (select_of g (roll-Sel z))) is (rolled_select f g (same_constants f g differ) y))

pub words_of_nets_lem : (f g : Names) → DifferInWords f g → (needed : Bool) (e : Expr) → Alike HaveSameShape (meaning_of f needed e) (meaning_of g needed e)
words_of_nets_lem f g differ true e = equal_alike (meaning_of f true e) (meaning_of g true e) (constants_alone_lem f g (same_constants f g differ) e)
words_of_nets_lem f g differ false e = all_alike f g differ e
