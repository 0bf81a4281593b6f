-- Names and what is selected of them stand for what they mean.
use Rattle.std.proofs.Common.{◌≡◌, ℕ, Bool, true, false, ◌&&◌, List, [], Option, None, Some, Result, Ok, Err, ℤ, pos, negsuc, ◌+ℤ◌, ◌-ℤ◌, not, if◌then◌else◌, refl, sym, ◌∙◌, ap, subst}
use Rattle.std.specs.Prelude.{IfOk, slice_get, slice_index, nat_lt}
use Rattle.std.proofs.lemmas.Bool.{ltb-false}
use Rattle.bit_ops.specs.declared.value.TheConstants.{MAX_WIDTH}
use Rattle.bit_ops.specs.Width.{IsWidth}
use Rattle.sv_base.specs.declared.kind.Kind.TheVariants.{BadRange, TooWide, UnknownName, NotConstant}
use Rattle.sv_base.specs.declared.refusal.Place.{Place}
use Rattle.sv_base.specs.declared.refusal.Refusal.{Refusal}
use Rattle.sv_ast.specs.declared.expression.Id.{Id}
use Rattle.net_ir.specs.declared.design.Var.{Var}
use Rattle.net_ir.specs.declared.term.Term as term
use Rattle.net_ir.specs.declared.term.Term.{Term, Pick}
use Rattle.net_ir.specs.Value.{widths_of, lowest_from, AreWordsOf}
use Rattle.net_ir.specs.Terms.{Has, has_const}
use Rattle.const_eval.specs.declared.env.Bound.{Bound}
use Rattle.const_eval.specs.declared.env.Bound.TheVariants.{Constant, Variable}
use Rattle.const_eval.specs.Meaning.{Meaning, own, number}
use Rattle.const_eval.specs.Selects.{Named, part}
use Rattle.const_eval.specs.WholeNumbers.{whole_number_of}
use Rattle.const_eval.specs.Expressions as expressions
use Rattle.const_eval.specs.Expressions.{Positions, refused_at, unnamed_at, or_refused, as_width, not_too_wide, ◌>>=◌}
use Rattle.const_eval.specs.Alike.{Alike}
use Rattle.width_rules.specs.declared.taking.Taking.{Taking}
use Rattle.width_rules.specs.declared.taking.Taking.TheVariants.{At, DownTo, UpFrom, DownFrom}
use Rattle.width_rules.specs.Scope.{variable_named, named_in, named_where, names_by, AreThere, IsAmong}
use Rattle.width_rules.specs.Waiting.{own_term}
use Rattle.width_rules.specs.Operations.{alone}
use Rattle.width_rules.specs.Selecting as spec
use Rattle.width_rules.specs.Selecting.{Lookup, shape_of, name_term, picked, taken_width, bound_by}
use Rattle.width_rules.specs.code.Standing.{Stands, ArePositions}
use Rattle.width_rules.proofs.Standings.{ValuesFit, WordsOfSigned, alone_stands, own_has}
use Rattle.width_rules.proofs.Names.{variable_has, bound_wide, pick_stands}
use Rattle.width_rules.proofs.Takes.{found_number, found_has}

-- ---- shapes

-- the size, sign and range of a name are the same whatever words variables have
record SameShape (a b : Named) : Type 0 where
  size : a.size ≡ b.size
  signed : a.signed ≡ b.signed
  ranged : a.ranged ≡ b.ranged
  low : a.low ≡ b.low

same_variable : (o : Option Var) (x y : ℕ) → SameShape (variable_named o x) (variable_named o y)
same_variable None x y = record { size = refl; signed = refl; ranged = refl; low = refl }
same_variable (Some v) x y = record { size = refl; signed = refl; ranged = refl; low = refl }

same_shape : (vars : List Var) (u : List ℕ) (bound : Bound) → SameShape (shape_of vars bound) (named_in vars u bound)
same_shape vars u (Constant value low) = record { size = refl; signed = refl; ranged = refl; low = refl }
same_shape vars u (Variable x) = same_variable (slice_get vars x) (slice_index [] x) (slice_index u x)

-- ---- widths

-- what is taken as a width is one that a value may have
within_test : (below : Refusal) (place : Place) (n : ℕ) (a b : Bool) → nat_lt n 1 ≡ a → nat_lt MAX_WIDTH n ≡ b →
    IfOk (if a then Err below else if b then Err (unnamed_at TooWide place) else Ok n) IsWidth
within_test below place n true b is most = tt
within_test below place n false true is most = tt
within_test below place n false false is most = (ltb-false n 1 is, ltb-false MAX_WIDTH n most)

pub width_wide : (below : Refusal) (place : Place) (z : ℤ) → IfOk (as_width below place z) IsWidth
width_wide below place (pos n) = within_test below place n (nat_lt n 1) (nat_lt MAX_WIDTH n) refl refl
width_wide below place (negsuc n) = tt

taken_wide : (z : ℤ) (n : Named) (name : Id) → IfOk (taken_width z n name) IsWidth
taken_wide z n name = by_range n.ranged where
  by_range : (b : Bool) → IfOk (if b then as_width (refused_at BadRange name) name.place z else Err (refused_at BadRange name)) IsWidth
  by_range true = width_wide (refused_at BadRange name) name.place z
  by_range false = tt

-- what is taken is a width, and the bits behind it
taken_opened : (z : ℤ) (position : ℕ → ℤ) (n : Named) (name : Id) → expressions.taken z position n name ≡ (taken_width z n name >>= λ w. Ok (part n (position w) w))
taken_opened z position n name = by_range n.ranged where
  by_range : (b : Bool) →
      (if b then (as_width (refused_at BadRange name) name.place z >>= λ w. Ok (part n (position w) w)) else Err (refused_at BadRange name))
      ≡ ((if b then as_width (refused_at BadRange name) name.place z else Err (refused_at BadRange name)) >>= λ w. Ok (part n (position w) w))
  by_range true = refl
  by_range false = refl

-- one part on both sides, of which something is known
alike_where : {A C D : Type 0} (P : A → Type 0) (S : C → D → Type 0) (j : Result A Refusal) (f : A → C) (g : A → D) → IfOk j P → ((a : A) → P a → S (f a) (g a)) →
    Alike S (j >>= λ a. Ok (f a)) (j >>= λ a. Ok (g a))
alike_where P S (Ok a) f g h k = k a h
alike_where P S (Err refusal) f g h k = refl

module _ (law : ValuesFit) (word : WordsOfSigned) (lookup : Lookup) (vars : List Var) (lawful : AreThere lookup vars) (u : List ℕ) (words : AreWordsOf (widths_of vars) u) where
  abbrev ws : List ℕ
  ws = widths_of vars

  -- ---- names

  -- what a name stands for is there, and means this
  abbrev pub IsNamed : Bound → Named → Type 0
  IsNamed bound named = IsAmong vars bound × (named ≡ named_in vars u bound)

  found_there : (name : List ℕ) (bound : Bound) → lookup name ≡ Some bound → IsAmong vars bound
  found_there name (Constant value low) is = tt
  found_there name (Variable x) is = lawful.there name x is

  pub named_alike : (name : Id) → Alike IsNamed (bound_by lookup name) (expressions.named_by (names_by lookup vars u) false name)
  named_alike name = by_bound (lookup name.name) refl where
    by_bound : (o : Option Bound) → lookup name.name ≡ o →
        Alike IsNamed (or_refused (refused_at UnknownName name) o) (or_refused (refused_at UnknownName name) (named_where vars u o) >>= λ named.
        if false && not named.constant then Err (refused_at NotConstant name) else Ok named)
    by_bound None is = refl
    by_bound (Some bound) is = (found_there name.name bound is, refl)

  name_has : (name : Id) (bound : Bound) → IsAmong vars bound → Has ws u (name_term name bound) (named_in vars u bound).size (named_in vars u bound).word
  name_has name (Constant value low) there = has_const ws u value.value
  name_has name (Variable x) there = variable_has vars u x name.place there

  whole_named : (name : Id) (bound : Bound) → IsAmong vars bound → Stands ws u (spec.whole vars name bound) (expressions.whole (named_in vars u bound))
  whole_named name bound there =
      let shape = same_shape vars u bound in
      subst (λ n. Stands ws u (alone n (shape_of vars bound).signed (name_term name bound)) (expressions.whole (named_in vars u bound))) (sym shape.size)
      (subst (λ s. Stands ws u (alone (named_in vars u bound).size s (name_term name bound)) (expressions.whole (named_in vars u bound))) (sym shape.signed)
      (alone_stands law word ws u (named_in vars u bound).size (name_term name bound) (named_in vars u bound).signed (named_in vars u bound).word words
      (bound_wide vars u bound lawful.widths there) (name_has name bound there)))

  pub whole_stands : (name : Id) (bound : Bound) (named : Named) → IsNamed bound named → Stands ws u (spec.whole vars name bound) (expressions.whole named)
  whole_stands name bound named h = subst (λ n. Stands ws u (spec.whole vars name bound) (expressions.whole n)) (sym h.1) (whole_named name bound h.0)

  -- ---- selects

  picked_stands : (name : Id) (bound : Bound) (at : Term) (signed down : Bool) (w : ℕ) (p : Meaning) → IsAmong vars bound → IsWidth w → Has ws u at p.size (own p) → signed ≡ p.signed →
      Stands ws u (picked vars name bound at signed down w) (part (named_in vars u bound) (lowest_from down w (number p)) w)
  picked_stands name bound at signed down w p there wide has sign =
      pick_stands ws u (picked vars name bound at signed down w) (named_in vars u bound) p down w (name_term name bound) (shape_of vars bound).low at signed sign
      (same_shape vars u bound).low wide (name_has name bound there) has
      (λ x picks. alone_stands law word ws u w _ false x words wide picks)

  taken_alike : (z y : ℤ) (name : Id) (bound : Bound) (named : Named) (at : Term) (signed down : Bool) (p : Meaning) → z ≡ y → IsNamed bound named → Has ws u at p.size (own p) →
      signed ≡ p.signed → Alike (Stands ws u) (spec.taken z vars name bound at signed down) (expressions.taken y (λ w. lowest_from down w (number p)) named name)
  taken_alike z y name bound named at signed down p same h has sign =
      rw (h.1, taken_opened y (λ w. lowest_from down w (number p)) (named_in vars u bound) name)
      (subst (λ k. Alike (Stands ws u) (spec.taken z vars name bound at signed down) (taken_width k (named_in vars u bound) name >>= λ w. Ok (part (named_in vars u bound) (lowest_from down w (number p)) w))) same
      (subst (λ b. Alike (Stands ws u) (spec.taken z vars name bound at signed down)
      ((if b then as_width (refused_at BadRange name) name.place z else Err (refused_at BadRange name)) >>= λ w. Ok (part (named_in vars u bound) (lowest_from down w (number p)) w)))
      (same_shape vars u bound).ranged
      (alike_where IsWidth (Stands ws u) (taken_width z (shape_of vars bound) name) (λ w. picked vars name bound at signed down w)
      (λ w. part (named_in vars u bound) (lowest_from down w (number p)) w) (taken_wide z (shape_of vars bound) name)
      (λ w wide. picked_stands name bound at signed down w p h.0 wide has sign))))

  pub take_alike : (name : Id) (bound : Bound) (named : Named) (t : Taking) (positions : Positions) → IsNamed bound named → ArePositions ws u t positions →
      Alike (Stands ws u) (spec.take vars name bound t) (expressions.take positions named name)
  take_alike name bound named (At a) (expressions.At p) h at = taken_alike (pos 1) (pos 1) name bound named (own_term a) a.signed false p refl h (own_has ws u a p at) at.signed
  take_alike name bound named (DownTo a b) (expressions.DownTo high low) h at =
      taken_alike (whole_number_of a -ℤ whole_number_of b +ℤ pos 1) (number high -ℤ number low +ℤ pos 1) name bound named (term.Const b.value) b.signed false low
      (ap (λ n. n -ℤ whole_number_of b +ℤ pos 1) (found_number a high at.0) ∙ ap (λ n. number high -ℤ n +ℤ pos 1) (found_number b low at.1)) h (found_has ws u b low at.1) at.1.1
  take_alike name bound named (UpFrom a b) (expressions.UpFrom p width) h at =
      taken_alike (whole_number_of b) (number width) name bound named (own_term a) a.signed false p (found_number b width at.1) h (own_has ws u a p at.0) at.0.signed
  take_alike name bound named (DownFrom a b) (expressions.DownFrom p width) h at =
      taken_alike (whole_number_of b) (number width) name bound named (own_term a) a.signed true p (found_number b width at.1) h (own_has ws u a p at.0) at.0.signed
  take_alike name bound named (At a) (expressions.DownTo high low) h at = absurd at
  take_alike name bound named (At a) (expressions.UpFrom p width) h at = absurd at
  take_alike name bound named (At a) (expressions.DownFrom p width) h at = absurd at
  take_alike name bound named (DownTo a b) (expressions.At p) h at = absurd at
  take_alike name bound named (DownTo a b) (expressions.UpFrom p width) h at = absurd at
  take_alike name bound named (DownTo a b) (expressions.DownFrom p width) h at = absurd at
  take_alike name bound named (UpFrom a b) (expressions.At p) h at = absurd at
  take_alike name bound named (UpFrom a b) (expressions.DownTo high low) h at = absurd at
  take_alike name bound named (UpFrom a b) (expressions.DownFrom p width) h at = absurd at
  take_alike name bound named (DownFrom a b) (expressions.At p) h at = absurd at
  take_alike name bound named (DownFrom a b) (expressions.DownTo high low) h at = absurd at
  take_alike name bound named (DownFrom a b) (expressions.UpFrom p width) h at = absurd at
