-- What is taken of a constant agrees with its select.
use Rattle.std.proofs.Common.{◌≡◌, ℕ, ◌+◌, ◌-◌, ◌≤◌, ℤ, pos, ◌+ℤ◌, ◌-ℤ◌, Result, Ok, Err, subst, arith}
use Rattle.std.proofs.lemmas.Int.{ints}
use Rattle.sv_base.specs.declared.kind.Kind.TheVariants.{BadRange}
use Rattle.sv_base.specs.declared.refusal.Refusal.{Refusal}
use Rattle.sv_ast.specs.declared.expression.Id.{Id}
use Rattle.const_eval.specs.declared.env.Const.{Const}
use Rattle.sv_base.specs.declared.fault.Fault.{Fault}
use Rattle.sv_base.specs.declared.fault.Fault.TheVariants.{Refused, NoMemory}
use Rattle.const_eval.specs.declared.measured.Measured.{Measured}
use Rattle.const_eval.specs.declared.taking.Taking.{Taking}
use Rattle.const_eval.specs.declared.taking.Taking.TheVariants as taking
use Rattle.const_eval.specs.Meaning.{Meaning}
use Rattle.const_eval.specs.Selects.{Named, part}
use Rattle.const_eval.specs.Constant.{constant_named}
use Rattle.const_eval.specs.Expressions.{Positions, At, DownTo, UpFrom, DownFrom, as_width, refused_at, taken, take, ◌>>=◌}
use Rattle.const_eval.specs.code.Agreeing.{Agrees, Matches, ArePositions}

-- no position further down
pub no_further : (z : ℤ) → z -ℤ pos 0 ≡ z
no_further z = omega (arith, ints)

-- so far down that a width ends at the position
pub ends_there : (z : ℤ) (w : ℕ) → 1 ≤ w → z -ℤ pos (w - 1) ≡ z -ℤ pos w +ℤ pos 1
ends_there z w h = omega (arith, ints)

-- the lowest position and so far down together
pub both_down : (z : ℤ) (a b low down : ℕ) → a ≡ low → b ≡ down → z -ℤ pos (a + b) ≡ z -ℤ pos down -ℤ pos low
both_down z a b low down e f = omega (arith, ints)

-- bits of a width that was found
pub taken_holds : (z : ℤ) (position : ℕ → ℤ) (c : Const) (low : ℕ) (name : Id) (w : ℕ) (m : Measured)
    → Agrees {X = ℕ} {Y = ℕ} (λ w n. w ≡ n) (Ok w) (as_width (refused_at BadRange name) name.place z) → Matches m (part (constant_named c low) (position w) w)
    → Agrees Matches (Ok m) (taken z position (constant_named c low) name)
taken_holds z position c low name w m h matches = go (as_width (refused_at BadRange name) name.place z) h
  where
    go : (r : Result ℕ Refusal) → Agrees {X = ℕ} {Y = ℕ} (λ w n. w ≡ n) (Ok w) r → Agrees Matches (Ok m) (r >>= λ w. Ok (part (constant_named c low) (position w) w))
    go (Ok n) e = subst (λ (k : ℕ). Matches m (part (constant_named c low) (position k) k)) e matches
    go (Err refusal) e = absurd e

-- a width that was not found
pub taken_fails : (z : ℤ) (position : ℕ → ℤ) (c : Const) (low : ℕ) (name : Id) (fault : Fault)
    → Agrees {X = ℕ} {Y = ℕ} (λ w n. w ≡ n) (Err fault) (as_width (refused_at BadRange name) name.place z)
    → Agrees Matches (Err fault) (taken z position (constant_named c low) name)
taken_fails z position c low name fault h = go (as_width (refused_at BadRange name) name.place z) fault h
  where
    go : (r : Result ℕ Refusal) (f : Fault) → Agrees {X = ℕ} {Y = ℕ} (λ w n. w ≡ n) (Err f) r → Agrees Matches (Err f) (r >>= λ w. Ok (part (constant_named c low) (position w) w))
    go (Ok n) (Refused told) e = absurd e
    go (Ok n) NoMemory e = e
    go (Err refusal) f e = e

-- a bit at a position
pub of_at : (t : Taking) (a : Measured) → t ≡ taking.At a → (result : Result Measured Fault) (named : Named) (name : Id)
    → ((p : Meaning) → Matches a p → Agrees Matches result (take (At p) named name))
    → (positions : Positions) → ArePositions t positions → Agrees Matches result (take positions named name)
of_at t a e result named name k positions h = go positions (rw e at h)
  where
    go : (p : Positions) → ArePositions (taking.At a) p → Agrees Matches result (take p named name)
    go (At p) r = k p r
    go (DownTo high low) r = absurd r
    go (UpFrom p width) r = absurd r
    go (DownFrom p width) r = absurd r

-- a part from one position down to another
pub of_down_to : (t : Taking) (a b : Measured) → t ≡ taking.DownTo a b → (result : Result Measured Fault) (named : Named) (name : Id)
    → ((high low : Meaning) → Matches a high → Matches b low → Agrees Matches result (take (DownTo high low) named name))
    → (positions : Positions) → ArePositions t positions → Agrees Matches result (take positions named name)
of_down_to t a b e result named name k positions h = go positions (rw e at h)
  where
    go : (p : Positions) → ArePositions (taking.DownTo a b) p → Agrees Matches result (take p named name)
    go (DownTo high low) r = k high low r.0 r.1
    go (At p) r = absurd r
    go (UpFrom p width) r = absurd r
    go (DownFrom p width) r = absurd r

-- a part of a width from a position up
pub of_up_from : (t : Taking) (a b : Measured) → t ≡ taking.UpFrom a b → (result : Result Measured Fault) (named : Named) (name : Id)
    → ((p width : Meaning) → Matches a p → Matches b width → Agrees Matches result (take (UpFrom p width) named name))
    → (positions : Positions) → ArePositions t positions → Agrees Matches result (take positions named name)
of_up_from t a b e result named name k positions h = go positions (rw e at h)
  where
    go : (p : Positions) → ArePositions (taking.UpFrom a b) p → Agrees Matches result (take p named name)
    go (UpFrom p width) r = k p width r.0 r.1
    go (At p) r = absurd r
    go (DownTo high low) r = absurd r
    go (DownFrom p width) r = absurd r

-- a part of a width from a position down
pub of_down_from : (t : Taking) (a b : Measured) → t ≡ taking.DownFrom a b → (result : Result Measured Fault) (named : Named) (name : Id)
    → ((p width : Meaning) → Matches a p → Matches b width → Agrees Matches result (take (DownFrom p width) named name))
    → (positions : Positions) → ArePositions t positions → Agrees Matches result (take positions named name)
of_down_from t a b e result named name k positions h = go positions (rw e at h)
  where
    go : (p : Positions) → ArePositions (taking.DownFrom a b) p → Agrees Matches result (take p named name)
    go (DownFrom p width) r = k p width r.0 r.1
    go (At p) r = absurd r
    go (DownTo high low) r = absurd r
    go (UpFrom p width) r = absurd r
