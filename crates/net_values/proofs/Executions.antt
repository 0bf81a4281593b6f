-- What a statement of a clocked process leaves, part by part, and the arm that it takes.
use Rattle.std.proofs.Common.{◌≡◌, ℕ, zero, suc, ◌<◌, ◌+◌, Bool, true, false, List, [], ◌∷◌, length, drop, get_or, sym, ◌∙◌, ap, arith, Option, None, Some}
use Rattle.std.specs.Prelude.{cond, slice_get, if◌then◌else◌}
use Rattle.std.specs.List.{flat_map, position_from}
use Rattle.net_ir.specs.declared.term.Term.{Term}
use Rattle.net_ir.specs.declared.design.Var.{Var}
use Rattle.net_ir.specs.declared.statement.Arm.{Arm}
use Rattle.net_ir.specs.declared.statement.Stmt.{Stmt, If, Case}
use Rattle.net_ir.specs.Value.{val, widths_of}
use Rattle.net_ir.specs.Target.{Write, overlaid, is_empty}
use Rattle.net_ir.specs.Statement.{clocked_writes, has_label}
use Rattle.net_values.specs.code.Arms.{labelled_arm, default_arm, or_else, taken_arm}
use Rattle.net_values.proofs.Numbers.{eq_test, ne_test}
use Rattle.net_values.proofs.Overlays.{overlaid-append}
use Rattle.net_values.proofs.Stores.{split_items}
use Rattle.net_values.proofs.Statements.{writes_if, writes_case, else_writes, arm_writes, number_writes}

-- the writes of one element more
pub overlaid_more : {X : Type 0} (f : X → List Write) (xs : List X) (i : ℕ) (x : X) (u v : List ℕ) → i < length xs → x ≡ get_or xs i x → v ≡ overlaid u (f x) →
    overlaid v (flat_map f (drop (i + 1) xs)) ≡ overlaid u (flat_map f (drop i xs))
overlaid_more f xs i x u v within is step =
    ap (λ w. overlaid w (flat_map f (drop (i + 1) xs))) step
    ∙ sym (overlaid-append u (f x) (flat_map f (drop (i + 1) xs)))
    ∙ sym (ap (λ ys. overlaid u (flat_map f ys)) (split_items xs i x within is))

-- ---- the number of the arm that is taken is one of the arms'

first_within : {X : Type 0} (test : X → Bool) (i n : ℕ) (xs : List X) → position_from test i xs ≡ Some n → n < i + length xs
first_within test i n [] is = absurd (let clash : None ≡ Some n = is in cc)
first_within test i n (x ∷ xs) is = by_test (test x) is (first_within test (i + 1) n xs) where
  by_test : (t : Bool) → cond t (Some i) (position_from test (i + 1) xs) ≡ Some n → (position_from test (i + 1) xs ≡ Some n → n < i + 1 + length xs) → n < i + suc (length xs)
  by_test true is rest = let same : i ≡ n = let found : Some i ≡ Some n = is in cc in omega arith
  by_test false is rest = let below : n < i + 1 + length xs = rest is in omega arith

pub taken_within : (ws u : List ℕ) (word n : ℕ) (arms : List Arm) → taken_arm ws u word arms ≡ Some n → n < length arms
taken_within ws u word n arms is = by_number (labelled_arm ws u word arms) is (first_within (λ (arm : Arm). has_label ws u word arm.labels) 0 n arms) where
  by_number : (found : Option ℕ) → or_else found (default_arm arms) ≡ Some n → (found ≡ Some n → n < 0 + length arms) → n < length arms
  by_number None is rest = let below : n < 0 + length arms = first_within (λ (arm : Arm). is_empty arm.labels) 0 n arms is in omega arith
  by_number (Some number) is rest = let below : n < 0 + length arms = rest is in omega arith

-- ---- what is written, where one part is executed

module _ (vars : List Var) (u : List ℕ) where
  pub if_first : (test : Term) (first : Stmt) (second : Option Stmt) → (val (widths_of vars) u test ≡ 0 → ⊥) → clocked_writes vars u (If test first second) ≡ clocked_writes vars u first
  if_first test first second other =
      writes_if vars u test first second
      ∙ ap (λ (t : Bool). if t then else_writes vars u second else clocked_writes vars u first) (ne_test (val (widths_of vars) u test) 0 other)

  pub if_second : (test : Term) (first : Stmt) (second : Option Stmt) → val (widths_of vars) u test ≡ 0 → clocked_writes vars u (If test first second) ≡ else_writes vars u second
  if_second test first second none =
      writes_if vars u test first second
      ∙ ap (λ (t : Bool). if t then else_writes vars u second else clocked_writes vars u first) (eq_test (val (widths_of vars) u test) 0 none)

  pub case_taken : (value : Term) (arms : List Arm) (taken : Option ℕ) → taken ≡ taken_arm (widths_of vars) u (val (widths_of vars) u value) arms →
      clocked_writes vars u (Case value arms) ≡ number_writes vars u arms taken
  case_taken value arms taken is = writes_case vars u value arms ∙ sym (ap (number_writes vars u arms) is)

  pub arm_taken : (arms : List Arm) (n : ℕ) (arm : Arm) → n < length arms → arm ≡ get_or arms n arm → number_writes vars u arms (Some n) ≡ clocked_writes vars u arm.body
  arm_taken arms n arm within is = ap (arm_writes vars u) (slice_get_at arms n arm within is) where
    slice_get_at : (arms : List Arm) (n : ℕ) (arm : Arm) → n < length arms → arm ≡ get_or arms n arm → slice_get arms n ≡ Some arm
    slice_get_at [] n arm within is = absurd (omega arith)
    slice_get_at (a ∷ arms) zero arm within is = ap Some (sym is)
    slice_get_at (a ∷ arms) (suc n) arm within is = slice_get_at arms n arm (omega arith) is
