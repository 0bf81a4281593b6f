-- Ports by their places, and what stands at them.
use Rattle.std.proofs.Common.{◌≡◌, ℕ, zero, suc, ◌<◌, ◌≤◌, ◌+◌, List, [], ◌∷◌, length, Bool, true, false, refl, sym, ◌∙◌, ap, arith, None, Some, inl, inr}
use Rattle.std.specs.Prelude.{slice_index, slice_get, ◌⊎◌, if◌then◌else◌}
use Rattle.sv_base.specs.declared.face.Class.{Class}
use Rattle.sv_base.specs.declared.face.Class.TheVariants as class
use Rattle.sv_base.specs.declared.face.Class.TheVariants.{Idle}
use Rattle.sv_base.specs.declared.face.Port.{Port}
use Rattle.sv_base.specs.Classes.{is_value, is_clock, is_output, words_of_class}
use Rattle.net_ir.specs.declared.design.Role.{Role}
use Rattle.net_ir.specs.declared.design.Role.TheVariants.{Input, Output, Inner}
use Rattle.net_ir.specs.declared.design.Var.{Var}
use Rattle.net_ir.specs.declared.design.Spec.{Spec}
use Rattle.net_ir.specs.Face.{is_inner, class_of, input_class, port_of, ports_from, ports_of, stands_in, clocks_of, all_reads}
use Rattle.net_ir.specs.Facts.{HasPortsFirst}

-- ---- the port that a variable is

ports_at : (spec : Spec) (n : ℕ) (vars : List Var) (x y : ℕ) (w : Var) → n + x ≡ y → slice_get vars x ≡ Some w → x < length (ports_from spec n vars) → slice_get (ports_from spec n vars) x ≡ Some (port_of spec y w)
ports_at spec n [] x y w number at within = absurd (let clash : None ≡ Some w = at in cc)
ports_at spec n (v ∷ vars) x y w number at within = by_test (is_inner v.role) x number at within (λ i. ports_at spec (n + 1) vars i y w) where
  by_test : (t : Bool) (x : ℕ) → n + x ≡ y → slice_get (v ∷ vars) x ≡ Some w → x < length (if t then [] else port_of spec n v ∷ ports_from spec (n + 1) vars) →
      ((i : ℕ) → n + 1 + i ≡ y → slice_get vars i ≡ Some w → i < length (ports_from spec (n + 1) vars) → slice_get (ports_from spec (n + 1) vars) i ≡ Some (port_of spec y w)) →
      slice_get (if t then [] else port_of spec n v ∷ ports_from spec (n + 1) vars) x ≡ Some (port_of spec y w)
  by_test true x number at within rest = absurd (let past : x < 0 = within in omega arith)
  by_test false zero number at within rest =
      let here : n ≡ y = omega arith in
      let found : Some v ≡ Some w = at in
      let same : v ≡ w = cc in
      ap (λ m. Some (port_of spec m v)) here ∙ ap (λ u. Some (port_of spec y u)) same
  by_test false (suc x) number at within rest = rest x (omega arith) at (let below : suc x < suc (length (ports_from spec (n + 1) vars)) = within in omega arith)

pub port_at : (spec : Spec) (x : ℕ) (w : Var) → slice_get spec.vars x ≡ Some w → x < length (ports_of spec) → slice_get (ports_of spec) x ≡ Some (port_of spec x w)
port_at spec x w at within = ports_at spec 0 spec.vars x x w (omega arith) at within

-- the variable that a port is
pub record IsPortOf (spec : Spec) (vars : List Var) (x y : ℕ) (p : Port) : Type 0 where
  pub variable : Var
  pub at : slice_get vars x ≡ Some variable
  pub is : p ≡ port_of spec y variable

ports_are : (spec : Spec) (n : ℕ) (vars : List Var) (x y : ℕ) (p : Port) → n + x ≡ y → slice_get (ports_from spec n vars) x ≡ Some p → IsPortOf spec vars x y p
ports_are spec n [] x y p number at = absurd (let clash : None ≡ Some p = at in cc)
ports_are spec n (v ∷ vars) x y p number at = by_test (is_inner v.role) x number at (λ i. ports_are spec (n + 1) vars i y p) where
  by_test : (t : Bool) (x : ℕ) → n + x ≡ y → slice_get (if t then [] else port_of spec n v ∷ ports_from spec (n + 1) vars) x ≡ Some p →
      ((i : ℕ) → n + 1 + i ≡ y → slice_get (ports_from spec (n + 1) vars) i ≡ Some p → IsPortOf spec vars i y p) → IsPortOf spec (v ∷ vars) x y p
  by_test true x number at rest = absurd (let clash : None ≡ Some p = at in cc)
  by_test false zero number at rest =
      let here : n ≡ y = omega arith in
      let found : Some (port_of spec n v) ≡ Some p = at in
      let same : port_of spec n v ≡ p = cc in
      record { variable = v; at = refl; is = sym same ∙ ap (λ m. port_of spec m v) here }
  by_test false (suc x) number at rest = let is = rest x (omega arith) at in record { variable = is.variable; at = is.at; is = is.is }

pub port_is : (spec : Spec) (x : ℕ) (p : Port) → slice_get (ports_of spec) x ≡ Some p → IsPortOf spec spec.vars x x p
port_is spec x p at = ports_are spec 0 spec.vars x x p (omega arith) at

-- there are no more ports than variables
ports_fewer : (spec : Spec) (n : ℕ) (vars : List Var) → length (ports_from spec n vars) ≤ length vars
ports_fewer spec n [] = omega arith
ports_fewer spec n (v ∷ vars) = by_test (is_inner v.role) (ports_fewer spec (n + 1) vars) where
  by_test : (t : Bool) → length (ports_from spec (n + 1) vars) ≤ length vars → length (if t then [] else port_of spec n v ∷ ports_from spec (n + 1) vars) ≤ suc (length vars)
  by_test true rest = omega arith
  by_test false rest = omega arith

pub ports_among : (spec : Spec) → length (ports_of spec) ≤ length spec.vars
ports_among spec = ports_fewer spec 0 spec.vars

-- ---- classes

pub idle_role : (spec : Spec) (x : ℕ) (r : Role) → class_of spec x r ≡ Idle → r ≡ Input
idle_role spec x Input idle = refl
idle_role spec x Output idle = let clash : class.Output ≡ Idle = idle in cc
idle_role spec x Inner idle = let clash : class.Output ≡ Idle = idle in cc

pub output_not_idle : (c : Class) → is_output c ≡ true → c ≡ Idle → ⊥
output_not_idle c is idle = let clash : false ≡ true = sym (ap is_output idle) ∙ is in cc

input_outer : (r : Role) → r ≡ Input → is_inner r ≡ false
input_outer r is = ap is_inner is

-- an input that is not idle is a clock or a data input
input_classes : (clock read : Bool) → (input_class clock read ≡ Idle → ⊥) → (is_value (input_class clock read) ≡ true) ⊎ (is_clock (input_class clock read) ≡ true)
input_classes true read not_idle = inr refl
input_classes false true not_idle = inl refl
input_classes false false not_idle = absurd (not_idle refl)

value_or_clock : (spec : Spec) (x : ℕ) (r : Role) → r ≡ Input → (class_of spec x r ≡ Idle → ⊥) →
    (is_value (class_of spec x r) ≡ true) ⊎ (is_clock (class_of spec x r) ≡ true)
value_or_clock spec x Input input not_idle = input_classes (stands_in x (clocks_of spec)) (stands_in x (all_reads spec)) not_idle
value_or_clock spec x Output input not_idle = absurd (cc)
value_or_clock spec x Inner input not_idle = absurd (cc)

-- an input is a port
pub input_port : (spec : Spec) (x : ℕ) (w : Var) → HasPortsFirst spec → slice_get spec.vars x ≡ Some w → w.role ≡ Input → slice_get (ports_of spec) x ≡ Some (port_of spec x w)
input_port spec x w first at input = port_at spec x w at (first x w at (input_outer w.role input))

-- ---- words of the ports of a class

head_same : (a b : ℕ) (xs ys : List ℕ) → a ∷ xs ≡ b ∷ ys → a ≡ b
head_same a b xs ys is = cc

tail_same : (a b : ℕ) (xs ys : List ℕ) → a ∷ xs ≡ b ∷ ys → xs ≡ ys
tail_same a b xs ys is = cc

-- where they are the same, so are the words at each port of the class
pub same_at : (chosen : Class → Bool) (ports : List Port) (a b : List ℕ) (x : ℕ) (p : Port) → length ports ≤ length a → length ports ≤ length b → words_of_class chosen ports a ≡ words_of_class chosen ports b →
    slice_get ports x ≡ Some p → chosen p.class ≡ true → slice_index a x ≡ slice_index b x
same_at chosen [] a b x p long_a long_b same at is = absurd (let clash : None ≡ Some p = at in cc)
same_at chosen (q ∷ ports) [] b x p long_a long_b same at is = absurd (omega arith)
same_at chosen (q ∷ ports) (m ∷ a) [] x p long_a long_b same at is = absurd (omega arith)
same_at chosen (q ∷ ports) (m ∷ a) (n ∷ b) x p long_a long_b same at is =
    by_test (chosen q.class) refl x at same (λ i rest found. same_at chosen ports a b i p (omega arith) (omega arith) rest found is) where
      by_test : (t : Bool) → chosen q.class ≡ t → (x : ℕ) → slice_get (q ∷ ports) x ≡ Some p →
          (if t then m ∷ words_of_class chosen ports a else words_of_class chosen ports a) ≡ (if t then n ∷ words_of_class chosen ports b else words_of_class chosen ports b) →
          ((i : ℕ) → words_of_class chosen ports a ≡ words_of_class chosen ports b → slice_get ports i ≡ Some p → slice_index a i ≡ slice_index b i) →
          slice_index (m ∷ a) x ≡ slice_index (n ∷ b) x
      by_test true test zero at same rest = head_same m n (words_of_class chosen ports a) (words_of_class chosen ports b) same
      by_test true test (suc x) at same rest = rest x (tail_same m n (words_of_class chosen ports a) (words_of_class chosen ports b) same) at
      by_test false test zero at same rest =
          let found : Some q ≡ Some p = at in
          let here : q ≡ p = cc in
          absurd (let clash : false ≡ true = sym test ∙ ap (λ (r : Port). chosen r.class) here ∙ is in cc)
      by_test false test (suc x) at same rest = rest x same at

-- and where the words at each port of the class are the same, they are
pub same_words : (chosen : Class → Bool) (ports : List Port) (a b : List ℕ) → length ports ≤ length a → length ports ≤ length b →
    ((x : ℕ) (p : Port) → slice_get ports x ≡ Some p → chosen p.class ≡ true → slice_index a x ≡ slice_index b x) →
    words_of_class chosen ports a ≡ words_of_class chosen ports b
same_words chosen [] a b long_a long_b each = refl
same_words chosen (q ∷ ports) [] b long_a long_b each = absurd (omega arith)
same_words chosen (q ∷ ports) (m ∷ a) [] long_a long_b each = absurd (omega arith)
same_words chosen (q ∷ ports) (m ∷ a) (n ∷ b) long_a long_b each =
    by_test (chosen q.class) refl (same_words chosen ports a b (omega arith) (omega arith) (λ x p at is. each (suc x) p at is)) where
      by_test : (t : Bool) → chosen q.class ≡ t → words_of_class chosen ports a ≡ words_of_class chosen ports b →
          (if t then m ∷ words_of_class chosen ports a else words_of_class chosen ports a)
          ≡ (if t then n ∷ words_of_class chosen ports b else words_of_class chosen ports b)
      by_test true is rest = ap (λ k. k ∷ words_of_class chosen ports a) (each 0 q refl is) ∙ ap (λ words. n ∷ words) rest
      by_test false is rest = rest

-- two lists of levels have the same for each input that is not idle
abbrev pub LevelsAgree : Spec → List ℕ → List ℕ → Type 0
LevelsAgree spec levels others =
    (x : ℕ) (w : Var) → slice_get spec.vars x ≡ Some w → w.role ≡ Input → (class_of spec x w.role ≡ Idle → ⊥) → slice_index levels x ≡ slice_index others x

-- so they do where the levels are the same at data inputs and at clocks
pub levels_agree : (spec : Spec) (a b : List ℕ) → HasPortsFirst spec → length (ports_of spec) ≤ length a → length (ports_of spec) ≤ length b →
    words_of_class is_value (ports_of spec) a ≡ words_of_class is_value (ports_of spec) b → words_of_class is_clock (ports_of spec) a ≡ words_of_class is_clock (ports_of spec) b → LevelsAgree spec a b
levels_agree spec a b first long_a long_b values clocks x w at input not_idle = by_class (value_or_clock spec x w.role input not_idle) where
  by_class : (is_value (class_of spec x w.role) ≡ true) ⊎ (is_clock (class_of spec x w.role) ≡ true) → slice_index a x ≡ slice_index b x
  by_class (inl is) = same_at is_value (ports_of spec) a b x (port_of spec x w) long_a long_b values (input_port spec x w first at input) is
  by_class (inr is) = same_at is_clock (ports_of spec) a b x (port_of spec x w) long_a long_b clocks (input_port spec x w first at input) is
