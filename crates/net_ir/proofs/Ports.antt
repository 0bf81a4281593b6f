-- Ports by their places, and rows of what stands at them.
use Rattle.std.proofs.Common.{◌≡◌, ℕ, zero, suc, ◌≤◌, ◌+◌, List, [], ◌∷◌, length, take, drop, Bool, true, false, refl, sym, ◌∙◌, ap, arith, None, Some}
use Rattle.std.specs.Prelude.{slice_index, slice_get, if◌then◌else◌}
use Rattle.std.proofs.lemmas.Grind.{get_or_after_one}
use Rattle.sv_base.specs.declared.face.Port.{Port}
use Rattle.sv_base.specs.Classes.{is_output, words_of_class}
use Rattle.sv_base.specs.Meaning.{row_of}
use Rattle.net_ir.specs.declared.design.Role.{Role}
use Rattle.net_ir.specs.declared.design.Role.TheVariants.{Input, Output, Inner}
use Rattle.net_ir.specs.declared.design.Var.{Var}
use Rattle.net_ir.specs.declared.design.Spec.{Spec}
use Rattle.net_ir.specs.Face.{is_inner, class_of, port_of, ports_from, ports_of}

-- ---- the variable that a port is

pub record IsPortOf (spec : Spec) (vars : List Var) (x y : ℕ) (p : Port) : Type 0 where
  pub variable : Var
  pub at : slice_get vars x ≡ Some variable
  pub is : p ≡ port_of spec y variable

ports_are : (spec : Spec) (n : ℕ) (vars : List Var) (x y : ℕ) (p : Port) → n + x ≡ y → slice_get (ports_from spec n vars) x ≡ Some p → IsPortOf spec vars x y p
ports_are spec n [] x y p number at = absurd (let clash : None ≡ Some p = at in cc)
ports_are spec n (v ∷ vars) x y p number at = by_test (is_inner v.role) x number at (λ i. ports_are spec (n + 1) vars i y p) where
  by_test : (t : Bool) (x : ℕ) → n + x ≡ y → slice_get (if t then [] else port_of spec n v ∷ ports_from spec (n + 1) vars) x ≡ Some p →
      ((i : ℕ) → n + 1 + i ≡ y → slice_get (ports_from spec (n + 1) vars) i ≡ Some p → IsPortOf spec vars i y p) → IsPortOf spec (v ∷ vars) x y p
  by_test true x number at rest = absurd (let clash : None ≡ Some p = at in cc)
  by_test false zero number at rest =
      let here : n ≡ y = omega arith in
      let found : Some (port_of spec n v) ≡ Some p = at in
      let same : port_of spec n v ≡ p = cc in
      record { variable = v; at = refl; is = sym same ∙ ap (λ m. port_of spec m v) here }
  by_test false (suc x) number at rest = let is = rest x (omega arith) at in record { variable = is.variable; at = is.at; is = is.is }

pub port_is : (spec : Spec) (x : ℕ) (p : Port) → slice_get (ports_of spec) x ≡ Some p → IsPortOf spec spec.vars x x p
port_is spec x p at = ports_are spec 0 spec.vars x x p (omega arith) at

-- there are no more ports than variables
ports_fewer : (spec : Spec) (n : ℕ) (vars : List Var) → length (ports_from spec n vars) ≤ length vars
ports_fewer spec n [] = omega arith
ports_fewer spec n (v ∷ vars) = by_test (is_inner v.role) (ports_fewer spec (n + 1) vars) where
  by_test : (t : Bool) → length (ports_from spec (n + 1) vars) ≤ length vars → length (if t then [] else port_of spec n v ∷ ports_from spec (n + 1) vars) ≤ suc (length vars)
  by_test true rest = omega arith
  by_test false rest = omega arith

pub ports_among : (spec : Spec) → length (ports_of spec) ≤ length spec.vars
ports_among spec = ports_fewer spec 0 spec.vars

-- ---- classes

pub no_output_role : (spec : Spec) (x : ℕ) (r : Role) → is_output (class_of spec x r) ≡ false → r ≡ Input
no_output_role spec x Input is = refl
no_output_role spec x Output is = let clash : true ≡ false = is in cc
no_output_role spec x Inner is = let clash : true ≡ false = is in cc

-- ---- rows

-- a row of the words that inputs are set to and of those of the outputs is the front of a valuation that has both
pub row_is : (ports : List Port) (inputs v : List ℕ) → length ports ≤ length v →
    ((x : ℕ) (p : Port) → slice_get ports x ≡ Some p → is_output p.class ≡ false → slice_index inputs x ≡ slice_index v x) →
    row_of ports inputs (words_of_class is_output ports v) ≡ take (length ports) v
row_is [] inputs v long levels = refl
row_is (q ∷ ports) inputs [] long levels = absurd (omega arith)
row_is (q ∷ ports) inputs (n ∷ v) long levels =
    by_test (is_output q.class) refl
    (row_is ports (drop 1 inputs) v (omega arith)
    (λ x p at is. get_or_after_one inputs x 0 ∙ ap (slice_index inputs) (let one : 1 + x ≡ suc x = omega arith in one) ∙ levels (suc x) p at is)) where
      by_test : (t : Bool) → is_output q.class ≡ t → row_of ports (drop 1 inputs) (words_of_class is_output ports v) ≡ take (length ports) v →
          (if t then slice_index (if t then n ∷ words_of_class is_output ports v else words_of_class is_output ports v) 0 ∷ row_of ports (drop 1 inputs) (drop 1 (if t then n ∷ words_of_class is_output ports v else words_of_class is_output ports v))
          else slice_index inputs 0 ∷ row_of ports (drop 1 inputs) (if t then n ∷ words_of_class is_output ports v else words_of_class is_output ports v)) ≡ take (length (q ∷ ports)) (n ∷ v)
      by_test true is rest = ap (λ row. n ∷ row) rest
      by_test false is rest = ap (λ k. k ∷ row_of ports (drop 1 inputs) (words_of_class is_output ports v)) (levels 0 q refl is) ∙ ap (λ row. n ∷ row) rest
