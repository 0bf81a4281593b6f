-- What names stand for.
use Rattle.std.proofs.Common.{◌≡◌, ℕ, zero, suc, ◌<◌, Bool, false, List, [], ◌∷◌, length, Option, None, Some, refl, sym, ap, subst, arith}
use Rattle.std.specs.Prelude.{slice_get, slice_index, pos, ◌-ℤ◌}
use Rattle.std.specs.List.{AllByRecursion}
use Rattle.std.proofs.lemmas.List.{length-map}
use Rattle.bit_ops.specs.Width.{IsWidth}
use Rattle.sv_base.specs.declared.refusal.Place.{Place}
use Rattle.net_ir.specs.declared.design.Var.{Var}
use Rattle.net_ir.specs.declared.term.Term.{Term, Read, Pick}
use Rattle.net_ir.specs.Value.{widths_of, whole_number, lowest_from, picked}
use Rattle.net_ir.specs.Terms.{Has, has_read, has_pick}
use Rattle.const_eval.specs.declared.env.Bound.{Bound}
use Rattle.const_eval.specs.declared.env.Bound.TheVariants.{Constant, Variable}
use Rattle.const_eval.specs.Meaning.{Meaning, own, number, alone}
use Rattle.const_eval.specs.Selects.{Named, bits_from, part}
use Rattle.width_rules.specs.declared.measured.Measured.{Measured}
use Rattle.width_rules.specs.code.Standing.{Stands}
use Rattle.width_rules.specs.Scope.{variable_named, named_in, IsAmong}

-- a variable that is there
pub var_at : (vars : List Var) (x : ℕ) → x < length vars → (v : Var) × (slice_get vars x ≡ Some v)
var_at [] x there = absurd (omega (arith, there))
var_at (v ∷ vars) zero there = (v, refl)
var_at (v ∷ vars) (suc x) there = var_at vars x (omega (arith, there))

width_at : (vars : List Var) (x : ℕ) (v : Var) → slice_get vars x ≡ Some v → slice_index (widths_of vars) x ≡ v.width
width_at [] x v is = absurd (let clash : None ≡ Some v = is in cc)
width_at (w ∷ vars) zero v is = let same : Some w ≡ Some v = is in let one : w ≡ v = cc in ap (λ (y : Var). y.width) one
width_at (w ∷ vars) (suc x) v is = width_at vars x v is

-- a read of a variable has its size and its word
pub variable_has : (vars : List Var) (u : List ℕ) (x : ℕ) (place : Place) → x < length vars →
    Has (widths_of vars) u (Read x place) (named_in vars u (Variable x)).size (named_in vars u (Variable x)).word
variable_has vars u x place there =
    let found = var_at vars x there in
    let read : Has (widths_of vars) u (Read x place) found.0.width (slice_index u x) =
    subst (λ n. Has (widths_of vars) u (Read x place) n (slice_index u x)) (width_at vars x found.0 found.1)
    (has_read (widths_of vars) u x place (subst (λ n. x < n) (sym (length-map vars (λ (v : Var). v.width))) there)) in
    subst (λ (o : Option Var). Has (widths_of vars) u (Read x place) (variable_named o (slice_index u x)).size (variable_named o (slice_index u x)).word) (sym found.1) read

-- what is bound has a width that a value may have
width_of_all : (vars : List Var) (x : ℕ) (v : Var) → AllByRecursion (λ (v : Var). IsWidth v.width) vars → slice_get vars x ≡ Some v → IsWidth v.width
width_of_all [] x v all is = absurd (let clash : None ≡ Some v = is in cc)
width_of_all (w ∷ vars) zero v all is = let same : Some w ≡ Some v = is in let one : w ≡ v = cc in subst (λ (y : Var). IsWidth y.width) one all.0
width_of_all (w ∷ vars) (suc x) v all is = width_of_all vars x v all.1 is

pub bound_wide : (vars : List Var) (u : List ℕ) (bound : Bound) → AllByRecursion (λ (v : Var). IsWidth v.width) vars → IsAmong vars bound → IsWidth (named_in vars u bound).size
bound_wide vars u (Constant value low) wide there = (value.value.positive, value.value.within)
bound_wide vars u (Variable x) wide there =
    let found = var_at vars x there in
    subst (λ (o : Option Var). IsWidth (variable_named o (slice_index u x)).size) (sym found.1) (width_of_all vars x found.0 wide found.1)

-- so many bits of a name
pub pick_stands : (ws u : List ℕ) (r : Measured) (n : Named) (p : Meaning) (down : Bool) (width : ℕ) (base : Term) (low : ℕ) (at : Term) (at_signed : Bool) →
    at_signed ≡ p.signed → low ≡ n.low → IsWidth width → Has ws u base n.size n.word → Has ws u at p.size (own p) →
    ((x : ℕ) → Has ws u (Pick base low at at_signed down width) width x → Stands ws u r (alone width false x)) →
    Stands ws u r (part n (lowest_from down width (number p)) width)
pick_stands ws u r n p down width base low at at_signed sign lowest wide h k step =
    step (bits_from (lowest_from down width (number p) -ℤ pos n.low) width n.word)
    (subst (λ s. Has ws u (Pick base low at at_signed down width) width (picked n.word n.low down (whole_number s p.size (own p)) width)) sign
    (subst (λ l. Has ws u (Pick base low at at_signed down width) width (picked n.word l down (whole_number at_signed p.size (own p)) width)) lowest
    (has_pick ws u base low at at_signed down width n.size n.word p.size (own p) wide h k)))
