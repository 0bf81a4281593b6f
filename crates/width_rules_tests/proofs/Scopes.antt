-- Scopes in the making.
use Rattle.std.proofs.Common.{◌≡◌, ℕ, ◌<◌, ◌+◌, List, [], ◌∷◌, ◌++◌, Bool, true, false, sym, ◌∙◌, arith, Some}
use Rattle.std.specs.Prelude.{if◌then◌else◌}
use Rattle.std.specs.Str.{bytes_eq}
use Rattle.std.specs.List.{AllByRecursion}
use Rattle.bit_ops.specs.Width.{IsWidth}
use Rattle.const_eval.specs.declared.env.Bound.TheVariants.{Variable}
use Rattle.const_eval.specs.declared.env.Env.{Env}
use Rattle.const_eval.specs.Env.{bound_of, Rebinds}
use Rattle.net_ir.specs.declared.design.Var.{Var}

-- each name of a net or variable stands for one of the first so many
abbrev pub AreBelow : Env → ℕ → Type 0
AreBelow names count = (name : List ℕ) (x : ℕ) → bound_of names name ≡ Some (Variable x) → x < count

-- widths that values may have
abbrev pub HaveWidths : List Var → Type 0
HaveWidths vars = AllByRecursion (λ (v : Var). IsWidth v.width) vars

-- one more is declared
pub below_more : (old new : Env) (declared : List ℕ) (number count : ℕ) → Rebinds old declared (Some (Variable number)) new → number ≡ count →
    AreBelow old count → AreBelow new (count + 1)
below_more old new declared number count rebinds is below name x stands = by_test (bytes_eq declared name) (sym (rebinds name) ∙ stands) where
  by_test : (t : Bool) → (if t then Some (Variable number) else bound_of old name) ≡ Some (Variable x) → x < count + 1
  by_test true found =
      let same : number ≡ x = (let whole : Some (Variable number) ≡ Some (Variable x) = found in cc) in
      omega arith
  by_test false kept = let h : x < count = below name x kept in omega arith

-- one width more
pub widths_more : (vars : List Var) (v : Var) → HaveWidths vars → IsWidth v.width → HaveWidths (vars ++ v ∷ [])
widths_more [] v all is = (is, tt)
widths_more (w ∷ vars) v all is = (all.0, widths_more vars v all.1 is)
