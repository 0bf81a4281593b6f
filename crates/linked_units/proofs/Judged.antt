-- Units are judged by the figures of the last one.
use Rattle.std.proofs.Common.{◌≡◌, ◌-◌, ◌<◌, List, length, get_or, sym, ◌∙◌, subst, arith, Result, Ok, Err}
use Rattle.std.specs.Prelude.{IfErr}
use Rattle.std.specs.Result.{IsErr, IsErrAnd}
use Rattle.std.proofs.lemmas.List.{get_or_default}
use Rattle.code_isa.specs.Tree.{Tree}
use Rattle.linked_units.specs.declared.figures.Figures.{Figures}
use Rattle.linked_units.specs.declared.fault.LinkFault.{LinkFault}
use Rattle.linked_units.specs.declared.fault.LinkFault.TheVariants.{NoMemory}
use Rattle.linked_units.specs.Figures.{IsWithinLimits}
use Rattle.linked_units.specs.Units.{Units, AreJoined, AreWithinLimits, AreRefused, IsTreeOf, Passes}
use Rattle.linked_units.specs.code.Counting.{AreOf, AreFigures, alone}
use Rattle.linked_units.proofs.Trees.{tree_exists}

module _ (units : Units) (some : 0 < length units) (joined : AreJoined units) where
  tree_there : (t : Tree) × IsTreeOf t units (length units - 1)
  tree_there = tree_exists units joined (length units - 1) (omega arith)

  pub memory_refused : AreRefused units NoMemory
  memory_refused = record { root = length units - 1; last = omega arith; tree = tree_there.0; below = tree_there.1; passes = tt }

  own : (figures : List Figures) → length figures ≡ length units → AreFigures figures units → (f : Figures)
      → f ≡ get_or figures (length figures - 1) f → AreOf f tree_there.0
  own figures sized known f is =
      let e : length figures - 1 ≡ length units - 1 = omega arith in
      let inside : length units - 1 < length figures = omega arith in
      let at : f ≡ get_or figures (length units - 1) alone =
      subst (λ i. f ≡ get_or figures i f) e is ∙ get_or_default figures (length units - 1) f alone inside in
      subst (λ g. AreOf g tree_there.0) (sym at) (known (length units - 1) tree_there.0 inside tree_there.1)

  pub limit_refused : (figures : List Figures) → length figures ≡ length units → AreFigures figures units → (f : Figures)
      → f ≡ get_or figures (length figures - 1) f → (fault : LinkFault) → ((t : Tree) → AreOf f t → Passes t fault) → AreRefused units fault
  limit_refused figures sized known f is fault told =
      record { root = length units - 1; last = omega arith; tree = tree_there.0; below = tree_there.1; passes = told tree_there.0 (own figures sized known f is) }

  pub limits_kept : (figures : List Figures) → length figures ≡ length units → AreFigures figures units → (f : Figures)
      → f ≡ get_or figures (length figures - 1) f → ((t : Tree) → AreOf f t → IsWithinLimits t) → AreWithinLimits units
  limits_kept figures sized known f is told =
      record { root = length units - 1; last = omega arith; tree = tree_there.0; below = tree_there.1; within = told tree_there.0 (own figures sized known f is) }

-- what is told where memory ran out
pub memory_told : {X : Type 0} (P : LinkFault → Type 0) (r : Result X LinkFault) → IsErr r × IsErrAnd r (λ e. e ≡ NoMemory) → P NoMemory → IfErr r P
memory_told P (Ok x) h p = tt
memory_told P (Err e) h p = subst P (sym h.1) p
