-- The term that is assigned to a target has the assigned value.
use Rattle.std.proofs.Common.{◌≡◌, ℕ, ◌+◌, ◌%◌, ◌^◌, ◌≤◌, ◌<◌, Bool, true, false, not, ◌&&◌, ◌==◌, max, List, Option, None, Some, if◌then◌else◌, refl, sym, ◌∙◌, ap, subst, arith}
use Rattle.std.specs.Prelude.{IfSome}
use Rattle.std.proofs.Math.Nat.{mod-eq_of_lt}
use Rattle.bit_ops.specs.declared.value.TheConstants.{MAX_WIDTH}
use Rattle.bit_ops.specs.declared.operation.Op.TheVariants as op
use Rattle.bit_ops.specs.Width.{IsWidth}
use Rattle.bit_ops.specs.Meaning.{slice_of}
use Rattle.net_ir.specs.declared.term.Term.{Term}
use Rattle.net_ir.specs.Value.{AreWordsOf}
use Rattle.net_ir.specs.Terms.{Has, has_one}
use Rattle.const_eval.specs.Meaning.{Meaning, assigned, assigned_size}
use Rattle.width_rules.specs.declared.measured.Measured.{Measured}
use Rattle.width_rules.specs.Building.{one_of, cut_to}
use Rattle.width_rules.specs.Waiting.{term_in}
use Rattle.width_rules.specs.Assigning.{assigned_term}
use Rattle.width_rules.specs.code.Standing.{Stands}
use Rattle.width_rules.proofs.Standings.{ValuesFit, small, same_test}

-- a law that the code has by a call: the lowest bits of a word
abbrev pub CutIsRest : Type 0
CutIsRest = (n a : ℕ) → slice_of 0 n a ≡ a % 2 ^ n

from_lowest : (width n : ℕ) → width ≤ n → 0 + width ≤ n
from_lowest width n fits = omega (arith, fits)

cut_has : ValuesFit → CutIsRest → (ws u : List ℕ) (width n : ℕ) (t : Term) (x : ℕ) → AreWordsOf ws u → IsWidth width → width ≤ n → Has ws u t n x →
    Has ws u (cut_to width n t) width (x % 2 ^ width)
cut_has law cut ws u width n t x words wide fits h = by_test (width == n) refl where
  by_test : (same : Bool) → (width == n) ≡ same → Has ws u (if same then t else one_of op.Slice width t) width (x % 2 ^ width)
  by_test true is =
      let e : width ≡ n = same_test width n is in
      subst (λ y. Has ws u t width y) (sym (mod-eq_of_lt (subst (λ k. x < 2 ^ k) (sym e) (small law ws u t n x words h)))) (subst (λ k. Has ws u t k x) (sym e) h)
  by_test false is = subst (λ y. Has ws u (one_of op.Slice width t) width y) (cut width x) (has_one ws u op.Slice width 0 t n x wide (from_lowest width n fits) h)

pub assigned_has : ValuesFit → CutIsRest → (ws u : List ℕ) (m : Measured) (a : Meaning) (target : Option ℕ) (unsigned : Bool) → Stands ws u m a → IfSome target IsWidth →
    Has ws u (assigned_term m target unsigned) (assigned_size target a) (assigned target unsigned a)
assigned_has law cut ws u m a None unsigned h wide =
    let s = not unsigned && m.signed in
    let own : Has ws u (term_in m.pending m.size s) a.size (a.value a.size s) =
    subst (λ n. Has ws u (term_in m.pending n s) a.size (a.value a.size s)) (sym h.size) (h.terms a.size s (omega arith) h.width.1) in
    let value : a.value a.size s % 2 ^ a.size ≡ a.value a.size (not unsigned && a.signed) =
    mod-eq_of_lt (small law ws u (term_in m.pending m.size s) a.size (a.value a.size s) h.words own) ∙ ap (λ b. a.value a.size (not unsigned && b)) h.signed in
    subst (λ y. Has ws u (cut_to m.size m.size (term_in m.pending m.size s)) a.size y) value
    (subst (λ k. Has ws u (cut_to k m.size (term_in m.pending m.size s)) a.size (a.value a.size s % 2 ^ a.size)) (sym h.size)
    (subst (λ k. Has ws u (cut_to a.size k (term_in m.pending m.size s)) a.size (a.value a.size s % 2 ^ a.size)) (sym h.size)
    (cut_has law cut ws u a.size a.size (term_in m.pending m.size s) (a.value a.size s) h.words h.width (omega arith) own)))
assigned_has law cut ws u m a (Some width) unsigned h wide =
    let s = not unsigned && m.signed in
    let n = max width a.size in
    let most : n ≤ MAX_WIDTH = omega (arith, wide, h.width) in
    let whole : Has ws u (term_in m.pending n s) n (a.value n s) = h.terms n s (omega arith) most in
    subst (λ k. Has ws u (cut_to width (max width k) (term_in m.pending (max width k) s)) width (a.value n (not unsigned && a.signed) % 2 ^ width)) (sym h.size)
    (subst (λ b. Has ws u (cut_to width n (term_in m.pending n s)) width (a.value n (not unsigned && b) % 2 ^ width)) h.signed
    (cut_has law cut ws u width n (term_in m.pending n s) (a.value n s) h.words wide (omega arith) whole))
