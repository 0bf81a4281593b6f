-- The value of a term depends on what it reads alone, and its size on nothing.
use Rattle.std.proofs.Common.{◌≡◌, ℕ, List, [], ◌∷◌, ◌++◌, map, refl, sym, ◌∙◌, ap, subst}
use Rattle.std.specs.Prelude.{slice_index}
use Rattle.std.specs.List.{AllByRecursion, flat_map}
use Rattle.bit_ops.specs.Rows.{value_of}
use Rattle.net_ir.specs.declared.term.Term.{Term}
use Rattle.net_ir.specs.declared.term.Term.TheOpen.{Term-F, Const, Read, Pick, Apply}
use Rattle.net_ir.specs.declared.term.Term.TheViews.{out-Term, roll-Term}
use Rattle.net_ir.specs.declared.term.Term.TheFolds.{map-Term, fold-roll-Term, fold_out-Term, ind-Term}
use Rattle.net_ir.specs.Value.{operand_of_layer, operand_of, size, reads_of_layer, reads_of}

-- two valuations have the same word at each of these variables
abbrev pub AgreeAt : List ℕ → List ℕ → List ℕ → Type 0
AgreeAt u v xs = AllByRecursion (λ x. slice_index u x ≡ slice_index v x) xs

-- what holds of both parts holds of the whole, and back
pub all_front : {X : Type 0} (P : X → Type 0) (xs ys : List X) → AllByRecursion P (xs ++ ys) → AllByRecursion P xs
all_front P [] ys h = tt
all_front P (x ∷ xs) ys h = (h.0, all_front P xs ys h.1)

pub all_back : {X : Type 0} (P : X → Type 0) (xs ys : List X) → AllByRecursion P (xs ++ ys) → AllByRecursion P ys
all_back P [] ys h = h
all_back P (x ∷ xs) ys h = all_back P xs ys h.1

-- a term has the same width and word on two valuations that agree on what it reads
abbrev IsLocal : List ℕ → Term → Type 0
IsLocal ws t = (u v : List ℕ) → AgreeAt u v (reads_of t) → operand_of ws u t ≡ operand_of ws v t

local_args : (ws : List ℕ) (args : List ((t : Term) × IsLocal ws t)) (u v : List ℕ) →
    AgreeAt u v (flat_map (λ reads. reads) (map reads_of (map (λ e. e.0) args))) →
    map (operand_of ws u) (map (λ e. e.0) args) ≡ map (operand_of ws v) (map (λ e. e.0) args)
local_args ws [] u v h = refl
local_args ws (e ∷ args) u v h =
    let rest = flat_map (λ reads. reads) (map reads_of (map (λ e. e.0) args)) in
    let head : operand_of ws u e.0 ≡ operand_of ws v e.0 = e.1 u v (all_front _ (reads_of e.0) rest h) in
    let tail : map (operand_of ws u) (map (λ e. e.0) args) ≡ map (operand_of ws v) (map (λ e. e.0) args) =
    local_args ws args u v (all_back _ (reads_of e.0) rest h) in
    ap (λ x. x ∷ map (operand_of ws u) (map (λ e. e.0) args)) head ∙ ap (λ xs. operand_of ws v e.0 ∷ xs) tail

local_layer : (ws : List ℕ) (y : Term-F ((t : Term) × IsLocal ws t)) → IsLocal ws (roll-Term (map-Term ((t : Term) × IsLocal ws t) Term (λ e. e.0) y))
local_layer ws (Const bits) u v h =
    fold-roll-Term (ℕ × ℕ) (operand_of_layer ws u) (Const bits) ∙ sym (fold-roll-Term (ℕ × ℕ) (operand_of_layer ws v) (Const bits))
local_layer ws (Read var place) u v h =
    let agree : AgreeAt u v (var ∷ []) = subst (AgreeAt u v) (fold-roll-Term (List ℕ) reads_of_layer (Read var place)) h in
    fold-roll-Term (ℕ × ℕ) (operand_of_layer ws u) (Read var place)
    ∙ ap (λ word. (slice_index ws var, word)) agree.0
    ∙ sym (fold-roll-Term (ℕ × ℕ) (operand_of_layer ws v) (Read var place))
local_layer ws (Pick base low at at_signed down width) u v h =
    let agree : AgreeAt u v (reads_of base.0 ++ reads_of at.0) =
    subst (AgreeAt u v) (fold-roll-Term (List ℕ) reads_of_layer (Pick base.0 low at.0 at_signed down width)) h in
    fold-roll-Term (ℕ × ℕ) (operand_of_layer ws u) (Pick base.0 low at.0 at_signed down width)
    ∙ ap (λ (b : ℕ × ℕ). operand_of_layer ws u (Pick b low (operand_of ws u at.0) at_signed down width)) (base.1 u v (all_front _ (reads_of base.0) (reads_of at.0) agree))
    ∙ ap (λ (a : ℕ × ℕ). operand_of_layer ws u (Pick (operand_of ws v base.0) low a at_signed down width)) (at.1 u v (all_back _ (reads_of base.0) (reads_of at.0) agree))
    ∙ sym (fold-roll-Term (ℕ × ℕ) (operand_of_layer ws v) (Pick base.0 low at.0 at_signed down width))
local_layer ws (Apply op width lo args) u v h =
    let terms = map (λ (e : (t : Term) × IsLocal ws t). e.0) args in
    let agree : AgreeAt u v (flat_map (λ reads. reads) (map reads_of terms)) =
    subst (AgreeAt u v) (fold-roll-Term (List ℕ) reads_of_layer (Apply op width lo terms)) h in
    fold-roll-Term (ℕ × ℕ) (operand_of_layer ws u) (Apply op width lo terms)
    ∙ ap (λ operands. (width, value_of op width lo operands)) (local_args ws args u v agree)
    ∙ sym (fold-roll-Term (ℕ × ℕ) (operand_of_layer ws v) (Apply op width lo terms))

pub operand_is_local : (ws : List ℕ) (t : Term) (u v : List ℕ) → AgreeAt u v (reads_of t) → operand_of ws u t ≡ operand_of ws v t
operand_is_local ws = ind-Term (IsLocal ws) (λ x y is. subst (λ z. IsLocal ws (roll-Term z)) is (local_layer ws y))

-- the width of a term is its size, on every valuation
size_layer : (ws u : List ℕ) (x : Term-F Term) →
    (operand_of_layer ws u (map-Term Term (ℕ × ℕ) (operand_of ws u) x)).0 ≡ (operand_of_layer ws [] (map-Term Term (ℕ × ℕ) (operand_of ws []) x)).0
size_layer ws u (Const bits) = refl
size_layer ws u (Read var place) = refl
size_layer ws u (Pick base low at at_signed down width) = refl
size_layer ws u (Apply op width lo args) = refl

pub width_is_size : (ws u : List ℕ) (t : Term) → (operand_of ws u t).0 ≡ size ws t
width_is_size ws u t =
    ap (λ p. p.0) (fold_out-Term (ℕ × ℕ) (operand_of_layer ws u) t)
    ∙ size_layer ws u (out-Term t)
    ∙ sym (ap (λ p. p.0) (fold_out-Term (ℕ × ℕ) (operand_of_layer ws []) t))
