-- One layer of a term: what is lawful of it, and what its width and word are.
use Rattle.std.proofs.Common.{◌≡◌, ℕ, zero, suc, ◌<◌, ◌≤◌, ◌+◌, Bool, List, [], ◌∷◌, ◌++◌, length, map, take, take_all, get_or, refl, sym, ◌∙◌, ap, subst, arith, lit≤}
use Rattle.std.specs.Prelude.{slice_index, slice_set}
use Rattle.std.proofs.lemmas.List.{length-map, take_more, take_more_set, map-append, get_or-map}
use Rattle.bit_ops.specs.Width.{IsWidth, OneWidth, TwoWidths, ThreeWidths, WidthsFit}
use Rattle.bit_ops.specs.Rows.{value_of}
use Rattle.bit_ops.specs.declared.value.Bits.{Bits}
use Rattle.bit_ops.specs.declared.operation.Op.{Op}
use Rattle.bit_ops.specs.declared.operation.Op.TheVariants as op
use Rattle.sv_base.specs.declared.refusal.Place.{Place}
use Rattle.net_ir.specs.declared.term.Term.{Term, Read, Pick, Apply}
use Rattle.net_ir.specs.declared.term.Term.TheOpen as layer
use Rattle.net_ir.specs.declared.term.Term.TheOpen.{Term-F}
use Rattle.net_ir.specs.declared.term.Term.TheVariants.{outs-Read, outs-Pick, outs-Apply}
use Rattle.net_ir.specs.declared.term.Term.TheFolds.{map-Term, every_here-Term, every_held-Term, fold_out-Term}
use Rattle.bit_ops.specs.Lists.{words, widths}
use Rattle.net_ir.specs.Value.{whole_number, picked, operands, operand_of_layer, operand_of, size}
use Rattle.net_ir.specs.Lawful.{IsLawfulLayer, IsLawful}
use Rattle.net_values.proofs.Terms.{width_is_size}

-- a lawful read is of a variable that is there
pub lawful_read : (ws : List ℕ) (var : ℕ) (place : Place) → IsLawful ws (Read var place) → var < length ws
lawful_read ws var place lawful = subst (IsLawfulLayer ws) (outs-Read var place) (every_here-Term (IsLawfulLayer ws) (Read var place) lawful)

-- a lawful operation has a width and the operands of its row
pub lawful_apply : (ws : List ℕ) (op : Op) (width lo : ℕ) (args : List Term) → IsLawful ws (Apply op width lo args) →
    IsWidth width × WidthsFit op width lo (map (size ws) args)
lawful_apply ws op width lo args lawful =
    subst (IsLawfulLayer ws) (outs-Apply op width lo args) (every_here-Term (IsLawfulLayer ws) (Apply op width lo args) lawful)

-- a lawful pick has a width, and its base and its position are lawful
pick_parts : (ws : List ℕ) (base : Term) (low : ℕ) (at : Term) (at_signed down : Bool) (width : ℕ) (y : Term-F ((t : Term) × IsLawful ws t)) →
    map-Term ((t : Term) × IsLawful ws t) Term (λ e. e.0) y ≡ layer.Pick base low at at_signed down width → IsLawful ws base × IsLawful ws at
pick_parts ws base low at at_signed down width (layer.Const bits) is = absurd (cc)
pick_parts ws base low at at_signed down width (layer.Read var place) is = absurd (cc)
pick_parts ws base low at at_signed down width (layer.Pick b low' a at_signed' down' width') is = (
  subst (IsLawful ws) (let same : layer.Pick b.0 low' a.0 at_signed' down' width' ≡ layer.Pick base low at at_signed down width = is in cc) b.1,
  subst (IsLawful ws) (let same : layer.Pick b.0 low' a.0 at_signed' down' width' ≡ layer.Pick base low at at_signed down width = is in cc) a.1,
)
pick_parts ws base low at at_signed down width (layer.Apply op w lo held) is = absurd (cc)

pub lawful_pick : (ws : List ℕ) (base : Term) (low : ℕ) (at : Term) (at_signed down : Bool) (width : ℕ) →
    IsLawful ws (Pick base low at at_signed down width) → IsLawful ws base × IsLawful ws at
lawful_pick ws base low at at_signed down width lawful =
    let all = every_held-Term (IsLawfulLayer ws) (Pick base low at at_signed down width) lawful in
    pick_parts ws base low at at_signed down width all.0 (all.1 ∙ outs-Pick base low at at_signed down width)

pub pick_width : (ws : List ℕ) (base : Term) (low : ℕ) (at : Term) (at_signed down : Bool) (width : ℕ) →
    IsLawful ws (Pick base low at at_signed down width) → IsWidth width
pick_width ws base low at at_signed down width lawful =
    subst (IsLawfulLayer ws) (outs-Pick base low at at_signed down width) (every_here-Term (IsLawfulLayer ws) (Pick base low at at_signed down width) lawful)

-- each of its operands is lawful
lawful_at : (ws : List ℕ) (held : List ((t : Term) × IsLawful ws t)) (args : List Term) (k : ℕ) (a : Term) → map (λ e. e.0) held ≡ args → k < length args →
    a ≡ get_or args k a → IsLawful ws a
lawful_at ws held args k a is within here =
    by_place held k (subst (λ xs. k < length xs) (sym is) within) (here ∙ ap (λ xs. get_or xs k a) (sym is)) where
      by_place : (es : List ((t : Term) × IsLawful ws t)) (i : ℕ) → i < length (map (λ e. e.0) es) → a ≡ get_or (map (λ e. e.0) es) i a → IsLawful ws a
      by_place [] i far at = absurd (omega arith)
      by_place (e ∷ es) zero near at = subst (IsLawful ws) (sym at) e.1
      by_place (e ∷ es) (suc i) near at = by_place es i (omega arith) at

lawful_held : (ws : List ℕ) (op : Op) (width lo : ℕ) (args : List Term) (y : Term-F ((t : Term) × IsLawful ws t)) →
    map-Term ((t : Term) × IsLawful ws t) Term (λ e. e.0) y ≡ layer.Apply op width lo args →
    (held : List ((t : Term) × IsLawful ws t)) × (map (λ e. e.0) held ≡ args)
lawful_held ws op width lo args (layer.Const bits) is = absurd (cc)
lawful_held ws op width lo args (layer.Read var place) is = absurd (cc)
lawful_held ws op width lo args (layer.Pick base low at at_signed down n) is = absurd (cc)
lawful_held ws op width lo args (layer.Apply op' width' lo' held) is = (held, cc)

pub lawful_arg : (ws : List ℕ) (op : Op) (width lo : ℕ) (args : List Term) (k : ℕ) (a : Term) → IsLawful ws (Apply op width lo args) → k < length args →
    a ≡ get_or args k a → IsLawful ws a
lawful_arg ws op width lo args k a lawful within here =
    let all = every_held-Term (IsLawfulLayer ws) (Apply op width lo args) lawful in
    let held = lawful_held ws op width lo args all.0 (all.1 ∙ outs-Apply op width lo args) in
    lawful_at ws held.0 args k a held.1 within here

-- no operation has more than three operands
one_long : (P : ℕ → Type 0) (ns : List ℕ) → OneWidth P ns → length ns ≤ 1
one_long P [] fits = absurd fits
one_long P (a ∷ []) fits = omega arith
one_long P (a ∷ b ∷ ns) fits = absurd fits

two_long : (P : ℕ → ℕ → Type 0) (ns : List ℕ) → TwoWidths P ns → length ns ≤ 2
two_long P [] fits = absurd fits
two_long P (a ∷ ns) fits = let rest = one_long (P a) ns fits in omega arith

three_long : (P : ℕ → ℕ → ℕ → Type 0) (ns : List ℕ) → ThreeWidths P ns → length ns ≤ 3
three_long P [] fits = absurd fits
three_long P (a ∷ ns) fits = let rest = two_long (P a) ns fits in omega arith

at_most_three : {n m : ℕ} → n ≤ m → m ≤ 3 → n ≤ 3
at_most_three a b = omega arith

pub few_operands : (op : Op) (width lo : ℕ) (ns : List ℕ) → WidthsFit op width lo ns → length ns ≤ 3
few_operands op.Const width lo ns fits = at_most_three (one_long _ ns fits) (lit≤ tt)
few_operands op.Zext width lo ns fits = at_most_three (one_long _ ns fits) (lit≤ tt)
few_operands op.Sext width lo ns fits = at_most_three (one_long _ ns fits) (lit≤ tt)
few_operands op.Slice width lo ns fits = at_most_three (one_long _ ns fits) (lit≤ tt)
few_operands op.Concat width lo ns fits = at_most_three (two_long _ ns fits) (lit≤ tt)
few_operands op.Not width lo ns fits = at_most_three (one_long _ ns fits) (lit≤ tt)
few_operands op.Neg width lo ns fits = at_most_three (one_long _ ns fits) (lit≤ tt)
few_operands op.And width lo ns fits = at_most_three (two_long _ ns fits) (lit≤ tt)
few_operands op.Or width lo ns fits = at_most_three (two_long _ ns fits) (lit≤ tt)
few_operands op.Xor width lo ns fits = at_most_three (two_long _ ns fits) (lit≤ tt)
few_operands op.Add width lo ns fits = at_most_three (two_long _ ns fits) (lit≤ tt)
few_operands op.Sub width lo ns fits = at_most_three (two_long _ ns fits) (lit≤ tt)
few_operands op.Mul width lo ns fits = at_most_three (two_long _ ns fits) (lit≤ tt)
few_operands op.DivU width lo ns fits = at_most_three (two_long _ ns fits) (lit≤ tt)
few_operands op.DivS width lo ns fits = at_most_three (two_long _ ns fits) (lit≤ tt)
few_operands op.ModU width lo ns fits = at_most_three (two_long _ ns fits) (lit≤ tt)
few_operands op.ModS width lo ns fits = at_most_three (two_long _ ns fits) (lit≤ tt)
few_operands op.Shl width lo ns fits = at_most_three (two_long _ ns fits) (lit≤ tt)
few_operands op.ShrU width lo ns fits = at_most_three (two_long _ ns fits) (lit≤ tt)
few_operands op.ShrS width lo ns fits = at_most_three (two_long _ ns fits) (lit≤ tt)
few_operands op.Eq width lo ns fits = at_most_three (two_long _ ns fits) (lit≤ tt)
few_operands op.LtU width lo ns fits = at_most_three (two_long _ ns fits) (lit≤ tt)
few_operands op.LtS width lo ns fits = at_most_three (two_long _ ns fits) (lit≤ tt)
few_operands op.RedAnd width lo ns fits = at_most_three (one_long _ ns fits) (lit≤ tt)
few_operands op.RedOr width lo ns fits = at_most_three (one_long _ ns fits) (lit≤ tt)
few_operands op.RedXor width lo ns fits = at_most_three (one_long _ ns fits) (lit≤ tt)
few_operands op.Mux width lo ns fits = at_most_three (three_long _ ns fits) (lit≤ tt)
few_operands op.Insert width lo ns fits = at_most_three (two_long _ ns fits) (lit≤ tt)

-- ---- widths and words

pub operand_read : (ws u : List ℕ) (var : ℕ) (place : Place) → operand_of ws u (Read var place) ≡ (slice_index ws var, slice_index u var)
operand_read ws u var place =
    fold_out-Term (ℕ × ℕ) (operand_of_layer ws u) (Read var place)
    ∙ ap (λ x. operand_of_layer ws u (map-Term Term (ℕ × ℕ) (operand_of ws u) x)) (outs-Read var place)

pub operand_pick : (ws u : List ℕ) (base : Term) (low : ℕ) (at : Term) (at_signed down : Bool) (width : ℕ) →
    operand_of ws u (Pick base low at at_signed down width)
    ≡ (width, picked (operand_of ws u base).1 low down (whole_number at_signed (operand_of ws u at).0 (operand_of ws u at).1) width)
operand_pick ws u base low at at_signed down width =
    fold_out-Term (ℕ × ℕ) (operand_of_layer ws u) (Pick base low at at_signed down width)
    ∙ ap (λ x. operand_of_layer ws u (map-Term Term (ℕ × ℕ) (operand_of ws u) x)) (outs-Pick base low at at_signed down width)

pub operand_apply : (ws u : List ℕ) (op : Op) (width lo : ℕ) (args : List Term) →
    operand_of ws u (Apply op width lo args) ≡ (width, value_of op width lo (map (operand_of ws u) args))
operand_apply ws u op width lo args =
    fold_out-Term (ℕ × ℕ) (operand_of_layer ws u) (Apply op width lo args)
    ∙ ap (λ x. operand_of_layer ws u (map-Term Term (ℕ × ℕ) (operand_of ws u) x)) (outs-Apply op width lo args)

-- what is read of values
pub read_width : (values : List Bits) (k : ℕ) (b : Bits) → k < length values → b ≡ get_or values k b → slice_index (widths values) k ≡ b.width
read_width values k b within is = get_or-map (λ (x : Bits). x.width) values k b 0 within ∙ ap (λ (x : Bits). x.width) (sym is)

pub read_word : (values : List Bits) (k : ℕ) (b : Bits) → k < length values → b ≡ get_or values k b → slice_index (words values) k ≡ b.word
read_word values k b within is = get_or-map (λ (x : Bits). x.word) values k b 0 within ∙ ap (λ (x : Bits). x.word) (sym is)

widths_from_operands : (values : List Bits) → map (λ (p : ℕ × ℕ). p.0) (operands values) ≡ widths values
widths_from_operands [] = refl
widths_from_operands (b ∷ values) = ap (λ xs. b.width ∷ xs) (widths_from_operands values)

pub sizes_from_operands : (ws u : List ℕ) (args : List Term) → map (λ (p : ℕ × ℕ). p.0) (map (operand_of ws u) args) ≡ map (size ws) args
sizes_from_operands ws u [] = refl
sizes_from_operands ws u (a ∷ args) =
    ap (λ n. n ∷ map (λ (p : ℕ × ℕ). p.0) (map (operand_of ws u) args)) (width_is_size ws u a) ∙ ap (λ xs. size ws a ∷ xs) (sizes_from_operands ws u args)

-- values that are those of terms have the terms' sizes
pub sizes_of_values : (ws u : List ℕ) (values : List Bits) (args : List Term) → operands values ≡ map (operand_of ws u) args →
    widths values ≡ map (size ws) args
sizes_of_values ws u values args is = sym (widths_from_operands values) ∙ ap (map (λ (p : ℕ × ℕ). p.0)) is ∙ sizes_from_operands ws u args

-- one more operand
pub more_operands : (ws u : List ℕ) (given : List Bits) (args : List Term) (k : ℕ) (b : Bits) (a : Term) → k < length given → k < length args →
    a ≡ get_or args k a → (b.width, b.word) ≡ operand_of ws u a → operands (take k given) ≡ map (operand_of ws u) (take k args) →
    operands (take (k + 1) (slice_set given k b)) ≡ map (operand_of ws u) (take (k + 1) args)
more_operands ws u given args k b a room within here same so_far =
    ap operands (take_more_set given k b room)
    ∙ map-append (λ (x : Bits). (x.width, x.word)) (take k given) (b ∷ [])
    ∙ ap (λ xs. xs ++ (b.width, b.word) ∷ []) so_far
    ∙ ap (λ p. map (operand_of ws u) (take k args) ++ p ∷ []) same
    ∙ ap (λ t. map (operand_of ws u) (take k args) ++ operand_of ws u t ∷ []) here
    ∙ sym (ap (map (operand_of ws u)) (take_more args k a within) ∙ map-append (operand_of ws u) (take k args) (get_or args k a ∷ []))

-- the operands of a whole operation: their widths fit its row, and its value is that row's
pub all_fit : (ws u : List ℕ) (op : Op) (width lo : ℕ) (given : List Bits) (items args : List Term) (n i : ℕ) → IsLawful ws (Apply op width lo args) →
    items ≡ args → n ≡ i → length items ≤ i → operands (take i given) ≡ map (operand_of ws u) (take i items) → WidthsFit op width lo (widths (take n given))
all_fit ws u op width lo given items args n i lawful same count all so_far =
    let whole : take i items ≡ args = take_all i items all ∙ same in
    let are : widths (take i given) ≡ map (size ws) args = sizes_of_values ws u (take i given) (take i items) so_far ∙ ap (map (size ws)) whole in
    let are_n : widths (take n given) ≡ map (size ws) args = ap (λ k. widths (take k given)) count ∙ are in
    subst (WidthsFit op width lo) (sym are_n) (lawful_apply ws op width lo args lawful).1

pub all_value : (ws u : List ℕ) (op : Op) (width lo : ℕ) (given : List Bits) (items args : List Term) (n i : ℕ) → items ≡ args → n ≡ i → length items ≤ i →
    operands (take i given) ≡ map (operand_of ws u) (take i items) →
    value_of op width lo (operands (take n given)) ≡ (operand_of ws u (Apply op width lo args)).1
all_value ws u op width lo given items args n i same count all so_far =
    let whole : take i items ≡ args = take_all i items all ∙ same in
    ap (λ k. value_of op width lo (operands (take k given))) count
    ∙ ap (value_of op width lo) (so_far ∙ ap (map (operand_of ws u)) whole)
    ∙ sym (ap (λ p. p.1) (operand_apply ws u op width lo args))

-- a lawful read is of a value that is there
pub read_there : (values : List Bits) (var : ℕ) (place : Place) (t : Term) → t ≡ Read var place → IsLawful (widths values) t → var < length values
read_there values var place t is lawful =
    subst (λ n. var < n) (length-map values (λ b. b.width)) (lawful_read (widths values) var place (subst (IsLawful (widths values)) is lawful))
