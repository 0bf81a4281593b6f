-- Terms that are put together: each is lawful, with its size and its word.
use Rattle.std.specs.Prelude.{◌≡◌, ℕ, ◌<◌, Bool, List, [], ◌∷◌, length, map, slice_index, refl, ⊤}
use Rattle.std.proofs.Common.{sym, ◌∙◌, ap, subst}
use Rattle.bit_ops.specs.Width.{IsWidth, WidthsFit}
use Rattle.bit_ops.specs.Rows as rows
use Rattle.bit_ops.specs.Rows.{value_of}
use Rattle.bit_ops.specs.declared.operation.Op.{Op}
use Rattle.bit_ops.specs.declared.value.Bits.{Bits}
use Rattle.sv_base.specs.declared.refusal.Place.{Place}
use Rattle.net_ir.specs.declared.term.Term.{Term, Const, Read, Pick, Apply}
use Rattle.net_ir.specs.declared.term.Term.TheOpen as layer
use Rattle.net_ir.specs.declared.term.Term.TheOpen.{Term-F}
use Rattle.net_ir.specs.declared.term.Term.TheViews.{out-Term}
use Rattle.net_ir.specs.declared.term.Term.TheVariants.{rolls-Const, rolls-Read, rolls-Pick, rolls-Apply, outs-Const, outs-Read, outs-Pick, outs-Apply}
use Rattle.net_ir.specs.declared.term.Term.TheFolds.{map-Term, fold_out-Term, every_made-Term}
use Rattle.net_ir.specs.Value.{whole_number, picked, operand_of_layer, operand_of, size, val}
use Rattle.net_ir.specs.Lawful.{IsLawfulLayer, IsLawful}

-- a lawful term of a size, with a word on the valuation u
pub record Has (ws u : List ℕ) (t : Term) (w a : ℕ) : Type 0 where
  pub lawful : IsLawful ws t
  pub size : size ws t ≡ w
  pub word : val ws u t ≡ a

-- so of each term of a list, with these sizes and words
abbrev pub AllHave : List ℕ → List ℕ → List Term → List (ℕ × ℕ) → Type 0
AllHave ws u [] [] = ⊤
AllHave ws u [] (p ∷ ps) = ⊥
AllHave ws u (t ∷ ts) [] = ⊥
AllHave ws u (t ∷ ts) (p ∷ ps) = Has ws u t p.0 p.1 × AllHave ws u ts ps

-- the width of a term is its size, on every valuation
size_layer : (ws u : List ℕ) (x : Term-F Term) →
    (operand_of_layer ws u (map-Term Term (ℕ × ℕ) (operand_of ws u) x)).0 ≡ (operand_of_layer ws [] (map-Term Term (ℕ × ℕ) (operand_of ws []) x)).0
size_layer ws u (layer.Const bits) = refl
size_layer ws u (layer.Read var place) = refl
size_layer ws u (layer.Pick base low at at_signed down width) = refl
size_layer ws u (layer.Apply op width lo args) = refl

pub width_is_size : (ws u : List ℕ) (t : Term) → (operand_of ws u t).0 ≡ size ws t
width_is_size ws u t =
    ap (λ p. p.0) (fold_out-Term (ℕ × ℕ) (operand_of_layer ws u) t)
    ∙ size_layer ws u (out-Term t)
    ∙ sym (ap (λ p. p.0) (fold_out-Term (ℕ × ℕ) (operand_of_layer ws []) t))

-- ---- the width and the word of each kind of term

pub operand_const : (ws u : List ℕ) (bits : Bits) → operand_of ws u (Const bits) ≡ (bits.width, bits.word)
operand_const ws u bits =
    fold_out-Term (ℕ × ℕ) (operand_of_layer ws u) (Const bits) ∙ ap (λ x. operand_of_layer ws u (map-Term Term (ℕ × ℕ) (operand_of ws u) x)) (outs-Const bits)

pub operand_read : (ws u : List ℕ) (var : ℕ) (place : Place) → operand_of ws u (Read var place) ≡ (slice_index ws var, slice_index u var)
operand_read ws u var place =
    fold_out-Term (ℕ × ℕ) (operand_of_layer ws u) (Read var place)
    ∙ ap (λ x. operand_of_layer ws u (map-Term Term (ℕ × ℕ) (operand_of ws u) x)) (outs-Read var place)

pub operand_pick : (ws u : List ℕ) (base : Term) (low : ℕ) (at : Term) (at_signed down : Bool) (width : ℕ) →
    operand_of ws u (Pick base low at at_signed down width)
    ≡ (width, picked (operand_of ws u base).1 low down (whole_number at_signed (operand_of ws u at).0 (operand_of ws u at).1) width)
operand_pick ws u base low at at_signed down width =
    fold_out-Term (ℕ × ℕ) (operand_of_layer ws u) (Pick base low at at_signed down width)
    ∙ ap (λ x. operand_of_layer ws u (map-Term Term (ℕ × ℕ) (operand_of ws u) x)) (outs-Pick base low at at_signed down width)

pub operand_apply : (ws u : List ℕ) (op : Op) (width lo : ℕ) (args : List Term) →
    operand_of ws u (Apply op width lo args) ≡ (width, value_of op width lo (map (operand_of ws u) args))
operand_apply ws u op width lo args =
    fold_out-Term (ℕ × ℕ) (operand_of_layer ws u) (Apply op width lo args)
    ∙ ap (λ x. operand_of_layer ws u (map-Term Term (ℕ × ℕ) (operand_of ws u) x)) (outs-Apply op width lo args)

-- ---- what each kind has

-- what has a size and a word is these as an operand
pub as_operand : (ws u : List ℕ) (t : Term) (w a : ℕ) → Has ws u t w a → operand_of ws u t ≡ (w, a)
as_operand ws u t w a h =
    ap (λ n. (n, (operand_of ws u t).1)) (width_is_size ws u t ∙ h.size) ∙ ap (λ n. (w, n)) h.word

pub has_const : (ws u : List ℕ) (bits : Bits) → Has ws u (Const bits) bits.width bits.word
has_const ws u bits = record {
  lawful = subst (IsLawful ws) (rolls-Const bits) (every_made-Term (IsLawfulLayer ws) (layer.Const bits) (layer.Const bits) refl tt);
  size = ap (λ p. p.0) (operand_const ws [] bits);
  word = ap (λ p. p.1) (operand_const ws u bits);
}

pub has_read : (ws u : List ℕ) (var : ℕ) (place : Place) → var < length ws → Has ws u (Read var place) (slice_index ws var) (slice_index u var)
has_read ws u var place there = record {
  lawful = subst (IsLawful ws) (rolls-Read var place) (every_made-Term (IsLawfulLayer ws) (layer.Read var place) (layer.Read var place) refl there);
  size = ap (λ p. p.0) (operand_read ws [] var place);
  word = ap (λ p. p.1) (operand_read ws u var place);
}

pub has_pick : (ws u : List ℕ) (base : Term) (low : ℕ) (at : Term) (at_signed down : Bool) (width n a m b : ℕ) → IsWidth width → Has ws u base n a → Has ws u at m b →
    Has ws u (Pick base low at at_signed down width) width (picked a low down (whole_number at_signed m b) width)
has_pick ws u base low at at_signed down width n a m b wide h k = record {
  lawful = subst (IsLawful ws) (rolls-Pick base low at at_signed down width)
      (every_made-Term (IsLawfulLayer ws) (layer.Pick base low at at_signed down width) (layer.Pick (base, h.lawful) low (at, k.lawful) at_signed down width) refl wide);
  size = ap (λ p. p.0) (operand_pick ws [] base low at at_signed down width);
  word = ap (λ p. p.1) (operand_pick ws u base low at at_signed down width)
      ∙ ap (λ (p : ℕ × ℕ). picked p.1 low down (whole_number at_signed (operand_of ws u at).0 (operand_of ws u at).1) width) (as_operand ws u base n a h)
      ∙ ap (λ (p : ℕ × ℕ). picked a low down (whole_number at_signed p.0 p.1) width) (as_operand ws u at m b k);
}

-- terms with the facts that they are lawful
abbrev held : (ws u : List ℕ) (ts : List Term) (ps : List (ℕ × ℕ)) → AllHave ws u ts ps → List ((t : Term) × IsLawful ws t)
held ws u [] ps all = []
held ws u (t ∷ ts) [] all = absurd all
held ws u (t ∷ ts) (p ∷ ps) all = (t, all.0.lawful) ∷ held ws u ts ps all.1

held_terms : (ws u : List ℕ) (ts : List Term) (ps : List (ℕ × ℕ)) (all : AllHave ws u ts ps) → map (λ (e : (t : Term) × IsLawful ws t). e.0) (held ws u ts ps all) ≡ ts
held_terms ws u [] ps all = refl
held_terms ws u (t ∷ ts) [] all = absurd all
held_terms ws u (t ∷ ts) (p ∷ ps) all = ap (λ xs. t ∷ xs) (held_terms ws u ts ps all.1)

held_sizes : (ws u : List ℕ) (ts : List Term) (ps : List (ℕ × ℕ)) → AllHave ws u ts ps → rows.widths_of ps ≡ map (size ws) ts
held_sizes ws u [] [] all = refl
held_sizes ws u [] (p ∷ ps) all = absurd all
held_sizes ws u (t ∷ ts) [] all = absurd all
held_sizes ws u (t ∷ ts) (p ∷ ps) all = ap (λ n. n ∷ rows.widths_of ps) (sym all.0.size) ∙ ap (λ ns. size ws t ∷ ns) (held_sizes ws u ts ps all.1)

held_operands : (ws u : List ℕ) (ts : List Term) (ps : List (ℕ × ℕ)) → AllHave ws u ts ps → map (operand_of ws u) ts ≡ ps
held_operands ws u [] [] all = refl
held_operands ws u [] (p ∷ ps) all = absurd all
held_operands ws u (t ∷ ts) [] all = absurd all
held_operands ws u (t ∷ ts) (p ∷ ps) all =
    ap (λ q. q ∷ map (operand_of ws u) ts) (as_operand ws u t p.0 p.1 all.0) ∙ ap (λ qs. p ∷ qs) (held_operands ws u ts ps all.1)

pub has_apply : (ws u : List ℕ) (op : Op) (width lo : ℕ) (ts : List Term) (ps : List (ℕ × ℕ)) → IsWidth width → WidthsFit op width lo (rows.widths_of ps) →
    AllHave ws u ts ps → Has ws u (Apply op width lo ts) width (value_of op width lo ps)
has_apply ws u op width lo ts ps wide fit all = record {
  lawful = subst (IsLawful ws) (rolls-Apply op width lo ts)
      (every_made-Term (IsLawfulLayer ws) (layer.Apply op width lo ts) (layer.Apply op width lo (held ws u ts ps all)) (ap (λ xs. layer.Apply op width lo xs) (held_terms ws u ts ps all))
      (wide, subst (WidthsFit op width lo) (held_sizes ws u ts ps all) fit));
  size = ap (λ p. p.0) (operand_apply ws [] op width lo ts);
  word = ap (λ p. p.1) (operand_apply ws u op width lo ts) ∙ ap (value_of op width lo) (held_operands ws u ts ps all);
}

-- an operation on one term, on two, and on three
pub has_one : (ws u : List ℕ) (op : Op) (width lo : ℕ) (t : Term) (n a : ℕ) → IsWidth width → WidthsFit op width lo (n ∷ []) → Has ws u t n a →
    Has ws u (Apply op width lo (t ∷ [])) width (value_of op width lo ((n, a) ∷ []))
has_one ws u op width lo t n a wide fit h = has_apply ws u op width lo (t ∷ []) ((n, a) ∷ []) wide fit (h, tt)

pub has_two : (ws u : List ℕ) (op : Op) (width lo : ℕ) (t s : Term) (n a m b : ℕ) → IsWidth width → WidthsFit op width lo (n ∷ m ∷ []) → Has ws u t n a → Has ws u s m b →
    Has ws u (Apply op width lo (t ∷ s ∷ [])) width (value_of op width lo ((n, a) ∷ (m, b) ∷ []))
has_two ws u op width lo t s n a m b wide fit h k = has_apply ws u op width lo (t ∷ s ∷ []) ((n, a) ∷ (m, b) ∷ []) wide fit (h, (k, tt))

pub has_three : (ws u : List ℕ) (op : Op) (width lo : ℕ) (t s r : Term) (n a m b l c : ℕ) → IsWidth width → WidthsFit op width lo (n ∷ m ∷ l ∷ []) →
    Has ws u t n a → Has ws u s m b → Has ws u r l c →
    Has ws u (Apply op width lo (t ∷ s ∷ r ∷ [])) width (value_of op width lo ((n, a) ∷ (m, b) ∷ (l, c) ∷ []))
has_three ws u op width lo t s r n a m b l c wide fit h k j =
    has_apply ws u op width lo (t ∷ s ∷ r ∷ []) ((n, a) ∷ (m, b) ∷ (l, c) ∷ []) wide fit (h, (k, (j, tt)))
