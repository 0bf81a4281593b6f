-- The value of a lawful term is a word of its size.
use Rattle.std.proofs.Common.{◌≡◌, ℕ, ◌<◌, ◌^◌, Bool, true, false, List, [], ◌∷◌, length, map, refl, sym, ◌∙◌, ap, subst}
use Rattle.std.specs.Prelude.{ℤ, pos, int_lt, unsigned_abs, ◌*◌, ◌/◌, ◌%◌, ◌-ℤ◌, if◌then◌else◌}
use Rattle.std.specs.List.{AllByRecursion}
use Rattle.std.proofs.Math.Nat.{mod-lt}
use Rattle.std.proofs.lemmas.Nat.{pow_pos}
use Rattle.bit_ops.specs.Width.{IsWidth, WidthsFit}
use Rattle.bit_ops.specs.Rows as rows
use Rattle.bit_ops.specs.Rows.{AreWords, value_of}
use Rattle.bit_ops.specs.declared.operation.Op.{Op}
use Rattle.sv_base.specs.declared.refusal.Place.{Place}
use Rattle.net_ir.specs.declared.term.Term.{Term, Read, Apply}
use Rattle.net_ir.specs.declared.term.Term.TheOpen as layer
use Rattle.net_ir.specs.declared.term.Term.TheOpen.{Term-F}
use Rattle.net_ir.specs.declared.term.Term.TheViews.{roll-Term}
use Rattle.net_ir.specs.declared.term.Term.TheVariants.{rolls-Const, rolls-Read, rolls-Pick, rolls-Apply, outs-Read, outs-Apply}
use Rattle.net_ir.specs.declared.term.Term.TheFolds.{map-Term, ind-Term, every_here-Term, every_held-Term}
use Rattle.net_ir.specs.Value.{AreWordsOf, bits_from, lowest_from, whole_number, operand_of, size, val}
use Rattle.net_ir.specs.Lawful.{IsLawfulLayer, IsLawful}
use Rattle.net_ir.proofs.Parts.{all_held}
use Rattle.net_ir.specs.Terms.{width_is_size, operand_const, operand_read, operand_pick, operand_apply}

-- ---- lists

all_both : {X : Type 0} (P Q R : X → Type 0) → ((x : X) → P x → Q x → R x) → (xs : List X) → AllByRecursion P xs → AllByRecursion Q xs → AllByRecursion R xs
all_both P Q R step [] p q = tt
all_both P Q R step (x ∷ xs) p q = (step x p.0 q.0, all_both P Q R step xs p.1 q.1)

-- ---- sizes

sizes_from_operands : (ws u : List ℕ) (args : List Term) → map (λ (p : ℕ × ℕ). p.0) (map (operand_of ws u) args) ≡ map (size ws) args
sizes_from_operands ws u [] = refl
sizes_from_operands ws u (a ∷ args) =
    ap (λ n. n ∷ map (λ (p : ℕ × ℕ). p.0) (map (operand_of ws u) args)) (width_is_size ws u a) ∙ ap (λ xs. size ws a ∷ xs) (sizes_from_operands ws u args)

-- ---- what is lawful of it

pub lawful_read : (ws : List ℕ) (var : ℕ) (place : Place) → IsLawful ws (Read var place) → var < length ws
lawful_read ws var place lawful = subst (IsLawfulLayer ws) (outs-Read var place) (every_here-Term (IsLawfulLayer ws) (Read var place) lawful)

pub lawful_apply : (ws : List ℕ) (op : Op) (width lo : ℕ) (args : List Term) → IsLawful ws (Apply op width lo args) →
    IsWidth width × WidthsFit op width lo (map (size ws) args)
lawful_apply ws op width lo args lawful =
    subst (IsLawfulLayer ws) (outs-Apply op width lo args) (every_here-Term (IsLawfulLayer ws) (Apply op width lo args) lawful)

held_args : (ws : List ℕ) (op : Op) (width lo : ℕ) (args : List Term) (y : Term-F ((t : Term) × IsLawful ws t)) →
    map-Term ((t : Term) × IsLawful ws t) Term (λ e. e.0) y ≡ layer.Apply op width lo args →
    (held : List ((t : Term) × IsLawful ws t)) × (map (λ e. e.0) held ≡ args)
held_args ws op width lo args (layer.Const bits) is = absurd (cc)
held_args ws op width lo args (layer.Read var place) is = absurd (cc)
held_args ws op width lo args (layer.Pick base low at at_signed down n) is = absurd (cc)
held_args ws op width lo args (layer.Apply op' width' lo' held) is = (held, cc)

pub lawful_args : (ws : List ℕ) (op : Op) (width lo : ℕ) (args : List Term) → IsLawful ws (Apply op width lo args) → AllByRecursion (IsLawful ws) args
lawful_args ws op width lo args lawful =
    let all = every_held-Term (IsLawfulLayer ws) (Apply op width lo args) lawful in
    let held = held_args ws op width lo args all.0 (all.1 ∙ outs-Apply op width lo args) in
    subst (AllByRecursion (IsLawful ws)) held.1 (all_held (IsLawful ws) held.0)

-- ---- words

-- the value of an operation whose operands fit is a word of its width
abbrev pub ValuesFit : Type 0
ValuesFit = (op : Op) (w lo : ℕ) (operands : List (ℕ × ℕ)) → WidthsFit op w lo (rows.widths_of operands) → AreWords operands → value_of op w lo operands < 2 ^ w

-- a word below 2 to its width
abbrev IsWord : ℕ × ℕ → Type 0
IsWord p = p.1 < 2 ^ p.0

-- a lawful term has such a width and word
abbrev HasWord : List ℕ → List ℕ → Term → Type 0
HasWord ws u t = IsLawful ws t → IsWord (operand_of ws u t)

are_words : (ws u : List ℕ) (args : List Term) → AllByRecursion (λ t. IsWord (operand_of ws u t)) args → AreWords (map (operand_of ws u) args)
are_words ws u [] all = tt
are_words ws u (t ∷ args) all = (all.0, are_words ws u args all.1)

-- bits of a word are a word of as many bits
bits_fit : (place : ℤ) (w a : ℕ) → bits_from place w a < 2 ^ w
bits_fit place w a = by_side (int_lt place (pos 0)) where
  by_side : (below : Bool) → (if below then a * 2 ^ unsigned_abs place % 2 ^ w else a / 2 ^ unsigned_abs place % 2 ^ w) < 2 ^ w
  by_side true = mod-lt (a * 2 ^ unsigned_abs place) (pow_pos w)
  by_side false = mod-lt (a / 2 ^ unsigned_abs place) (pow_pos w)

word_layer : ValuesFit → (ws u : List ℕ) → AreWordsOf ws u → (y : Term-F ((t : Term) × HasWord ws u t)) →
    HasWord ws u (roll-Term (map-Term ((t : Term) × HasWord ws u t) Term (λ e. e.0) y))
word_layer law ws u small (layer.Const bits) =
    subst (HasWord ws u) (sym (rolls-Const bits)) (λ lawful. subst (λ (p : ℕ × ℕ). IsWord p) (sym (operand_const ws u bits)) bits.fits)
word_layer law ws u small (layer.Read var place) =
    subst (HasWord ws u) (sym (rolls-Read var place)) (λ lawful. subst (λ (p : ℕ × ℕ). IsWord p) (sym (operand_read ws u var place)) (small var (lawful_read ws var place lawful)))
word_layer law ws u small (layer.Pick base low at at_signed down width) =
    subst (HasWord ws u) (sym (rolls-Pick base.0 low at.0 at_signed down width)) (λ lawful.
    subst (λ (p : ℕ × ℕ). IsWord p) (sym (operand_pick ws u base.0 low at.0 at_signed down width)) (bits_fit (lowest_from down width (whole_number at_signed (operand_of ws u at.0).0 (operand_of ws u at.0).1) -ℤ pos low) width (operand_of ws u base.0).1))
word_layer law ws u small (layer.Apply op width lo held) =
    let args : List Term = map (λ e. e.0) held in
    subst (HasWord ws u) (sym (rolls-Apply op width lo args)) (λ lawful.
    subst (λ (p : ℕ × ℕ). IsWord p) (sym (operand_apply ws u op width lo args))
    (law op width lo (map (operand_of ws u) args)
    (subst (WidthsFit op width lo) (sym (sizes_from_operands ws u args)) (lawful_apply ws op width lo args lawful).1)
    (are_words ws u args (all_both (HasWord ws u) (IsLawful ws) (λ t. IsWord (operand_of ws u t)) (λ t f l. f l) args (all_held (HasWord ws u) held) (lawful_args ws op width lo args lawful)))))

pub value_small : ValuesFit → (ws u : List ℕ) (t : Term) → AreWordsOf ws u → IsLawful ws t → val ws u t < 2 ^ size ws t
value_small law ws u t small lawful =
    let word : IsWord (operand_of ws u t) =
    ind-Term (HasWord ws u) (λ x y is. subst (λ z. HasWord ws u (roll-Term z)) is (word_layer law ws u small y)) t lawful in
    subst (λ n. val ws u t < 2 ^ n) (width_is_size ws u t) word
