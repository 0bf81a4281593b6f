-- What terms read, and that lawful ones read variables that are there.
use Rattle.std.proofs.Common.{◌≡◌, ℕ, ◌<◌, Bool, List, [], ◌∷◌, ◌++◌, length, map, sym, ◌∙◌, ap, subst}
use Rattle.std.specs.List.{AllByRecursion, flat_map}
use Rattle.std.proofs.lemmas.List.Folds.{flat_map-map}
use Rattle.bit_ops.specs.declared.operation.Op.{Op}
use Rattle.bit_ops.specs.declared.value.Bits.{Bits}
use Rattle.sv_base.specs.declared.refusal.Place.{Place}
use Rattle.net_ir.specs.declared.term.Term.{Term, Const, Read, Pick, Apply}
use Rattle.net_ir.specs.declared.term.Term.TheOpen as layer
use Rattle.net_ir.specs.declared.term.Term.TheOpen.{Term-F}
use Rattle.net_ir.specs.declared.term.Term.TheViews.{roll-Term}
use Rattle.net_ir.specs.declared.term.Term.TheVariants.{rolls-Const, rolls-Read, rolls-Pick, rolls-Apply, outs-Const, outs-Read, outs-Pick, outs-Apply}
use Rattle.net_ir.specs.declared.term.Term.TheFolds.{map-Term, fold_out-Term, ind-Term, every_held-Term}
use Rattle.net_ir.specs.Value.{reads_of, reads_of_layer}
use Rattle.net_ir.specs.Lawful.{IsLawfulLayer, IsLawful}
use Rattle.net_values.proofs.Elements.{all_both, all_flat, all_held, all_join}
use Rattle.net_values.proofs.Layers.{lawful_read, lawful_pick}

-- the variables of a list are there
abbrev pub AreThere : List ℕ → List ℕ → Type 0
AreThere ws xs = AllByRecursion (λ x. x < length ws) xs

-- ---- terms

pub reads_const : (bits : Bits) → reads_of (Const bits) ≡ []
reads_const bits = fold_out-Term (List ℕ) reads_of_layer (Const bits) ∙ ap (λ x. reads_of_layer (map-Term Term (List ℕ) reads_of x)) (outs-Const bits)

pub reads_read : (var : ℕ) (place : Place) → reads_of (Read var place) ≡ var ∷ []
reads_read var place =
    fold_out-Term (List ℕ) reads_of_layer (Read var place) ∙ ap (λ x. reads_of_layer (map-Term Term (List ℕ) reads_of x)) (outs-Read var place)

pub reads_pick : (base : Term) (low : ℕ) (at : Term) (at_signed down : Bool) (width : ℕ) →
    reads_of (Pick base low at at_signed down width) ≡ reads_of base ++ reads_of at
reads_pick base low at at_signed down width =
    fold_out-Term (List ℕ) reads_of_layer (Pick base low at at_signed down width)
    ∙ ap (λ x. reads_of_layer (map-Term Term (List ℕ) reads_of x)) (outs-Pick base low at at_signed down width)

pub reads_apply : (op : Op) (width lo : ℕ) (args : List Term) → reads_of (Apply op width lo args) ≡ flat_map reads_of args
reads_apply op width lo args =
    fold_out-Term (List ℕ) reads_of_layer (Apply op width lo args)
    ∙ ap (λ x. reads_of_layer (map-Term Term (List ℕ) reads_of x)) (outs-Apply op width lo args)
    ∙ flat_map-map (λ (reads : List ℕ). reads) reads_of args

-- the operands of a lawful operation are lawful
held_args : (ws : List ℕ) (op : Op) (width lo : ℕ) (args : List Term) (y : Term-F ((t : Term) × IsLawful ws t)) →
    map-Term ((t : Term) × IsLawful ws t) Term (λ e. e.0) y ≡ layer.Apply op width lo args →
    (held : List ((t : Term) × IsLawful ws t)) × (map (λ e. e.0) held ≡ args)
held_args ws op width lo args (layer.Const bits) is = absurd (cc)
held_args ws op width lo args (layer.Read var place) is = absurd (cc)
held_args ws op width lo args (layer.Pick base low at at_signed down n) is = absurd (cc)
held_args ws op width lo args (layer.Apply op' width' lo' held) is = (held, cc)

pub lawful_args : (ws : List ℕ) (op : Op) (width lo : ℕ) (args : List Term) → IsLawful ws (Apply op width lo args) → AllByRecursion (IsLawful ws) args
lawful_args ws op width lo args lawful =
    let all = every_held-Term (IsLawfulLayer ws) (Apply op width lo args) lawful in
    let held = held_args ws op width lo args all.0 (all.1 ∙ outs-Apply op width lo args) in
    subst (AllByRecursion (IsLawful ws)) held.1 (all_held (IsLawful ws) held.0)

-- a lawful term reads variables that are there
abbrev ReadsThere : List ℕ → Term → Type 0
ReadsThere ws t = IsLawful ws t → AreThere ws (reads_of t)

there_layer : (ws : List ℕ) (y : Term-F ((t : Term) × ReadsThere ws t)) → ReadsThere ws (roll-Term (map-Term ((t : Term) × ReadsThere ws t) Term (λ e. e.0) y))
there_layer ws (layer.Const bits) = subst (ReadsThere ws) (sym (rolls-Const bits)) (λ lawful. subst (AreThere ws) (sym (reads_const bits)) tt)
there_layer ws (layer.Read var place) =
    subst (ReadsThere ws) (sym (rolls-Read var place)) (λ lawful. subst (AreThere ws) (sym (reads_read var place)) (lawful_read ws var place lawful, tt))
there_layer ws (layer.Pick base low at at_signed down width) =
    subst (ReadsThere ws) (sym (rolls-Pick base.0 low at.0 at_signed down width)) (λ lawful.
    let parts = lawful_pick ws base.0 low at.0 at_signed down width lawful in
    subst (AreThere ws) (sym (reads_pick base.0 low at.0 at_signed down width))
    (all_join (λ x. x < length ws) (reads_of base.0) (reads_of at.0) (base.1 parts.0) (at.1 parts.1)))
there_layer ws (layer.Apply op width lo held) =
    let args : List Term = map (λ e. e.0) held in
    subst (ReadsThere ws) (sym (rolls-Apply op width lo args)) (λ lawful.
    subst (AreThere ws) (sym (reads_apply op width lo args))
    (all_flat (λ x. x < length ws) reads_of args
    (all_both (ReadsThere ws) (IsLawful ws) (λ t. AreThere ws (reads_of t)) (λ t f l. f l) args (all_held (ReadsThere ws) held) (lawful_args ws op width lo args lawful))))

pub lawful_reads : (ws : List ℕ) (t : Term) → IsLawful ws t → AreThere ws (reads_of t)
lawful_reads ws = ind-Term (ReadsThere ws) (λ x y is. subst (λ z. ReadsThere ws (roll-Term z)) is (there_layer ws y))
