-- How many nodes terms have.
use Rattle.std.proofs.Common.{◌≡◌, ℕ, ◌+◌, Bool, List, [], ◌∷◌, ◌∙◌, ap, arith}
use Rattle.bit_ops.specs.declared.value.Bits.{Bits}
use Rattle.bit_ops.specs.declared.operation.Op.{Op}
use Rattle.sv_base.specs.declared.refusal.Place.{Place}
use Rattle.net_ir.specs.declared.term.Term.{Term, Const, Read, Pick, Apply}
use Rattle.net_ir.specs.declared.term.Term.TheOpen as layer
use Rattle.net_ir.specs.declared.term.Term.TheVariants.{outs-Const, outs-Read, outs-Pick, outs-Apply}
use Rattle.net_ir.specs.declared.term.Term.TheFolds.{map-Term, fold_out-Term}
use Rattle.width_rules.specs.Nodes.{nodes_layer, nodes_of}

pub nodes_const : (bits : Bits) → nodes_of (Const bits) ≡ 1
nodes_const bits = fold_out-Term ℕ nodes_layer (Const bits) ∙ ap (λ x. nodes_layer (map-Term Term ℕ nodes_of x)) (outs-Const bits)

pub nodes_read : (var : ℕ) (place : Place) → nodes_of (Read var place) ≡ 1
nodes_read var place = fold_out-Term ℕ nodes_layer (Read var place) ∙ ap (λ x. nodes_layer (map-Term Term ℕ nodes_of x)) (outs-Read var place)

pub nodes_pick : (base : Term) (low : ℕ) (at : Term) (at_signed down : Bool) (width : ℕ) →
    nodes_of (Pick base low at at_signed down width) ≡ 1 + nodes_of base + nodes_of at
nodes_pick base low at at_signed down width =
    fold_out-Term ℕ nodes_layer (Pick base low at at_signed down width)
    ∙ ap (λ x. nodes_layer (map-Term Term ℕ nodes_of x)) (outs-Pick base low at at_signed down width)

nodes_apply : (op : Op) (width lo : ℕ) (args : List Term) → nodes_of (Apply op width lo args) ≡ nodes_layer (map-Term Term ℕ nodes_of (layer.Apply op width lo args))
nodes_apply op width lo args =
    fold_out-Term ℕ nodes_layer (Apply op width lo args) ∙ ap (λ x. nodes_layer (map-Term Term ℕ nodes_of x)) (outs-Apply op width lo args)

pub nodes_one : (op : Op) (width lo : ℕ) (a : Term) → nodes_of (Apply op width lo (a ∷ [])) ≡ 1 + nodes_of a
nodes_one op width lo a = omega (arith, nodes_apply op width lo (a ∷ []))

pub nodes_two : (op : Op) (width lo : ℕ) (a b : Term) → nodes_of (Apply op width lo (a ∷ b ∷ [])) ≡ 1 + nodes_of a + nodes_of b
nodes_two op width lo a b = omega (arith, nodes_apply op width lo (a ∷ b ∷ []))

pub nodes_three : (op : Op) (width lo : ℕ) (a b c : Term) → nodes_of (Apply op width lo (a ∷ b ∷ c ∷ [])) ≡ 1 + nodes_of a + nodes_of b + nodes_of c
nodes_three op width lo a b c = omega (arith, nodes_apply op width lo (a ∷ b ∷ c ∷ []))
