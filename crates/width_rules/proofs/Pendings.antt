-- Pending terms, one layer at a time.
use Rattle.std.proofs.Common.{◌≡◌, ℕ, Bool, ◌∙◌, ap}
use Rattle.bit_ops.specs.declared.value.Bits.{Bits}
use Rattle.bit_ops.specs.declared.operation.Op.TheVariants as op
use Rattle.const_eval.specs.declared.pending.Change.{Change}
use Rattle.const_eval.specs.declared.pending.Operation.{Operation}
use Rattle.net_ir.specs.declared.term.Term.{Term, Const}
use Rattle.width_rules.specs.declared.pending.Shift.{Shift}
use Rattle.width_rules.specs.declared.pending.Pending.{Pending, Alone, Fill, Changed, Combined, Shifted, Chosen}
use Rattle.width_rules.specs.declared.pending.Pending.TheVariants.{outs-Alone, outs-Fill, outs-Changed, outs-Combined, outs-Shifted, outs-Chosen}
use Rattle.width_rules.specs.declared.pending.Pending.TheFolds.{map-Pending, fold_out-Pending}
use Rattle.width_rules.specs.Building.{one_of, two_of, choice_of, extended_to, change_by, combined_to, shift_by}
use Rattle.width_rules.specs.Waiting.{term_layer, term_in}

pub in_alone : (width : ℕ) (t : Term) (n : ℕ) (s : Bool) → term_in (Alone width t) n s ≡ extended_to n s width t
in_alone width t n s =
    ap (λ (f : ℕ → Bool → Term). f n s) (fold_out-Pending (ℕ → Bool → Term) term_layer (Alone width t) ∙ ap (λ x. term_layer (map-Pending Pending (ℕ → Bool → Term) term_in x)) (outs-Alone width t))

pub in_fill : (bit : Bits) (n : ℕ) (s : Bool) → term_in (Fill bit) n s ≡ one_of op.Sext n (Const bit)
in_fill bit n s =
    ap (λ (f : ℕ → Bool → Term). f n s) (fold_out-Pending (ℕ → Bool → Term) term_layer (Fill bit) ∙ ap (λ x. term_layer (map-Pending Pending (ℕ → Bool → Term) term_in x)) (outs-Fill bit))

pub in_changed : (change : Change) (a : Pending) (n : ℕ) (s : Bool) → term_in (Changed change a) n s ≡ one_of (change_by change) n (term_in a n s)
in_changed change a n s =
    ap (λ (f : ℕ → Bool → Term). f n s) (fold_out-Pending (ℕ → Bool → Term) term_layer (Changed change a) ∙ ap (λ x. term_layer (map-Pending Pending (ℕ → Bool → Term) term_in x)) (outs-Changed change a))

pub in_combined : (operation : Operation) (a b : Pending) (n : ℕ) (s : Bool) → term_in (Combined operation a b) n s ≡ combined_to operation n s (term_in a n s) (term_in b n s)
in_combined operation a b n s =
    ap (λ (f : ℕ → Bool → Term). f n s) (fold_out-Pending (ℕ → Bool → Term) term_layer (Combined operation a b) ∙ ap (λ x. term_layer (map-Pending Pending (ℕ → Bool → Term) term_in x)) (outs-Combined operation a b))

pub in_shifted : (shift : Shift) (a : Pending) (amount : Term) (n : ℕ) (s : Bool) → term_in (Shifted shift a amount) n s ≡ two_of (shift_by shift s) n (term_in a n s) amount
in_shifted shift a amount n s =
    ap (λ (f : ℕ → Bool → Term). f n s) (fold_out-Pending (ℕ → Bool → Term) term_layer (Shifted shift a amount) ∙ ap (λ x. term_layer (map-Pending Pending (ℕ → Bool → Term) term_in x)) (outs-Shifted shift a amount))

pub in_chosen : (bit : Term) (a b : Pending) (n : ℕ) (s : Bool) → term_in (Chosen bit a b) n s ≡ choice_of n bit (term_in a n s) (term_in b n s)
in_chosen bit a b n s =
    ap (λ (f : ℕ → Bool → Term). f n s) (fold_out-Pending (ℕ → Bool → Term) term_layer (Chosen bit a b) ∙ ap (λ x. term_layer (map-Pending Pending (ℕ → Bool → Term) term_in x)) (outs-Chosen bit a b))
