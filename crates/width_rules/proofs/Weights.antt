-- How many nodes the term of an expression has.
use Rattle.std.proofs.Common.{◌≡◌, ℕ, ◌+◌, ◌*◌, ◌≤◌, ◌==◌, Bool, true, false, ◌&&◌, List, max, Ok, Err, ℤ, pos, ◌+ℤ◌, ◌-ℤ◌, if◌then◌else◌, sym, ◌∙◌, ap, subst, arith}
use Rattle.std.specs.Prelude.{IfOk, nat_le}
use Rattle.bit_ops.specs.declared.value.Bits.{Bits}
use Rattle.bit_ops.specs.declared.value.TheConstants.{MAX_WIDTH}
use Rattle.bit_ops.specs.declared.operation.Op.{Op}
use Rattle.bit_ops.specs.declared.operation.Op.TheVariants as op
use Rattle.sv_base.specs.declared.kind.Kind.TheVariants as kind
use Rattle.sv_base.specs.declared.refusal.Place.{Place}
use Rattle.sv_base.specs.declared.operator.Unary.{Unary}
use Rattle.sv_base.specs.declared.operator.Unary.TheVariants as unary
use Rattle.sv_base.specs.declared.operator.Binary.{Binary}
use Rattle.sv_base.specs.declared.operator.Binary.TheVariants as binary
use Rattle.sv_base.specs.declared.operator.Function.{Function}
use Rattle.sv_base.specs.declared.operator.Function.TheVariants as function
use Rattle.sv_base.specs.Operators.{unary_of, binary_of, function_of}
use Rattle.sv_ast.specs.declared.expression.Id.{Id}
use Rattle.net_ir.specs.declared.design.Var.{Var}
use Rattle.net_ir.specs.declared.term.Term.{Term, Const, Pick}
use Rattle.const_eval.specs.declared.env.Bound.{Bound}
use Rattle.const_eval.specs.declared.env.Bound.TheVariants.{Constant, Variable}
use Rattle.const_eval.specs.declared.pending.Change.{Change}
use Rattle.const_eval.specs.declared.pending.Change.TheVariants as change
use Rattle.const_eval.specs.declared.pending.Operation.{Operation}
use Rattle.const_eval.specs.declared.pending.Operation.TheVariants as operation
use Rattle.const_eval.specs.declared.shape.Reduction.{Reduction}
use Rattle.const_eval.specs.declared.shape.Reduction.TheVariants as reduction
use Rattle.const_eval.specs.declared.shape.Comparison.{Comparison}
use Rattle.const_eval.specs.declared.shape.Comparison.TheVariants as comparison
use Rattle.const_eval.specs.Expressions.{refused_at, unnamed_at, or_refused}
use Rattle.const_eval.proofs.Judged.{ok_after}
use Rattle.width_rules.specs.declared.pending.Shift.{Shift}
use Rattle.width_rules.specs.declared.pending.Shift.TheVariants as shift
use Rattle.width_rules.specs.declared.pending.Pending.{Pending, Alone, Fill, Changed, Combined, Shifted, Chosen}
use Rattle.width_rules.specs.declared.pending.Pending.TheOpen as pending
use Rattle.width_rules.specs.declared.pending.Pending.TheOpen.{Pending-F}
use Rattle.width_rules.specs.declared.pending.Pending.TheViews.{roll-Pending}
use Rattle.width_rules.specs.declared.pending.Pending.TheVariants.{outs-Alone, outs-Fill, outs-Changed, outs-Combined, outs-Shifted, outs-Chosen}
use Rattle.width_rules.specs.declared.pending.Pending.TheFolds.{map-Pending, fold_out-Pending, fold-roll-Pending, ind-Pending}
use Rattle.width_rules.specs.declared.measured.Measured.{Measured}
use Rattle.width_rules.specs.declared.joined.Joined.{Joined}
use Rattle.width_rules.specs.declared.joined.Joined.TheVariants.{Nothing, Whole, TooWide}
use Rattle.width_rules.specs.declared.taking.Taking.{Taking}
use Rattle.width_rules.specs.declared.taking.Taking.TheVariants.{At, DownTo, UpFrom, DownFrom}
use Rattle.width_rules.specs.Nodes.{nodes_of}
use Rattle.width_rules.specs.Building.{one_of, two_of, extended_to, cut_to, change_by, shift_by, combined_to, turned_to, comparison_to, reduction_by}
use Rattle.width_rules.specs.Waiting.{term_layer, term_in, own_term, holds_term}
use Rattle.width_rules.specs.Operations as operations
use Rattle.width_rules.specs.Joining as joining
use Rattle.width_rules.specs.Values.{bits_of}
use Rattle.width_rules.specs.Selecting as selecting
use Rattle.width_rules.specs.code.Waiting.{weight_layer, weight_of, taking_weight}
use Rattle.width_rules.specs.code.Joining.{joined_nodes}
use Rattle.width_rules.proofs.Nodes.{nodes_const, nodes_read, nodes_pick, nodes_one, nodes_two, nodes_three}
use Rattle.const_eval.specs.Selects.{copies}
use Rattle.const_eval.specs.WholeNumbers.{whole_number_of}

-- ---- terms of operations

extended_nodes : (n : ℕ) (s : Bool) (w : ℕ) (t : Term) → nodes_of (extended_to n s w t) ≤ 1 + nodes_of t
extended_nodes n s w t = by_test (w == n) where
  by_test : (same : Bool) → nodes_of (if same then t else one_of (if s then op.Sext else op.Zext) n t) ≤ 1 + nodes_of t
  by_test true = omega arith
  by_test false = omega (arith, nodes_one (if s then op.Sext else op.Zext) n 0 t)

pub cut_nodes : (w n : ℕ) (t : Term) → nodes_of (cut_to w n t) ≤ 1 + nodes_of t
cut_nodes w n t = by_test (w == n) where
  by_test : (same : Bool) → nodes_of (if same then t else one_of op.Slice w t) ≤ 1 + nodes_of t
  by_test true = omega arith
  by_test false = omega (arith, nodes_one op.Slice w 0 t)

turned_nodes : (turn : Bool) (t : Term) → nodes_of (turned_to turn t) ≤ 1 + nodes_of t
turned_nodes true t = omega (arith, nodes_one op.Not 1 0 t)
turned_nodes false t = omega arith

combined_nodes : (o : Operation) (n : ℕ) (s : Bool) (a b : Term) → nodes_of (combined_to o n s a b) ≤ 2 + nodes_of a + nodes_of b
combined_nodes operation.Xnor n s a b = omega (arith, nodes_one op.Not n 0 (two_of op.Xor n a b), nodes_two op.Xor n 0 a b)
combined_nodes operation.Add n s a b = omega (arith, nodes_two op.Add n 0 a b)
combined_nodes operation.Subtract n s a b = omega (arith, nodes_two op.Sub n 0 a b)
combined_nodes operation.Multiply n s a b = omega (arith, nodes_two op.Mul n 0 a b)
combined_nodes operation.Divide n s a b = omega (arith, nodes_two (if s then op.DivS else op.DivU) n 0 a b)
combined_nodes operation.Remainder n s a b = omega (arith, nodes_two (if s then op.ModS else op.ModU) n 0 a b)
combined_nodes operation.And n s a b = omega (arith, nodes_two op.And n 0 a b)
combined_nodes operation.Or n s a b = omega (arith, nodes_two op.Or n 0 a b)
combined_nodes operation.Xor n s a b = omega (arith, nodes_two op.Xor n 0 a b)

comparison_nodes : (c : Comparison) (s : Bool) (a b : Term) → nodes_of (comparison_to c s a b) ≤ 1 + nodes_of a + nodes_of b
comparison_nodes comparison.Equal s a b = omega (arith, nodes_two op.Eq 1 0 a b)
comparison_nodes comparison.Less s a b = omega (arith, nodes_two (if s then op.LtS else op.LtU) 1 0 a b)
comparison_nodes comparison.Greater s a b = omega (arith, nodes_two (if s then op.LtS else op.LtU) 1 0 b a)

-- ---- pending terms

abbrev FitsWeight : Pending → Type 0
FitsWeight p = (n : ℕ) (s : Bool) → nodes_of (term_in p n s) ≤ weight_of p

abbrev Held : Type 0
Held = (p : Pending) × FitsWeight p

abbrev here : Pending-F Held → Pending-F Pending
here y = map-Pending Held Pending (λ p. p.0) y

layer_fits : (y : Pending-F Held) (n : ℕ) (s : Bool) →
    nodes_of (term_layer (map-Pending Pending (ℕ → Bool → Term) term_in (here y)) n s) ≤ weight_layer (map-Pending Pending ℕ weight_of (here y))
layer_fits (pending.Alone w t) n s = extended_nodes n s w t
layer_fits (pending.Fill bit) n s = omega (arith, nodes_one op.Sext n 0 (Const bit), nodes_const bit)
layer_fits (pending.Changed c a) n s = omega (arith, nodes_one (change_by c) n 0 (term_in a.0 n s), a.1 n s)
layer_fits (pending.Combined o a b) n s = omega (arith, combined_nodes o n s (term_in a.0 n s) (term_in b.0 n s), a.1 n s, b.1 n s)
layer_fits (pending.Shifted h a amount) n s = omega (arith, nodes_two (shift_by h s) n 0 (term_in a.0 n s) amount, a.1 n s)
layer_fits (pending.Chosen bit a b) n s = omega (arith, nodes_three op.Mux n 0 bit (term_in a.0 n s) (term_in b.0 n s), a.1 n s, b.1 n s)

rolled_fits : (y : Pending-F Held) → FitsWeight (roll-Pending (here y))
rolled_fits y n s =
    subst (λ (f : ℕ → Bool → Term). nodes_of (f n s) ≤ weight_of (roll-Pending (here y))) (sym (fold-roll-Pending (ℕ → Bool → Term) term_layer (here y)))
    (subst (λ w. nodes_of (term_layer (map-Pending Pending (ℕ → Bool → Term) term_in (here y)) n s) ≤ w) (sym (fold-roll-Pending ℕ weight_layer (here y))) (layer_fits y n s))

pub term_fits : (p : Pending) (n : ℕ) (s : Bool) → nodes_of (term_in p n s) ≤ weight_of p
term_fits = ind-Pending FitsWeight (λ x y is. subst (λ z. FitsWeight (roll-Pending z)) is (rolled_fits y))

own_fits : (m : Measured) → nodes_of (own_term m) ≤ weight_of m.pending
own_fits m = term_fits m.pending m.size m.signed

holds_fits : (m : Measured) → nodes_of (holds_term m) ≤ 1 + weight_of m.pending
holds_fits m = omega (arith, nodes_one op.RedOr 1 0 (own_term m), own_fits m)

-- ---- weights, one layer at a time

pub weight_alone : (w : ℕ) (t : Term) → weight_of (Alone w t) ≡ 1 + nodes_of t
weight_alone w t = fold_out-Pending ℕ weight_layer (Alone w t) ∙ ap (λ x. weight_layer (map-Pending Pending ℕ weight_of x)) (outs-Alone w t)

pub weight_fill : (bit : Bits) → weight_of (Fill bit) ≡ 2
weight_fill bit = fold_out-Pending ℕ weight_layer (Fill bit) ∙ ap (λ x. weight_layer (map-Pending Pending ℕ weight_of x)) (outs-Fill bit)

weight_changed : (c : Change) (a : Pending) → weight_of (Changed c a) ≡ 1 + weight_of a
weight_changed c a = fold_out-Pending ℕ weight_layer (Changed c a) ∙ ap (λ x. weight_layer (map-Pending Pending ℕ weight_of x)) (outs-Changed c a)

weight_combined : (o : Operation) (a b : Pending) → weight_of (Combined o a b) ≡ 2 + weight_of a + weight_of b
weight_combined o a b = fold_out-Pending ℕ weight_layer (Combined o a b) ∙ ap (λ x. weight_layer (map-Pending Pending ℕ weight_of x)) (outs-Combined o a b)

weight_shifted : (h : Shift) (a : Pending) (amount : Term) → weight_of (Shifted h a amount) ≡ 1 + weight_of a + nodes_of amount
weight_shifted h a amount = fold_out-Pending ℕ weight_layer (Shifted h a amount) ∙ ap (λ x. weight_layer (map-Pending Pending ℕ weight_of x)) (outs-Shifted h a amount)

weight_chosen : (bit : Term) (a b : Pending) → weight_of (Chosen bit a b) ≡ 1 + nodes_of bit + weight_of a + weight_of b
weight_chosen bit a b = fold_out-Pending ℕ weight_layer (Chosen bit a b) ∙ ap (λ x. weight_layer (map-Pending Pending ℕ weight_of x)) (outs-Chosen bit a b)

-- ---- operators

-- what was measured has so many nodes at most
abbrev pub Weighs : ℕ → Measured → Type 0
Weighs n m = weight_of m.pending ≤ n

changed_weighs : (c : Change) (a : Measured) → Weighs (3 + weight_of a.pending) (operations.changed c a)
changed_weighs c a = omega (arith, weight_changed c a.pending)

reduced_weighs : (r : Reduction) (turn : Bool) (a : Measured) → Weighs (3 + weight_of a.pending) (operations.reduced r turn a)
reduced_weighs r turn a =
    let t : Term = one_of (reduction_by r) 1 (own_term a) in
    omega (arith, weight_alone 1 (turned_to turn t), turned_nodes turn t, nodes_one (reduction_by r) 1 0 (own_term a), own_fits a)

denied_weighs : (a : Measured) → Weighs (3 + weight_of a.pending) (operations.denied a)
denied_weighs a = omega (arith, weight_alone 1 (one_of op.Not 1 (holds_term a)), nodes_one op.Not 1 0 (holds_term a), holds_fits a)

unary_weighs : (o : Unary) (a : Measured) → Weighs (3 + weight_of a.pending) (operations.unary_by o a)
unary_weighs unary.Plus a = omega arith
unary_weighs unary.Minus a = changed_weighs change.Negate a
unary_weighs unary.LogicalNot a = denied_weighs a
unary_weighs unary.Not a = changed_weighs change.Invert a
unary_weighs unary.ReduceAnd a = reduced_weighs reduction.And false a
unary_weighs unary.ReduceNand a = reduced_weighs reduction.And true a
unary_weighs unary.ReduceOr a = reduced_weighs reduction.Or false a
unary_weighs unary.ReduceNor a = reduced_weighs reduction.Or true a
unary_weighs unary.ReduceXor a = reduced_weighs reduction.Xor false a
unary_weighs unary.ReduceXnor a = reduced_weighs reduction.Xor true a

pub unary_on_weighs : (sign : Id) (a : Measured) → IfOk (operations.unary_on sign a) (Weighs (3 + weight_of a.pending))
unary_on_weighs sign a =
    ok_after (Weighs (3 + weight_of a.pending)) (or_refused (refused_at kind.Unexpected sign) (unary_of sign.name)) (λ found. Ok (operations.unary_by found a)) (λ found. unary_weighs found a)

abbrev both : Measured → Measured → ℕ
both a b = 4 + weight_of a.pending + weight_of b.pending

combined_weighs : (o : Operation) (a b : Measured) → Weighs (both a b) (operations.combined o a b)
combined_weighs o a b = omega (arith, weight_combined o a.pending b.pending)

shifted_weighs : (h : Shift) (a b : Measured) → Weighs (both a b) (operations.shifted h a b)
shifted_weighs h a b = omega (arith, weight_shifted h a.pending (own_term b), own_fits b)

compared_weighs : (c : Comparison) (turn : Bool) (a b : Measured) → Weighs (both a b) (operations.compared c turn a b)
compared_weighs c turn a b =
    let n = max a.size b.size in
    let s = a.signed && b.signed in
    let t : Term = comparison_to c s (term_in a.pending n s) (term_in b.pending n s) in
    omega (arith, weight_alone 1 (turned_to turn t), turned_nodes turn t, comparison_nodes c s (term_in a.pending n s) (term_in b.pending n s), term_fits a.pending n s, term_fits b.pending n s)

both_weigh : (o : Op) (a b : Measured) → Weighs (both a b) (operations.both_hold o a b)
both_weigh o a b =
    omega (arith, weight_alone 1 (two_of o 1 (holds_term a) (holds_term b)), nodes_two o 1 0 (holds_term a) (holds_term b), holds_fits a, holds_fits b)

binary_weighs : (o : Binary) (sign : Id) (a b : Measured) → IfOk (or_refused (refused_at kind.NotConstant sign) (operations.binary_by o a b)) (Weighs (both a b))
binary_weighs binary.Power sign a b = tt
binary_weighs binary.Multiply sign a b = combined_weighs operation.Multiply a b
binary_weighs binary.Divide sign a b = combined_weighs operation.Divide a b
binary_weighs binary.Remainder sign a b = combined_weighs operation.Remainder a b
binary_weighs binary.Add sign a b = combined_weighs operation.Add a b
binary_weighs binary.Subtract sign a b = combined_weighs operation.Subtract a b
binary_weighs binary.ShiftLeft sign a b = shifted_weighs shift.Left a b
binary_weighs binary.ShiftRight sign a b = shifted_weighs shift.Right a b
binary_weighs binary.ArithmeticShiftRight sign a b = shifted_weighs shift.ArithmeticRight a b
binary_weighs binary.Less sign a b = compared_weighs comparison.Less false a b
binary_weighs binary.AtMost sign a b = compared_weighs comparison.Greater true a b
binary_weighs binary.Greater sign a b = compared_weighs comparison.Greater false a b
binary_weighs binary.AtLeast sign a b = compared_weighs comparison.Less true a b
binary_weighs binary.Equal sign a b = compared_weighs comparison.Equal false a b
binary_weighs binary.Unequal sign a b = compared_weighs comparison.Equal true a b
binary_weighs binary.And sign a b = combined_weighs operation.And a b
binary_weighs binary.Xor sign a b = combined_weighs operation.Xor a b
binary_weighs binary.Xnor sign a b = combined_weighs operation.Xnor a b
binary_weighs binary.Or sign a b = combined_weighs operation.Or a b
binary_weighs binary.LogicalAnd sign a b = both_weigh op.And a b
binary_weighs binary.LogicalOr sign a b = both_weigh op.Or a b

pub binary_on_weighs : (sign : Id) (a b : Measured) → IfOk (operations.binary_on sign a b) (Weighs (4 + weight_of a.pending + weight_of b.pending))
binary_on_weighs sign a b =
    ok_after (Weighs (both a b)) (or_refused (refused_at kind.Unexpected sign) (binary_of sign.name)) (λ found. or_refused (refused_at kind.NotConstant sign) (operations.binary_by found a b))
    (λ found. binary_weighs found sign a b)

pub chosen_weighs : (c a b : Measured) → Weighs (2 + weight_of c.pending + weight_of a.pending + weight_of b.pending) (operations.chosen c a b)
chosen_weighs c a b = omega (arith, weight_chosen (holds_term c) a.pending b.pending, holds_fits c)

cast_weighs : (signed : Bool) (a : Measured) → Weighs (1 + weight_of a.pending) (operations.cast signed a)
cast_weighs signed a = omega (arith, weight_alone a.size (own_term a), own_fits a)

function_weighs : (f : Function) (name : Id) (a : Measured) → IfOk (or_refused (refused_at kind.NotConstant name) (operations.function_by f a)) (Weighs (1 + weight_of a.pending))
function_weighs function.Signed name a = cast_weighs true a
function_weighs function.Unsigned name a = cast_weighs false a
function_weighs function.Logarithm name a = tt

pub system_on_weighs : (name : Id) (a : Measured) → IfOk (operations.system_on name a) (Weighs (1 + weight_of a.pending))
system_on_weighs name a =
    ok_after (Weighs (1 + weight_of a.pending)) (or_refused (refused_at kind.Unexpected name) (function_of name.name)) (λ found. or_refused (refused_at kind.NotConstant name) (operations.function_by found a))
    (λ found. function_weighs found name a)

-- ---- parts that are joined

pub with_nodes : (j : Joined) (a : Measured) → joined_nodes (joining.joined_with j a) ≤ 1 + joined_nodes j + weight_of a.pending
with_nodes Nothing a = omega (arith, own_fits a)
with_nodes (Whole w above) a = by_test (nat_le (w + a.size) MAX_WIDTH) where
  by_test : (b : Bool) → joined_nodes (if b then Whole (w + a.size) (two_of op.Concat (w + a.size) above (own_term a)) else TooWide) ≤ 1 + nodes_of above + weight_of a.pending
  by_test true = omega (arith, nodes_two op.Concat (w + a.size) 0 above (own_term a), own_fits a)
  by_test false = omega arith
with_nodes TooWide a = omega arith

pub concatenation_weighs : (place : Place) (j : Joined) → IfOk (joining.concatenation place j) (Weighs (1 + joined_nodes j))
concatenation_weighs place Nothing = tt
concatenation_weighs place (Whole w t) = omega (arith, weight_alone w t)
concatenation_weighs place TooWide = tt

repetition_weighs : (count w : ℕ) (t : Term) → Weighs (4 + nodes_of t) (joining.repetition count w t)
repetition_weighs count w t =
    let n = count * w in
    let wide : Term = extended_to n false w t in
    let ones : Bits = bits_of n (copies count w 1) in
    omega (arith, weight_alone n (two_of op.Mul n wide (Const ones)), nodes_two op.Mul n 0 wide (Const ones), nodes_const ones, extended_nodes n false w t)

copied_weighs : (place : Place) (count : ℕ) (j : Joined) → IfOk (joining.copied place count j) (Weighs (4 + joined_nodes j))
copied_weighs place count Nothing = tt
copied_weighs place count (Whole w t) = by_test (joining.fits count w) where
  by_test : (b : Bool) → IfOk (if b then Ok (joining.repetition count w t) else Err (unnamed_at kind.TooWide place)) (Weighs (4 + nodes_of t))
  by_test true = repetition_weighs count w t
  by_test false = tt
copied_weighs place count TooWide = tt

pub repeated_weighs : (place : Place) (count : ℕ) (j : Joined) → IfOk (joining.repeated place count j) (Weighs (4 + joined_nodes j))
repeated_weighs place count j = by_test (count == 0) where
  by_test : (b : Bool) → IfOk (if b then Err (unnamed_at kind.BadRange place) else joining.copied place count j) (Weighs (4 + joined_nodes j))
  by_test true = tt
  by_test false = copied_weighs place count j

-- ---- names and selects

name_nodes : (name : Id) (bound : Bound) → nodes_of (selecting.name_term name bound) ≡ 1
name_nodes name (Constant value low) = nodes_const value.value
name_nodes name (Variable x) = nodes_read x name.place

pub whole_weighs : (vars : List Var) (name : Id) (bound : Bound) → Weighs 2 (selecting.whole vars name bound)
whole_weighs vars name bound = omega (arith, weight_alone (selecting.shape_of vars bound).size (selecting.name_term name bound), name_nodes name bound)

taken_weighs : (z : ℤ) (vars : List Var) (name : Id) (bound : Bound) (at : Term) (signed down : Bool) (n : ℕ) → nodes_of at ≤ n →
    IfOk (selecting.taken z vars name bound at signed down) (Weighs (4 + n))
taken_weighs z vars name bound at signed down n small =
    ok_after (Weighs (4 + n)) (selecting.taken_width z (selecting.shape_of vars bound) name) (λ w. Ok (selecting.picked vars name bound at signed down w)) (λ w.
    omega (
      arith,
      small,
      name_nodes name bound,
      weight_alone w (Pick (selecting.name_term name bound) (selecting.shape_of vars bound).low at signed down w),
      nodes_pick (selecting.name_term name bound) (selecting.shape_of vars bound).low at signed down w,
    ))

pub take_weighs : (vars : List Var) (name : Id) (bound : Bound) (t : Taking) → IfOk (selecting.take vars name bound t) (Weighs (4 + taking_weight t))
take_weighs vars name bound (At a) = taken_weighs (pos 1) vars name bound (own_term a) a.signed false (weight_of a.pending) (own_fits a)
take_weighs vars name bound (DownTo a b) =
    ok_after (Weighs (4 + 0)) (selecting.taken_width (whole_number_of a -ℤ whole_number_of b +ℤ pos 1) (selecting.shape_of vars bound) name) (λ w. Ok (selecting.picked vars name bound (Const b.value) b.signed false w)) (λ w.
    omega (
      arith,
      nodes_const b.value,
      name_nodes name bound,
      weight_alone w (Pick (selecting.name_term name bound) (selecting.shape_of vars bound).low (Const b.value) b.signed false w),
      nodes_pick (selecting.name_term name bound) (selecting.shape_of vars bound).low (Const b.value) b.signed false w,
    ))
take_weighs vars name bound (UpFrom a b) = taken_weighs (whole_number_of b) vars name bound (own_term a) a.signed false (weight_of a.pending) (own_fits a)
take_weighs vars name bound (DownFrom a b) = taken_weighs (whole_number_of b) vars name bound (own_term a) a.signed true (weight_of a.pending) (own_fits a)
