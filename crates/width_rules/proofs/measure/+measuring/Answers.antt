use Rattle.std.proofs.Common.{map, Ok, Err, refl, ◌∙◌, ap}
use Rattle.std.proofs.lemmas.Result.{err_from_is_err_and}
use Rattle.sv_base.specs.declared.fault.Fault.TheVariants.{Refused}
use Rattle.const_eval.specs.Env.{bound_of}
use Rattle.const_eval.specs.Expressions as expressions
use Rattle.const_eval.specs.Expressions.{◌>>=◌}
use Rattle.const_eval.specs.WholeNumbers.{whole_number_of, count_of}
use Rattle.width_rules.specs.declared.joined.Joined.TheVariants.{Nothing}
use Rattle.width_rules.specs.declared.taking.Taking.TheVariants as taking
use Rattle.width_rules.specs.Operations.{unary_on, binary_on, chosen, system_on}
use Rattle.width_rules.specs.Joining.{concatenation, repeated}
use Rattle.width_rules.specs.Selecting.{bound_by}
use Rattle.width_rules.specs.Built.{constants_of, built_of, built_select_of, measured_of, joined_after, selected}
use Rattle.width_rules.proofs.Opened as opened
use Rattle.width_rules.proofs.Opened.{told_behind, told_first}
use Rattle.width_rules.proofs.measure.+measuring.Goals as goal

pub join-returns-in_err-part : goal.join-returns-in_err-part
join-returns-in_err-part t c =
    let lookup = bound_of c.args.scope.now.names in
    let vars = c.args.scope.now.vars in
    let e = err_from_is_err_and c.from_residual.result c.from_residual.ensures.1 in
    record {
      built = rw (e.1, e.2) (opened.part_refused lookup vars (joined_after Nothing (map (built_of lookup vars) c.args.parts.now)) c.loop-part.joined c.in_err-part.field-0.0 c.args.parts.now c.loop-part.part-index c.part-item.result
          c.loop-part-test.true c.part-item.is c.loop-part.invariant c.in_err-part.ensures.built);
    }

pub join-loop-part-preserved : goal.join-loop-part-preserved
join-loop-part-preserved t c =
    let lookup = bound_of c.args.scope.now.names in
    let vars = c.args.scope.now.vars in
    opened.goes_on lookup vars (joined_after Nothing (map (built_of lookup vars) c.args.parts.now)) c.loop-part.joined c.in_ok-joined.joined c.in_ok-part.part c.args.parts.now c.loop-part.part-index c.part-item.result
    c.loop-part-test.true c.part-item.is c.loop-part.invariant c.in_ok-part.ensures.built c.in_ok-joined.ensures.built

pub join-returns : goal.join-returns
join-returns t c =
    let lookup = bound_of c.args.scope.now.names in
    let vars = c.args.scope.now.vars in
    record { built = opened.all_joined lookup vars (joined_after Nothing (map (built_of lookup vars) c.args.parts.now)) c.loop-part.joined c.args.parts.now c.loop-part.part-index c.loop-part-test.false c.loop-part.invariant }

pub measure-returns-in_err-a-in-Unary : goal.measure-returns-in_err-a-in-Unary
measure-returns-in_err-a-in-Unary t c =
    let lookup = bound_of c.args.scope.now.names in
    let vars = c.args.scope.now.vars in
    let e = err_from_is_err_and c.from_residual-in_err-a-in-Unary.result c.from_residual-in_err-a-in-Unary.ensures.1 in
    record { built = rw (e.1, e.2, c.in-Unary.is, opened.measured_unary lookup vars c.in-Unary.sign c.in-Unary.operand) (told_first c.in_err-a-in-Unary.field-0.0 (measured_of lookup vars c.in-Unary.operand) (λ k. unary_on c.in-Unary.sign k) (rw (c.get.ensures) at c.in_err-a-in-Unary.ensures.built)) }

pub measure-returns-in_ok-a-in-Unary : goal.measure-returns-in_ok-a-in-Unary
measure-returns-in_ok-a-in-Unary t c =
    let lookup = bound_of c.args.scope.now.names in
    let vars = c.args.scope.now.vars in
    record {
      built = rw (c.in-Unary.is, opened.measured_unary lookup vars c.in-Unary.sign c.in-Unary.operand) (told_behind c.in_ok-a-in-Unary.a (measured_of lookup vars c.in-Unary.operand) (λ k. unary_on c.in-Unary.sign k) c.unary_by.result (rw (c.get.ensures) at c.in_ok-a-in-Unary.ensures.built)
          (c.unary_by.ensures.built));
    }

pub measure-returns-in_err-a-in-System : goal.measure-returns-in_err-a-in-System
measure-returns-in_err-a-in-System t c =
    let lookup = bound_of c.args.scope.now.names in
    let vars = c.args.scope.now.vars in
    let e = err_from_is_err_and c.from_residual-in_err-a-in-System.result c.from_residual-in_err-a-in-System.ensures.1 in
    record { built = rw (e.1, e.2, c.in-System.is, opened.measured_system lookup vars c.in-System.name c.in-System.argument) (told_first c.in_err-a-in-System.field-0.0 (measured_of lookup vars c.in-System.argument) (λ k. system_on c.in-System.name k) (rw (c.get-in-System.ensures) at c.in_err-a-in-System.ensures.built)) }

pub measure-returns-in_ok-a-in-System : goal.measure-returns-in_ok-a-in-System
measure-returns-in_ok-a-in-System t c =
    let lookup = bound_of c.args.scope.now.names in
    let vars = c.args.scope.now.vars in
    record {
      built = rw (c.in-System.is, opened.measured_system lookup vars c.in-System.name c.in-System.argument) (told_behind c.in_ok-a-in-System.a (measured_of lookup vars c.in-System.argument) (λ k. system_on c.in-System.name k) c.function_by.result (rw (c.get-in-System.ensures) at c.in_ok-a-in-System.ensures.built)
          (c.function_by.ensures.built));
    }

pub measure-returns-in_err-a-in-Binary : goal.measure-returns-in_err-a-in-Binary
measure-returns-in_err-a-in-Binary t c =
    let lookup = bound_of c.args.scope.now.names in
    let vars = c.args.scope.now.vars in
    let e = err_from_is_err_and c.from_residual-in_err-a-in-Binary.result c.from_residual-in_err-a-in-Binary.ensures.1 in
    record { built = rw (e.1, e.2, c.in-Binary.is, opened.measured_binary lookup vars c.in-Binary.sign c.in-Binary.left c.in-Binary.right) (told_first c.in_err-a-in-Binary.field-0.0 (measured_of lookup vars c.in-Binary.left) (λ k. measured_of lookup vars c.in-Binary.right >>= λ l. binary_on c.in-Binary.sign k l) (rw (c.get-in-Binary.ensures) at c.in_err-a-in-Binary.ensures.built)) }

pub measure-returns-in_err-b-in-Binary : goal.measure-returns-in_err-b-in-Binary
measure-returns-in_err-b-in-Binary t c =
    let lookup = bound_of c.args.scope.now.names in
    let vars = c.args.scope.now.vars in
    let e = err_from_is_err_and c.from_residual-in_err-b-in-Binary.result c.from_residual-in_err-b-in-Binary.ensures.1 in
    record {
      built = rw (e.1, e.2, c.in-Binary.is, opened.measured_binary lookup vars c.in-Binary.sign c.in-Binary.left c.in-Binary.right) (told_behind c.in_ok-a-in-Binary.a (measured_of lookup vars c.in-Binary.left) (λ k. measured_of lookup vars c.in-Binary.right >>= λ l. binary_on c.in-Binary.sign k l) (Err c.in_err-b-in-Binary.field-0.0) (rw (c.get-in-Binary.ensures) at c.in_ok-a-in-Binary.ensures.built)
          (told_first c.in_err-b-in-Binary.field-0.0 (measured_of lookup vars c.in-Binary.right) (λ l. binary_on c.in-Binary.sign c.in_ok-a-in-Binary.a l) (rw (c.get-in-Binary-2.ensures) at c.in_err-b-in-Binary.ensures.built)));
    }

pub measure-returns-in_ok-b-in-Binary : goal.measure-returns-in_ok-b-in-Binary
measure-returns-in_ok-b-in-Binary t c =
    let lookup = bound_of c.args.scope.now.names in
    let vars = c.args.scope.now.vars in
    record {
      built = rw (c.in-Binary.is, opened.measured_binary lookup vars c.in-Binary.sign c.in-Binary.left c.in-Binary.right) (told_behind c.in_ok-a-in-Binary.a (measured_of lookup vars c.in-Binary.left) (λ k. measured_of lookup vars c.in-Binary.right >>= λ l. binary_on c.in-Binary.sign k l) c.binary_by.result (rw (c.get-in-Binary.ensures) at c.in_ok-a-in-Binary.ensures.built)
          (told_behind c.in_ok-b-in-Binary.b (measured_of lookup vars c.in-Binary.right) (λ l. binary_on c.in-Binary.sign c.in_ok-a-in-Binary.a l) c.binary_by.result (rw (c.get-in-Binary-2.ensures) at c.in_ok-b-in-Binary.ensures.built)
          (c.binary_by.ensures.built)));
    }

pub measure-returns-in_err-condition-in-Choice : goal.measure-returns-in_err-condition-in-Choice
measure-returns-in_err-condition-in-Choice t c =
    let lookup = bound_of c.args.scope.now.names in
    let vars = c.args.scope.now.vars in
    let e = err_from_is_err_and c.from_residual-in_err-condition-in-Choice.result c.from_residual-in_err-condition-in-Choice.ensures.1 in
    record { built = rw (e.1, e.2, c.in-Choice.is, opened.measured_choice lookup vars c.in-Choice.field-0 c.in-Choice.test c.in-Choice.first c.in-Choice.second) (told_first c.in_err-condition-in-Choice.field-0.0 (measured_of lookup vars c.in-Choice.test) (λ t. measured_of lookup vars c.in-Choice.first >>= λ k. measured_of lookup vars c.in-Choice.second >>= λ l. Ok (chosen t k l)) (rw (c.get-in-Choice.ensures) at c.in_err-condition-in-Choice.ensures.built)) }

pub measure-returns-in_err-a-in-Choice : goal.measure-returns-in_err-a-in-Choice
measure-returns-in_err-a-in-Choice t c =
    let lookup = bound_of c.args.scope.now.names in
    let vars = c.args.scope.now.vars in
    let e = err_from_is_err_and c.from_residual-in_err-a-in-Choice.result c.from_residual-in_err-a-in-Choice.ensures.1 in
    record {
      built = rw (e.1, e.2, c.in-Choice.is, opened.measured_choice lookup vars c.in-Choice.field-0 c.in-Choice.test c.in-Choice.first c.in-Choice.second) (told_behind c.in_ok-condition-in-Choice.condition (measured_of lookup vars c.in-Choice.test) (λ t. measured_of lookup vars c.in-Choice.first >>= λ k. measured_of lookup vars c.in-Choice.second >>= λ l. Ok (chosen t k l)) (Err c.in_err-a-in-Choice.field-0.0) (rw (c.get-in-Choice.ensures) at c.in_ok-condition-in-Choice.ensures.built)
          (told_first c.in_err-a-in-Choice.field-0.0 (measured_of lookup vars c.in-Choice.first) (λ k. measured_of lookup vars c.in-Choice.second >>= λ l. Ok (chosen c.in_ok-condition-in-Choice.condition k l)) (rw (c.get-in-Choice-2.ensures) at c.in_err-a-in-Choice.ensures.built)));
    }

pub measure-returns-in_err-b-in-Choice : goal.measure-returns-in_err-b-in-Choice
measure-returns-in_err-b-in-Choice t c =
    let lookup = bound_of c.args.scope.now.names in
    let vars = c.args.scope.now.vars in
    let e = err_from_is_err_and c.from_residual-in_err-b-in-Choice.result c.from_residual-in_err-b-in-Choice.ensures.1 in
    record {
      built = rw (e.1, e.2, c.in-Choice.is, opened.measured_choice lookup vars c.in-Choice.field-0 c.in-Choice.test c.in-Choice.first c.in-Choice.second) (told_behind c.in_ok-condition-in-Choice.condition (measured_of lookup vars c.in-Choice.test) (λ t. measured_of lookup vars c.in-Choice.first >>= λ k. measured_of lookup vars c.in-Choice.second >>= λ l. Ok (chosen t k l)) (Err c.in_err-b-in-Choice.field-0.0) (rw (c.get-in-Choice.ensures) at c.in_ok-condition-in-Choice.ensures.built)
          (told_behind c.in_ok-a-in-Choice.a (measured_of lookup vars c.in-Choice.first) (λ k. measured_of lookup vars c.in-Choice.second >>= λ l. Ok (chosen c.in_ok-condition-in-Choice.condition k l)) (Err c.in_err-b-in-Choice.field-0.0) (rw (c.get-in-Choice-2.ensures) at c.in_ok-a-in-Choice.ensures.built)
          (told_first c.in_err-b-in-Choice.field-0.0 (measured_of lookup vars c.in-Choice.second) (λ l. Ok (chosen c.in_ok-condition-in-Choice.condition c.in_ok-a-in-Choice.a l)) (rw (c.get-in-Choice-3.ensures) at c.in_err-b-in-Choice.ensures.built))));
    }

pub measure-returns-in_ok-chosen-in-Choice : goal.measure-returns-in_ok-chosen-in-Choice
measure-returns-in_ok-chosen-in-Choice t c =
    let lookup = bound_of c.args.scope.now.names in
    let vars = c.args.scope.now.vars in
    record {
      built = rw (c.in-Choice.is, opened.measured_choice lookup vars c.in-Choice.field-0 c.in-Choice.test c.in-Choice.first c.in-Choice.second) (told_behind c.in_ok-condition-in-Choice.condition (measured_of lookup vars c.in-Choice.test) (λ t. measured_of lookup vars c.in-Choice.first >>= λ k. measured_of lookup vars c.in-Choice.second >>= λ l. Ok (chosen t k l)) (Ok c.in_ok-chosen-in-Choice.field-0) (rw (c.get-in-Choice.ensures) at c.in_ok-condition-in-Choice.ensures.built)
          (told_behind c.in_ok-a-in-Choice.a (measured_of lookup vars c.in-Choice.first) (λ k. measured_of lookup vars c.in-Choice.second >>= λ l. Ok (chosen c.in_ok-condition-in-Choice.condition k l)) (Ok c.in_ok-chosen-in-Choice.field-0) (rw (c.get-in-Choice-2.ensures) at c.in_ok-a-in-Choice.ensures.built)
          (told_behind c.in_ok-b-in-Choice.b (measured_of lookup vars c.in-Choice.second) (λ l. Ok (chosen c.in_ok-condition-in-Choice.condition c.in_ok-a-in-Choice.a l)) (Ok c.in_ok-chosen-in-Choice.field-0) (rw (c.get-in-Choice-3.ensures) at c.in_ok-b-in-Choice.ensures.built)
          (c.in_ok-chosen-in-Choice.ensures.built))));
    }

pub measure-returns-in_err-joined-in-Concat : goal.measure-returns-in_err-joined-in-Concat
measure-returns-in_err-joined-in-Concat t c =
    let lookup = bound_of c.args.scope.now.names in
    let vars = c.args.scope.now.vars in
    let e = err_from_is_err_and c.from_residual-in_err-joined-in-Concat.result c.from_residual-in_err-joined-in-Concat.ensures.1 in
    record { built = rw (e.1, e.2, c.in-Concat.is, opened.measured_concat lookup vars c.in-Concat.place c.in-Concat.parts) (told_first c.in_err-joined-in-Concat.field-0.0 (joined_after Nothing (map (built_of lookup vars) c.in-Concat.parts)) (λ j. concatenation c.in-Concat.place j) (rw (c.as_slice-in-Concat.ensures) at c.in_err-joined-in-Concat.ensures.built)) }

pub measure-returns-in_ok-joined-in-Concat : goal.measure-returns-in_ok-joined-in-Concat
measure-returns-in_ok-joined-in-Concat t c =
    let lookup = bound_of c.args.scope.now.names in
    let vars = c.args.scope.now.vars in
    record {
      built = rw (c.in-Concat.is, opened.measured_concat lookup vars c.in-Concat.place c.in-Concat.parts) (told_behind c.in_ok-joined-in-Concat.joined (joined_after Nothing (map (built_of lookup vars) c.in-Concat.parts)) (λ j. concatenation c.in-Concat.place j) c.concatenation.result (rw (c.as_slice-in-Concat.ensures) at c.in_ok-joined-in-Concat.ensures.built)
          (c.concatenation.ensures.built));
    }

pub measure-returns-in_err-count-in-Repeat : goal.measure-returns-in_err-count-in-Repeat
measure-returns-in_err-count-in-Repeat t c =
    let lookup = bound_of c.args.scope.now.names in
    let vars = c.args.scope.now.vars in
    let e = err_from_is_err_and c.from_residual-in_err-count-in-Repeat.result c.from_residual-in_err-count-in-Repeat.ensures.1 in
    record { built = rw (e.1, e.2, c.in-Repeat.is, opened.measured_repeat lookup vars c.in-Repeat.place c.in-Repeat.count c.in-Repeat.parts) (told_first c.in_err-count-in-Repeat.field-0.0 (opened.needed lookup vars c.in-Repeat.count) (λ n. (joined_after Nothing (map (built_of lookup vars) c.in-Repeat.parts)) >>= λ j. repeated c.in-Repeat.place (count_of (whole_number_of n)) j) (rw (c.get-in-Repeat.ensures) at c.in_err-count-in-Repeat.ensures.built)) }

pub measure-returns-in_err-joined-in-Repeat : goal.measure-returns-in_err-joined-in-Repeat
measure-returns-in_err-joined-in-Repeat t c =
    let lookup = bound_of c.args.scope.now.names in
    let vars = c.args.scope.now.vars in
    let e = err_from_is_err_and c.from_residual-in_err-joined-in-Repeat.result c.from_residual-in_err-joined-in-Repeat.ensures.1 in
    record {
      built = rw (e.1, e.2, c.in-Repeat.is, opened.measured_repeat lookup vars c.in-Repeat.place c.in-Repeat.count c.in-Repeat.parts) (told_behind c.in_ok-count-in-Repeat.count (opened.needed lookup vars c.in-Repeat.count) (λ n. (joined_after Nothing (map (built_of lookup vars) c.in-Repeat.parts)) >>= λ j. repeated c.in-Repeat.place (count_of (whole_number_of n)) j) (Err c.in_err-joined-in-Repeat.field-0.0) (rw (c.get-in-Repeat.ensures) at c.in_ok-count-in-Repeat.ensures.built)
          (told_first c.in_err-joined-in-Repeat.field-0.0 (joined_after Nothing (map (built_of lookup vars) c.in-Repeat.parts)) (λ j. repeated c.in-Repeat.place (count_of (whole_number_of c.in_ok-count-in-Repeat.count)) j) (rw (c.as_slice-in-Repeat.ensures) at c.in_err-joined-in-Repeat.ensures.built)));
    }

pub measure-returns-in_ok-joined-in-Repeat : goal.measure-returns-in_ok-joined-in-Repeat
measure-returns-in_ok-joined-in-Repeat t c =
    let lookup = bound_of c.args.scope.now.names in
    let vars = c.args.scope.now.vars in
    record {
      built = rw (c.in-Repeat.is, opened.measured_repeat lookup vars c.in-Repeat.place c.in-Repeat.count c.in-Repeat.parts) (told_behind c.in_ok-count-in-Repeat.count (opened.needed lookup vars c.in-Repeat.count) (λ n. (joined_after Nothing (map (built_of lookup vars) c.in-Repeat.parts)) >>= λ j. repeated c.in-Repeat.place (count_of (whole_number_of n)) j) c.repeated.result (rw (c.get-in-Repeat.ensures) at c.in_ok-count-in-Repeat.ensures.built)
          (told_behind c.in_ok-joined-in-Repeat.joined (joined_after Nothing (map (built_of lookup vars) c.in-Repeat.parts)) (λ j. repeated c.in-Repeat.place (count_of (whole_number_of c.in_ok-count-in-Repeat.count)) j) c.repeated.result (rw (c.as_slice-in-Repeat.ensures) at c.in_ok-joined-in-Repeat.ensures.built)
          (rw (c.number.ensures) at c.repeated.ensures.built)));
    }

pub measure-returns-in_err-bound-in-Read : goal.measure-returns-in_err-bound-in-Read
measure-returns-in_err-bound-in-Read t c =
    let lookup = bound_of c.args.scope.now.names in
    let vars = c.args.scope.now.vars in
    let e = err_from_is_err_and c.from_residual.result c.from_residual.ensures.1 in
    record { built = rw (e.1, e.2, c.in-Read.is, opened.measured_read lookup vars c.in-Read.name c.in-Read.selects) (told_first c.in_err-bound-in-Read.field-0.0 (bound_by lookup c.in-Read.name) (λ b. selected vars c.in-Read.name b (map (built_select_of lookup vars) c.in-Read.selects)) c.in_err-bound-in-Read.ensures.built) }

pub measure-returns-in_ok-bound-in-Read : goal.measure-returns-in_ok-bound-in-Read
measure-returns-in_ok-bound-in-Read t c =
    let lookup = bound_of c.args.scope.now.names in
    let vars = c.args.scope.now.vars in
    record {
      built = rw (c.in-Read.is, opened.measured_read lookup vars c.in-Read.name c.in-Read.selects) (told_behind c.in_ok-bound-in-Read.bound (bound_by lookup c.in-Read.name) (λ b. selected vars c.in-Read.name b (map (built_select_of lookup vars) c.in-Read.selects)) c.read.result c.in_ok-bound-in-Read.ensures.built
          (rw (c.as_slice.ensures) at c.read.ensures.built));
    }

pub measure-returns-in-Number : goal.measure-returns-in-Number
measure-returns-in-Number t c =
    let lookup = bound_of c.args.scope.now.names in
    let vars = c.args.scope.now.vars in
    record { built = rw (c.in-Number.is, opened.measured_number lookup vars c.in-Number.field-0) (c.literal.ensures.built c.in-Number.field-0 c.in-Number.is) }

pub measure-returns-in-Fill : goal.measure-returns-in-Fill
measure-returns-in-Fill t c =
    let lookup = bound_of c.args.scope.now.names in
    let vars = c.args.scope.now.vars in
    record { built = rw (c.in-Fill.is, opened.measured_fill lookup vars c.in-Fill.field-0) (c.filled.ensures.built c.in-Fill.field-0 c.in-Fill.is) }

pub positions-returns-in_err-at-in-Bit : goal.positions-returns-in_err-at-in-Bit
positions-returns-in_err-at-in-Bit t c =
    let lookup = bound_of c.args.scope.now.names in
    let vars = c.args.scope.now.vars in
    let e = err_from_is_err_and c.from_residual.result c.from_residual.ensures.1 in
    record { built = rw (e.1, e.2, c.in-Bit.is, opened.taking_bit lookup vars c.in-Bit.field-0 c.in-Bit.at) (told_first c.in_err-at-in-Bit.field-0.0 (measured_of lookup vars c.in-Bit.at) (λ p. Ok (taking.At p)) (rw (c.get.ensures) at c.in_err-at-in-Bit.ensures.built)) }

pub positions-returns-in_ok-at-in-Bit : goal.positions-returns-in_ok-at-in-Bit
positions-returns-in_ok-at-in-Bit t c =
    let lookup = bound_of c.args.scope.now.names in
    let vars = c.args.scope.now.vars in
    record {
      built = rw (c.in-Bit.is, opened.taking_bit lookup vars c.in-Bit.field-0 c.in-Bit.at) (told_behind c.in_ok-at-in-Bit.at (measured_of lookup vars c.in-Bit.at) (λ p. Ok (taking.At p)) (Ok (taking.At c.in_ok-at-in-Bit.at)) (rw (c.get.ensures) at c.in_ok-at-in-Bit.ensures.built)
          (refl));
    }

pub positions-returns-in_err-high-in-Part : goal.positions-returns-in_err-high-in-Part
positions-returns-in_err-high-in-Part t c =
    let lookup = bound_of c.args.scope.now.names in
    let vars = c.args.scope.now.vars in
    let e = err_from_is_err_and c.from_residual-in_err-high-in-Part.result c.from_residual-in_err-high-in-Part.ensures.1 in
    record { built = rw (e.1, e.2, c.in-Part.is, opened.taking_part lookup vars c.in-Part.field-0 c.in-Part.high c.in-Part.low) (told_first c.in_err-high-in-Part.field-0.0 (opened.needed lookup vars c.in-Part.high) (λ m. opened.needed lookup vars c.in-Part.low >>= λ l. Ok (taking.DownTo m l)) (rw (c.get-in-Part.ensures) at c.in_err-high-in-Part.ensures.built)) }

pub positions-returns-in_err-low-in-Part : goal.positions-returns-in_err-low-in-Part
positions-returns-in_err-low-in-Part t c =
    let lookup = bound_of c.args.scope.now.names in
    let vars = c.args.scope.now.vars in
    let e = err_from_is_err_and c.from_residual-in_err-low-in-Part.result c.from_residual-in_err-low-in-Part.ensures.1 in
    record {
      built = rw (e.1, e.2, c.in-Part.is, opened.taking_part lookup vars c.in-Part.field-0 c.in-Part.high c.in-Part.low) (told_behind c.in_ok-high-in-Part.high (opened.needed lookup vars c.in-Part.high) (λ m. opened.needed lookup vars c.in-Part.low >>= λ l. Ok (taking.DownTo m l)) (Err c.in_err-low-in-Part.field-0.0) (rw (c.get-in-Part.ensures) at c.in_ok-high-in-Part.ensures.built)
          (told_first c.in_err-low-in-Part.field-0.0 (opened.needed lookup vars c.in-Part.low) (λ l. Ok (taking.DownTo c.in_ok-high-in-Part.high l)) (rw (c.get-in-Part-2.ensures) at c.in_err-low-in-Part.ensures.built)));
    }

pub positions-returns-in_ok-low-in-Part : goal.positions-returns-in_ok-low-in-Part
positions-returns-in_ok-low-in-Part t c =
    let lookup = bound_of c.args.scope.now.names in
    let vars = c.args.scope.now.vars in
    record {
      built = rw (c.in-Part.is, opened.taking_part lookup vars c.in-Part.field-0 c.in-Part.high c.in-Part.low) (told_behind c.in_ok-high-in-Part.high (opened.needed lookup vars c.in-Part.high) (λ m. opened.needed lookup vars c.in-Part.low >>= λ l. Ok (taking.DownTo m l)) (Ok (taking.DownTo c.in_ok-high-in-Part.high c.in_ok-low-in-Part.low)) (rw (c.get-in-Part.ensures) at c.in_ok-high-in-Part.ensures.built)
          (told_behind c.in_ok-low-in-Part.low (opened.needed lookup vars c.in-Part.low) (λ l. Ok (taking.DownTo c.in_ok-high-in-Part.high l)) (Ok (taking.DownTo c.in_ok-high-in-Part.high c.in_ok-low-in-Part.low)) (rw (c.get-in-Part-2.ensures) at c.in_ok-low-in-Part.ensures.built)
          (refl)));
    }

pub positions-returns-in_err-at-in-Up : goal.positions-returns-in_err-at-in-Up
positions-returns-in_err-at-in-Up t c =
    let lookup = bound_of c.args.scope.now.names in
    let vars = c.args.scope.now.vars in
    let e = err_from_is_err_and c.from_residual-in_err-at-in-Up.result c.from_residual-in_err-at-in-Up.ensures.1 in
    record { built = rw (e.1, e.2, c.in-Up.is, opened.taking_up lookup vars c.in-Up.field-0 c.in-Up.at c.in-Up.width) (told_first c.in_err-at-in-Up.field-0.0 (measured_of lookup vars c.in-Up.at) (λ p. opened.needed lookup vars c.in-Up.width >>= λ w. Ok (taking.UpFrom p w)) (rw (c.get-in-Up.ensures) at c.in_err-at-in-Up.ensures.built)) }

pub positions-returns-in_err-width-in-Up : goal.positions-returns-in_err-width-in-Up
positions-returns-in_err-width-in-Up t c =
    let lookup = bound_of c.args.scope.now.names in
    let vars = c.args.scope.now.vars in
    let e = err_from_is_err_and c.from_residual-in_err-width-in-Up.result c.from_residual-in_err-width-in-Up.ensures.1 in
    record {
      built = rw (e.1, e.2, c.in-Up.is, opened.taking_up lookup vars c.in-Up.field-0 c.in-Up.at c.in-Up.width) (told_behind c.in_ok-at-in-Up.at (measured_of lookup vars c.in-Up.at) (λ p. opened.needed lookup vars c.in-Up.width >>= λ w. Ok (taking.UpFrom p w)) (Err c.in_err-width-in-Up.field-0.0) (rw (c.get-in-Up.ensures) at c.in_ok-at-in-Up.ensures.built)
          (told_first c.in_err-width-in-Up.field-0.0 (opened.needed lookup vars c.in-Up.width) (λ w. Ok (taking.UpFrom c.in_ok-at-in-Up.at w)) (rw (c.get-in-Up-2.ensures) at c.in_err-width-in-Up.ensures.built)));
    }

pub positions-returns-in_ok-width-in-Up : goal.positions-returns-in_ok-width-in-Up
positions-returns-in_ok-width-in-Up t c =
    let lookup = bound_of c.args.scope.now.names in
    let vars = c.args.scope.now.vars in
    record {
      built = rw (c.in-Up.is, opened.taking_up lookup vars c.in-Up.field-0 c.in-Up.at c.in-Up.width) (told_behind c.in_ok-at-in-Up.at (measured_of lookup vars c.in-Up.at) (λ p. opened.needed lookup vars c.in-Up.width >>= λ w. Ok (taking.UpFrom p w)) (Ok (taking.UpFrom c.in_ok-at-in-Up.at c.in_ok-width-in-Up.width)) (rw (c.get-in-Up.ensures) at c.in_ok-at-in-Up.ensures.built)
          (told_behind c.in_ok-width-in-Up.width (opened.needed lookup vars c.in-Up.width) (λ w. Ok (taking.UpFrom c.in_ok-at-in-Up.at w)) (Ok (taking.UpFrom c.in_ok-at-in-Up.at c.in_ok-width-in-Up.width)) (rw (c.get-in-Up-2.ensures) at c.in_ok-width-in-Up.ensures.built)
          (refl)));
    }

pub positions-returns-in_err-at-in-Down : goal.positions-returns-in_err-at-in-Down
positions-returns-in_err-at-in-Down t c =
    let lookup = bound_of c.args.scope.now.names in
    let vars = c.args.scope.now.vars in
    let e = err_from_is_err_and c.from_residual-in_err-at-in-Down.result c.from_residual-in_err-at-in-Down.ensures.1 in
    record { built = rw (e.1, e.2, c.in-Down.is, opened.taking_down lookup vars c.in-Down.field-0 c.in-Down.at c.in-Down.width) (told_first c.in_err-at-in-Down.field-0.0 (measured_of lookup vars c.in-Down.at) (λ p. opened.needed lookup vars c.in-Down.width >>= λ w. Ok (taking.DownFrom p w)) (rw (c.get-in-Down.ensures) at c.in_err-at-in-Down.ensures.built)) }

pub positions-returns-in_err-width-in-Down : goal.positions-returns-in_err-width-in-Down
positions-returns-in_err-width-in-Down t c =
    let lookup = bound_of c.args.scope.now.names in
    let vars = c.args.scope.now.vars in
    let e = err_from_is_err_and c.from_residual-in_err-width-in-Down.result c.from_residual-in_err-width-in-Down.ensures.1 in
    record {
      built = rw (e.1, e.2, c.in-Down.is, opened.taking_down lookup vars c.in-Down.field-0 c.in-Down.at c.in-Down.width) (told_behind c.in_ok-at-in-Down.at (measured_of lookup vars c.in-Down.at) (λ p. opened.needed lookup vars c.in-Down.width >>= λ w. Ok (taking.DownFrom p w)) (Err c.in_err-width-in-Down.field-0.0) (rw (c.get-in-Down.ensures) at c.in_ok-at-in-Down.ensures.built)
          (told_first c.in_err-width-in-Down.field-0.0 (opened.needed lookup vars c.in-Down.width) (λ w. Ok (taking.DownFrom c.in_ok-at-in-Down.at w)) (rw (c.get-in-Down-2.ensures) at c.in_err-width-in-Down.ensures.built)));
    }

pub positions-returns-in_ok-width-in-Down : goal.positions-returns-in_ok-width-in-Down
positions-returns-in_ok-width-in-Down t c =
    let lookup = bound_of c.args.scope.now.names in
    let vars = c.args.scope.now.vars in
    record {
      built = rw (c.in-Down.is, opened.taking_down lookup vars c.in-Down.field-0 c.in-Down.at c.in-Down.width) (told_behind c.in_ok-at-in-Down.at (measured_of lookup vars c.in-Down.at) (λ p. opened.needed lookup vars c.in-Down.width >>= λ w. Ok (taking.DownFrom p w)) (Ok (taking.DownFrom c.in_ok-at-in-Down.at c.in_ok-width-in-Down.width)) (rw (c.get-in-Down.ensures) at c.in_ok-at-in-Down.ensures.built)
          (told_behind c.in_ok-width-in-Down.width (opened.needed lookup vars c.in-Down.width) (λ w. Ok (taking.DownFrom c.in_ok-at-in-Down.at w)) (Ok (taking.DownFrom c.in_ok-at-in-Down.at c.in_ok-width-in-Down.width)) (rw (c.get-in-Down-2.ensures) at c.in_ok-width-in-Down.ensures.built)
          (refl)));
    }

pub read-returns-in-len1 : goal.read-returns-in-len1
read-returns-in-len1 t c =
    let lookup = bound_of c.args.scope.now.names in
    let vars = c.args.scope.now.vars in
    let f = built_select_of lookup vars in
    record { built = rw (opened.one_select vars c.args.name.now c.args.bound f c.args.selects.now c.only-item.result c.in-len1.len_at_least c.in-len1.len_below c.only-item.is) c.select.ensures.built }

pub read-returns-in_err-positions-in-len2-up : goal.read-returns-in_err-positions-in-len2-up
read-returns-in_err-positions-in-len2-up t c =
    let lookup = bound_of c.args.scope.now.names in
    let vars = c.args.scope.now.vars in
    let f = built_select_of lookup vars in
    let e = err_from_is_err_and c.from_residual.result c.from_residual.ensures.1 in
    record {
      built = rw (e.1, e.2, opened.two_selects vars c.args.name.now c.args.bound f c.args.selects.now c.first-item.result c.second-item.result c.in-len2-up.len_at_least c.first-item.is c.second-item.is)
          (told_first c.in_err-positions-in-len2-up.field-0.0 (f c.first-item.result).taking (λ _. (f c.second-item.result).taking >>= λ _. Err (expressions.second_select (f c.second-item.result).select.place)) c.in_err-positions-in-len2-up.ensures.built);
    }

pub read-returns-in_err-positions-in-len2-up-2 : goal.read-returns-in_err-positions-in-len2-up-2
read-returns-in_err-positions-in-len2-up-2 t c =
    let lookup = bound_of c.args.scope.now.names in
    let vars = c.args.scope.now.vars in
    let f = built_select_of lookup vars in
    let e = err_from_is_err_and c.from_residual-in_err-positions-in-len2-up-2.result c.from_residual-in_err-positions-in-len2-up-2.ensures.1 in
    record {
      built = rw (e.1, e.2, opened.two_selects vars c.args.name.now c.args.bound f c.args.selects.now c.first-item.result c.second-item.result c.in-len2-up.len_at_least c.first-item.is c.second-item.is)
          (told_behind c.in_ok-positions-in-len2-up.field-0 (f c.first-item.result).taking (λ _. (f c.second-item.result).taking >>= λ _. Err (expressions.second_select (f c.second-item.result).select.place)) (Err c.in_err-positions-in-len2-up-2.field-0.0) c.in_ok-positions-in-len2-up.ensures.built
          (told_first c.in_err-positions-in-len2-up-2.field-0.0 (f c.second-item.result).taking (λ _. Err (expressions.second_select (f c.second-item.result).select.place)) c.in_err-positions-in-len2-up-2.ensures.built));
    }

pub read-returns-in_ok-second_select-in-len2-up : goal.read-returns-in_ok-second_select-in-len2-up
read-returns-in_ok-second_select-in-len2-up t c =
    let lookup = bound_of c.args.scope.now.names in
    let vars = c.args.scope.now.vars in
    let f = built_select_of lookup vars in
    let fault = c.in_ok-second_select-in-len2-up.field-0 in
    let told = c.in_ok-second_select-in-len2-up.ensures ∙ ap (λ place. Refused (expressions.second_select place)) (opened.second_place lookup vars c.second-item.result c.place_of.result (c.place_of.ensures (constants_of lookup))) in
    record {
      built = rw (opened.two_selects vars c.args.name.now c.args.bound f c.args.selects.now c.first-item.result c.second-item.result c.in-len2-up.len_at_least c.first-item.is c.second-item.is)
          (told_behind c.in_ok-positions-in-len2-up.field-0 (f c.first-item.result).taking (λ _. (f c.second-item.result).taking >>= λ _. Err (expressions.second_select (f c.second-item.result).select.place)) (Err fault) c.in_ok-positions-in-len2-up.ensures.built
          (told_behind c.in_ok-positions-in-len2-up-2.field-0 (f c.second-item.result).taking (λ _. Err (expressions.second_select (f c.second-item.result).select.place)) (Err fault) c.in_ok-positions-in-len2-up-2.ensures.built (rw told refl)));
    }
