use Rattle.std.proofs.Common.{◌≡◌, ◌≤◌, ◌+◌, ◌++◌, ◌∷◌, [], length, ap, ◌∙◌, arith}
use Rattle.std.proofs.Common.{length-append}
use Rattle.std.proofs.lemmas.Fmt.{length-decimal-le}
use Rattle.std.specs.Fmt.{decimal}
use Rattle.trace_writer.specs.Room.{values_text, value_room, value_text}
use Rattle.trace_writer.proofs.TraceText.{length-value_text, room_more, value_more, all_values, values_are_cells}
use Rattle.trace_writer.proofs.trace.line.Goals as goal

pub push_number-requires : goal.push_number-requires
push_number-requires c = omega (arith, length-decimal-le 20 c.args.number (omega arith) (omega arith) (omega arith), c.clear.ensures.len, c.clear.ensures.capacity)

pub loop-value-init : goal.loop-value-init
loop-value-init c =
    let digits : length (decimal c.args.number) ≤ 20 = length-decimal-le 20 c.args.number (omega arith) (omega arith) (omega arith) in
    let text : c.push_number.new.into.items ≡ decimal c.args.number = c.push_number.ensures.text ∙ ap (λ xs. xs ++ decimal c.args.number) c.clear.ensures.items in
    let count : length c.push_number.new.into.items ≡ length (decimal c.args.number) = ap length text in
    record {
      text = ap (λ xs. xs ++ values_text c.args.values.now) text;
      left = omega (arith, c.push_number.new.into.ok.0, c.clear.ensures.capacity, c.push_number.ensures.room);
      room = c.push_number.ensures.room ∙ c.clear.ensures.capacity;
    }

pub loop-value-preserved : goal.loop-value-preserved
loop-value-preserved c =
    let values = c.args.values.now in
    let i = c.loop-value.value-index in
    let value = c.value-item.result in
    let wrote : length c.push_value.new.into.items ≡ length c.loop-value.into.items + value_room value.width =
    ap length c.push_value.ensures.text ∙ length-append c.loop-value.into.items (value_text value) ∙ ap (λ k. length c.loop-value.into.items + k) (length-value_text value) in
    record {
      text = value_more values i value c.loop-value.into.items c.push_value.new.into.items _ c.loop-value-test.true c.value-item.is c.push_value.ensures.text c.loop-value.invariant.text;
      left = omega (arith, room_more values i value c.loop-value-test.true c.value-item.is, c.push_value.new.into.ok.0, c.loop-value.into.ok.0, c.push_value.ensures.room, c.loop-value.invariant.left);
      room = c.push_value.ensures.room ∙ c.loop-value.invariant.room;
    }

pub returns-clause-text : goal.returns-clause-text
returns-clause-text c ports same =
    all_values c.args.values.now c.loop-value.value-index c.loop-value.into.items (decimal c.args.number) c.push_reserved.new.self.items c.loop-value-test.false c.push_reserved.ensures.items c.loop-value.invariant.text
    ∙ ap (λ xs. decimal c.args.number ++ xs ++ 10 ∷ []) (values_are_cells c.args.values.now ports same)
