use Rattle.std.proofs.Common.{◌≡◌, ◌≤◌, drop, map}
use Rattle.bit_ops.specs.declared.value.TheConstants.{MAX_WIDTH}
use Rattle.bit_ops.specs.Lists.{words, widths}
use Rattle.net_ir.specs.Target.{overlaid, concatenated, lvalue, writes_to}
use Rattle.net_values.proofs.Stores.{width_of_all}
use Rattle.net_values.proofs.target.+store_word.Given as goal

abbrev pub decreases-store_word : goal.decreases-store_word
decreases-store_word l = goal.size-store_word l

-- the rest of the parts leaves what all of them leave
abbrev pub invariant-loop-part : goal.invariant-loop-part
invariant-loop-part l = record {
  behind : l.rest ≡ width_of_all l.vars (drop l.part-index l.part-items);
  narrow : l.rest ≤ MAX_WIDTH;
  same_widths : widths l.values ≡ widths l.fn.values;
  so_far : overlaid (words l.values) ((concatenated (map (lvalue l.vars (words l.seen)) (drop l.part-index l.part-items))).writes l.word)
      ≡ overlaid (words l.fn.values) (writes_to l.vars (words l.seen) l.target l.word);
}
