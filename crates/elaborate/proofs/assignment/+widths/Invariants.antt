use Rattle.std.proofs.Common.{◌≡◌, ◌+◌, ◌-◌, ◌^◌, ◌≤◌, drop}
use Rattle.std.specs.Prelude.{min}
use Rattle.elaborate.specs.code.Selecting.{parts_width}
use Rattle.elaborate.proofs.assignment.+widths.Given as goal

-- the bits that were counted and those that are left are all, as far as a size of memory can say it
abbrev pub invariant-list_width-loop-part : goal.invariant-list_width-loop-part
invariant-list_width-loop-part l = record {
  fits : l.width ≤ 2 ^ 64 - 1;
  all : min (l.width + parts_width l.vars (drop l.part-index l.parts)) (2 ^ 64 - 1) ≡ min (parts_width l.vars l.parts) (2 ^ 64 - 1);
}
