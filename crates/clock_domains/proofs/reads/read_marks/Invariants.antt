use Rattle.std.proofs.Common.{◌≡◌, drop}
use Rattle.net_ir.specs.Marks.{mark_all}
use Rattle.clock_domains.specs.Each.{of_each}
use Rattle.clock_domains.specs.Reads.{reads_in}
use Rattle.clock_domains.specs.code.Walking.{driver_refusals}
use Rattle.clock_domains.proofs.reads.read_marks.Given as goal

-- what is refused of the rest is all that is refused, and the rest of the marks gives all of them
abbrev pub invariant-loop-driver : goal.invariant-loop-driver
invariant-loop-driver l = record {
  refused : of_each (driver_refusals l.vars l.clocks) (drop l.driver-index l.drivers) l.faces ≡ of_each (driver_refusals l.vars l.clocks) l.drivers l.children;
  marks : mark_all (of_each reads_in (drop l.driver-index l.drivers) l.faces) l.marks.items ≡ mark_all (of_each reads_in l.drivers l.children)
      l.initial.marks.items;
}
