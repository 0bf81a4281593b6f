use Rattle.std.proofs.Common.{◌≡◌, ℕ, ◌<◌, get_or, map}
use Rattle.code_isa.specs.declared.machine.Kid.{Kid}
use Rattle.code_isa.specs.Faces.{input_widths}
use Rattle.code_check.proofs.widths.are_ins_wide.Given as goal

abbrev pub invariant-loop-kid : goal.invariant-loop-kid
invariant-loop-kid l = (k : ℕ) (d : Kid) → k < l.kid-index →
    map (λ slot. get_or l.widths slot 0) (get_or l.kids k d).ins ≡ input_widths (get_or l.kids k d).face
